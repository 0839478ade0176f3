pub mod LeafKeys
pub mod SeekContracts
pub mod Sought
pub mod WayContracts
