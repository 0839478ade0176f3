pub mod Counted
pub mod LeafValues
pub mod LocateLaws
pub mod Located
pub mod Places
pub mod Stands
pub mod SuffixNumber
