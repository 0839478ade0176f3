pub mod Filling
pub mod Opening
pub mod Records
pub mod StateLaws
pub mod Walks
