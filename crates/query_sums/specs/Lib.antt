pub mod Bounds
pub mod Chains
pub mod LevelTable
pub mod Levels
