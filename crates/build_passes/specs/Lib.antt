pub mod CountedKeys
pub mod CounterSums
pub mod FlippedBits
pub mod LevelSums
pub mod ListPass
