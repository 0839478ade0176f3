pub mod DensePositions
pub mod FlagLaws
pub mod LaneLaws
pub mod WordEntries
