pub mod Filling
pub mod Ranks
pub mod Reading
pub mod Samples
pub mod TableEntries
pub mod Tables
