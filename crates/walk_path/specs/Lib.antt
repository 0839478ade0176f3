pub mod DownLaws
pub mod Entries
pub mod EntryLaws
pub mod LevelLaws
pub mod Levels
pub mod PathLaws
