pub mod NextLaws
pub mod SeekLaws
