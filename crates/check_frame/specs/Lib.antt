pub mod Found
pub mod FrameLaws
