pub mod BranchTests
pub mod EdgeLaws
