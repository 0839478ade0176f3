pub mod BehindLaws
pub mod NextBranchLaws
