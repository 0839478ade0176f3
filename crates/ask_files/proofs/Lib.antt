pub mod AnswerLaws
pub mod JudgeLaws
pub mod OverlaidLaws
pub mod ReadLaws
