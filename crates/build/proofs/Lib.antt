pub mod ImageLaws
pub mod JudgeLaws
