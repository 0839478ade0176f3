pub mod BodyLaws
pub mod DenseRowLaws
