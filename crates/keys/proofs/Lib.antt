pub mod OrderLaws
pub mod PrefixLaws
