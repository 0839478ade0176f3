pub mod HashLaws
pub mod ProductLaws
