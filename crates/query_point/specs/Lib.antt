pub mod Rules
pub mod StemLeaves
pub mod StemWay
