pub mod ApartLaws
pub mod SideLaws
