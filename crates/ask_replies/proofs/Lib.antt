pub mod SoughtLaws
