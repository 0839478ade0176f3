pub mod CountLaws
pub mod NarrowLaws
pub mod SelectLaws
pub mod TableLaws
pub mod WordLaws
