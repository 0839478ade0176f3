pub mod Handing
pub mod Parts
pub mod PrintLaws
pub mod Printing
