pub mod Numbers
pub mod Uncounted
