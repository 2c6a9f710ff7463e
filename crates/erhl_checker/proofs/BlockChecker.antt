pub mod Labelled
pub mod Noting
pub mod Plain
