pub mod Selects
pub mod Rows
pub mod Openings
pub mod Decision
pub mod Examples
