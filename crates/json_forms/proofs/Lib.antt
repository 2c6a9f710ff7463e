pub mod Counts
mod Keys
pub mod Readings
pub mod JsonValues
