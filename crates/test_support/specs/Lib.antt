pub mod Analyses
pub mod RowTable
