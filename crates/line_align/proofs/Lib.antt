pub mod Alignments
pub mod Grouping
pub mod Keeping
pub mod Lending
