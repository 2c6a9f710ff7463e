pub mod Fitted
pub mod OverIntegers
pub mod Sighted
pub mod Wholly
