pub mod Agreeing
pub mod Atoms
pub mod Divisors
pub mod Leading
pub mod Trapping
