pub mod Modulo
pub mod Combining
pub mod Arith
pub mod CastCmp
pub mod Simple
pub mod Comparing
pub mod Counterexamples
