pub mod Conditions
pub mod Meaning
pub mod Table
pub mod Wrong
