pub mod Members
pub mod Turns
