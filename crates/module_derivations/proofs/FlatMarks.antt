pub mod Making
pub mod Examples
pub mod Meaning
pub mod Passing
pub mod Running
