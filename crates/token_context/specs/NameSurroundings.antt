pub mod Between
pub mod Held
pub mod Told
