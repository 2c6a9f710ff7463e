pub mod Entries
pub mod Places
pub mod Pointers
pub mod Taken
pub mod Types
