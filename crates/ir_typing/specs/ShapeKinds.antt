pub mod Kinds
pub mod Names
pub mod Typed
pub mod Kept
pub mod Hashed
pub mod Held
pub mod Marks
