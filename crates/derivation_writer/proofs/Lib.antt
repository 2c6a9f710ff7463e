mod Derived
mod Kept
mod Starts
mod Steps
pub mod Examples
pub mod Limits
pub mod Meant
pub mod ReadMarks
pub mod TokenLimits
