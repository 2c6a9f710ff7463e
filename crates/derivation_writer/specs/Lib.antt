pub mod Examples
pub mod Meant
pub mod ReadMarks
pub mod TokenLimits
pub mod Unmarked
pub mod Watching
pub mod Writing
