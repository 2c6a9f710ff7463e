pub mod Definitions
pub mod Decided
pub mod Shown
pub mod Marks
pub mod MarkLaws
pub mod Solved
pub mod Laws
pub mod Examples
