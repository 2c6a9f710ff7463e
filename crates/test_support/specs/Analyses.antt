pub mod Reached
pub mod Small
pub mod SmallLaws
pub mod Signs
pub mod SignLaws
pub mod Marks
pub mod MarkLaws
