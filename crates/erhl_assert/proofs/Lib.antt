pub mod Courses
pub mod Edges
pub mod Judging
pub mod SameFact
pub mod SameGlobals
