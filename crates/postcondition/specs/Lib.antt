pub mod BlockPhis
pub mod EdgeCrossing
pub mod LineCourses
