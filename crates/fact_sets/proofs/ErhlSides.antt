pub mod Adding
pub mod Joining
pub mod Once
pub mod Telling
pub mod Walked
pub mod Walks
