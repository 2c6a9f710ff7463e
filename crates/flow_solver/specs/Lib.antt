pub mod Rows
pub mod Ways
pub mod Near
pub mod Searched
pub mod Dominated
pub mod Frameworks
pub mod Solving
pub mod Examples
