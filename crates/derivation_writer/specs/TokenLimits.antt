pub mod Laws
pub mod Nested
pub mod Roles
pub mod Watched
