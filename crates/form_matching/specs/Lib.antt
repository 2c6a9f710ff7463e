pub mod Typed
pub mod Exactness
pub mod Examples
pub mod Instances
pub mod Lent
