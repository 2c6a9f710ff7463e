pub mod LeastKinds
pub mod Scopes
pub mod Untold
pub mod AtOnce
pub mod Assumed
