pub mod Among
pub mod Places
