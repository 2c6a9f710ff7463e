pub mod Examples
pub mod Names
pub mod Places
pub mod Near
pub mod ErhlSides
pub mod AddedFacts
pub mod Shields
