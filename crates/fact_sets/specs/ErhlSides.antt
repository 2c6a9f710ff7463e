pub mod Beside
pub mod Differing
pub mod Joining
pub mod Looking
