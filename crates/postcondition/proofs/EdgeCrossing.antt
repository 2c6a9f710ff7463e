pub mod Copying
pub mod Crossing
pub mod Differing
pub mod Staying
pub mod Sharing
