pub mod Examples
pub mod Flat
pub mod Seeing
