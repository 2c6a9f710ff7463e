pub mod Cut
pub mod Solution
pub mod Placing
pub mod Listing
pub mod Unique
