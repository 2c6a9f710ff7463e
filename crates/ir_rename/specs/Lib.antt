pub mod Renamed
pub mod Numbered
pub mod Named
pub mod Laws
pub mod Examples
pub mod Lent
