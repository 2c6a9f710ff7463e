pub mod Faults
pub mod Found
pub mod Laws
pub mod Naming
pub mod Read
pub mod Told
