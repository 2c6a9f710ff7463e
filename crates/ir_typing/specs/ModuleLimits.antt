pub mod Passed
pub mod Lines
pub mod Within
pub mod Small
pub mod Laws
