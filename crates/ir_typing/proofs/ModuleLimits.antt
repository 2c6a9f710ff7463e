pub mod Tests
pub mod Short
pub mod Within
pub mod Small
pub mod Decided
pub mod Clear
pub mod Firsts
