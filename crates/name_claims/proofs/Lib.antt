pub mod Found
pub mod First
