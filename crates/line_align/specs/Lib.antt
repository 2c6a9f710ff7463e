pub mod Cursor
pub mod Grouped
pub mod Lent
pub mod Places
pub mod Placed
