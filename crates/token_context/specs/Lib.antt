pub mod Brackets
pub mod NameSurroundings
pub mod Readings
pub mod SideBySide
