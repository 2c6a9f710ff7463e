mod ByNumber
pub mod Classes
pub mod Contexts
pub mod Held
pub mod Lineless
pub mod NameSurroundings
pub mod Readings
pub mod Runs
pub mod Seen
pub mod SideBySide
pub mod Slices
pub mod Steps
pub mod Watched
