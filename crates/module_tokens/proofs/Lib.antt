mod ByNumber
pub mod Debug
pub mod Slots
