pub mod Agreeing
pub mod Asked
pub mod Empty
pub mod Progress
