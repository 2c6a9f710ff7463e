pub mod Operands
pub mod Depths
pub mod Blocks
