pub mod Blocks
pub mod Context
pub mod Laws
