pub mod Around
pub mod Blocks
pub mod Context
pub mod Faults
pub mod Laws
pub mod Opened
pub mod Spells
pub mod TokenLaws
