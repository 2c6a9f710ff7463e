pub mod Table
pub mod Examples
pub mod Blockless
pub mod Known
pub mod OneMade
