pub mod Globals
pub mod Printed
pub mod Told
pub mod Called
pub mod Examples
pub mod MemoryExamples
pub mod GlobalExamples
pub mod ExpressionPrinter
