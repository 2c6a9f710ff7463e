pub mod LineFacts
pub mod AllowedLines
pub mod BlockPhis
pub mod EdgeCrossing
