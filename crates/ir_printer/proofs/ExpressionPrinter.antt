pub mod TypeTexts
pub mod ConstantTexts
pub mod AsciiTexts
pub mod WrittenConstants
pub mod Powers
pub mod WrittenTypes
pub mod Digits
