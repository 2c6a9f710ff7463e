pub mod JudgedTexts
pub mod Laws
pub mod NamedModuleLaws
pub mod SpelledLimits
pub mod Texts
