mod ByNumber
pub mod Agrees
pub mod Classes
pub mod Cuts
pub mod Escapes
pub mod Fronts
pub mod MoreDigits
pub mod Order
pub mod Outlines
pub mod Ranges
pub mod Those
pub mod Values
