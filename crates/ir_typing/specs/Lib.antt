pub mod ShapeKinds
pub mod OperandTests
pub mod ModuleLimits
pub mod OperandLaws
