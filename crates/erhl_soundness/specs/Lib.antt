pub mod Examples
pub mod FlowExamples
pub mod FlowLaws
pub mod Laws
pub mod MemoryExamples
pub mod MemoryLaws
pub mod TwoSides
