pub mod Undefined
pub mod Along
pub mod Graph
pub mod Flow
pub mod Settled
pub mod Laws
pub mod DefinitionLists
