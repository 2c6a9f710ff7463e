pub mod Kinds
pub mod Edges
pub mod Typed
pub mod Counted
