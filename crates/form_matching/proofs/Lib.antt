pub mod OneType
pub mod Literals
pub mod Lifting
pub mod Exact
pub mod ReadingBack
pub mod Examples
