pub mod Room
pub mod Table
pub mod Examples
