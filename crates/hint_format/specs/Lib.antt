pub mod Faults
pub mod Form
pub mod Laws
pub mod Reading
pub mod Settled
