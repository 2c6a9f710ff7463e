pub mod Placed
pub mod Settles
pub mod Edged
pub mod Finely
