mod Advancing
mod Framing
mod Holding
mod Loose
mod Moving
mod Splitting
mod Stacks
mod Zeros
pub mod ByTest
pub mod Faults
pub mod Filling
pub mod Follows
pub mod GapJoint
pub mod GapListing
pub mod GapSound
pub mod Happening
pub mod Joint
pub mod Keeping
pub mod Laid
pub mod Listing
pub mod Loads
pub mod Makes
pub mod Sound
