pub mod HintLaws
pub mod Judged
pub mod Kept
pub mod Laws
pub mod Ways
