pub mod HintFiles
pub mod Runs
