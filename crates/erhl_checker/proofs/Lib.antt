pub mod AtOnce
pub mod Differing
pub mod Numbering
pub mod Reaching
pub mod FunctionLookup
pub mod CheckedPair
pub mod HintSteps
pub mod BlockChecker
