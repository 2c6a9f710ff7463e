pub mod Alike
pub mod HintLists
pub mod Reached
pub mod FunctionLookup
pub mod CheckedPair
pub mod BlockChecker
