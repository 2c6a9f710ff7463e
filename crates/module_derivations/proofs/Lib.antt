mod SaidAsKinds
pub mod Derivations
pub mod Examples
pub mod FlatMarks
pub mod Named
pub mod ParserTables
pub mod Seen
