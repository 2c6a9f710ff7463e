pub mod Rows
pub mod OperandLaws
pub mod GlobalLaws
pub mod AddressLaws
pub mod AliasLaws
pub mod AccessLaws
pub mod RowLaws
pub mod Examples
