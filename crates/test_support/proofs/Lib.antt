pub mod RowTable
