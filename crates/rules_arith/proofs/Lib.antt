pub mod Instances
pub mod WholeTable
