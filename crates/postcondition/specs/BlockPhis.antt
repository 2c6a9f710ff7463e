pub mod Phis
