pub mod Defining
