pub mod Agreements
pub mod Progressing
