pub mod PhiLaws
