-- The test of two facts is true exactly of equal ones.
pub use Rattle.erhl_assert.specs.FactLaws.{same_fact_true, same_fact_refl}
