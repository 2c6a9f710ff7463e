-- What is written down of a text means the one tree that the text is written of.
use Rattle.std.proofs.Common.{ℕ, sym, subst}
use Rattle.derivation_writer.specs.Meant.{AreMeant, NumbersMean}
use Rattle.module_derivations.proofs.Derivations.{derivations_mean}
use Rattle.module_derivations.specs.Derivations as trees
use Rattle.module_derivations.specs.Derivations.{Means}
use Rattle.module_grammar.specs.Sorts.{Sort}

by_trees : (n : ℕ) (x : Sort) → trees.AreMeant n x → AreMeant n x
by_trees n x mean symbols numbers derived =
    subst (λ ms. Means x symbols ms) (sym derived.4) (mean derived.0 symbols derived.1 derived.2)

pub numbers_mean : NumbersMean
numbers_mean = record {
  modules = by_trees _ _ derivations_mean.modules;
  types = by_trees _ _ derivations_mean.types;
  expressions = by_trees _ _ derivations_mean.expressions;
  locals = by_trees _ _ derivations_mean.locals;
  globals = by_trees _ _ derivations_mean.globals;
  called = by_trees _ _ derivations_mean.called;
  declared = by_trees _ _ derivations_mean.declared;
}
