use Rattle.std.proofs.Common.{refl}
use Rattle.ir_types.specs.declared.names.Name.TheVariants.{Number}
use Rattle.fact_sets.specs.Examples.{three_is_seven}
use Rattle.fact_sets.proofs.laws.examples_of_near_facts.Goals as goal

pub returns : goal.returns
unfolding Rattle.fact_sets.specs.Near.AreNear
returns c = record {
  left = refl;
  right = refl;
  other = refl;
  kept_left = λ near are. are (Number 3) three_is_seven refl refl;
  kept_right = λ near are. are (Number 7) three_is_seven refl refl;
}
