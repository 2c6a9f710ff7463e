use Rattle.std.proofs.Common.{[], ◌∷◌, refl}
use Rattle.ir_types.specs.declared.names.Name.TheVariants.{Number}
use Rattle.ir_core.specs.Examples.{x}
use Rattle.ir_rename.specs.Examples.{adding_to, of, taking, v}
use Rattle.ir_rename.proofs.Hands.{by_hand}
use Rattle.ir_rename.proofs.laws.examples_of_names.Goals as goal

pub returns : goal.returns
returns c = record {
  none_taken = refl;
  one_taken = refl;
  three_taken = refl;
  dotted_taken = refl;
  all_unnamed = by_hand (of (adding_to (Number 0) (Number 1) (Number 2) ∷ []));
  out_of_order = by_hand (of (adding_to (Number 7) x (Number 5) ∷ []));
  taken = by_hand (of (adding_to (Number 0) (v 0) (Number 2) ∷ []));
  elsewhere = by_hand (of (taking (v 0) (Number 0 ∷ []) [] ∷ taking (Number 0) (v 0 ∷ Number 1 ∷ []) [] ∷ []));
}
