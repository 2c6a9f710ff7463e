-- Names that a test finds new are new.
use Rattle.std.proofs.Common.{◌≡◌, Bool, true, false, ◌&&◌, List, [], ◌∷◌, ◌++◌, refl}
use Rattle.std.specs.Prelude.{not}
use Rattle.ir_core.specs.Order.{AreNew}
use Rattle.ir_types.specs.NameLaws.{left_true, right_true}
use Rattle.ir_types.specs.declared.names.Name.{Name}
use Rattle.ir_core.proofs.NameIndexes.Among.{not_there}
use Rattle.ir_core.specs.NameIndexes.Among.{is_among}

abbrev pub all_new : List Name → List Name → Bool
all_new taken [] = true
all_new taken (x ∷ xs) = not (is_among x taken) && all_new (taken ++ x ∷ []) xs

is_not : (b : Bool) → not b ≡ true → b ≡ false
is_not true e = cc
is_not false e = refl

pub are_new : (taken names : List Name) → all_new taken names ≡ true → AreNew taken names
are_new taken [] e = tt
are_new taken (x ∷ xs) e = (
  not_there x taken (is_not (is_among x taken) (left_true (not (is_among x taken)) (all_new (taken ++ x ∷ []) xs) e)),
  are_new (taken ++ x ∷ []) xs (right_true (not (is_among x taken)) (all_new (taken ++ x ∷ []) xs) e),
)
