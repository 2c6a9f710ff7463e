-- A book takes what is sound where each of its boxes does.
use Rattle.std.proofs.Common.{◌≡◌, ℕ, Bool, true, false, cond, List, [], ◌∷◌, nat_eq}
use Rattle.std.specs.Prelude.{Some}
use Rattle.ir_types.specs.Same.{same_list}
use Rattle.ir_values.specs.Constants.{Scope}
use Rattle.erhl_assert.specs.declared.facts.Schema.{Schema}
use Rattle.erhl_assert.specs.Facts.{IsSound}
use Rattle.erhl_assert.specs.Steps.{AreSound, rule_named, rule_takes}
use Rattle.rule_base.specs.Book.{meanings_of}

module _ {B : Type 0} (called : B → List ℕ) (takes : B → Scope → Schema → Bool) (law : (b : B) (scope : Scope) (schema : Schema) → takes b scope schema ≡ true → IsSound scope schema) where
  pub sound_along : (boxes : List B) → AreSound (meanings_of called takes boxes)
  sound_along [] name scope schema h = cc
  sound_along (b ∷ bs) name scope schema h = (elim (same_list nat_eq (called b) name) as (λ (t : Bool).
      rule_takes (cond t (Some (record { name = called b; takes = takes b })) (rule_named (meanings_of called takes bs) name)) scope schema ≡ true → IsSound scope schema)
      [ true ↦ law b scope schema | false ↦ sound_along bs name scope schema ]) h
