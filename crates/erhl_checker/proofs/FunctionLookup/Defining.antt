-- A register's definitions, found by its name.
use Rattle.std.proofs.Common.{◌≡◌, ◌&&◌, ◌||◌, true, false, cond, List, [], ◌∷◌, filter, Option, None, Some, refl, sym, ap, subst}
use Rattle.std.specs.Prelude.{IfSome}
use Rattle.std.specs.List.{list_any}
use Rattle.std.specs.Option.{option_map}
use Rattle.ir_types.specs.declared.names.Name.{Name}
use Rattle.ir_types.specs.declared.ty.Ty.{Ty}
use Rattle.ir_core.specs.Expressions.{Expr0}
use Rattle.ir_types.specs.Same.{same_name}
use Rattle.erhl_assert.specs.Steps.{is_other}
use Rattle.erhl_checker.specs.FunctionLookup.Defining.{is_other_kind, some_other_kind}

pub found_among : (x : Name) (e : Expr0) (ds : List (Name × Ty))
    → some_other_kind e (filter (λ d. same_name d.0 x) ds) ≡ list_any (is_other x e) ds
found_among x e [] = refl
found_among x e (d ∷ ds) =
    elim (same_name d.0 x) as (λ b.
    some_other_kind e (cond b (d ∷ filter (λ (d : Name × Ty). same_name d.0 x) ds) (filter (λ (d : Name × Ty). same_name d.0 x) ds))
    ≡ ((b && is_other_kind e d) || list_any (is_other x e) ds)) [
      | true ↦ ap (λ b. is_other_kind e d || b) (found_among x e ds)
      | false ↦ found_among x e ds
    ]

-- definitions that are found by their names are those that are kept
pub defined_same : {V : Type 0} (items : V → List (Name × Ty)) (kept : Option V) (found : Option (List (Name × Ty))) (wanted : List (Name × Ty)) → found ≡ option_map items kept
    → IfSome kept (λ all. items all ≡ wanted) → IfSome found (λ ds. ds ≡ wanted)
defined_same items None found wanted e h = subst (λ (o : Option (List (Name × Ty))). IfSome o (λ ds. ds ≡ wanted)) (sym e) h
defined_same items (Some all) found wanted e h = subst (λ (o : Option (List (Name × Ty))). IfSome o (λ ds. ds ≡ wanted)) (sym e) h
