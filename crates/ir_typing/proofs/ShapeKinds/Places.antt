-- The place of a name in a row.
use Rattle.std.proofs.Common.{◌≡◌, ◌∙◌, ◌+◌, ◌<◌, ◌≤◌, ℕ, true, false, cond, List, [], ◌∷◌, Option, Some, drop, get_or, length, refl, sym, ap, inl, inr, arith}
use Rattle.std.proofs.lemmas.List.{drop_all, drop_more}
use Rattle.std.proofs.lemmas.Option.{slice_get_cases, slice_get_past, slice_get_read}
use Rattle.std.specs.Option.{is_some, option_map}
use Rattle.ir_types.specs.declared.names.Name.{Name}
use Rattle.ir_types.specs.Same.{same_name}
use Rattle.ir_typing.specs.declared.shape_kinds.held_types.Told.{Told}
use Rattle.ir_typing.specs.ShapeKinds.Kept.{entries_told, found_among, told_at}

-- at the first that has it
pub here : (row : List Told) (name : Name) (k : ℕ) (t : Told) → k < length row → t ≡ get_or row k t → same_name name t.marked.name.now ≡ true
    → found_among (entries_told (drop k row)) name ≡ found_among (entries_told row) name → told_at row k ≡ found_among (entries_told row) name
here row name k t within is same so_far =
    ap (option_map (λ (t : Told). t.ty)) (slice_get_read row (length row) k t refl within is)
    ∙ sym (ap (λ b. cond b (Some t.ty) (found_among (entries_told (drop (k + 1) row)) name)) same)
    ∙ sym (ap (λ (ts : List Told). found_among (entries_told ts) name) (drop_more row k t within ∙ ap (λ (u : Told). u ∷ drop (k + 1) row) (sym is)))
    ∙ so_far

-- behind all that don't have it
pub nowhere : (row : List Told) (name : Name) (k : ℕ) → length row ≤ k → found_among (entries_told (drop k row)) name ≡ found_among (entries_told row) name
    → told_at row (length row) ≡ found_among (entries_told row) name
nowhere row name k past so_far =
    ap (option_map (λ (t : Told). t.ty)) (slice_get_past row (length row) (omega arith))
    ∙ sym (ap (λ (ts : List Told). found_among (entries_told ts) name) (drop_all k row past))
    ∙ so_far

-- a name is there where its place is one of the row's
pub is_there : (row : List Told) (name : Name) (k : ℕ) → k < length row → told_at row k ≡ found_among (entries_told row) name → is_some (found_among (entries_told row) name) ≡ true
is_there row name k within at = elim (slice_get_cases row k).1 [
  | inl one ↦ sym (ap is_some at) ∙ ap (λ (o : Option Told). is_some (option_map (λ (t : Told). t.ty) o)) one.2
  | inr past ↦ absurd (omega arith)
]

-- and isn't where it is past the row
pub is_new : (row : List Told) (name : Name) (k : ℕ) → length row ≤ k → told_at row k ≡ found_among (entries_told row) name → is_some (found_among (entries_told row) name) ≡ false
is_new row name k past at = sym (ap is_some at) ∙ ap (λ (o : Option Told). is_some (option_map (λ (t : Told). t.ty) o)) (slice_get_past row k past)
