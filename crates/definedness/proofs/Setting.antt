-- Whether a register is among those that a line sets, and lines one after the other.
use Rattle.std.proofs.Common.{◌≡◌, ◌∙◌, ◌||◌, Bool, true, false, List, [], ◌∷◌, ◌++◌, None, Some, refl, ap}
use Rattle.ir_core.specs.declared.functions.Instr.{Instr}
use Rattle.ir_types.specs.declared.names.Name.{Name}
use Rattle.ir_core.specs.Functions.{name_set, names_in, set_by}
use Rattle.ir_types.specs.Same.{same_name}
use Rattle.ir_core.proofs.Lines.{names_more, names_none, names_one}
use Rattle.ir_core.specs.NameIndexes.Among.{is_among}

or_no : (b : Bool) → (b || false) ≡ b
or_no true = refl
or_no false = refl

or_joined : (a b c : Bool) → (a || (b || c)) ≡ ((a || b) || c)
or_joined true b c = refl
or_joined false b c = refl

pub sets_one : (name : Name) (l : Instr) (own : Name) → name_set l ≡ Some own → is_among name (names_in (set_by (l ∷ []))) ≡ same_name name own
sets_one name l own e = ap (is_among name) (names_one l own e) ∙ or_no (same_name name own)

pub sets_none : (name : Name) (l : Instr) → name_set l ≡ None → is_among name (names_in (set_by (l ∷ []))) ≡ false
sets_none name l e = ap (is_among name) (names_none l e)

among_joined : (name : Name) (xs ys : List Name) → is_among name (xs ++ ys) ≡ (is_among name xs || is_among name ys)
among_joined name [] ys = refl
among_joined name (x ∷ xs) ys = ap (λ b. same_name name x || b) (among_joined name xs ys) ∙ or_joined (same_name name x) (is_among name xs) (is_among name ys)

pub among_more : (name : Name) (l : Instr) (ls : List Instr)
    → is_among name (names_in (set_by (l ∷ ls))) ≡ (is_among name (names_in (set_by (l ∷ []))) || is_among name (names_in (set_by ls)))
among_more name l ls = ap (is_among name) (names_more l ls) ∙ among_joined name (names_in (set_by (l ∷ []))) (names_in (set_by ls))
