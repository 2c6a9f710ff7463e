-- The registers of a line, and of lines one after the other.
use Rattle.std.proofs.Common.{◌≡◌, ◌∙◌, List, [], ◌∷◌, ◌++◌, None, Some, refl, ap}
use Rattle.std.proofs.lemmas.List.{map-append}
use Rattle.std.proofs.lemmas.List.Elements.{filter_map-append}
use Rattle.ir_core.specs.declared.functions.Instr.{Instr}
use Rattle.ir_types.specs.declared.names.Name.{Name}
use Rattle.ir_types.specs.declared.ty.Ty.{Ty}
use Rattle.ir_core.specs.Functions.{name_set, named_register, names_in, register_of, set_by, type_set}

pub set_more : (l : Instr) (ls : List Instr) → set_by (l ∷ ls) ≡ set_by (l ∷ []) ++ set_by ls
set_more l ls = filter_map-append register_of (l ∷ []) ls

pub names_more : (l : Instr) (ls : List Instr) → names_in (set_by (l ∷ ls)) ≡ names_in (set_by (l ∷ [])) ++ names_in (set_by ls)
names_more l ls = ap names_in (set_more l ls) ∙ map-append (λ (r : Name × Ty). r.0) (set_by (l ∷ [])) (set_by ls)

-- where a line sets this register
pub set_one : (l : Instr) (r : Name × Ty) → register_of l ≡ Some r → set_by (l ∷ []) ≡ r ∷ []
set_one l r e = rw e refl

pub set_none : (l : Instr) → register_of l ≡ None → set_by (l ∷ []) ≡ []
set_none l e = rw e refl

-- where it sets one of this name
pub names_one : (l : Instr) (name : Name) → name_set l ≡ Some name → names_in (set_by (l ∷ [])) ≡ name ∷ []
names_one l name e = ap names_in (set_one l (name, type_set l) (ap (named_register (type_set l)) e))

pub names_none : (l : Instr) → name_set l ≡ None → names_in (set_by (l ∷ [])) ≡ []
names_none l e = ap names_in (set_none l (ap (named_register (type_set l)) e))
