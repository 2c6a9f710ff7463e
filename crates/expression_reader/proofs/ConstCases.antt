-- What is noted of each kind of constant.
use Rattle.std.proofs.Common.{◌≡◌, ◌∙◌, ℕ, Bool, List, ◌++◌, Option, ap}
use Rattle.std.proofs.lemmas.List.Folds.{flat_map-map}
use Rattle.std.specs.List.{flat_map}
use Rattle.expression_reader.proofs.Joined.{noted_joined}
use Rattle.expression_reader.specs.Ranges as meaning
use Rattle.expression_reader.specs.Ranges.{const_faults, const_faults_at_level}
use Rattle.expression_reader.specs.Told.{part_faults}
use Rattle.ir_types.specs.declared.ty.Ty.{Ty}
use Rattle.module_grammar.specs.declared.constants.ConstText.{ConstText, Int, Element, Cast}
use Rattle.module_grammar.specs.declared.constants.IntText.{IntText}
use Rattle.module_grammar.specs.declared.types.TypeText.{TypeText}
use Rattle.name_claims.specs.declared.claims.Fault.{Fault}
use Rattle.named_modules.proofs.ConstKinds as kind
use Rattle.named_modules.proofs.ConstKinds.{told_each}
use Rattle.named_modules.specs.Faults.{int_faults}
use Rattle.fault_walk.specs.Told.{noted}
use Rattle.expression_reader.specs.Types.{count_faults}

-- `of`, the base and the indices of an address; a constant and its types in a conversion
abbrev Address : Type 0
Address = TypeText × TypeText × ConstText × List (TypeText × ConstText)

abbrev Conversion : Type 0
Conversion = TypeText × ConstText × TypeText

parts_are : (ps : List (TypeText × ConstText)) → flat_map meaning.part_faults (told_each const_faults ps) ≡ flat_map part_faults ps
parts_are ps = flat_map-map meaning.part_faults (λ (p : TypeText × ConstText). (p.0, const_faults p.1)) ps

abbrev noted_at : Ty → Option Fault → (Ty → List Fault) → Option Fault
noted_at t told f = noted (f t) told

pub of_int : (i : IntText) (t : Ty) (told : Option Fault) → noted (const_faults (Int i) t) told ≡ noted (int_faults t i) told
of_int i t told = ap (noted_at t told) (kind.at_int (Ty → List Fault) const_faults_at_level i)

pub of_element : (start : ℕ) (inbounds : Bool) (e : Address) (t : Ty) (told : Option Fault)
    → noted (const_faults (Element start inbounds e) t) told
    ≡ noted (flat_map part_faults e.3) (noted (part_faults (e.1, e.2)) (noted (count_faults e.0) told))
of_element start inbounds e t told =
    let first = part_faults (e.1, e.2) in
    let others = flat_map meaning.part_faults (told_each const_faults e.3) in
    ap (noted_at t told) (kind.at_element (Ty → List Fault) const_faults_at_level start inbounds e.0 e.1 e.2 e.3)
    ∙ noted_joined (count_faults e.0) (first ++ others) told
    ∙ noted_joined first others (noted (count_faults e.0) told)
    ∙ ap (λ (fs : List Fault). noted fs (noted first (noted (count_faults e.0) told))) (parts_are e.3)

pub of_cast : (start : ℕ) (c : Conversion) (t : Ty) (told : Option Fault)
    → noted (const_faults (Cast start c) t) told ≡ noted (count_faults c.2) (noted (part_faults (c.0, c.1)) told)
of_cast start c t told =
    ap (noted_at t told) (kind.at_cast (Ty → List Fault) const_faults_at_level start c.0 c.1 c.2)
    ∙ noted_joined (part_faults (c.0, c.1)) (count_faults c.2) told
