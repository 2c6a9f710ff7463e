-- The types of registers: as they are collected, and what they say of operands.
use Rattle.std.proofs.Common.{◌≡◌, ◌∙◌, ℕ, suc, zero, ◌+◌, ◌<◌, Bool, true, false, cond, List, [], ◌∷◌, ◌++◌, length, map, drop, get_or, Option, None, Some, refl, sym, ap, ap₂, subst, arith, if◌then◌else◌}
use Rattle.std.proofs.lemmas.List.{drop_more, map-append}
use Rattle.std.proofs.lemmas.List.Elements.{Contains-append_left, Contains-push}
use Rattle.std.specs.List.{AllByRecursion, Contains, flat_map}
use Rattle.ir_core.specs.declared.functions.Block.{Block}
use Rattle.ir_core.specs.declared.functions.Function.{Function}
use Rattle.ir_types.specs.declared.named.NamedTy.{NamedTy}
use Rattle.ir_types.specs.declared.names.Name.{Name}
use Rattle.ir_core.specs.declared.operands.Operand.{Operand}
use Rattle.ir_types.specs.declared.ty.Ty.{Ty}
use Rattle.ir_core.specs.declared.functions.Instr.{Instr}
use Rattle.ir_core.specs.declared.modules.Module.{Module}
use Rattle.ir_core.specs.Functions.{names_in, params_of, phi_registers, register_of, registers_of, set_by, typed_of}
use Rattle.ir_core.proofs.Lines.{set_more, set_none, set_one}
use Rattle.ir_types.specs.NameLaws.{same_name_refl, same_name_true}
use Rattle.ir_core.specs.Order.{AreNew}
use Rattle.ir_types.specs.Same.{same_name}
use Rattle.ir_core.specs.WellFormed.{HasType}
use Rattle.ir_typing.specs.ShapeKinds.Typed.{Types, none_typed, or_else, type_at, with_type, with_types}
use Rattle.ir_typing.proofs.ShapeKinds.Entries.{or_none}
use Rattle.ir_shape.specs.ShapeTests.Kinds.{gives_type, told_in, told_of, typed, types_of}

-- ---- registers more

or_assoc : (a b c : Option (Option Ty)) → or_else (or_else a b) c ≡ or_else a (or_else b c)
or_assoc None b c = refl
or_assoc (Some t) b c = refl

pub types_joined : (types : Types) (xs ys : List (Name × Option Ty)) → with_types types (xs ++ ys) ≡ with_types (with_types types xs) ys
types_joined types [] ys = refl
types_joined types (r ∷ xs) ys = types_joined (with_type types r.0 r.1) xs ys

-- what is left after one more
pub more_told : {A : Type 0} (told : A → List (Name × Option Ty)) (types new : Types) (xs : List A) (k : ℕ) (x : A) (whole : Types) → k < length xs → x ≡ get_or xs k x
    → new ≡ with_types types (told x) → with_types types (flat_map told (drop k xs)) ≡ whole → with_types new (flat_map told (drop (k + 1) xs)) ≡ whole
more_told {A = A} told types new xs k x whole within at put so_far =
    let rest = drop (k + 1) xs in
    ap (λ (t : Types). with_types t (flat_map told rest)) put
    ∙ sym (types_joined types (told x) (flat_map told rest))
    ∙ ap (λ (ys : List A). with_types types (flat_map told ys)) (sym (drop_more xs k x within ∙ ap (λ (y : A). y ∷ rest) (sym at)))
    ∙ so_far

-- what a line tells of its register, where it sets one
pub told_one : (types : List NamedTy) (l : Instr) (r : Name × Ty) → register_of l ≡ Some r → told_of types l ≡ (r.0, cond (gives_type types l) (Some r.1) None) ∷ []
told_one types l r e = ap (map (λ (r : Name × Ty). (r.0, cond (gives_type types l) (Some r.1) None))) (set_one l r e)

pub told_none : (types : List NamedTy) (l : Instr) → register_of l ≡ None → told_of types l ≡ []
told_none types l e = ap (map (λ (r : Name × Ty). (r.0, cond (gives_type types l) (Some r.1) None))) (set_none l e)

-- the first of that name
abbrev type_among : List (Name × Ty) → Name → Option (Option Ty)
type_among [] n = None
type_among (r ∷ rs) n = or_else (type_at r.0 (Some r.1) n) (type_among rs n)

type_with : (types : Types) (name : Name) (t : Option Ty) (n : Name) → with_type types name t n ≡ or_else (types n) (type_at name t n)
unfolding with_type
type_with types name t n = refl

types_are : (types : Types) (rs : List (Name × Ty)) (n : Name) → with_types types (typed rs) n ≡ or_else (types n) (type_among rs n)
types_are types [] n = sym (or_none (types n))
types_are types (r ∷ rs) n =
    types_are (with_type types r.0 (Some r.1)) rs n
    ∙ ap (λ o. or_else o (type_among rs n)) (type_with types r.0 (Some r.1) n)
    ∙ or_assoc (types n) (type_at r.0 (Some r.1) n) (type_among rs n)

all_types : (rs : List (Name × Ty)) (n : Name) → with_types none_typed (typed rs) n ≡ type_among rs n
all_types rs n = types_are none_typed rs n

found_there : (rs : List (Name × Ty)) (n : Name) (t : Ty) → type_among rs n ≡ Some (Some t) → Contains rs (n, t)
found_there [] n t e = cc
found_there (r ∷ rs) n t e = go (λ e. found_there rs n t e) (same_name n r.0) refl e
  where
    go : (type_among rs n ≡ Some (Some t) → Contains rs (n, t)) → (b : Bool) → same_name n r.0 ≡ b → or_else (if b then Some (Some r.1) else None) (type_among rs n) ≡ Some (Some t)
        → Contains (r ∷ rs) (n, t)
    go later true same e =
        let own : r.1 ≡ t = cc in
        let name : n ≡ r.0 = same_name_true n r.0 same in
        (0, omega arith, sym (ap (λ (x : Name). let pair : Name × Ty = (x, t) in pair) name ∙ ap (λ (u : Ty). let pair : Name × Ty = (r.0, u) in pair) (sym own)))
    go later false same e = let more = later e in (suc more.0, omega (arith, more.1), more.2)

taken_once : (rs : List (Name × Ty)) (taken : List Name) (n : Name) (t : Ty) → AreNew taken (names_in rs) → Contains taken n → Contains rs (n, t) → ⊥
taken_once [] taken n t new there at = absurd (omega (arith, at.1))
taken_once (r ∷ rs) taken n t new there (zero, within, is) =
    new.0 (subst (Contains taken) (sym (ap (λ (q : Name × Ty). q.0) is)) there)
taken_once (r ∷ rs) taken n t new there (suc k, within, is) =
    taken_once rs (taken ++ r.0 ∷ []) n t new.1 (Contains-append_left taken (r.0 ∷ []) n there) (k, omega arith, is)

there_found : (rs : List (Name × Ty)) (taken : List Name) (n : Name) (t : Ty) → AreNew taken (names_in rs) → Contains rs (n, t) → type_among rs n ≡ Some (Some t)
there_found [] taken n t new at = absurd (omega (arith, at.1))
there_found (r ∷ rs) taken n t new (zero, within, is) =
    ap (λ (q : Name × Ty). or_else (type_at q.0 (Some q.1) n) (type_among rs n)) is
    ∙ ap (λ b. or_else (if b then Some (Some t) else None) (type_among rs n)) (same_name_refl n)
there_found (r ∷ rs) taken n t new (suc k, within, is) =
    let later : Contains rs (n, t) = (k, omega arith, is) in
    go later (there_found rs (taken ++ r.0 ∷ []) n t new.1 later) (same_name n r.0) refl
  where
    go : Contains rs (n, t) → type_among rs n ≡ Some (Some t) → (b : Bool) → same_name n r.0 ≡ b → or_else (type_at r.0 (Some r.1) n) (type_among rs n) ≡ Some (Some t)
    go later found true same =
        absurd (taken_once rs (taken ++ r.0 ∷ []) n t new.1 (subst (Contains (taken ++ r.0 ∷ [])) (sym (same_name_true n r.0 same)) (Contains-push taken r.0)) later)
    go later found false same = ap (λ b. or_else (if b then Some (Some r.1) else None) (type_among rs n)) same ∙ found

-- ---- types and operands

-- the type that is told of a name is that of a register
pub register_by : (rs : List (Name × Ty)) (n : Name) (t : Ty) → with_types none_typed (typed rs) n ≡ Some (Some t) → Contains rs (n, t)
register_by rs n t e = found_there rs n t (sym (all_types rs n) ∙ e)

-- where no two registers have one name, the type of each is told of its name
pub register_is : (rs : List (Name × Ty)) → AreNew [] (names_in rs) → (n : Name) (t : Ty) → Contains rs (n, t) → with_types none_typed (typed rs) n ≡ Some (Some t)
register_is rs new n t there = all_types rs n ∙ there_found rs [] n t new there

-- no type is told but a type that is one
pub register_typed : (rs : List (Name × Ty)) (n : Name) → with_types none_typed (typed rs) n ≡ Some None → ⊥
register_typed rs n e = go rs (sym (all_types rs n) ∙ e)
  where
    go : (rs : List (Name × Ty)) → type_among rs n ≡ Some None → ⊥
    go [] e = cc
    go (r ∷ rs) e = by (go rs) (same_name n r.0) e
      where
        by : (type_among rs n ≡ Some None → ⊥) → (b : Bool) → or_else (if b then Some (Some r.1) else None) (type_among rs n) ≡ Some None → ⊥
        by later true e = cc
        by later false e = later e

-- ---- where each line gives a type

typed_joined : (xs ys : List (Name × Ty)) → typed (xs ++ ys) ≡ typed xs ++ typed ys
typed_joined xs ys = map-append (λ (r : Name × Ty). (r.0, Some r.1)) xs ys

-- each line of these gives its register a type
abbrev pub AllGive : List NamedTy → List Instr → Type 0
AllGive types = AllByRecursion (λ (l : Instr). gives_type types l ≡ true)

told_lines : (types : List NamedTy) (ls : List Instr) → AllGive types ls → flat_map (told_of types) ls ≡ typed (set_by ls)
told_lines types [] all = refl
told_lines types (l ∷ ls) all =
    ap₂ (λ (xs ys : List (Name × Option Ty)). xs ++ ys)
    (ap (λ b. map (λ (r : Name × Ty). let pair : Name × Option Ty = (r.0, cond b (Some r.1) None) in pair) (set_by (l ∷ []))) all.0) (told_lines types ls all.1)
    ∙ sym (typed_joined (set_by (l ∷ [])) (set_by ls)) ∙ ap typed (sym (set_more l ls))

told_block : (types : List NamedTy) (b : Block) → AllGive types b.body → told_in types b ≡ typed (registers_of b)
told_block types b all = ap (λ xs. typed (phi_registers b.phis) ++ xs) (told_lines types b.body all) ∙ sym (typed_joined (phi_registers b.phis) (set_by b.body))

told_blocks : (types : List NamedTy) (bs : List Block) → AllByRecursion (λ (b : Block). AllGive types b.body) bs → flat_map (told_in types) bs ≡ typed (flat_map registers_of bs)
told_blocks types [] all = refl
told_blocks types (b ∷ bs) all =
    ap₂ (λ (xs ys : List (Name × Option Ty)). xs ++ ys) (told_block types b all.0) (told_blocks types bs all.1)
    ∙ sym (typed_joined (registers_of b) (flat_map registers_of bs))

-- then the types that are told are those of the function's registers
pub all_typed : (m : Module) (f : Function) → AllByRecursion (λ (b : Block). AllGive m.types b.body) f.blocks → types_of m f ≡ with_types none_typed (typed (typed_of f))
all_typed m f all =
    ap (with_types none_typed)
    (ap (λ xs. typed (params_of f) ++ xs) (told_blocks m.types f.blocks all) ∙ sym (typed_joined (params_of f) (flat_map registers_of f.blocks)))

-- each operand has its type
abbrev pub AreTyped : Module → List (Name × Ty) → List (Operand Name) → Type 0
AreTyped m rs = AllByRecursion (λ (o : Operand Name). HasType m rs o.ty o.atom)
