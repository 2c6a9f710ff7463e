-- Whether a type, a constant or an initialiser is no deeper than so much, by what stands in it.
use Rattle.std.proofs.Common.{◌≡◌, ◌∙◌, ◌&&◌, ◌+◌, ◌-◌, ◌<◌, ℕ, max, Bool, true, false, List, [], ◌∷◌, ◌++◌, map, nat_le, refl, sym, ap, arith}
use Rattle.std.proofs.lemmas.Bool.Decides.{nat_tests}
use Rattle.std.proofs.lemmas.List.Folds.{list_all-append}
use Rattle.std.specs.List.{flat_map, list_all}
use Rattle.ir_types.specs.declared.names.Name.{Name}
use Rattle.ir_types.specs.declared.ty.Ty.{Ty, Int, Ptr, Array, Struct, Named, Void}
use Rattle.ir_types.proofs.Induction as types
use Rattle.ir_core.specs.declared.functions.Block.{Block}
use Rattle.ir_core.specs.declared.functions.Entry.{Entry}
use Rattle.ir_core.specs.declared.modules.Module.{Module}
use Rattle.ir_core.specs.declared.modules.Init.{Init, Zero, Bytes, out-Init, roll-Init, roll-out-Init}
use Rattle.ir_core.specs.declared.modules.Init as init
use Rattle.ir_core.specs.declared.modules.Init.TheOpen.{Init-F}
use Rattle.ir_core.specs.declared.modules.Init.TheOpen as level
use Rattle.ir_core.specs.declared.modules.Init.TheViews.{rolls-Const, rolls-Zero, rolls-Bytes, rolls-Array, rolls-Struct}
use Rattle.ir_core.specs.declared.operands.Const.{Const, Number, Undef, Null, Global, Element, Cast}
use Rattle.ir_core.specs.declared.operands.Operand.{Operand}
use Rattle.ir_core.specs.Depths.{deepest, depth_at_level, depth_at_part, depth_of, depth_of_atom, depth_of_constant, depth_of_init, depth_of_init_at, depth_of_operand, depth_of_parts, depths_at_line, depths_at_phi, depths_in, depths_in_block, depths_in_declaration, depths_in_function, depths_in_global, depths_in_named}
use Rattle.ir_core.proofs.Constants as constants
use Rattle.ir_core.proofs.Inits as inits
use Rattle.ir_typing.specs.OperandTests.Numbers.{IsNumber}
use Rattle.ir_typing.specs.ModuleLimits.Within.{are_shallow, atom_shallow, constant_within, depths_at_end, init_within, is_shallow, part_within, type_within, typed_within}

max_within : (a b n : ℕ) → nat_le (max a b) n ≡ (nat_le a n && nat_le b n)
max_within a b n = grind (arith, nat_tests)

-- what is one deeper is within one more
below : (d n : ℕ) → 0 < n → nat_le (d + 1) n ≡ nat_le d (n - 1)
below d n positive = grind (arith, nat_tests)

one_within : (n : ℕ) → 0 < n → nat_le 1 n ≡ true
one_within n positive = grind (arith, nat_tests)

none_deeper : (d : ℕ) → nat_le (d + 1) 0 ≡ false
none_deeper d = grind (arith, nat_tests)

-- ---- types

pub int_within : (n width : ℕ) → 0 < n → type_within n (Int width) ≡ true
int_within n width positive = ap (λ d. nat_le d n) (types.at_int ℕ depth_at_level width) ∙ one_within n positive

pub ptr_within : (n : ℕ) (t : Ty) → 0 < n → type_within n (Ptr t) ≡ type_within (n - 1) t
ptr_within n t positive = ap (λ d. nat_le d n) (types.at_ptr ℕ depth_at_level t) ∙ below (depth_of t) n positive

pub array_within : (n count : ℕ) (t : Ty) → 0 < n → type_within n (Array count t) ≡ type_within (n - 1) t
array_within n count t positive = ap (λ d. nat_le d n) (types.at_array ℕ depth_at_level count t) ∙ below (depth_of t) n positive

pub types_within : (n : ℕ) (ts : List Ty) → nat_le (deepest (map depth_of ts)) n ≡ list_all (type_within n) ts
types_within n [] = grind (arith, nat_tests)
types_within n (t ∷ ts) = max_within (depth_of t) (deepest (map depth_of ts)) n ∙ ap (λ b. type_within n t && b) (types_within n ts)

pub struct_within : (n : ℕ) (ts : List Ty) → 0 < n → type_within n (Struct ts) ≡ list_all (type_within (n - 1)) ts
struct_within n ts positive =
    ap (λ d. nat_le d n) (types.at_struct ℕ depth_at_level ts) ∙ below (deepest (map depth_of ts)) n positive ∙ types_within (n - 1) ts

pub name_within : (n : ℕ) (x : Name) → 0 < n → type_within n (Named x) ≡ true
name_within n x positive = ap (λ d. nat_le d n) (types.at_named ℕ depth_at_level x) ∙ one_within n positive

pub void_within : (n : ℕ) → 0 < n → type_within n Void ≡ true
void_within n positive = ap (λ d. nat_le d n) (types.at_void ℕ depth_at_level) ∙ one_within n positive

pub none_within : (t : Ty) → type_within 0 t ≡ false
none_within = types.by_parts (λ t. type_within 0 t ≡ false)
    (λ width. ap (λ d. nat_le d 0) (types.at_int ℕ depth_at_level width))
    (λ t is. ap (λ d. nat_le d 0) (types.at_ptr ℕ depth_at_level t) ∙ none_deeper (depth_of t))
    (λ count t is. ap (λ d. nat_le d 0) (types.at_array ℕ depth_at_level count t) ∙ none_deeper (depth_of t))
    (λ ts are. ap (λ d. nat_le d 0) (types.at_struct ℕ depth_at_level ts) ∙ none_deeper (deepest (map depth_of ts)))
    (λ x. ap (λ d. nat_le d 0) (types.at_named ℕ depth_at_level x))
    (ap (λ d. nat_le d 0) (types.at_void ℕ depth_at_level))

-- ---- parts behind their types

abbrev pub parts_at : {A : Type 0} → (A → ℕ) → List (Ty × A) → List (Ty × ℕ)
parts_at depth = map (λ p. (p.0, depth p.1))

parts_within : {A : Type 0} (depth : A → ℕ) (n : ℕ) (ps : List (Ty × A)) → nat_le (depth_of_parts (parts_at depth ps)) n ≡ list_all (λ p. type_within n p.0 && nat_le (depth p.1) n) ps
parts_within depth n [] = grind (arith, nat_tests)
parts_within depth n (p ∷ ps) =
    max_within (max (depth_of p.0) (depth p.1)) (depth_of_parts (parts_at depth ps)) n
    ∙ ap (λ b. b && nat_le (depth_of_parts (parts_at depth ps)) n) (max_within (depth_of p.0) (depth p.1) n)
    ∙ ap (λ b. (type_within n p.0 && nat_le (depth p.1) n) && b) (parts_within depth n ps)

-- ---- constants

pub number_within : (n k : ℕ) → 0 < n → constant_within n (Number k) ≡ true
number_within n k positive = ap (λ d. nat_le d n) (constants.at_number ℕ depth_at_part k) ∙ one_within n positive

pub undef_within : (n : ℕ) → 0 < n → constant_within n Undef ≡ true
undef_within n positive = ap (λ d. nat_le d n) (constants.at_undef ℕ depth_at_part) ∙ one_within n positive

pub null_within : (n : ℕ) → 0 < n → constant_within n Null ≡ true
null_within n positive = ap (λ d. nat_le d n) (constants.at_null ℕ depth_at_part) ∙ one_within n positive

pub global_within : (n : ℕ) (x : Name) → 0 < n → constant_within n (Global x) ≡ true
global_within n x positive = ap (λ d. nat_le d n) (constants.at_global ℕ depth_at_part x) ∙ one_within n positive

-- a type, and constants behind theirs, are one deeper than this
deeper_parts : (n : ℕ) (t : Ty) (cs : List (Ty × Const)) → 0 < n
    → nat_le (max (depth_of t) (depth_of_parts (parts_at depth_of_constant cs)) + 1) n ≡ (type_within (n - 1) t && list_all (typed_within (n - 1)) cs)
deeper_parts n t cs positive =
    below (max (depth_of t) (depth_of_parts (parts_at depth_of_constant cs))) n positive
    ∙ max_within (depth_of t) (depth_of_parts (parts_at depth_of_constant cs)) (n - 1)
    ∙ ap (λ b. type_within (n - 1) t && b) (parts_within depth_of_constant (n - 1) cs)

pub element_within : (n : ℕ) (inbounds : Bool) (of : Ty) (cs : List (Ty × Const)) → 0 < n
    → constant_within n (Element (inbounds, of, cs)) ≡ (type_within (n - 1) of && list_all (typed_within (n - 1)) cs)
element_within n inbounds of cs positive = ap (λ d. nat_le d n) (constants.at_element ℕ depth_at_part inbounds of cs) ∙ deeper_parts n of cs positive

pub cast_within : (n : ℕ) (to : Ty) (cs : List (Ty × Const)) → 0 < n
    → constant_within n (Cast (to, cs)) ≡ (type_within (n - 1) to && list_all (typed_within (n - 1)) cs)
cast_within n to cs positive = ap (λ d. nat_le d n) (constants.at_cast ℕ depth_at_part to cs) ∙ deeper_parts n to cs positive

pub no_constant_within : (c : Const) → constant_within 0 c ≡ false
no_constant_within = constants.by_parts (λ c. constant_within 0 c ≡ false)
    (λ k. ap (λ d. nat_le d 0) (constants.at_number ℕ depth_at_part k))
    (ap (λ d. nat_le d 0) (constants.at_undef ℕ depth_at_part))
    (ap (λ d. nat_le d 0) (constants.at_null ℕ depth_at_part))
    (λ x. ap (λ d. nat_le d 0) (constants.at_global ℕ depth_at_part x))
    (λ inbounds of cs are.
    ap (λ d. nat_le d 0) (constants.at_element ℕ depth_at_part inbounds of cs)
    ∙ none_deeper (max (depth_of of) (depth_of_parts (parts_at depth_of_constant cs))))
    (λ to cs are.
    ap (λ d. nat_le d 0) (constants.at_cast ℕ depth_at_part to cs)
    ∙ none_deeper (max (depth_of to) (depth_of_parts (parts_at depth_of_constant cs))))

-- ---- initialisers

pub held_within : (n : ℕ) (c : Const) → init_within n (init.Const c) ≡ constant_within n c
held_within n c = ap (λ d. nat_le d n) (inits.at_const ℕ depth_of_init_at c)

pub plain_within : (n : ℕ) (p : Ty × Init) → 0 < n → IsNumber p → part_within n p ≡ true
plain_within n p positive is =
    ap (part_within n) is.2
    ∙ ap (λ b. b && init_within n (init.Const (Number is.1))) (int_within n is.0 positive)
    ∙ held_within n (Number is.1)
    ∙ number_within n is.1 positive

pub zero_within : (n : ℕ) → 0 < n → init_within n Zero ≡ true
zero_within n positive = ap (λ d. nat_le d n) (inits.at_zero ℕ depth_of_init_at) ∙ one_within n positive

pub bytes_within : (n : ℕ) (bytes : List ℕ) → 0 < n → init_within n (Bytes bytes) ≡ true
bytes_within n bytes positive = ap (λ d. nat_le d n) (inits.at_bytes ℕ depth_of_init_at bytes) ∙ one_within n positive

deeper_inits : (n : ℕ) (ps : List (Ty × Init)) → 0 < n → nat_le (depth_of_parts (parts_at depth_of_init ps) + 1) n ≡ list_all (part_within (n - 1)) ps
deeper_inits n ps positive = below (depth_of_parts (parts_at depth_of_init ps)) n positive ∙ parts_within depth_of_init (n - 1) ps

pub array_init_within : (n : ℕ) (ps : List (Ty × Init)) → 0 < n → init_within n (init.Array ps) ≡ list_all (part_within (n - 1)) ps
array_init_within n ps positive = ap (λ d. nat_le d n) (inits.at_array ℕ depth_of_init_at ps) ∙ deeper_inits n ps positive

pub struct_init_within : (n : ℕ) (ps : List (Ty × Init)) → 0 < n → init_within n (init.Struct ps) ≡ list_all (part_within (n - 1)) ps
struct_init_within n ps positive = ap (λ d. nat_le d n) (inits.at_struct ℕ depth_of_init_at ps) ∙ deeper_inits n ps positive

no_level_within : (y : Init-F Init) → init_within 0 (roll-Init y) ≡ false
no_level_within (level.Const c) = ap (init_within 0) (rolls-Const c) ∙ held_within 0 c ∙ no_constant_within c
no_level_within level.Zero = ap (init_within 0) rolls-Zero ∙ ap (λ d. nat_le d 0) (inits.at_zero ℕ depth_of_init_at)
no_level_within (level.Bytes bytes) = ap (init_within 0) (rolls-Bytes bytes) ∙ ap (λ d. nat_le d 0) (inits.at_bytes ℕ depth_of_init_at bytes)
no_level_within (level.Array ps) =
    ap (init_within 0) (rolls-Array ps)
    ∙ ap (λ d. nat_le d 0) (inits.at_array ℕ depth_of_init_at ps)
    ∙ none_deeper (depth_of_parts (parts_at depth_of_init ps))
no_level_within (level.Struct ps) =
    ap (init_within 0) (rolls-Struct ps)
    ∙ ap (λ d. nat_le d 0) (inits.at_struct ℕ depth_of_init_at ps)
    ∙ none_deeper (depth_of_parts (parts_at depth_of_init ps))

pub no_init_within : (i : Init) → init_within 0 i ≡ false
no_init_within i = ap (init_within 0) (sym (roll-out-Init i)) ∙ no_level_within (out-Init i)

-- ---- operands

pub both_shallow : (ds es : List ℕ) → are_shallow (ds ++ es) ≡ (are_shallow ds && are_shallow es)
both_shallow ds es = list_all-append is_shallow ds es

pub operand_within : {R : Type 0} (o : Operand R) → is_shallow (depth_of_operand o) ≡ (is_shallow (depth_of o.ty) && atom_shallow o.atom)
operand_within o = max_within (depth_of o.ty) (depth_of_atom o.atom) 64

-- where `t` is to hold beside it
both_beside : (t a r s h : Bool) → h ≡ (t && a) → (t && r) ≡ (t && s) → (t && (h && r)) ≡ (t && (a && s))
both_beside true a r s h here further = ap (λ b. b && r) here ∙ ap (λ b. a && b) further
both_beside false a r s h here further = refl

abbrev entry_of : Ty → Entry → Operand Name
entry_of t e = record { ty = t; atom = e.value }

-- what a phi gets is stated at its type
pub entries_within : (t : Ty) (es : List Entry)
    → (is_shallow (depth_of t) && are_shallow (map (λ o. depth_of_operand o) (map (λ (e : Entry). entry_of t e) es)))
    ≡ (is_shallow (depth_of t) && list_all (λ (e : Entry). atom_shallow e.value) es)
entries_within t [] = refl
entries_within t (e ∷ es) =
    both_beside (is_shallow (depth_of t)) (atom_shallow e.value) (are_shallow (map (λ o. depth_of_operand o) (map (λ (e : Entry). entry_of t e) es)))
    (list_all (λ (e : Entry). atom_shallow e.value) es) (is_shallow (depth_of_operand (entry_of t e)))
    (operand_within (entry_of t e)) (entries_within t es)

-- ---- blocks and modules

pub block_within : (b : Block)
    → are_shallow (depths_in_block b)
    ≡ (are_shallow (flat_map depths_at_phi b.phis) && (are_shallow (flat_map depths_at_line b.body) && are_shallow (depths_at_end b.term)))
block_within b =
    both_shallow (flat_map depths_at_phi b.phis) (flat_map depths_at_line b.body ++ depths_at_end b.term)
    ∙ ap (λ t. are_shallow (flat_map depths_at_phi b.phis) && t) (both_shallow (flat_map depths_at_line b.body) (depths_at_end b.term))

pub fields_within : (ts : List Ty) → is_shallow (deepest (map depth_of ts) + 1) ≡ list_all (type_within 63) ts
fields_within ts = below (deepest (map depth_of ts)) 64 (omega arith) ∙ types_within 63 ts

pub module_within : (m : Module)
    → are_shallow (depths_in m)
    ≡ (are_shallow (flat_map depths_in_named m.types)
    && (are_shallow (flat_map depths_in_global m.globals)
    && (are_shallow (flat_map depths_in_function m.functions) && are_shallow (flat_map depths_in_declaration m.declarations))))
module_within m =
    let functions = flat_map depths_in_function m.functions in
    let declarations = flat_map depths_in_declaration m.declarations in
    let globals = flat_map depths_in_global m.globals in
    let named = flat_map depths_in_named m.types in
    both_shallow named (globals ++ (functions ++ declarations))
    ∙ ap (λ t. are_shallow named && t) (
    both_shallow globals (functions ++ declarations) ∙ ap (λ t. are_shallow globals && t) (both_shallow functions declarations))
