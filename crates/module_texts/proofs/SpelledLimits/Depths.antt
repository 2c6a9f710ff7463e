-- How deep what is built of written types, constants and initialisers is.
use Rattle.std.proofs.Common.{◌≡◌, ◌∙◌, ◌≤◌, ◌+◌, ℕ, Bool, List, [], ◌∷◌, length, map, Option, Some, None, refl, ap, arith}
use Rattle.std.specs.Prelude.{max}
use Rattle.std.specs.List.{AllByRecursion}
use Rattle.ir_core.specs.Depths.{deepest, depth_at_level, depth_at_part, depth_of, depth_of_constant, depth_of_init, depth_of_init_at, depth_of_parts}
use Rattle.ir_core.specs.declared.modules.Init.{Init}
use Rattle.ir_core.specs.declared.operands.Const.{Const}
use Rattle.ir_core.proofs.Constants as constant
use Rattle.ir_core.proofs.Inits as init
use Rattle.ir_lexer.specs.declared.token.Number.{Number}
use Rattle.ir_types.specs.declared.names.Name.{Name}
use Rattle.ir_types.specs.declared.ty.Ty.{Ty}
use Rattle.ir_types.proofs.Induction as ty
use Rattle.module_grammar.specs.declared.constants.ConstText.{ConstText}
use Rattle.module_grammar.specs.declared.constants.ConstText as text
use Rattle.module_grammar.specs.declared.constants.GlobalNameText.{GlobalNameText}
use Rattle.module_grammar.specs.declared.constants.InitText.{InitText}
use Rattle.module_grammar.specs.declared.constants.InitText as held
use Rattle.module_grammar.specs.declared.constants.IntText.{IntText}
use Rattle.module_grammar.specs.declared.places.Placed.{Placed}
use Rattle.module_grammar.specs.declared.types.TypeText.{TypeText, Int, Named, Ptr, Array, Struct}
use Rattle.module_grammar.specs.Joined.{pointers_to}
use Rattle.named_modules.specs.Constants.{built_init_part, built_part, const_at_level, const_of, global_name, init_at_level, init_of, number_or_undef}
use Rattle.named_modules.specs.Types.{count_built, int_of, type_at_level, type_of}
use Rattle.named_modules.proofs.ConstKinds as kind
use Rattle.named_modules.proofs.TypeKinds as type_kind

-- ---- types

pub of_int : (width : Placed ℕ) → depth_of (type_of (Int width)) ≡ 1
of_int width = ap depth_of (type_kind.at_int Ty type_at_level width) ∙ ty.at_int ℕ depth_at_level width.what

pub of_named : (x : Placed Name) → depth_of (type_of (Named x)) ≡ 1
of_named x = ap depth_of (type_kind.at_named Ty type_at_level x) ∙ ty.at_named ℕ depth_at_level x.what

pub of_ptr : (at : ℕ) (t : TypeText) → depth_of (type_of (Ptr at t)) ≡ depth_of (type_of t) + 1
of_ptr at t = ap depth_of (type_kind.at_ptr Ty type_at_level at t) ∙ ty.at_ptr ℕ depth_at_level (type_of t)

pub of_array : (at : ℕ) (count : Placed Number) (t : TypeText) → depth_of (type_of (Array at (count, t))) ≡ depth_of (type_of t) + 1
of_array at count t =
    ap depth_of (type_kind.at_array Ty type_at_level at count t) ∙ ty.at_array ℕ depth_at_level (count_built count.what) (type_of t)

pub of_struct : (at : ℕ) (ts : List TypeText) → depth_of (type_of (Struct at ts)) ≡ deepest (map depth_of (map type_of ts)) + 1
of_struct at ts = ap depth_of (type_kind.at_struct Ty type_at_level at ts) ∙ ty.at_struct ℕ depth_at_level (map type_of ts)

pub of_pointers : (t : TypeText) (stars : List ℕ) → depth_of (type_of (pointers_to t stars)) ≡ depth_of (type_of t) + length stars
of_pointers t [] = omega arith
of_pointers t (at ∷ more) =
    let first = of_ptr at t in
    let others = of_pointers (Ptr at t) more in
    omega (arith, first, others)

-- ---- constants

number_depth : (o : Option ℕ) → depth_of_constant (number_or_undef o) ≡ 1
number_depth None = constant.at_undef ℕ depth_at_part
number_depth (Some n) = constant.at_number ℕ depth_at_part n

module _ (t : Ty) where
  pub of_number : (i : IntText) → depth_of_constant (const_of (text.Int i) t) ≡ 1
  of_number i = ap (λ (f : Ty → Const). depth_of_constant (f t)) (kind.at_int (Ty → Const) const_at_level i) ∙ number_depth (int_of t i)

  pub of_null : (at : ℕ) → depth_of_constant (const_of (text.Null at) t) ≡ 1
  of_null at = ap (λ (f : Ty → Const). depth_of_constant (f t)) (kind.at_null (Ty → Const) const_at_level at) ∙ constant.at_null ℕ depth_at_part

  pub of_undef : depth_of_constant (const_of text.Undef t) ≡ 1
  of_undef = ap (λ (f : Ty → Const). depth_of_constant (f t)) (kind.at_undef (Ty → Const) const_at_level) ∙ constant.at_undef ℕ depth_at_part

  pub of_global : (g : GlobalNameText) → depth_of_constant (const_of (text.Global g) t) ≡ 1
  of_global g =
      ap (λ (f : Ty → Const). depth_of_constant (f t)) (kind.at_global (Ty → Const) const_at_level g)
      ∙ constant.at_global ℕ depth_at_part (global_name g).what

-- of a part the type that is stated for it, and the constant
abbrev pub pair_depth : TypeText × ConstText → ℕ
pair_depth p = max (depth_of (type_of p.0)) (depth_of_constant (const_of p.1 (type_of p.0)))

abbrev pub pairs_depth : List (TypeText × ConstText) → ℕ
pairs_depth ps = deepest (map pair_depth ps)

parts_built : (ps : List (TypeText × ConstText)) → depth_of_parts (constant.folded_parts ℕ depth_at_part (map built_part (kind.told_each const_of ps))) ≡ pairs_depth ps
parts_built [] = refl
parts_built (p ∷ ps) = ap (λ d. max (pair_depth p) d) (parts_built ps)

pub of_element :
    (t : Ty) (at : ℕ) (inbounds : Bool) (of base_ty : TypeText) (base : ConstText) (indices : List (TypeText × ConstText))
    → depth_of_constant (const_of (text.Element at inbounds (of, base_ty, base, indices)) t)
    ≡ max (depth_of (type_of of)) (pairs_depth ((base_ty, base) ∷ indices)) + 1
of_element t at inbounds of base_ty base indices =
    ap (λ (f : Ty → Const). depth_of_constant (f t)) (kind.at_element (Ty → Const) const_at_level at inbounds of base_ty base indices)
    ∙ constant.at_element ℕ depth_at_part inbounds (type_of of) (map built_part (kind.told_each const_of ((base_ty, base) ∷ indices)))
    ∙ ap (λ d. max (depth_of (type_of of)) d + 1) (parts_built ((base_ty, base) ∷ indices))

pub of_cast :
    (t : Ty) (at : ℕ) (from : TypeText) (c : ConstText) (target : TypeText)
    → depth_of_constant (const_of (text.Cast at (from, c, target)) t) ≡ max (depth_of (type_of target)) (pairs_depth ((from, c) ∷ [])) + 1
of_cast t at from c target =
    ap (λ (f : Ty → Const). depth_of_constant (f t)) (kind.at_cast (Ty → Const) const_at_level at from c target)
    ∙ constant.at_cast ℕ depth_at_part (type_of target) (map built_part (kind.told_each const_of ((from, c) ∷ [])))
    ∙ ap (λ d. max (depth_of (type_of target)) d + 1) (parts_built ((from, c) ∷ []))

-- ---- initialisers

abbrev pub part_depth : TypeText × InitText → ℕ
part_depth p = max (depth_of (type_of p.0)) (depth_of_init (init_of p.1 (type_of p.0)))

abbrev pub inits_depth : List (TypeText × InitText) → ℕ
inits_depth ps = deepest (map part_depth ps)

inits_built : (ps : List (TypeText × InitText)) → depth_of_parts (init.folded_parts ℕ depth_of_init_at (map built_init_part (kind.told_each init_of ps))) ≡ inits_depth ps
inits_built [] = refl
inits_built (p ∷ ps) = ap (λ d. max (part_depth p) d) (inits_built ps)

module _ (t : Ty) where
  pub of_const : (c : ConstText) → depth_of_init (init_of (held.Const c) t) ≡ depth_of_constant (const_of c t)
  of_const c = ap (λ (f : Ty → Init). depth_of_init (f t)) (kind.at_const (Ty → Init) init_at_level c) ∙ init.at_const ℕ depth_of_init_at (const_of c t)

  pub of_zero : depth_of_init (init_of held.Zero t) ≡ 1
  of_zero = ap (λ (f : Ty → Init). depth_of_init (f t)) (kind.at_zero (Ty → Init) init_at_level) ∙ init.at_zero ℕ depth_of_init_at

  pub of_bytes : (bs : Placed (List ℕ)) → depth_of_init (init_of (held.Bytes bs) t) ≡ 1
  of_bytes bs = ap (λ (f : Ty → Init). depth_of_init (f t)) (kind.at_bytes (Ty → Init) init_at_level bs) ∙ init.at_bytes ℕ depth_of_init_at bs.what

  pub of_array_init : (at : ℕ) (ps : List (TypeText × InitText)) → depth_of_init (init_of (held.Array at ps) t) ≡ inits_depth ps + 1
  of_array_init at ps =
      ap (λ (f : Ty → Init). depth_of_init (f t)) (kind.at_array (Ty → Init) init_at_level at ps)
      ∙ init.at_array ℕ depth_of_init_at (map built_init_part (kind.told_each init_of ps))
      ∙ ap (λ d. d + 1) (inits_built ps)

  pub of_struct_init : (at : ℕ) (ps : List (TypeText × InitText)) → depth_of_init (init_of (held.Struct at ps) t) ≡ inits_depth ps + 1
  of_struct_init at ps =
      ap (λ (f : Ty → Init). depth_of_init (f t)) (kind.at_struct (Ty → Init) init_at_level at ps)
      ∙ init.at_struct ℕ depth_of_init_at (map built_init_part (kind.told_each init_of ps))
      ∙ ap (λ d. d + 1) (inits_built ps)

-- ---- within a limit

pub max_within : (n a b l : ℕ) → n + a ≤ l → n + b ≤ l → n + max a b ≤ l
max_within n a b l h i = omega (arith, h, i)

-- what stands so deep, where something stands there
pub deepest_within : (n l : ℕ) (ds : List ℕ) → n ≤ l → AllByRecursion (λ d. n + d ≤ l) ds → n + deepest ds ≤ l
deepest_within n l [] here all = omega (arith, here)
deepest_within n l (d ∷ ds) here all = max_within n d (deepest ds) l all.0 (deepest_within n l ds here all.1)
