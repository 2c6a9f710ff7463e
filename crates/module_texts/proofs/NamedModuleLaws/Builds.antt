-- What constants of constants and initialisers are built as, at each kind.
use Rattle.std.proofs.Common.{◌≡◌, ◌∙◌, ℕ, Bool, List, [], ◌∷◌, map, sym, ap}
use Rattle.ir_core.specs.declared.modules.Init as start
use Rattle.ir_core.specs.declared.modules.Init.{Init}
use Rattle.ir_core.specs.declared.operands.Const as constant
use Rattle.ir_core.specs.declared.operands.Const.{Const}
use Rattle.ir_types.specs.declared.ty.Ty as ty
use Rattle.ir_types.specs.declared.ty.Ty.{Ty}
use Rattle.module_grammar.specs.declared.constants.ConstText as const
use Rattle.module_grammar.specs.declared.constants.ConstText.{ConstText, fold-roll-ConstText}
use Rattle.module_grammar.specs.declared.constants.ConstText.TheOpen as const_level
use Rattle.module_grammar.specs.declared.constants.ConstText.TheViews as const_views
use Rattle.module_grammar.specs.declared.constants.GlobalNameText.{GlobalNameText}
use Rattle.module_grammar.specs.declared.constants.InitText as init
use Rattle.module_grammar.specs.declared.constants.InitText.{InitText, fold-roll-InitText}
use Rattle.module_grammar.specs.declared.constants.InitText.TheOpen as init_level
use Rattle.module_grammar.specs.declared.constants.InitText.TheViews as init_views
use Rattle.module_grammar.specs.declared.constants.IntText.{IntText}
use Rattle.module_grammar.specs.declared.places.Placed.{Placed}
use Rattle.module_grammar.specs.declared.types.TypeText.{TypeText, Int, Ptr}
use Rattle.named_modules.specs.Constants.{built_part, built_init_part, const_at_level, const_of, global_name, init_at_level, init_of, number_or_undef}
use Rattle.named_modules.specs.Types.{int_of, type_of}
use Rattle.module_texts.proofs.NamedModuleLaws.Folds.{built_global, built_int, built_null, built_undef, of_int, ptr_to_int}

-- ---- constants

module _ (t : Ty) where
  abbrev const_there : (Ty → Const) → Const
  const_there built = built t

  at_cast : (at : ℕ) (from : TypeText) (c : ConstText) (target : TypeText) → const_of (const.Cast at (from, c, target)) t ≡ constant.Cast (type_of target, (type_of from, const_of c (type_of from)) ∷ [])
  at_cast at from c target =
      ap const_there (ap const_of (sym (const_views.rolls-Cast at (from, c, target))) ∙ fold-roll-ConstText (Ty → Const) const_at_level (const_level.Cast at (from, c, target)))

  at_element : (at : ℕ) (inbounds : Bool) (of base_ty : TypeText) (base : ConstText) (indices : List (TypeText × ConstText))
      → const_of (const.Element at inbounds (of, base_ty, base, indices)) t ≡ constant.Element (inbounds, type_of of, map built_part ((base_ty, const_of base) ∷ map (λ i. (i.0, const_of i.1)) indices))
  at_element at inbounds of base_ty base indices =
      ap const_there (ap const_of (sym (const_views.rolls-Element at inbounds (of, base_ty, base, indices))) ∙ fold-roll-ConstText (Ty → Const) const_at_level (const_level.Element at inbounds (of, base_ty, base, indices)))

-- the number at its own type
number_there : (u : TypeText) (v : Ty) (i : IntText) → type_of u ≡ v → const_of (const.Int i) (type_of u) ≡ number_or_undef (int_of v i)
number_there u v i is = ap (const_of (const.Int i)) is ∙ built_int v i

cast_same : (to other : Ty) (from same : Ty) (c d : Const) → to ≡ other → from ≡ same → c ≡ d → constant.Cast (to, (from, c) ∷ []) ≡ constant.Cast (other, (same, d) ∷ [])
cast_same to other from same c d e f g = cc

-- `bitcast (iV* null to iW*)`
pub recast_null : (t : Ty) (at from_star null target_star : ℕ) (from target : Placed ℕ)
    → const_of (const.Cast at (Ptr from_star (Int from), const.Null null, Ptr target_star (Int target))) t ≡ constant.Cast (ty.Ptr (ty.Int target.what), (ty.Ptr (ty.Int from.what), constant.Null) ∷ [])
recast_null t at from_star null target_star from target =
    at_cast t at (Ptr from_star (Int from)) (const.Null null) (Ptr target_star (Int target))
    ∙ cast_same (type_of (Ptr target_star (Int target))) (ty.Ptr (ty.Int target.what)) (type_of (Ptr from_star (Int from))) (ty.Ptr (ty.Int from.what)) (const_of (const.Null null) (type_of (Ptr from_star (Int from)))) constant.Null (ptr_to_int target_star target) (ptr_to_int from_star from) (built_null (type_of (Ptr from_star (Int from))) null)

element_same : (inbounds : Bool) (of other base same index there : Ty) (b c i j : Const) → of ≡ other → base ≡ same → index ≡ there → b ≡ c → i ≡ j
    → constant.Element (inbounds, of, (base, b) ∷ (index, i) ∷ []) ≡ constant.Element (inbounds, other, (same, c) ∷ (there, j) ∷ [])
element_same inbounds of other base same index there b c i j d e f g h = cc

-- `getelementptr (iU, iV* @x, iW N)`
pub element_of_global : (t : Ty) (at star : ℕ) (inbounds : Bool) (of base index : Placed ℕ) (name : GlobalNameText) (i : IntText)
    → const_of (const.Element at inbounds (Int of, Ptr star (Int base), const.Global name, (Int index, const.Int i) ∷ [])) t
    ≡ constant.Element (inbounds, ty.Int of.what, (ty.Ptr (ty.Int base.what), constant.Global (global_name name).what) ∷ (ty.Int index.what, number_or_undef (int_of (ty.Int index.what) i)) ∷ [])
element_of_global t at star inbounds of base index name i =
    at_element t at inbounds (Int of) (Ptr star (Int base)) (const.Global name) ((Int index, const.Int i) ∷ [])
    ∙ element_same inbounds (type_of (Int of)) (ty.Int of.what) (type_of (Ptr star (Int base))) (ty.Ptr (ty.Int base.what)) (type_of (Int index)) (ty.Int index.what)
    (const_of (const.Global name) (type_of (Ptr star (Int base)))) (constant.Global (global_name name).what) (const_of (const.Int i) (type_of (Int index))) (number_or_undef (int_of (ty.Int index.what) i))
    (of_int of) (ptr_to_int star base) (of_int index) (built_global (type_of (Ptr star (Int base))) name) (number_there (Int index) (ty.Int index.what) i (of_int index))

-- ---- initialisers

module _ (t : Ty) where
  abbrev init_there : (Ty → Init) → Init
  init_there built = built t

  pub start_of_const : (c : ConstText) → init_of (init.Const c) t ≡ start.Const (const_of c t)
  start_of_const c = ap init_there (ap init_of (sym (init_views.rolls-Const c)) ∙ fold-roll-InitText (Ty → Init) init_at_level (init_level.Const c))

  pub start_of_zero : init_of init.Zero t ≡ start.Zero
  start_of_zero = ap init_there (ap init_of (sym init_views.rolls-Zero) ∙ fold-roll-InitText (Ty → Init) init_at_level init_level.Zero)

  pub start_of_bytes : (bytes : Placed (List ℕ)) → init_of (init.Bytes bytes) t ≡ start.Bytes bytes.what
  start_of_bytes bytes = ap init_there (ap init_of (sym (init_views.rolls-Bytes bytes)) ∙ fold-roll-InitText (Ty → Init) init_at_level (init_level.Bytes bytes))

  at_struct : (at : ℕ) (parts : List (TypeText × InitText)) → init_of (init.Struct at parts) t ≡ start.Struct (map built_init_part (map (λ i. (i.0, init_of i.1)) parts))
  at_struct at parts = ap init_there (ap init_of (sym (init_views.rolls-Struct at parts)) ∙ fold-roll-InitText (Ty → Init) init_at_level (init_level.Struct at parts))

struct_same : (a b c d : Ty) (i j k l : Init) → a ≡ b → c ≡ d → i ≡ j → k ≡ l → start.Struct ((a, i) ∷ (c, k) ∷ []) ≡ start.Struct ((b, j) ∷ (d, l) ∷ [])
struct_same a b c d i j k l e f g h = cc

-- `{ iV N, iW undef }`
pub start_of_fields : (t : Ty) (at : ℕ) (first second : Placed ℕ) (i : IntText)
    → init_of (init.Struct at ((Int first, init.Const (const.Int i)) ∷ (Int second, init.Const const.Undef) ∷ [])) t
    ≡ start.Struct ((ty.Int first.what, start.Const (number_or_undef (int_of (ty.Int first.what) i))) ∷ (ty.Int second.what, start.Const constant.Undef) ∷ [])
start_of_fields t at first second i =
    at_struct t at ((Int first, init.Const (const.Int i)) ∷ (Int second, init.Const const.Undef) ∷ [])
    ∙ struct_same (type_of (Int first)) (ty.Int first.what) (type_of (Int second)) (ty.Int second.what)
    (init_of (init.Const (const.Int i)) (type_of (Int first))) (start.Const (number_or_undef (int_of (ty.Int first.what) i))) (init_of (init.Const const.Undef) (type_of (Int second))) (start.Const constant.Undef)
    (of_int first) (of_int second)
    (start_of_const (type_of (Int first)) (const.Int i) ∙ ap start.Const (number_there (Int first) (ty.Int first.what) i (of_int first)))
    (start_of_const (type_of (Int second)) const.Undef ∙ ap start.Const (built_undef (type_of (Int second))))

pub ruleset built_constants = (recast_null, element_of_global, start_of_const, start_of_zero, start_of_bytes, start_of_fields)
