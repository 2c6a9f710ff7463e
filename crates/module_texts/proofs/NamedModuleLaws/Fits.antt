-- What is_type, const_fits and init_fits compute to.
use Rattle.std.proofs.Common.{◌≡◌, ◌∙◌, ℕ, Bool, true, ◌&&◌, ◌||◌, List, map, is_some, sym, ap}
use Rattle.ir_core.proofs.TypeNames as type_names
use Rattle.ir_core.specs.Types.{is_first_class, is_pointer}
use Rattle.ir_core.specs.declared.modules.Module.{Module}
use Rattle.ir_lexer.specs.declared.token.Number.{Number}
use Rattle.ir_types.specs.declared.names.Name.{Name}
use Rattle.ir_types.specs.declared.ty.Ty.{Ty}
use Rattle.module_grammar.specs.declared.constants.ConstText as const
use Rattle.module_grammar.specs.declared.constants.ConstText.{ConstText, fold-ConstText, fold-roll-ConstText}
use Rattle.module_grammar.specs.declared.constants.ConstText.TheOpen as const_level
use Rattle.module_grammar.specs.declared.constants.ConstText.TheViews as const_views
use Rattle.module_grammar.specs.declared.constants.GlobalNameText.{GlobalNameText}
use Rattle.module_grammar.specs.declared.constants.InitText as init
use Rattle.module_grammar.specs.declared.constants.InitText.{InitText, fold-InitText, fold-roll-InitText}
use Rattle.module_grammar.specs.declared.constants.InitText.TheOpen as init_level
use Rattle.module_grammar.specs.declared.constants.InitText.TheViews as init_views
use Rattle.module_grammar.specs.declared.constants.IntText.{IntText}
use Rattle.module_grammar.specs.declared.places.Placed.{Placed}
use Rattle.module_grammar.specs.declared.types.TypeText.{TypeText, Int, Named, Ptr, Array, fold-TypeText, fold-roll-TypeText}
use Rattle.module_grammar.specs.declared.types.TypeText.TheOpen as level
use Rattle.module_grammar.specs.declared.types.TypeText.TheViews.{rolls-Int, rolls-Named, rolls-Ptr, rolls-Array}
use Rattle.named_modules.specs.Constants.{Judged, const_fits, fits_at_level, is_undef, judged_at_level}
use Rattle.named_modules.specs.Types.{counted_at_level, int_of, is_count}
use Rattle.module_texts.proofs.NamedModuleLaws.Builds.{built_constants}
use Rattle.module_texts.proofs.NamedModuleLaws.Folds.{trees}

pub counted_int : (width : Placed ℕ) → fold-TypeText Bool counted_at_level (Int width) ≡ true
counted_int width = ap (fold-TypeText Bool counted_at_level) (sym (rolls-Int width)) ∙ fold-roll-TypeText Bool counted_at_level (level.Int width)

pub counted_named : (name : Placed Name) → fold-TypeText Bool counted_at_level (Named name) ≡ true
counted_named name = ap (fold-TypeText Bool counted_at_level) (sym (rolls-Named name)) ∙ fold-roll-TypeText Bool counted_at_level (level.Named name)

pub counted_array : (at : ℕ) (count : Placed Number) (t : TypeText)
    → fold-TypeText Bool counted_at_level (Array at (count, t)) ≡ (is_count count.what && fold-TypeText Bool counted_at_level t)
counted_array at count t =
    ap (fold-TypeText Bool counted_at_level) (sym (rolls-Array at (count, t))) ∙ fold-roll-TypeText Bool counted_at_level (level.Array at (count, t))

pub counted_ptr : (at : ℕ) (t : TypeText) → fold-TypeText Bool counted_at_level (Ptr at t) ≡ fold-TypeText Bool counted_at_level t
counted_ptr at t = ap (fold-TypeText Bool counted_at_level) (sym (rolls-Ptr at t)) ∙ fold-roll-TypeText Bool counted_at_level (level.Ptr at t)

module _ (m : Module) (t : Ty) where
  abbrev judged_here : ConstText → Judged
  judged_here = fold-ConstText Judged (judged_at_level m)

  abbrev there : Judged → Bool
  there j = j.fits t

  pub null_fits : (at : ℕ) → (fold-ConstText Judged (judged_at_level m) (const.Null at)).fits t ≡ is_pointer t
  null_fits at = ap there (ap judged_here (sym (const_views.rolls-Null at)) ∙ fold-roll-ConstText Judged (judged_at_level m) (const_level.Null at))

  pub undef_fits : (fold-ConstText Judged (judged_at_level m) const.Undef).fits t ≡ is_first_class t
  undef_fits = ap there (ap judged_here (sym const_views.rolls-Undef) ∙ fold-roll-ConstText Judged (judged_at_level m) const_level.Undef)

  pub int_fits : (i : IntText) → (fold-ConstText Judged (judged_at_level m) (const.Int i)).fits t ≡ is_some (int_of t i)
  int_fits i = ap there (ap judged_here (sym (const_views.rolls-Int i)) ∙ fold-roll-ConstText Judged (judged_at_level m) (const_level.Int i))

  pub int_counts : (i : IntText) → (fold-ConstText Judged (judged_at_level m) (const.Int i)).number t ≡ int_of t i
  int_counts i = ap (λ (j : Judged). j.number t) (ap judged_here (sym (const_views.rolls-Int i)) ∙ fold-roll-ConstText Judged (judged_at_level m) (const_level.Int i))

  pub global_fits : (name : GlobalNameText)
      → (fold-ConstText Judged (judged_at_level m) (const.Global name)).fits t ≡ (judged_at_level m (const_level.Global name)).fits t
  global_fits name =
      ap there (ap judged_here (sym (const_views.rolls-Global name)) ∙ fold-roll-ConstText Judged (judged_at_level m) (const_level.Global name))

  pub element_fits : (at : ℕ) (inbounds : Bool) (of base_ty : TypeText) (base : ConstText) (indices : List (TypeText × ConstText))
      → (fold-ConstText Judged (judged_at_level m) (const.Element at inbounds (of, base_ty, base, indices))).fits t
      ≡ (judged_at_level m (const_level.Element at inbounds (of, base_ty, judged_here base, map (λ c. (c.0, judged_here c.1)) indices))).fits t
  element_fits at inbounds of base_ty base indices =
      ap there
      (ap judged_here (sym (const_views.rolls-Element at inbounds (of, base_ty, base, indices)))
      ∙ fold-roll-ConstText Judged (judged_at_level m) (const_level.Element at inbounds (of, base_ty, base, indices)))

  pub cast_fits : (at : ℕ) (from : TypeText) (c : ConstText) (target : TypeText)
      → (fold-ConstText Judged (judged_at_level m) (const.Cast at (from, c, target))).fits t
      ≡ (judged_at_level m (const_level.Cast at (from, judged_here c, target))).fits t
  cast_fits at from c target =
      ap there
      (ap judged_here (sym (const_views.rolls-Cast at (from, c, target)))
      ∙ fold-roll-ConstText Judged (judged_at_level m) (const_level.Cast at (from, c, target)))

  abbrev fitted : InitText → Ty → Bool
  fitted = fold-InitText (Ty → Bool) (fits_at_level m)

  abbrev here : (Ty → Bool) → Bool
  here fits = fits t

  abbrev parts_fitted : List (TypeText × InitText) → List (TypeText × (Ty → Bool))
  parts_fitted = map (λ i. (i.0, fitted i.1))

  pub bytes_fit : (bytes : Placed (List ℕ)) → fold-InitText (Ty → Bool) (fits_at_level m) (init.Bytes bytes) t ≡ fits_at_level m (init_level.Bytes bytes) t
  bytes_fit bytes = ap here (ap fitted (sym (init_views.rolls-Bytes bytes)) ∙ fold-roll-InitText (Ty → Bool) (fits_at_level m) (init_level.Bytes bytes))

  pub array_fits : (at : ℕ) (parts : List (TypeText × InitText))
      → fold-InitText (Ty → Bool) (fits_at_level m) (init.Array at parts) t ≡ fits_at_level m (init_level.Array at (parts_fitted parts)) t
  array_fits at parts =
      ap here (ap fitted (sym (init_views.rolls-Array at parts)) ∙ fold-roll-InitText (Ty → Bool) (fits_at_level m) (init_level.Array at parts))

  pub struct_fits : (at : ℕ) (parts : List (TypeText × InitText))
      → fold-InitText (Ty → Bool) (fits_at_level m) (init.Struct at parts) t ≡ fits_at_level m (init_level.Struct at (parts_fitted parts)) t
  struct_fits at parts =
      ap here (ap fitted (sym (init_views.rolls-Struct at parts)) ∙ fold-roll-InitText (Ty → Bool) (fits_at_level m) (init_level.Struct at parts))

  pub start_fits : (c : ConstText) → fold-InitText (Ty → Bool) (fits_at_level m) (init.Const c) t ≡ (is_undef c || const_fits m c t)
  start_fits c = ap (λ (fits : Ty → Bool). fits t) (ap (fold-InitText (Ty → Bool) (fits_at_level m)) (sym (init_views.rolls-Const c)) ∙ fold-roll-InitText (Ty → Bool) (fits_at_level m) (init_level.Const c))

pub ruleset types_known = (type_names.at_int, type_names.at_ptr, type_names.at_array, type_names.at_named, counted_int, counted_named, counted_ptr, counted_array)

pub ruleset constants_fit = (int_fits, int_counts, null_fits, undef_fits, global_fits, element_fits, cast_fits)

pub ruleset inits_fit = (start_fits, bytes_fit, array_fits, struct_fits)

pub ruleset known = (types_known, constants_fit, inits_fit, const_views.outs-Int, const_views.outs-Null)

-- what is asked of names of types, of counts and of constants computes
pub ruleset named = (known, built_constants, trees)
