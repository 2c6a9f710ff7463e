-- What is told over written constants and initialisers, at each kind.
use Rattle.std.proofs.Common.{◌≡◌, ◌∙◌, ℕ, Bool, List, map, sym, ap}
use Rattle.module_grammar.specs.declared.constants.ConstText.{ConstText, ConstText-F, Int, Null, Undef, Global, Element, Cast, fold-ConstText, fold-roll-ConstText}
use Rattle.module_grammar.specs.declared.constants.ConstText.TheOpen as level
use Rattle.module_grammar.specs.declared.constants.ConstText.TheViews.{rolls-Int, rolls-Null, rolls-Undef, rolls-Global, rolls-Element, rolls-Cast}
use Rattle.module_grammar.specs.declared.constants.GlobalNameText.{GlobalNameText}
use Rattle.module_grammar.specs.declared.constants.InitText.{InitText, InitText-F, Const, Zero, Bytes, Array, Struct, fold-InitText, fold-roll-InitText}
use Rattle.module_grammar.specs.declared.constants.InitText.TheOpen as held
use Rattle.module_grammar.specs.declared.constants.InitText.TheViews.{rolls-Const, rolls-Zero, rolls-Bytes, rolls-Array, rolls-Struct}
use Rattle.module_grammar.specs.declared.constants.IntText.{IntText}
use Rattle.module_grammar.specs.declared.places.Placed.{Placed}
use Rattle.module_grammar.specs.declared.types.TypeText.{TypeText}

-- each behind its type
abbrev pub told_each : {C A : Type 0} → (C → A) → List (TypeText × C) → List (TypeText × A)
told_each f = map (λ c. (c.0, f c.1))

abbrev pub element_level : {A : Type 0} → ℕ → Bool → TypeText → TypeText → A → List (TypeText × A) → ConstText-F A
element_level at is_inbounds of base_ty base indices = level.Element at is_inbounds (of, base_ty, base, indices)

abbrev pub cast_level : {A : Type 0} → ℕ → TypeText → A → TypeText → ConstText-F A
cast_level at from c target = level.Cast at (from, c, target)

module _ (A : Type 0) (step : ConstText-F A → A) where
  abbrev pub told : ConstText → A
  told = fold-ConstText A step

  pub at_int : (i : IntText) → told (Int i) ≡ step (level.Int i)
  at_int i = ap told (sym (rolls-Int i)) ∙ fold-roll-ConstText A step (level.Int i)

  pub at_null : (at : ℕ) → told (Null at) ≡ step (level.Null at)
  at_null at = ap told (sym (rolls-Null at)) ∙ fold-roll-ConstText A step (level.Null at)

  pub at_undef : told Undef ≡ step level.Undef
  at_undef = ap told (sym rolls-Undef) ∙ fold-roll-ConstText A step level.Undef

  pub at_global : (name : GlobalNameText) → told (Global name) ≡ step (level.Global name)
  at_global name = ap told (sym (rolls-Global name)) ∙ fold-roll-ConstText A step (level.Global name)

  pub at_element : (at : ℕ) (is_inbounds : Bool) (of base_ty : TypeText) (base : ConstText) (indices : List (TypeText × ConstText)) → told (Element at is_inbounds (of, base_ty, base, indices)) ≡ step (level.Element at is_inbounds (of, base_ty, told base, told_each told indices))
  at_element at is_inbounds of base_ty base indices =
      ap told (sym (rolls-Element at is_inbounds (of, base_ty, base, indices))) ∙ fold-roll-ConstText A step (level.Element at is_inbounds (of, base_ty, base, indices))

  pub at_cast : (at : ℕ) (from : TypeText) (c : ConstText) (target : TypeText) → told (Cast at (from, c, target)) ≡ step (level.Cast at (from, told c, target))
  at_cast at from c target = ap told (sym (rolls-Cast at (from, c, target))) ∙ fold-roll-ConstText A step (level.Cast at (from, c, target))

abbrev pub const_level : {A : Type 0} → ConstText → InitText-F A
const_level c = held.Const c

abbrev pub bytes_level : {A : Type 0} → Placed (List ℕ) → InitText-F A
bytes_level bytes = held.Bytes bytes

abbrev pub array_level : {A : Type 0} → ℕ → List (TypeText × A) → InitText-F A
array_level at parts = held.Array at parts

abbrev pub struct_level : {A : Type 0} → ℕ → List (TypeText × A) → InitText-F A
struct_level at parts = held.Struct at parts

module _ (A : Type 0) (step : InitText-F A → A) where
  abbrev pub started : InitText → A
  started = fold-InitText A step

  pub at_const : (c : ConstText) → started (Const c) ≡ step (held.Const c)
  at_const c = ap started (sym (rolls-Const c)) ∙ fold-roll-InitText A step (held.Const c)

  pub at_zero : started Zero ≡ step held.Zero
  at_zero = ap started (sym rolls-Zero) ∙ fold-roll-InitText A step held.Zero

  pub at_bytes : (bytes : Placed (List ℕ)) → started (Bytes bytes) ≡ step (held.Bytes bytes)
  at_bytes bytes = ap started (sym (rolls-Bytes bytes)) ∙ fold-roll-InitText A step (held.Bytes bytes)

  pub at_array : (at : ℕ) (parts : List (TypeText × InitText)) → started (Array at parts) ≡ step (held.Array at (told_each started parts))
  at_array at parts = ap started (sym (rolls-Array at parts)) ∙ fold-roll-InitText A step (held.Array at parts)

  pub at_struct : (at : ℕ) (parts : List (TypeText × InitText)) → started (Struct at parts) ≡ step (held.Struct at (told_each started parts))
  at_struct at parts = ap started (sym (rolls-Struct at parts)) ∙ fold-roll-InitText A step (held.Struct at parts)
