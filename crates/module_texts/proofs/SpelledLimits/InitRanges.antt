-- An initialiser that is named is in range at its type where what is written of it is.
use Rattle.std.proofs.Common.{◌≡◌, ◌∙◌, ℕ, ◌^◌, Bool, true, false, ◌&&◌, ◌||◌, nat_lt, List, [], ◌∷◌, length, map, Option, Some, None, refl, sym, ap, subst, lt-ltb}
use Rattle.std.specs.List.{AllByRecursion, list_all}
use Rattle.std.proofs.lemmas.Bool.{and_from, and_parts}
use Rattle.ir_core.proofs.Inits as inits
use Rattle.ir_core.proofs.Ranges as ranges
use Rattle.ir_core.specs.Ranges.{AreBytes, are_written, constant_written, init_at_level, init_written, is_written}
use Rattle.ir_core.specs.Typing.{are_parts, parts_of_array, parts_of_struct}
use Rattle.ir_core.specs.declared.modules.Init as init
use Rattle.ir_core.specs.declared.modules.Init.{Init}
use Rattle.ir_core.specs.declared.modules.Module.{Module}
use Rattle.ir_core.specs.declared.operands.Const.{Const}
use Rattle.ir_types.specs.Same.{same_list, same_ty}
use Rattle.ir_types.specs.declared.ty.Ty.{Ty, out-Ty}
use Rattle.module_grammar.proofs.ConstFolds as const_folds
use Rattle.module_grammar.proofs.InitFolds as folds
use Rattle.module_grammar.specs.Constants as write
use Rattle.module_grammar.specs.Symbols.{close_brace, close_bracket}
use Rattle.module_grammar.specs.Types as types
use Rattle.module_grammar.specs.declared.constants.ConstText.{ConstText}
use Rattle.module_grammar.specs.declared.constants.ConstText.TheViews.{outs-Int, outs-Null, outs-Global, outs-Element, outs-Cast}
use Rattle.module_grammar.specs.declared.constants.InitText.{InitText, Const as OfConst, Zero, Bytes, Array, Struct}
use Rattle.module_grammar.specs.declared.places.Placed.{Placed}
use Rattle.module_grammar.specs.declared.types.TypeText.{TypeText}
use Rattle.named_modules.proofs.ConstKinds as kind
use Rattle.named_modules.proofs.ConstKinds.{told_each}
use Rattle.named_modules.proofs.Lists.{all_left, all_right}
use Rattle.named_modules.specs.Constants as named
use Rattle.named_modules.specs.Constants.{are_types, built_init_part, const_at_level, const_fits, const_of, fits_at_level, fitting_part, init_fits, init_of, is_undef, is_undef_at_level}
use Rattle.named_modules.specs.Types.{type_of}
use Rattle.module_texts.proofs.SpelledLimits.ConstantRanges.{const_range}
use Rattle.module_texts.proofs.SpelledLimits.Lists.{listed_each}
use Rattle.module_texts.proofs.SpelledLimits.SymbolRanges.{AllInRange, IsSymbolInRange}
use Rattle.module_texts.proofs.SpelledLimits.TypeRanges.{type_written}

-- ---- undef

abbrev IsUndefFine : ConstText → Type 0
IsUndefFine c = (t : Ty) → is_undef c ≡ true → constant_written t (const_of c t) ≡ true

undef_fine : (c : ConstText) → IsUndefFine c
undef_fine =
    const_folds.by_parts IsUndefFine
    (λ i t is. let no = sym (ap is_undef_at_level (outs-Int i)) ∙ is in cc)
    (λ at t is. let no = sym (ap is_undef_at_level (outs-Null at)) ∙ is in cc)
    (λ t is. ap (λ (f : Ty → Const). constant_written t (f t)) (kind.at_undef (Ty → Const) const_at_level) ∙ ranges.of_undef t)
    (λ g t is. let no = sym (ap is_undef_at_level (outs-Global g)) ∙ is in cc)
    (λ at is_inbounds of base_ty base indices fine fines t is. let no = sym (ap is_undef_at_level (outs-Element at is_inbounds (of, base_ty, base, indices))) ∙ is in cc)
    (λ at from c target fine t is. let no = sym (ap is_undef_at_level (outs-Cast at (from, c, target))) ∙ is in cc)

-- ---- initialisers

abbrev Of : Type 0
Of = Ty → Bool

bytes_small : (bytes : List ℕ) → AreBytes bytes → list_all (λ b. nat_lt b (2 ^ 8)) bytes ≡ true
bytes_small [] small = refl
bytes_small (b ∷ bytes) small =
    and_from (nat_lt b (2 ^ 8)) (list_all (λ b. nat_lt b (2 ^ 8)) bytes) (lt-ltb b (2 ^ 8) small.0) (bytes_small bytes small.1)

parts_fit : (o : Option (List Ty)) (ps : List (Ty × Of)) → are_parts o ps ≡ true → list_all (λ p. p.1 p.0) ps ≡ true
parts_fit None ps fits = cc
parts_fit (Some ts) ps fits = (and_parts (same_list same_ty ts (map (λ p. p.0) ps)) (list_all (λ p. p.1 p.0) ps) fits).1

module _ (m : Module) where
  abbrev IsFine : InitText → Type 0
  IsFine i = (t : Ty) → AllInRange (write.init i) → init_fits m i t ≡ true → init_written t (init_of i t) ≡ true

  built : (i : InitText) (f : Ty → Init) (t : Ty) → init_of i ≡ f → init_written t (f t) ≡ true → init_written t (init_of i t) ≡ true
  built i f t e is = ap (λ (f : Ty → Init). init_written t (f t)) e ∙ is

  either : (c : ConstText) (t : Ty) (undef : Bool) → is_undef c ≡ undef → (undef || const_fits m c t) ≡ true → AllInRange (write.const c) → constant_written t (const_of c t) ≡ true
  either c t true e fits all = undef_fine c t e
  either c t false e fits all = const_range m c t all fits

  at_const : (c : ConstText) → IsFine (OfConst c)
  at_const c t all fits =
      let fit = sym (ap (λ (f : Of). f t) (kind.at_const Of (fits_at_level m) c)) ∙ fits in
      built (OfConst c) _ t (kind.at_const (Ty → Init) named.init_at_level c)
      (ranges.by_const t (const_of c t) ∙ either c t (is_undef c) refl fit (subst AllInRange (folds.at_const c) all))

  at_zero : IsFine Zero
  at_zero t all fits = built Zero _ t (kind.at_zero (Ty → Init) named.init_at_level) (ranges.by_zero t)

  at_bytes : (bytes : Placed (List ℕ)) → IsFine (Bytes bytes)
  at_bytes bytes t all fits =
      built (Bytes bytes) _ t (kind.at_bytes (Ty → Init) named.init_at_level bytes)
      (ranges.by_bytes t bytes.what ∙ bytes_small bytes.what (subst AllInRange (folds.at_bytes bytes) all).1.0)

  abbrev parts_built : List (TypeText × InitText) → List (Ty × Init)
  parts_built is = map built_init_part (told_each init_of is)

  abbrev all_fit : List (TypeText × InitText) → Bool
  all_fit is = list_all (λ p. p.1 p.0) (map fitting_part (told_each (init_fits m) is))

  -- an initialiser behind its type
  abbrev IsTypedWritten : TypeText × InitText → Type 0
  IsTypedWritten i = AllInRange (write.typed_init i)

  parts_fine : (is : List (TypeText × InitText)) → folds.EachOf IsFine is → AllByRecursion IsTypedWritten is → all_fit is ≡ true → are_written (inits.folded_parts Of init_at_level (parts_built is)) ≡ true
  parts_fine [] fine all fits = refl
  parts_fine (i ∷ is) fine all fits =
      let parts = and_parts (init_fits m i.1 (type_of i.0)) (all_fit is) fits in
      let typed = type_written i.0 (all_left IsSymbolInRange (types.ty i.0) (write.init i.1) all.0) in
      let held = fine.0 (type_of i.0) (all_right IsSymbolInRange (types.ty i.0) (write.init i.1) all.0) parts.0 in
      and_from (is_written (type_of i.0) && init_written (type_of i.0) (init_of i.1 (type_of i.0))) (are_written (inits.folded_parts Of init_at_level (parts_built is)))
      (and_from (is_written (type_of i.0)) (init_written (type_of i.0) (init_of i.1 (type_of i.0))) typed held)
      (parts_fine is fine.1 all.1 parts.1)

  -- where they are all of some list of types
  list_fine : (o : Option (List Ty)) (is : List (TypeText × InitText)) → folds.EachOf IsFine is → AllInRange (write.inits is) → (are_types m (told_each (init_fits m) is) && are_parts o (map fitting_part (told_each (init_fits m) is))) ≡ true → are_written (inits.folded_parts Of init_at_level (parts_built is)) ≡ true
  list_fine o is fine all fits =
      let parts = and_parts (are_types m (told_each (init_fits m) is)) (are_parts o (map fitting_part (told_each (init_fits m) is))) fits in
      parts_fine is fine (listed_each IsSymbolInRange write.typed_init is all) (parts_fit o (map fitting_part (told_each (init_fits m) is)) parts.1)

  at_array : (at : ℕ) (is : List (TypeText × InitText)) → folds.EachOf IsFine is → IsFine (Array at is)
  at_array at is fine t all fits =
      let inside = (subst AllInRange (folds.at_array at is) all).1 in
      let fit = sym (ap (λ (f : Of). f t) (kind.at_array Of (fits_at_level m) at is)) ∙ fits in
      built (Array at is) _ t (kind.at_array (Ty → Init) named.init_at_level at is)
      (ranges.by_array t (parts_built is)
      ∙ list_fine (parts_of_array m.types (out-Ty t) (length (told_each (init_fits m) is))) is fine (all_left IsSymbolInRange (write.inits is) (close_bracket ∷ []) inside) fit)

  by_struct : (t : Ty) (parts : List (Ty × Init)) → init_written t (init.Struct parts) ≡ are_written (inits.folded_parts Of init_at_level parts)
  by_struct t parts = ap (λ (of : Of). of t) (inits.at_struct Of init_at_level parts)

  at_struct : (at : ℕ) (is : List (TypeText × InitText)) → folds.EachOf IsFine is → IsFine (Struct at is)
  at_struct at is fine t all fits =
      let inside = (subst AllInRange (folds.at_struct at is) all).1 in
      let fit = sym (ap (λ (f : Of). f t) (kind.at_struct Of (fits_at_level m) at is)) ∙ fits in
      built (Struct at is) _ t (kind.at_struct (Ty → Init) named.init_at_level at is)
      (by_struct t (parts_built is)
      ∙ list_fine (parts_of_struct m.types (out-Ty t)) is fine (all_left IsSymbolInRange (write.inits is) (close_brace ∷ []) inside) fit)

  pub init_range : (i : InitText) → IsFine i
  init_range = folds.by_parts IsFine at_const at_zero at_bytes at_array at_struct
