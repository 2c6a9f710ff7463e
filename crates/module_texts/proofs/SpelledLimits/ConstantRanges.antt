-- A constant that is named is in range at its type where what is written of it is.
use Rattle.std.proofs.Common.{◌≡◌, ◌∙◌, ℕ, Bool, true, ◌&&◌, List, [], ◌∷◌, ◌++◌, map, Option, Some, None, refl, sym, ap, subst}
use Rattle.std.specs.List.{AllByRecursion, list_all}
use Rattle.std.proofs.lemmas.Bool.{and_from, and_parts}
use Rattle.ir_core.proofs.Constants as constants
use Rattle.ir_core.proofs.Ranges as ranges
use Rattle.ir_core.specs.Ranges.{IsAtomInRange, are_written, constant_at_level, constant_written, is_written}
use Rattle.ir_core.specs.declared.modules.Module.{Module}
use Rattle.ir_core.specs.declared.operands.Atom.TheVariants.{Constant}
use Rattle.ir_core.specs.declared.operands.Const as constant
use Rattle.ir_core.specs.declared.operands.Const.{Const}
use Rattle.ir_types.specs.Same.{same_ty}
use Rattle.ir_types.specs.declared.names.Name.{Name}
use Rattle.ir_types.specs.declared.ty.Ty.{Ty}
use Rattle.module_grammar.proofs.ConstFolds as folds
use Rattle.module_grammar.specs.Constants as write
use Rattle.module_grammar.specs.Listed.{further}
use Rattle.module_grammar.specs.Symbols.{Symbol, close_paren, comma, open_paren, to}
use Rattle.module_grammar.specs.Types as types
use Rattle.module_grammar.specs.declared.constants.ConstText.{ConstText, Int, Null, Undef, Global, Element, Cast}
use Rattle.module_grammar.specs.declared.constants.GlobalNameText.{GlobalNameText}
use Rattle.module_grammar.specs.declared.constants.IntText.{IntText}
use Rattle.module_grammar.specs.declared.types.TypeText.{TypeText}
use Rattle.named_modules.proofs.ConstKinds as kind
use Rattle.named_modules.proofs.ConstKinds.{told_each}
use Rattle.named_modules.proofs.Lists.{all_append, all_left, all_right}
use Rattle.named_modules.specs.Addresses.{address_type}
use Rattle.named_modules.specs.Constants.{Judged, built_part, const_at_level, const_fits, const_of, global_name, index_part, judged, judged_at_level, may_be, number_or_undef, part_fits}
use Rattle.named_modules.specs.Types.{int_of, is_type, is_value_type, type_of}
use Rattle.module_texts.proofs.SpelledLimits.Lists.{further_each}
use Rattle.module_texts.proofs.SpelledLimits.NumberRanges.{int_fits}
use Rattle.module_texts.proofs.SpelledLimits.SymbolRanges.{AllInRange, IsSymbolInRange}
use Rattle.module_texts.proofs.SpelledLimits.TypeRanges.{type_written}

-- a constant behind its type
abbrev IsTypedWritten : TypeText × ConstText → Type 0
IsTypedWritten c = AllInRange (write.typed_const c)

abbrev Of : Type 0
Of = Ty → Bool

module _ (m : Module) where
  abbrev IsFine : ConstText → Type 0
  IsFine c = (t : Ty) → AllInRange (write.const c) → const_fits m c t ≡ true → constant_written t (const_of c t) ≡ true

  -- a constant that is built so is one that is in range
  built : (c : ConstText) (f : Ty → Const) (t : Ty) → const_of c ≡ f → constant_written t (f t) ≡ true → constant_written t (const_of c t) ≡ true
  built c f t e is = ap (λ (f : Ty → Const). constant_written t (f t)) e ∙ is

  number_written : (t : Ty) (i : IntText) (o : Option ℕ) → int_of t i ≡ o → constant_written t (number_or_undef o) ≡ true
  number_written t i None e = ranges.of_undef t
  number_written t i (Some n) e = ranges.of_number t n ∙ int_fits i t n e

  at_int : (i : IntText) → IsFine (Int i)
  at_int i t all fits = built (Int i) _ t (kind.at_int (Ty → Const) const_at_level i) (number_written t i (int_of t i) refl)

  at_null : (at : ℕ) → IsFine (Null at)
  at_null at t all fits = built (Null at) _ t (kind.at_null (Ty → Const) const_at_level at) (ranges.of_null t)

  at_undef : IsFine Undef
  at_undef t all fits = built Undef _ t (kind.at_undef (Ty → Const) const_at_level) (ranges.of_undef t)

  at_global : (g : GlobalNameText) → IsFine (Global g)
  at_global g t all fits = built (Global g) _ t (kind.at_global (Ty → Const) const_at_level g) (ranges.of_global t (global_name g).what)

  part_fine : (c : TypeText × ConstText) → IsFine c.1 → IsTypedWritten c → part_fits m (c.0, judged m c.1) ≡ true → (is_written (type_of c.0) && constant_written (type_of c.0) (const_of c.1 (type_of c.0))) ≡ true
  part_fine c fine all fits =
      let parts = and_parts (is_value_type m c.0) ((judged m c.1).fits (type_of c.0)) fits in
      and_from (is_written (type_of c.0)) (constant_written (type_of c.0) (const_of c.1 (type_of c.0)))
      (type_written c.0 (all_left IsSymbolInRange (types.ty c.0) (write.const c.1) all))
      (fine (type_of c.0) (all_right IsSymbolInRange (types.ty c.0) (write.const c.1) all) parts.1)

  -- what is built of constants behind their types
  abbrev parts_built : List (TypeText × ConstText) → List (Ty × Const)
  parts_built cs = map built_part (told_each const_of cs)

  parts_fine : (cs : List (TypeText × ConstText)) → folds.EachOf IsFine cs → AllByRecursion IsTypedWritten cs → list_all (part_fits m) (told_each (judged m) cs) ≡ true → are_written (constants.folded_parts Of constant_at_level (parts_built cs)) ≡ true
  parts_fine [] fine all fits = refl
  parts_fine (c ∷ cs) fine all fits =
      let parts = and_parts (part_fits m (c.0, judged m c.1)) (list_all (part_fits m) (told_each (judged m) cs)) fits in
      and_from (is_written (type_of c.0) && constant_written (type_of c.0) (const_of c.1 (type_of c.0))) (are_written (constants.folded_parts Of constant_at_level (parts_built cs)))
      (part_fine c fine.0 all.0 parts.0) (parts_fine cs fine.1 all.1 parts.1)

  at_element : (at : ℕ) (is_inbounds : Bool) (of base_ty : TypeText) (base : ConstText) (indices : List (TypeText × ConstText)) → IsFine base → folds.EachOf IsFine indices → IsFine (Element at is_inbounds (of, base_ty, base, indices))
  at_element at is_inbounds of base_ty base indices fine fines t all fits =
      let end : List Symbol = further (map write.typed_const indices) ++ (close_paren ∷ []) in
      let behind : List Symbol = types.ty base_ty ++ (write.const base ++ end) in
      let inside = (all_right IsSymbolInRange (write.inbounds is_inbounds) (open_paren ∷ (types.ty of ++ (comma ∷ behind))) (subst AllInRange (folds.at_element at is_inbounds of base_ty base indices) all).1).1 in
      let rest = (all_right IsSymbolInRange (types.ty of) (comma ∷ behind) inside).1 in
      let base_there = all_left IsSymbolInRange (types.ty base_ty) (write.const base ++ end) rest in
      let based = all_right IsSymbolInRange (types.ty base_ty) (write.const base ++ end) rest in
      let each = further_each IsSymbolInRange write.typed_const indices (all_left IsSymbolInRange (further (map write.typed_const indices)) (close_paren ∷ []) (all_right IsSymbolInRange (write.const base) end based)) in
      let typed : AllByRecursion IsTypedWritten ((base_ty, base) ∷ indices) = (all_append IsSymbolInRange (types.ty base_ty) (write.const base) base_there (all_left IsSymbolInRange (write.const base) end based), each) in
      let parts : List (TypeText × ConstText) = (base_ty, base) ∷ indices in
      let fit = sym (ap (λ (j : Judged). j.fits t) (kind.at_element Judged (judged_at_level m) at is_inbounds of base_ty base indices)) ∙ fits in
      let known = and_parts (is_type m of && list_all (part_fits m) (told_each (judged m) parts)) (may_be (address_type m.types (type_of base_ty) (type_of of) (map index_part (told_each (judged m) indices))) t) fit in
      let each_fits = (and_parts (is_type m of) (list_all (part_fits m) (told_each (judged m) parts)) known.0).1 in
      built (Element at is_inbounds (of, base_ty, base, indices)) _ t (kind.at_element (Ty → Const) const_at_level at is_inbounds of base_ty base indices)
      (ranges.of_element t is_inbounds (type_of of) (parts_built parts)
      ∙ and_from (is_written (type_of of)) (are_written (constants.folded_parts Of constant_at_level (parts_built parts)))
      (type_written of (all_left IsSymbolInRange (types.ty of) (comma ∷ behind) inside)) (parts_fine parts (fine, fines) typed each_fits))

  at_cast : (at : ℕ) (from : TypeText) (c : ConstText) (target : TypeText) → IsFine c → IsFine (Cast at (from, c, target))
  at_cast at from c target fine t all fits =
      let end : List Symbol = types.ty target ++ (close_paren ∷ []) in
      let inside = (subst AllInRange (folds.at_cast at from c target) all).1.1 in
      let rest = all_right IsSymbolInRange (types.ty from) (write.const c ++ (to ∷ end)) inside in
      let typed : AllByRecursion IsTypedWritten ((from, c) ∷ []) = (all_append IsSymbolInRange (types.ty from) (write.const c) (all_left IsSymbolInRange (types.ty from) (write.const c ++ (to ∷ end)) inside) (all_left IsSymbolInRange (write.const c) (to ∷ end) rest), tt) in
      let behind = (all_right IsSymbolInRange (write.const c) (to ∷ end) rest).1 in
      let fit = sym (ap (λ (j : Judged). j.fits t) (kind.at_cast Judged (judged_at_level m) at from c target)) ∙ fits in
      let known = and_parts (part_fits m (from, judged m c) && is_type m target) (same_ty (type_of target) t) fit in
      let part = (and_parts (part_fits m (from, judged m c)) (is_type m target) known.0).0 in
      built (Cast at (from, c, target)) _ t (kind.at_cast (Ty → Const) const_at_level at from c target)
      (ranges.of_cast t (type_of target) (parts_built ((from, c) ∷ []))
      ∙ and_from (is_written (type_of target)) (are_written (constants.folded_parts Of constant_at_level (parts_built ((from, c) ∷ []))))
      (type_written target (all_left IsSymbolInRange (types.ty target) (close_paren ∷ []) behind))
      (parts_fine ((from, c) ∷ []) (fine, tt) typed (and_from (part_fits m (from, judged m c)) true part refl)))

  pub const_range : (c : ConstText) → IsFine c
  const_range = folds.by_parts IsFine at_int at_null at_undef at_global at_element at_cast

pub atom_in_range : (t : Ty) (c : Const) → constant_written t c ≡ true → IsAtomInRange {R = Name} t (Constant c)
atom_in_range t (constant.Number n) is = sym (ranges.of_number t n) ∙ is
atom_in_range t c is = is
