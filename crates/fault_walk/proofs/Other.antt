-- What another rule makes than those that are read, where a line or a block stands, and that nothing is at fault in it.
use Rattle.std.proofs.Common.{◌≡◌, ◌∙◌, ◌++◌, ℕ, Bool, false, List, [], Option, Some, None, refl, ap}
use Rattle.ir_types.specs.declared.ty.Ty.{Ty}
use Rattle.ir_types.specs.declared.names.Name.{Name}
use Rattle.ir_core.specs.Types.{is_first_class}
use Rattle.module_derivations.specs.Ahead.{made_by}
use Rattle.module_derivations.specs.Empty as empty
use Rattle.module_derivations.specs.Empty.{no_name, no_attached, no_operation, no_type}
use Rattle.module_derivations.specs.Parts.{Part}
use Rattle.module_derivations.specs.declared.rule.TheConstants as rule
use Rattle.module_grammar.specs.Joined.{count_from, with_register}
use Rattle.module_grammar.specs.declared.commas.CountBehindText.{CountBehindText}
use Rattle.module_grammar.specs.declared.commas.NextCountText.{NextCountText}
use Rattle.module_grammar.specs.declared.constants.ConstText.{Undef}
use Rattle.module_grammar.specs.declared.flow.BehindText.TheVariants as behind_text
use Rattle.module_grammar.specs.declared.flow.BranchText.{BranchText}
use Rattle.module_grammar.specs.declared.flow.BranchText.TheVariants as branch
use Rattle.module_grammar.specs.declared.lines.CallBodyText.{CallBodyText}
use Rattle.module_grammar.specs.declared.lines.CallBodyText.TheVariants as call
use Rattle.module_grammar.specs.declared.lines.VoidCallText.{VoidCallText}
use Rattle.module_grammar.specs.declared.lines.VoidCalleeText.{VoidCalleeText}
use Rattle.module_grammar.specs.declared.places.Placed.{Placed}
use Rattle.module_grammar.specs.declared.types.CalledText.{CalledText}
use Rattle.module_grammar.specs.declared.types.NextCalledText.{NextCalledText}
use Rattle.module_grammar.specs.declared.types.NextCalledText.TheVariants as next_called
use Rattle.module_grammar.specs.declared.types.TypeText.{TypeText}
use Rattle.module_spelling.specs.Blocks.{Asked, Wanted, asked_at_level, wanted_by_const, wanted_by_operation, wanted_by_void}
use Rattle.module_walk.proofs.Rules.{by_another, either}
use Rattle.name_claims.specs.declared.claims.Fault.{Fault}
use Rattle.name_claims.specs.declared.claims.Reason.TheVariants as reason
use Rattle.named_modules.specs.Faults as faults
use Rattle.named_modules.specs.Faults.{Heads, Things, const_at_level, const_faults, first_of, from, operation_faults, type_faults_at_level, unless, value_type_faults, void_faults}
use Rattle.named_modules.specs.Types.{type_of}
use Rattle.named_modules.proofs.BuiltTypes as built
use Rattle.named_modules.proofs.ConstKinds as kind
use Rattle.named_modules.proofs.TypeKinds as types
use Rattle.fault_walk.proofs.Joined.{told_joined}
use Rattle.fault_walk.specs.Flow.{body_faults, wanted_by_body}
use Rattle.fault_walk.specs.Lines.{counted, counted_faults}
use Rattle.fault_walk.specs.Told.{told_more}
use Rattle.fault_walk.specs.declared.told.Told.{Told}

-- ---- types of parameters that are stated

pub no_next_called : (r : Option ℕ) (s : List Part) → (r ≡ Some rule.CALLED_TYPE → ⊥) → (made_by r s).next_called ≡ next_called.Open
no_next_called r s h =
    let P : NextCalledText → Type 0 = λ w. w ≡ next_called.Open in
    either P r rule.CALLED_OPEN _ _ refl (by_another P r rule.CALLED_TYPE _ _ h refl)

pub no_more_called : (r : Option ℕ) (s : List Part) → (r ≡ Some rule.MORE_CALLED → ⊥) → (made_by r s).more_called ≡ record { types = []; is_open = false }
no_more_called r s h =
    let P : CalledText → Type 0 = λ w. w ≡ record { types = []; is_open = false } in
    by_another P r rule.MORE_CALLED _ _ h refl

pub no_called : (r : Option ℕ) (s : List Part) → (r ≡ Some rule.CALLED → ⊥) → (made_by r s).called ≡ record { types = []; is_open = false }
no_called r s h =
    let P : CalledText → Type 0 = λ w. w ≡ record { types = []; is_open = false } in
    by_another P r rule.CALLED _ _ h refl

pub no_function_type : (r : Option ℕ) (s : List Part) → (r ≡ Some rule.FUNCTION_TYPE → ⊥) → (made_by r s).function_type ≡ None
no_function_type r s h =
    let P : Option CalledText → Type 0 = λ w. w ≡ None in
    by_another P r rule.FUNCTION_TYPE _ _ h refl

pub no_result : (r : Option ℕ) (s : List Part) → (r ≡ Some rule.TYPED_RESULT → ⊥) → (made_by r s).result_type ≡ None
no_result r s h =
    let P : Option TypeText → Type 0 = λ w. w ≡ None in
    either P r rule.VOID_RESULT _ _ refl (by_another P r rule.TYPED_RESULT _ _ h refl)

-- ---- calls

pub no_void_faults :
    (r : Option ℕ) (s : List Part) → (r ≡ Some rule.PLAIN_CALL → ⊥) → (h : Heads) (stated : Placed Name → CalledText) (ts : Things) (is_stated : Bool) (t : Told)
    → told_more h (void_faults h stated ts is_stated (made_by r s).void_call) (wanted_by_void h (made_by r s).void_call) t ≡ t
no_void_faults r s h heads stated ts is_stated t =
    let P : VoidCallText → Type 0 = λ w. told_more heads (void_faults heads stated ts is_stated w) (wanted_by_void heads w) t ≡ t in
    by_another P r rule.PLAIN_CALL _ _ h (either P r rule.DEBUG_CALL _ _ refl refl)

pub no_void_callee :
    (r : Option ℕ) (s : List Part) → (r ≡ Some rule.VOID_CALLEE → ⊥) → (r ≡ Some rule.STATED_CALLEE → ⊥) → (made_by r s).void_callee ≡ empty.no_void_callee
no_void_callee r s h k =
    let P : VoidCalleeText → Type 0 = λ w. w ≡ empty.no_void_callee in
    by_another P r rule.VOID_CALLEE _ _ h (by_another P r rule.STATED_CALLEE _ _ k refl)

pub no_call :
    (r : Option ℕ) (s : List Part) → (r ≡ Some rule.CONVENTION_CALL → ⊥) → (r ≡ Some rule.ATTRIBUTES_CALL → ⊥)
    → (r ≡ Some rule.TYPED_CALL → ⊥) → (r ≡ Some rule.CALL_OF_VOID → ⊥) → (made_by r s).call_body ≡ call.Void empty.no_void_callee
no_call r s h k l m =
    let P : CallBodyText → Type 0 = λ w. w ≡ call.Void empty.no_void_callee in
    by_another P r rule.CONVENTION_CALL _ _ h
    (by_another P r rule.ATTRIBUTES_CALL _ _ k
    (by_another P r rule.TYPED_CALL _ _ l
    (by_another P r rule.CALL_OF_VOID _ _ m refl)))

-- ---- counts

pub no_count :
    (r : Option ℕ) (s : List Part) → (r ≡ Some rule.COUNT_NEXT → ⊥) → (r ≡ Some rule.NO_NEXT_COUNT → ⊥)
    → counted (count_from (made_by r s).next_count).count ≡ Some 1
no_count r s h k =
    let P : NextCountText → Type 0 = λ w. counted (count_from w).count ≡ Some 1 in
    by_another P r rule.COUNT_NEXT _ _ h (by_another P r rule.NO_NEXT_COUNT _ _ k refl)

pub no_count_faults :
    (h : Heads) (r : Option ℕ) (s : List Part) → (r ≡ Some rule.COUNT_NEXT → ⊥) → (r ≡ Some rule.NO_NEXT_COUNT → ⊥)
    → counted_faults h (count_from (made_by r s).next_count) ≡ []
no_count_faults heads r s h k =
    let P : NextCountText → Type 0 = λ w. counted_faults heads (count_from w) ≡ [] in
    by_another P r rule.COUNT_NEXT _ _ h (by_another P r rule.NO_NEXT_COUNT _ _ k refl)

pub no_count_behind :
    (r : Option ℕ) (s : List Part) → (r ≡ Some rule.COUNT_BEHIND → ⊥)
    → (made_by r s).count_behind ≡ record { count = None; behind = record { align = None; attachments = [] } }
no_count_behind r s h =
    let P : CountBehindText → Type 0 = λ w. w ≡ record { count = None; behind = record { align = None; attachments = [] } } in
    by_another P r rule.COUNT_BEHIND _ _ h refl

-- ---- terminators

pub no_branch :
    (r : Option ℕ) (s : List Part) → (r ≡ Some rule.ALWAYS → ⊥) → (r ≡ Some rule.CONDITION → ⊥) → (made_by r s).branch ≡ branch.Always no_name
no_branch r s h k =
    let P : BranchText → Type 0 = λ w. w ≡ branch.Always no_name in
    by_another P r rule.ALWAYS _ _ h (by_another P r rule.CONDITION _ _ k refl)

pub no_cases : (r : Option ℕ) (s : List Part) → (r ≡ Some rule.CASES → ⊥) → (made_by r s).cases ≡ []
no_cases r s h = by_another (λ ws. ws ≡ []) r rule.CASES _ _ h refl

-- ---- nothing is at fault

module _ (h : Heads) where
  no_type_faults : value_type_faults h no_type ≡ []
  no_type_faults =
      let wrong : Fault = from (first_of no_type) 1 reason.WrongType in
      ap (λ (fs : List Fault). fs ++ unless (is_first_class (type_of no_type)) wrong) (types.at_int (List Fault) (type_faults_at_level h) _)
      ∙ ap (λ (t : Ty). unless (is_first_class t) wrong) (built.of_int _)

  no_const_faults : (t : Ty) → const_faults h Undef t ≡ []
  no_const_faults t = ap (λ (x : faults.Told). x.faults t) (kind.at_undef faults.Told (const_at_level h))

  nothing_wanted : wanted_by_const h Undef ≡ []
  nothing_wanted = ap (λ (x : Asked). x.wanted) (kind.at_undef Asked (asked_at_level h))

  three : (a b c : List Fault) (v w : List Wanted) → a ≡ [] → b ≡ [] → c ≡ [] → v ≡ [] → w ≡ [] → (t : Told) → told_more h ((a ++ b) ++ c) (v ++ w) t ≡ t
  three a b c v w p q r x y t =
      ap (λ (a : List Fault). told_more h ((a ++ b) ++ c) (v ++ w) t) p
      ∙ ap (λ (b : List Fault). told_more h (b ++ c) (v ++ w) t) q
      ∙ ap (λ (c : List Fault). told_more h c (v ++ w) t) r
      ∙ ap (λ (v : List Wanted). told_more h [] (v ++ w) t) x
      ∙ ap (λ (w : List Wanted). told_more h [] w t) y

  pub no_operation_told : (ts : Things) (t : Told) → told_more h (operation_faults h ts no_operation) (wanted_by_operation h no_operation) t ≡ t
  no_operation_told ts t =
      three _ _ _ _ _ no_type_faults (no_const_faults (type_of no_type)) (no_const_faults (type_of no_type)) nothing_wanted nothing_wanted t

  -- a line that stands where none is read
  pub no_line_told : (stated : Placed Name → CalledText) (ts : Things) (register : Option (Placed Name)) (t : Told)
      → told_more h (body_faults h stated ts (with_register register (behind_text.Line no_attached []))) (wanted_by_body h (with_register register (behind_text.Line no_attached []))) t ≡ t
  no_line_told stated ts register t =
      told_joined h (operation_faults h ts no_operation) [] (wanted_by_operation h no_operation) [] t ∙ no_operation_told ts t
