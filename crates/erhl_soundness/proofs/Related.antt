-- What is known of two sides holds over an aligned line, by pairs of their blocks.
use Rattle.std.proofs.Common.{◌≡◌, ◌⊎◌, inl, inr, Bool, true, false, ◌&&◌, ◌||◌, not, cond, List, [], ◌∷◌, map, Option, None, Some, refl, sym, ap, ◌∙◌, subst, subst₂, ⊎_elim}
use Rattle.std.proofs.lemmas.Bool.{false≢true, cond_both}
use Rattle.std.specs.List.{AllByRecursion, AllZip}
use Rattle.std.specs.Option.{is_none}
use Rattle.ir_types.specs.declared.named.NamedTy.{NamedTy}
use Rattle.ir_types.specs.declared.names.Name.{Name}
use Rattle.ir_core.specs.declared.values.Value.{Value}
use Rattle.ir_core.specs.declared.values.Value.TheVariants.{Poison}
use Rattle.ir_core.specs.declared.operands.Flags.{Flags}
use Rattle.ir_core.specs.declared.functions.Calm.{Calm}
use Rattle.ir_core.specs.declared.functions.Instr.{Instr}
use Rattle.ir_core.specs.declared.functions.Instr.TheVariants as line
use Rattle.ir_core.specs.declared.functions.Store.{Store}
use Rattle.ir_core.specs.declared.expressions.Binary.{Binary}
use Rattle.ir_core.specs.declared.expressions.Icmp.{Icmp}
use Rattle.ir_core.specs.declared.expressions.Cast.{Cast}
use Rattle.ir_core.specs.declared.expressions.Select.{Select}
use Rattle.ir_core.specs.declared.expressions.Element.{Element}
use Rattle.ir_core.specs.declared.expressions.Load.{Load}
use Rattle.ir_core.specs.declared.operands.Operand.{Operand}
use Rattle.ir_core.specs.declared.expressions.Expr.{Expr}
use Rattle.ir_core.specs.declared.expressions.Expr.TheVariants as expr
use Rattle.ir_core.specs.declared.expressions.Reg.TheVariants as reg
use Rattle.ir_types.specs.Same.{same_list, same_name, same_ty}
use Rattle.ir_core.specs.Same.{same_op, same_cast, same_pred}
use Rattle.ir_types.specs.NameLaws.{left_true, right_true, same_name_true}
use Rattle.ir_types.proofs.SameLaws.{same_ty_true}
use Rattle.ir_core.proofs.SameLaws.{same_op_true, same_cast_true, same_pred_true}
use Rattle.ir_values.specs.PointerLaws.{AreIndicesRelated}
use Rattle.ir_values.specs.Related.{AreOutcomesRelated, IsRelated, Pairing}
use Rattle.ir_values.specs.Laws.{flags_among}
use Rattle.ir_core.specs.declared.operands.CastOp.{CastOp}
use Rattle.ir_types.specs.declared.ty.Ty.{Ty}
use Rattle.ir_values.specs.Selections.{select_outcome}
use Rattle.ir_core.specs.Types.{converts, kind_of}
use Rattle.ir_core.specs.Expressions.{type_of, operands_in}
use Rattle.ir_core.specs.Typing.{index_of}
use Rattle.ir_values.specs.declared.operations.Outcome.{Outcome}
use Rattle.ir_values.specs.declared.operations.Outcome.TheVariants.{Gives, Trap}
use Rattle.ir_values.specs.Addresses.{gep_outcome}
use Rattle.ir_values.specs.Constants.{Scope, width_of}
use Rattle.block_memory.specs.Memory.{Memory, loaded_of}
use Rattle.ir_machine.specs.Registers.{read, atom_value, operand_value, binary_at, icmp_at, cast_at, selects, size_at, align_or, is_stated, index_value, element_from, outcome}
use Rattle.ir_machine.specs.Machine.{made_block, set_to, stored_by, with_memory}
use Rattle.erhl_assert.specs.declared.facts.Assertion.{Assertion}
use Rattle.erhl_assert.specs.Sides.{RegisterFiles, SideState, AreRelated, no_ghost}
use Rattle.erhl_assert.specs.Facts.{AssertionHolds, Holds}
use Rattle.erhl_assert.specs.declared.verdict.Reason.{Reason}
use Rattle.erhl_assert.specs.declared.verdict.Reason.TheVariants.{Unmatched, TargetMayTrap}
use Rattle.erhl_assert.specs.Matched.{matched, atoms_matched, are_matched}
use Rattle.erhl_assert.specs.Allowed.{same_operator, keep_numbers, keeps_alignment, may_trap, first_unmatched, right_fault, line_fault_of, stated_types}
use Rattle.erhl_assert.specs.Postcondition.{flags_agree, rights_agree, lines_agree, without_reg, with_reg, diff_after, after_line, facts_after}
use Rattle.erhl_soundness.specs.Laws.{ALineKeepsWhatHolds, MatchedOperandsAreRelated}
use Rattle.erhl_soundness.specs.MemoryLaws.{side_set}
use Rattle.erhl_soundness.specs.TwoSides.{AreCommon, ArePairsMore, AreSides, Keeps, LineLeads}
use Rattle.erhl_soundness.proofs.Trapping.{no_trap}
use Rattle.erhl_soundness.proofs.Addresses.{IsIndexKept, indices_kept, stated_on, stated_related}
use Rattle.erhl_soundness.proofs.Loads.{known_no_trap, load_traps, loads_give}
use Rattle.erhl_soundness.proofs.Operators.{element_related, binary_related, icmp_related, cast_related, select_related, traps_whatever_flags, only_trap, flags_among_themselves}
use Rattle.erhl_soundness.proofs.CalmLines.{set_fine, set_made}
use Rattle.erhl_soundness.proofs.Changing.{related_both, related_source, related_target}
use Rattle.erhl_soundness.proofs.Leading.{set_by, side_led, stored_in}
use Rattle.erhl_soundness.proofs.Lines.{gives_on, set_now, facts_after_hold}
use Rattle.erhl_soundness.proofs.Matched.{matched_related, matched_type, atoms_matched_related}
use Rattle.erhl_soundness.proofs.MemoryLines as of_memory

-- what it takes of two right sides to agree
record Agree (known : Assertion) (s t : Expr Name) : Type 0 where
  operator : same_operator s t ≡ true
  flags : flags_agree s t ≡ true
  operands : are_matched known (operands_in s) (operands_in t) ≡ true

agree_parts : (known : Assertion) (s t : Expr Name) → rights_agree known s t ≡ true → Agree known s t
agree_parts known s t h =
    let operator = same_operator s t in
    let flags = flags_agree s t in
    let operands = are_matched known (operands_in s) (operands_in t) in
    let two : (operator && flags) ≡ true = left_true (operator && flags) operands h in
    record { operator = left_true operator flags two; flags = right_true operator flags two; operands = right_true (operator && flags) operands h }

-- a fault that isn't there
no_right_fault : (may same : Bool) (o : Option Reason) (r : Reason) → cond may (cond same o (Some r)) None ≡ None → (may ≡ false) ⊎ ((same ≡ true) × (o ≡ None))
no_right_fault false same o r h = inl refl
no_right_fault true true o r h = inr (refl, h)
no_right_fault true false o r h = absurd (cc)

no_target_fault : (may : Bool) (r : Reason) → cond may (Some r) None ≡ None → may ≡ false
no_target_fault false r h = refl
no_target_fault true r h = absurd (cc)

both_matched : (p q : Bool) (x y : Reason) → cond p (cond q None (Some x)) (Some y) ≡ None → (p ≡ true) × (q ≡ true)
both_matched true true x y h = (refl, refl)
both_matched true false x y h = absurd (cc)
both_matched false q x y h = absurd (cc)

one_matched : (p : Bool) (x : Reason) → cond p None (Some x) ≡ None → p ≡ true
one_matched true x h = refl
one_matched false x h = absurd (cc)

-- flags of addresses that agree
inbounds_kept : (few many : Bool) → (not few || many) ≡ true → few ≡ true → many ≡ true
inbounds_kept true many h e = h
inbounds_kept false many h e = absurd (false≢true e)

-- values of related outcomes
both_give : (ps : Pairing) (o p : Outcome) → AreOutcomesRelated ps o p → (v w : Value) → o ≡ Gives v → p ≡ Gives w → IsRelated ps v w
both_give ps o p less v w h e = subst₂ (AreOutcomesRelated ps) h e less

-- right sides that agree have one type, and give related values
module _ (ps : Pairing) (known : Assertion) (source target : SideState) (common : AreCommon ps source target) (holds : AssertionHolds ps no_ghost known source target) where
  binaries_related : (s t : Binary Name) (many few : Flags) → flags_among few many ≡ true → s.op ≡ t.op → s.ty ≡ t.ty
      → atoms_matched known s.ty s.left t.ty t.left ≡ true → atoms_matched known s.ty s.right t.ty t.right ≡ true
      → AreOutcomesRelated ps
      (binary_at s.op many (kind_of s.ty) (atom_value source.scope (read source.files.now) s.ty s.left) (atom_value source.scope (read source.files.now) s.ty s.right))
      (binary_at t.op few (kind_of t.ty) (atom_value target.scope (read target.files.now) t.ty t.left) (atom_value target.scope (read target.files.now) t.ty t.right))
  binaries_related s t many few flags op type left right =
      let a = atom_value source.scope (read source.files.now) s.ty s.left in
      let b = atom_value source.scope (read source.files.now) s.ty s.right in
      let c = atom_value target.scope (read target.files.now) t.ty t.left in
      let d = atom_value target.scope (read target.files.now) t.ty t.right in
      subst₂ (λ o k. AreOutcomesRelated ps (binary_at s.op many (kind_of s.ty) a b) (binary_at o few k c d)) op (ap kind_of type)
      (binary_related ps s.op many few (kind_of s.ty) a b c d flags
      (atoms_matched_related ps known source target common holds s.ty s.left t.ty t.left left)
      (atoms_matched_related ps known source target common holds s.ty s.right t.ty t.right right))

  comparisons_related : (s t : Icmp Name) → s.pred ≡ t.pred → s.ty ≡ t.ty
      → atoms_matched known s.ty s.left t.ty t.left ≡ true → atoms_matched known s.ty s.right t.ty t.right ≡ true
      → AreOutcomesRelated ps (gives_on source (expr.Icmp s)) (gives_on target (expr.Icmp t))
  comparisons_related s t pred type left right =
      let a = atom_value source.scope (read source.files.now) s.ty s.left in
      let b = atom_value source.scope (read source.files.now) s.ty s.right in
      let c = atom_value target.scope (read target.files.now) t.ty t.left in
      let d = atom_value target.scope (read target.files.now) t.ty t.right in
      subst₂ (λ o k. AreOutcomesRelated ps (icmp_at source.world.memory s.pred (kind_of s.ty) a b) (icmp_at target.world.memory o k c d)) pred (ap kind_of type)
      (icmp_related ps source.world.memory target.world.memory common.memories s.pred (kind_of s.ty) a b c d
      (atoms_matched_related ps known source target common holds s.ty s.left t.ty t.left left)
      (atoms_matched_related ps known source target common holds s.ty s.right t.ty t.right right))

  conversions_related : (s t : Cast Name) → s.op ≡ t.op → s.operand.ty ≡ t.operand.ty → s.to ≡ t.to → matched known s.operand t.operand ≡ true
      → AreOutcomesRelated ps (gives_on source (expr.Cast s)) (gives_on target (expr.Cast t))
  conversions_related s t op from to operand =
      let a = operand_value source.scope (read source.files.now) s.operand in
      let b = operand_value target.scope (read target.files.now) t.operand in
      let at : CastOp → Ty → Ty → Outcome = λ o j k. cond (converts o j k) (cast_at o (kind_of j) (kind_of k) b) (Gives Poison) in
      let first = gives_on source (expr.Cast s) in
      subst (λ k. AreOutcomesRelated ps first (at t.op t.operand.ty k)) to
      (subst₂ (λ o j. AreOutcomesRelated ps first (at o j s.to)) op from
      (cast_related ps s.op s.operand.ty s.to a b (matched_related ps known source target common holds s.operand t.operand operand)))

  selections_related : (s t : Select Name) → s.condition.ty ≡ t.condition.ty → s.left.ty ≡ t.left.ty → s.right.ty ≡ t.right.ty
      → matched known s.condition t.condition ≡ true → matched known s.left t.left ≡ true → matched known s.right t.right ≡ true
      → AreOutcomesRelated ps (gives_on source (expr.Select s)) (gives_on target (expr.Select t))
  selections_related s t condition left right of_condition of_left of_right =
      let d = operand_value target.scope (read target.files.now) t.condition in
      let e = operand_value target.scope (read target.files.now) t.left in
      let f = operand_value target.scope (read target.files.now) t.right in
      let at : Ty → Ty → Ty → Outcome = λ j l r. cond (selects j l r) (select_outcome d e f) (Gives Poison) in
      let first = gives_on source (expr.Select s) in
      subst (λ r. AreOutcomesRelated ps first (at t.condition.ty t.left.ty r)) right
      (subst₂ (λ j l. AreOutcomesRelated ps first (at j l s.right.ty)) condition left
      (select_related ps s.condition.ty s.left.ty s.right.ty
      (operand_value source.scope (read source.files.now) s.condition) (operand_value source.scope (read source.files.now) s.left) (operand_value source.scope (read source.files.now) s.right) d e f
      (matched_related ps known source target common holds s.condition t.condition of_condition)
      (matched_related ps known source target common holds s.left t.left of_left)
      (matched_related ps known source target common holds s.right t.right of_right)))

  indices_related : (xs ys : List (Operand Name)) → are_matched known xs ys ≡ true
      → AllZip (AreIndicesRelated ps) (map (index_value source.scope (read source.files.now)) xs) (map (index_value target.scope (read target.files.now)) ys)
  indices_related [] [] h = tt
  indices_related (a ∷ xs) (b ∷ ys) h =
      let here = left_true (matched known a b) (are_matched known xs ys) h in (
        (ap width_of (sym (matched_type known a b here)), matched_related ps known source target common holds a b here),
        indices_related xs ys (right_true (matched known a b) (are_matched known xs ys) h),
      )
  indices_related [] (b ∷ ys) h = absurd (false≢true h)
  indices_related (a ∷ xs) [] h = absurd (false≢true h)

  addresses_related : (s t : Element Name) → s.of ≡ t.of → s.to ≡ t.to → s.base.ty ≡ t.base.ty → AllZip IsIndexKept (map index_of s.indices) (map index_of t.indices)
      → (t.inbounds ≡ true → s.inbounds ≡ true) → matched known s.base t.base ≡ true → are_matched known s.indices t.indices ≡ true
      → AreOutcomesRelated ps (gives_on source (expr.Element s)) (gives_on target (expr.Element t))
  addresses_related s t of to base kept fewer of_base of_indices =
      let types = source.scope.types in
      let a = operand_value source.scope (read source.files.now) s.base in
      let b = operand_value target.scope (read target.files.now) t.base in
      let is = map (index_value source.scope (read source.files.now)) s.indices in
      let js = map (index_value target.scope (read target.files.now)) t.indices in
      let from : List NamedTy → Ty → Outcome = λ types of. gep_outcome t.inbounds types of b (size_at target.world.memory b) js in
      let first = gives_on source (expr.Element s) in
      subst (λ (scope : Scope). AreOutcomesRelated ps first (cond (is_stated scope.types t) (from scope.types t.of) (Gives Poison))) common.scope
      (subst (λ o. AreOutcomesRelated ps first (cond (is_stated types t) (from types o) (Gives Poison))) of
      (stated_related ps (is_stated types s) (is_stated types t) (element_from source.scope (read source.files.now) source.world.memory s a) (from types s.of)
      (stated_on types s t of to base kept)
      (element_related ps source.world.memory target.world.memory common.memories s.inbounds t.inbounds fewer types s.of a b is js
      (matched_related ps known source target common holds s.base t.base of_base) (indices_related s.indices t.indices of_indices)) tt))

  -- two loads that gave values, whatever their alignments
  loads_related : (s t : Load Name) → s.of ≡ t.of → matched known s.pointer t.pointer ≡ true
      → (v w : Value) → gives_on source (expr.Load s) ≡ Gives v → gives_on target (expr.Load t) ≡ Gives w → IsRelated ps v w
  loads_related s t of pointer v w h e =
      let a = operand_value source.scope (read source.files.now) s.pointer in
      let c = operand_value target.scope (read target.files.now) t.pointer in
      let align = align_or target.scope.types t.of t.align in
      loads_give ps source.world.memory target.world.memory common.memories (kind_of s.of) a c v w (align_or source.scope.types s.of s.align) align
      (matched_related ps known source target common holds s.pointer t.pointer pointer) h
      (subst (λ k. loaded_of target.world.memory k c align ≡ Gives w) (sym (ap kind_of of)) e)

  abbrev RightsRelated : Expr Name → Expr Name → Type 0
  RightsRelated e f = (type_of e ≡ type_of f) × ((v w : Value) → gives_on source e ≡ Gives v → gives_on target f ≡ Gives w → IsRelated ps v w)

  related_so : (e f : Expr Name) → type_of e ≡ type_of f → AreOutcomesRelated ps (gives_on source e) (gives_on target f) → RightsRelated e f
  related_so e f type less = (type, both_give ps (gives_on source e) (gives_on target f) less)

  rights_related : (e f : Expr Name) → Agree known e f → RightsRelated e f
  rights_related (expr.Plain a) (expr.Plain b) agree =
      let same = left_true (matched known a b) true agree.operands in related_so (expr.Plain a) (expr.Plain b) (matched_type known a b same) (matched_related ps known source target common holds a b same)
  rights_related (expr.Binary s) (expr.Binary t) agree =
      let op = same_op s.op t.op in
      let type = same_ty_true s.ty t.ty (right_true op (same_ty s.ty t.ty) agree.operator) in
      let left = atoms_matched known s.ty s.left t.ty t.left in
      let right = atoms_matched known s.ty s.right t.ty t.right in
      related_so (expr.Binary s) (expr.Binary t) type
      (binaries_related s t s.flags t.flags agree.flags (same_op_true s.op t.op (left_true op (same_ty s.ty t.ty) agree.operator)) type
      (left_true left (right && true) agree.operands) (left_true right true (right_true left (right && true) agree.operands)))
  rights_related (expr.Icmp s) (expr.Icmp t) agree =
      let pred = same_pred s.pred t.pred in
      let left = atoms_matched known s.ty s.left t.ty t.left in
      let right = atoms_matched known s.ty s.right t.ty t.right in
      related_so (expr.Icmp s) (expr.Icmp t) refl
      (comparisons_related s t (same_pred_true s.pred t.pred (left_true pred (same_ty s.ty t.ty) agree.operator))
      (same_ty_true s.ty t.ty (right_true pred (same_ty s.ty t.ty) agree.operator))
      (left_true left (right && true) agree.operands) (left_true right true (right_true left (right && true) agree.operands)))
  rights_related (expr.Cast s) (expr.Cast t) agree =
      let op = same_cast s.op t.op in
      let from = same_ty s.operand.ty t.operand.ty in
      let to = same_ty s.to t.to in
      let two : (op && from) ≡ true = left_true (op && from) to agree.operator in
      let type = same_ty_true s.to t.to (right_true (op && from) to agree.operator) in
      related_so (expr.Cast s) (expr.Cast t) type
      (conversions_related s t (same_cast_true s.op t.op (left_true op from two)) (same_ty_true s.operand.ty t.operand.ty (right_true op from two)) type
      (left_true (matched known s.operand t.operand) true agree.operands))
  rights_related (expr.Select s) (expr.Select t) agree =
      let condition = same_ty s.condition.ty t.condition.ty in
      let left = same_ty s.left.ty t.left.ty in
      let right = same_ty s.right.ty t.right.ty in
      let two : (condition && left) ≡ true = left_true (condition && left) right agree.operator in
      let of_condition = matched known s.condition t.condition in
      let of_left = matched known s.left t.left in
      let of_right = matched known s.right t.right in
      let arms : (of_left && (of_right && true)) ≡ true = right_true of_condition (of_left && (of_right && true)) agree.operands in
      let type = same_ty_true s.left.ty t.left.ty (right_true condition left two) in
      related_so (expr.Select s) (expr.Select t) type
      (selections_related s t (same_ty_true s.condition.ty t.condition.ty (left_true condition left two)) type
      (same_ty_true s.right.ty t.right.ty (right_true (condition && left) right agree.operator))
      (left_true of_condition (of_left && (of_right && true)) agree.operands) (left_true of_left (of_right && true) arms)
      (left_true of_right true (right_true of_left (of_right && true) arms)))
  rights_related (expr.Element s) (expr.Element t) agree =
      let of = same_ty s.of t.of in
      let to = same_ty s.to t.to in
      let base = same_ty s.base.ty t.base.ty in
      let others = same_list same_ty (stated_types s.indices) (stated_types t.indices) in
      let numbers = keep_numbers s.indices t.indices in
      let first = matched known s.base t.base in
      let rest = are_matched known s.indices t.indices in
      let three : (of && to && (base && others)) ≡ true = left_true (of && to && (base && others)) numbers agree.operator in
      let two : (of && to) ≡ true = left_true (of && to) (base && others) three in
      let types : (base && others) ≡ true = right_true (of && to) (base && others) three in
      let type = same_ty_true s.to t.to (right_true of to two) in
      related_so (expr.Element s) (expr.Element t) type
      (addresses_related s t (same_ty_true s.of t.of (left_true of to two)) type (same_ty_true s.base.ty t.base.ty (left_true base others types))
      (indices_kept s.indices t.indices (right_true base others types) (right_true (of && to && (base && others)) numbers agree.operator))
      (inbounds_kept t.inbounds s.inbounds agree.flags) (left_true first rest agree.operands) (right_true first rest agree.operands))
  rights_related (expr.Load s) (expr.Load t) agree =
      let type = same_ty_true s.of t.of (left_true (same_ty s.of t.of) (same_ty s.pointer.ty t.pointer.ty) agree.operator) in
      (type, loads_related s t type (left_true (matched known s.pointer t.pointer) true agree.operands))
  rights_related e f agree = absurd (false≢true agree.operator)

  -- where right sides of one operator have matched operands, and the target's traps, the source's does
  same_traps : (s t : Expr Name) → same_operator s t ≡ true → keeps_alignment source.scope.types s t ≡ true → first_unmatched known (operands_in s) (operands_in t) ≡ None
      → gives_on target t ≡ Trap → gives_on source s ≡ Trap
  same_traps (expr.Binary s) (expr.Binary t) same aligned none traps =
      let left = matched known (record { ty = s.ty; atom = s.left }) (record { ty = t.ty; atom = t.left }) in
      let right = matched known (record { ty = s.ty; atom = s.right }) (record { ty = t.ty; atom = t.right }) in
      let op = same_op s.op t.op in
      let operands = both_matched left right (Unmatched (record { ty = s.ty; atom = s.right }) (record { ty = t.ty; atom = t.right }))
      (Unmatched (record { ty = s.ty; atom = s.left }) (record { ty = t.ty; atom = t.left })) none in
      let less = binaries_related s t s.flags s.flags (flags_among_themselves s.flags) (same_op_true s.op t.op (left_true op (same_ty s.ty t.ty) same))
      (same_ty_true s.ty t.ty (right_true op (same_ty s.ty t.ty) same)) operands.0 operands.1 in
      only_trap ps (gives_on source (expr.Binary s))
      (subst (λ o. AreOutcomesRelated ps (gives_on source (expr.Binary s)) o)
      (traps_whatever_flags t.op t.flags s.flags (kind_of t.ty) (atom_value target.scope (read target.files.now) t.ty t.left)
      (atom_value target.scope (read target.files.now) t.ty t.right) traps) less)
  same_traps (expr.Load s) (expr.Load t) same aligned none traps =
      let of = same_ty_true s.of t.of (left_true (same_ty s.of t.of) (same_ty s.pointer.ty t.pointer.ty) same) in
      let a = operand_value source.scope (read source.files.now) s.pointer in
      let c = operand_value target.scope (read target.files.now) t.pointer in
      let few = align_or source.scope.types t.of t.align in
      load_traps ps source.world.memory target.world.memory common.memories (kind_of s.of) few (align_or source.scope.types s.of s.align) aligned a c
      (matched_related ps known source target common holds s.pointer t.pointer (one_matched (matched known s.pointer t.pointer) (Unmatched s.pointer t.pointer) none))
      (subst (λ k. loaded_of target.world.memory k c few ≡ Trap) (sym (ap kind_of of))
      (subst (λ (scope : Scope). loaded_of target.world.memory (kind_of t.of) c (align_or scope.types t.of t.align) ≡ Trap) (sym common.scope) traps))
  same_traps s (expr.Plain t) same aligned none traps = absurd (no_trap target.scope (read target.files.now) target.world.memory (expr.Plain t) refl traps)
  same_traps s (expr.Icmp t) same aligned none traps = absurd (no_trap target.scope (read target.files.now) target.world.memory (expr.Icmp t) refl traps)
  same_traps s (expr.Cast t) same aligned none traps = absurd (no_trap target.scope (read target.files.now) target.world.memory (expr.Cast t) refl traps)
  same_traps s (expr.Select t) same aligned none traps = absurd (no_trap target.scope (read target.files.now) target.world.memory (expr.Select t) refl traps)
  same_traps s (expr.Element t) same aligned none traps = absurd (no_trap target.scope (read target.files.now) target.world.memory (expr.Element t) refl traps)
  same_traps s t same aligned none traps = absurd (false≢true same)

  target_no_trap : (t : Expr Name) → may_trap source.scope.types known t ≡ false → gives_on target t ≡ Trap → ⊥
  target_no_trap t safe traps = known_no_trap target known holds.target_facts t (subst (λ (scope : Scope). may_trap scope.types known t ≡ false) common.scope safe) traps

  -- WHERE THE TARGET'S RIGHT SIDE TRAPS beside the source's, and the line is allowed, the source's traps
  allowed_traps : (s t : Expr Name) → right_fault source.scope.types known s t ≡ None → gives_on target t ≡ Trap → gives_on source s ≡ Trap
  allowed_traps s t fault traps =
      let same = same_operator s t in
      let aligned = keeps_alignment source.scope.types s t in ⊎_elim
      (λ e. absurd (target_no_trap t e traps))
      (λ e. same_traps s t (left_true same aligned e.0) (right_true same aligned e.0) e.1 traps)
      (no_right_fault (may_trap source.scope.types known t) (same && aligned) (first_unmatched known (operands_in s) (operands_in t)) TargetMayTrap fault)

-- two lines that gave values
module _ (ps : Pairing) (known : Assertion) (source target : SideState) (common : AreCommon ps source target) (holds : AssertionHolds ps no_ghost known source target)
    (s t : Calm) (v w : Value) (source_gives : gives_on source s.right ≡ Gives v) (target_gives : gives_on target t.right ≡ Gives w) where
  agree_related : lines_agree known s t ≡ true → AreRelated ps no_ghost (without_reg (reg.Now s.name) known.diff) (side_set s v source) (side_set t w target)
  agree_related h =
      let rights = rights_related ps known source target common holds s.right t.right
      (agree_parts known s.right t.right (right_true (same_name s.name t.name) (rights_agree known s.right t.right) h)) in
      let name = same_name_true s.name t.name (left_true (same_name s.name t.name) (rights_agree known s.right t.right) h) in
      let related : IsRelated ps v w = rights.1 v w source_gives target_gives in
      subst₂ (λ x k. AreRelated ps no_ghost (without_reg (reg.Now s.name) known.diff) (side_set s v source) (set_now target x k w))
      name (ap kind_of rights.0)
      (related_both ps known.diff source target s.name (kind_of (type_of s.right)) v w related holds.related)

  pub both_related : AreRelated ps no_ghost (diff_after known (Some (line.Calm s)) (Some (line.Calm t))) (side_set s v source) (side_set t w target)
  both_related =
      cond_both (lines_agree known s t) (without_reg (reg.Now s.name) known.diff)
      (with_reg (reg.Now t.name) (with_reg (reg.Now s.name) known.diff))
      (λ diff. AreRelated ps no_ghost diff (side_set s v source) (side_set t w target))
      agree_related
      (λ e.
      related_target ps (with_reg (reg.Now s.name) known.diff) (side_set s v source) target
      (related_source ps known.diff source target holds.related s.name (kind_of (type_of s.right)) v)
      t.name (kind_of (type_of t.right)) w)

-- ---- where lines lead

-- a call isn't allowed, so no line that is allowed is one
abbrev pub MaySet : Option Instr → Type 0
MaySet None = Unit {0}
MaySet (Some (line.Calm l)) = Unit {0}
MaySet (Some (line.Alloca a)) = Unit {0}
MaySet (Some (line.Store s)) = Unit {0}
MaySet (Some (line.Call c)) = ⊥

pub source_may : (types : List NamedTy) (known : Assertion) (i j : Option Instr) → line_fault_of types known i j ≡ None → MaySet i
source_may types known None j allowed = tt
source_may types known (Some (line.Calm s)) j allowed = tt
source_may types known (Some (line.Alloca a)) j allowed = tt
source_may types known (Some (line.Store s)) j allowed = tt
source_may types known (Some (line.Call c)) j allowed = absurd (cc)

pub target_may : (types : List NamedTy) (known : Assertion) (i j : Option Instr) → line_fault_of types known i j ≡ None → MaySet j
target_may types known i None allowed = tt
target_may types known i (Some (line.Calm t)) allowed = tt
target_may types known i (Some (line.Alloca a)) allowed = tt
target_may types known i (Some (line.Store s)) allowed = tt
target_may types known None (Some (line.Call c)) allowed = absurd (cc)
target_may types known (Some (line.Calm s)) (Some (line.Call c)) allowed = absurd (cc)
target_may types known (Some (line.Alloca s)) (Some (line.Call c)) allowed = absurd (cc)
target_may types known (Some (line.Store s)) (Some (line.Call c)) allowed = absurd (cc)
target_may types known (Some (line.Call s)) (Some (line.Call c)) allowed = absurd (cc)

calm_leads : (l : Calm) (side : SideState) (o : Outcome) → gives_on side l.right ≡ o → LineLeads side (Some (line.Calm l)) (set_by l o side)
calm_leads l side (Gives v) gives = λ m frame rest scope.
    ap (λ (here : Scope). set_to (kind_of (type_of l.right)) l.name (outcome here (read side.files.now) side.world.memory l.right)
    (record frame { registers = side.files.now; own = side.own }) rest side.world) scope
    ∙ ap (λ o. set_to (kind_of (type_of l.right)) l.name o (record frame { registers = side.files.now; own = side.own }) rest side.world) gives
calm_leads l side Trap gives = λ m frame rest scope.
    ap (λ (here : Scope). set_to (kind_of (type_of l.right)) l.name (outcome here (read side.files.now) side.world.memory l.right)
    (record frame { registers = side.files.now; own = side.own }) rest side.world) scope
    ∙ ap (λ o. set_to (kind_of (type_of l.right)) l.name o (record frame { registers = side.files.now; own = side.own }) rest side.world) gives

store_leads : (s : Store) (side : SideState) (o : Option Memory) → stored_by side.scope s side.files.now side.world.memory ≡ o → LineLeads side (Some (line.Store s)) (stored_in o side)
store_leads s side (Some memory) is = λ m frame rest scope.
    ap (λ (here : Scope). with_memory (stored_by here s side.files.now side.world.memory) (record frame { registers = side.files.now; own = side.own }) rest side.world) scope
    ∙ ap (λ o. with_memory o (record frame { registers = side.files.now; own = side.own }) rest side.world) is
store_leads s side None is = λ m frame rest scope.
    ap (λ (here : Scope). with_memory (stored_by here s side.files.now side.world.memory) (record frame { registers = side.files.now; own = side.own }) rest side.world) scope
    ∙ ap (λ o. with_memory o (record frame { registers = side.files.now; own = side.own }) rest side.world) is

pub leads_so : (one_sided : Bool) (i : Option Instr) (side : SideState) → MaySet i → LineLeads side i (side_led one_sided i side)
leads_so one_sided None side may = refl
leads_so one_sided (Some (line.Calm l)) side may = calm_leads l side (gives_on side l.right) refl
leads_so one_sided (Some (line.Alloca a)) side may = λ m frame rest scope.
    ap (λ (here : Scope). made_block here a (record frame { registers = side.files.now; own = side.own }) rest side.world) scope
leads_so one_sided (Some (line.Store s)) side may = store_leads s side (stored_by side.scope s side.files.now side.world.memory) refl
leads_so one_sided (Some (line.Call c)) side may = absurd may

-- ---- what holds after them

-- other registers
pub common_with : (ps : Pairing) (source target : SideState) (files others : RegisterFiles) → AreCommon ps source target
    → AreCommon ps (record source { files = files }) (record target { files = others })
common_with ps source target files others common = record {
  scope = common.scope;
  memories = common.memories;
  names = common.names;
  globals = common.globals;
  source_paired = common.source_paired;
  target_paired = common.target_paired;
}

-- after an aligned line what its postcondition says holds
module _ (ps : Pairing) (known : Assertion) (source target : SideState) (sides : AreSides ps source target) (holds : AssertionHolds ps no_ghost known source target) where
  abbrev types : List NamedTy
  types = source.scope.types

  same_pairs : ArePairsMore ps ps source.world.memory target.world.memory
  same_pairs = record { kept = λ b c h. h; new = λ b c h. inl h }

  source_after_hold : (one_sided : Bool) (s : Calm) (v : Value) → gives_on source s.right ≡ Gives v
      → AllByRecursion (Holds (side_set s v source)) (facts_after types one_sided (Some (line.Calm s)) known.src)
  source_after_hold one_sided s v is = facts_after_hold source s v is sides.source_fine.named one_sided known.src holds.source_facts

  target_after_hold : (one_sided : Bool) (t : Calm) (w : Value) → gives_on target t.right ≡ Gives w
      → AllByRecursion (Holds (side_set t w target)) (facts_after types one_sided (Some (line.Calm t)) known.tgt)
  target_after_hold one_sided t w is =
      subst (λ (scope : Scope). AllByRecursion (Holds (side_set t w target)) (facts_after scope.types one_sided (Some (line.Calm t)) known.tgt)) (sym sides.common.scope)
      (facts_after_hold target t w is sides.target_fine.named one_sided known.tgt holds.target_facts)

  source_keeps : (s : Calm) (o : Outcome) → gives_on source s.right ≡ o
      → Keeps ps (after_line types known (record { source = Some (line.Calm s); target = None })) source target (set_by s o source) (Some target)
  source_keeps s Trap is = tt
  source_keeps s (Gives v) is = (
    ps,
    same_pairs,
    record {
      common = common_with ps source target (side_set s v source).files target.files sides.common;
      source_fine = set_fine source s v sides.source_fine is;
      target_fine = sides.target_fine;
      source_made = set_made source s v sides.source_fine is sides.source_made;
      target_made = sides.target_made;
    },
    record {
      source_facts = source_after_hold true s v is;
      target_facts = holds.target_facts;
      related = related_source ps known.diff source target holds.related s.name (kind_of (type_of s.right)) v;
    },
  )

  target_keeps : (t : Calm) (o : Outcome) → gives_on target t.right ≡ o → may_trap types known t.right ≡ false
      → Keeps ps (after_line types known (record { source = None; target = Some (line.Calm t) })) source target (Some source) (set_by t o target)
  target_keeps t Trap is safe = absurd (target_no_trap ps known source target sides.common holds t.right safe is)
  target_keeps t (Gives w) is safe = (
    ps,
    same_pairs,
    record {
      common = common_with ps source target source.files (side_set t w target).files sides.common;
      source_fine = sides.source_fine;
      target_fine = set_fine target t w sides.target_fine is;
      source_made = sides.source_made;
      target_made = set_made target t w sides.target_fine is sides.target_made;
    },
    record {
      source_facts = holds.source_facts;
      target_facts = target_after_hold true t w is;
      related = related_target ps known.diff source target holds.related t.name (kind_of (type_of t.right)) w;
    },
  )

  both_keep : (s t : Calm) (o p : Outcome) → gives_on source s.right ≡ o → gives_on target t.right ≡ p → right_fault types known s.right t.right ≡ None
      → Keeps ps (after_line types known (record { source = Some (line.Calm s); target = Some (line.Calm t) })) source target (set_by s o source) (set_by t p target)
  both_keep s t Trap p is_source is_target allowed = tt
  both_keep s t (Gives v) Trap is_source is_target allowed =
      let traps : Gives v ≡ Trap = sym is_source ∙ allowed_traps ps known source target sides.common holds s.right t.right allowed is_target in absurd (cc)
  both_keep s t (Gives v) (Gives w) is_source is_target allowed = (
    ps,
    same_pairs,
    record {
      common = common_with ps source target (side_set s v source).files (side_set t w target).files sides.common;
      source_fine = set_fine source s v sides.source_fine is_source;
      target_fine = set_fine target t w sides.target_fine is_target;
      source_made = set_made source s v sides.source_fine is_source sides.source_made;
      target_made = set_made target t w sides.target_fine is_target sides.target_made;
    },
    record {
      source_facts = source_after_hold false s v is_source;
      target_facts = target_after_hold false t w is_target;
      related = both_related ps known source target sides.common holds s t v w is_source is_target;
    },
  )

  pub keeps_so : (i j : Option Instr) → line_fault_of types known i j ≡ None
      → Keeps ps (after_line types known (record { source = i; target = j })) source target (side_led (is_none j) i source) (side_led (is_none i) j target)
  keeps_so None None allowed = (ps, same_pairs, sides, holds)
  keeps_so (Some (line.Calm s)) None allowed = source_keeps s (gives_on source s.right) refl
  keeps_so None (Some (line.Calm t)) allowed =
      target_keeps t (gives_on target t.right) refl (no_target_fault (may_trap types known t.right) TargetMayTrap allowed)
  keeps_so (Some (line.Calm s)) (Some (line.Calm t)) allowed =
      both_keep s t (gives_on source s.right) (gives_on target t.right) refl refl allowed
  keeps_so (Some (line.Alloca s)) None allowed = of_memory.source_alloca_keeps ps known source target sides holds s
  keeps_so None (Some (line.Alloca t)) allowed = of_memory.target_alloca_keeps ps known source target sides holds t
  keeps_so (Some (line.Alloca s)) (Some (line.Alloca t)) allowed = of_memory.allocas_keep ps known source target sides holds s t allowed
  keeps_so (Some (line.Store s)) None allowed = of_memory.source_store_keeps ps known source target sides holds s allowed
  keeps_so None (Some (line.Store t)) allowed = of_memory.target_store_keeps ps known source target sides holds t allowed
  keeps_so (Some (line.Store s)) (Some (line.Store t)) allowed = of_memory.stores_keep ps known source target sides holds s t allowed
  keeps_so i j allowed = absurd (cc)

-- the laws of lines and of matched operands
pub line_keeps : ALineKeepsWhatHolds
line_keeps ps known l source target sides holds allowed = (
  side_led (is_none l.target) l.source source,
  side_led (is_none l.source) l.target target,
  leads_so (is_none l.target) l.source source (source_may source.scope.types known l.source l.target allowed),
  leads_so (is_none l.source) l.target target (target_may source.scope.types known l.source l.target allowed),
  keeps_so ps known source target sides holds l.source l.target allowed,
)

pub operands_related : MatchedOperandsAreRelated
operands_related ps known source target a b common holds h = matched_related ps known source target common holds a b h
