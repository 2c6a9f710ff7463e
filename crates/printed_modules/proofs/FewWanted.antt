-- What a tree wants, the module that it names wants.
use Rattle.std.proofs.Common.{◌≡◌, ◌∙◌, ℕ, Bool, true, false, not, cond, nat_eq, List, [], ◌∷◌, ◌++◌, map, Option, Some, None, refl, sym, ap, subst}
use Rattle.std.specs.Prelude.{Err}
use Rattle.std.specs.List.{AllZip, filter, filter_map, flat_map}
use Rattle.std.proofs.lemmas.Bool.{eqb-true}
use Rattle.ir_core.specs.declared.expressions.Expr.{Expr}
use Rattle.ir_core.specs.declared.expressions.Expr.TheVariants as expr
use Rattle.ir_core.specs.declared.functions.Argument.{Argument}
use Rattle.ir_core.specs.declared.functions.Block.{Block}
use Rattle.ir_core.specs.declared.functions.Call.{Call}
use Rattle.ir_core.specs.declared.functions.Entry.{Entry}
use Rattle.ir_core.specs.declared.functions.Function.{Function}
use Rattle.ir_core.specs.declared.functions.Instr.{Instr}
use Rattle.ir_core.specs.declared.functions.Instr.TheVariants as instr
use Rattle.ir_core.specs.declared.functions.Phi.{Phi}
use Rattle.ir_core.specs.declared.functions.Term.{Term}
use Rattle.ir_core.specs.declared.functions.Term.TheVariants as term
use Rattle.ir_core.specs.declared.modules.GlobalVar.{GlobalVar}
use Rattle.ir_core.specs.declared.modules.Init.{Init}
use Rattle.ir_core.specs.declared.modules.Linkage.{Linkage}
use Rattle.ir_core.specs.declared.modules.Module.{Module}
use Rattle.ir_core.specs.declared.operands.Atom.{Atom}
use Rattle.ir_core.specs.declared.operands.Atom.TheVariants.{Constant, Register}
use Rattle.ir_core.specs.declared.operands.Operand.{Operand}
use Rattle.ir_core.specs.Expressions.{operands_in}
use Rattle.ir_core.specs.Functions.{operands_at_end, operands_of_phi}
use Rattle.ir_core.specs.Sizes.{AreSmall, Blocks, IsSmall, one_of_each, stepped, wanted_apart, wanted_by_atom, wanted_by_constant, wanted_by_operands}
use Rattle.ir_core.specs.Sizes as size
use Rattle.ir_core.specs.Types.{is_integer}
use Rattle.ir_core.specs.Typing.{Index, index_of}
use Rattle.ir_types.specs.declared.names.Name.{Name}
use Rattle.ir_types.specs.declared.sizes.SizeFault.TheVariants.{TooLarge}
use Rattle.ir_types.specs.declared.ty.Ty.{Ty}
use Rattle.ir_types.specs.Named.{block_of}
use Rattle.module_grammar.specs.declared.constants.GlobalNameText.{GlobalNameText}
use Rattle.module_grammar.specs.declared.constants.OperandText.{OperandText}
use Rattle.module_grammar.specs.declared.constants.ValueText.{ValueText}
use Rattle.module_grammar.specs.declared.constants.ValueText.TheVariants as value
use Rattle.module_grammar.specs.declared.flow.BlockText.{BlockText}
use Rattle.module_grammar.specs.declared.flow.BranchText.{BranchText}
use Rattle.module_grammar.specs.declared.flow.BranchText.TheVariants as branch
use Rattle.module_grammar.specs.declared.flow.EntryText.{EntryText}
use Rattle.module_grammar.specs.declared.flow.PhiText.{PhiText}
use Rattle.module_grammar.specs.declared.flow.TermText.{TermText}
use Rattle.module_grammar.specs.declared.flow.TermText.TheVariants as written
use Rattle.module_grammar.specs.declared.functions.DefinitionText.{DefinitionText}
use Rattle.module_grammar.specs.declared.items.GlobalBodyText.{GlobalBodyText}
use Rattle.module_grammar.specs.declared.items.HeldText.{HeldText}
use Rattle.module_grammar.specs.declared.items.HeldText.TheVariants as held
use Rattle.module_grammar.specs.declared.items.ItemText.{ItemText}
use Rattle.module_grammar.specs.declared.items.ItemText.TheVariants as item
use Rattle.module_grammar.specs.declared.items.ModuleText.{ModuleText}
use Rattle.module_grammar.specs.declared.lines.ArgumentText.{ArgumentText}
use Rattle.module_grammar.specs.declared.lines.CallBodyText.{CallBodyText}
use Rattle.module_grammar.specs.declared.lines.CallBodyText.TheVariants as call
use Rattle.module_grammar.specs.declared.lines.CallEndText.{CallEndText}
use Rattle.module_grammar.specs.declared.lines.CountText.{CountText}
use Rattle.module_grammar.specs.declared.lines.InstructionText.{InstructionText}
use Rattle.module_grammar.specs.declared.lines.InstructionText.TheVariants as instruction
use Rattle.module_grammar.specs.declared.lines.LineText.{LineText}
use Rattle.module_grammar.specs.declared.lines.OperationText.{OperationText}
use Rattle.module_grammar.specs.declared.lines.OperationText.TheVariants as form
use Rattle.module_grammar.specs.declared.lines.VoidCallText.{VoidCallText}
use Rattle.module_grammar.specs.declared.lines.VoidCallText.TheVariants as of_void
use Rattle.module_grammar.specs.declared.places.Placed.{Placed}
use Rattle.module_grammar.specs.declared.types.TypeText.{TypeText}
use Rattle.module_spelling.specs.Blocks.{Wanted, is_large, large_places, so_many, wanted_at_start, wanted_by_block, wanted_by_branch, wanted_by_call, wanted_by_count, wanted_by_end, wanted_by_global, wanted_by_instruction, wanted_by_item, wanted_by_line, wanted_by_operand, wanted_by_operation, wanted_by_phi, wanted_by_return, wanted_by_term, wanted_by_value, wanted_by_void, wants_along}
use Rattle.named_modules.specs.Built.{operand_of}
use Rattle.named_modules.specs.Faults.{heads_of}
use Rattle.named_modules.specs.Flow.{IsBranch, IsEntry, IsPhi, IsReturn, IsTerm, NamesBlock, entries_in}
use Rattle.named_modules.specs.Functions.{NamesFunction, StatedParams, blocks_in, labels_of, registers_of}
use Rattle.named_modules.specs.Lines.{IsArgument, IsCall, IsCount, IsCountOf, IsInstruction, IsLine, IsOperation, IsRight, IsVoidCallee, Stated, is_debug_call, is_dropped, is_dropped_call, is_kept}
use Rattle.named_modules.specs.Modules.{Holds, IsGlobalVar, NamesModule, definition_item, global_item}
use Rattle.named_modules.specs.Types.{int_of, type_of}
use Rattle.named_modules.specs.Values.{IsOperand, IsValue, Registers}
use Rattle.named_modules.proofs.Lists.{all_append, all_left, all_right}
use Rattle.named_modules.proofs.OneLine.{operand_is}
use Rattle.module_texts.proofs.SpelledLimits.SmallConstants.{AreFew}
use Rattle.printed_modules.proofs.DeepConstants.{numbered}
use Rattle.printed_modules.proofs.FewConstants.{constants_few, inits_few, wants_few}

module _ (m : Module) where
  abbrev Few : List Wanted → Type 0
  Few = AreFew (heads_of m)

  abbrev Small : Blocks → Type 0
  Small = AreSmall m.types

  abbrev IsFew : Wanted → Type 0
  IsFew w = is_large (heads_of m) w ≡ false

  abbrev IsSmallBlock : Ty × ℕ → Type 0
  IsSmallBlock b = block_of m.types b.0 b.1 ≡ Err TooLarge → ⊥

  left : (xs ys : Blocks) → Small (xs ++ ys) → Small xs
  left = all_left IsSmallBlock

  right : (xs ys : Blocks) → Small (xs ++ ys) → Small ys
  right = all_right IsSmallBlock

  join : (xs ys : List Wanted) → Few xs → Few ys → Few (xs ++ ys)
  join = all_append IsFew

  -- what is wanted by each, where what it names says what is small
  flat_few :
      {A B : Type 0} (R : A → B → Type 0) (asks : A → List Wanted) (says : B → Blocks) → ((w : A) (x : B) → R w x → Small (says x) → Few (asks w))
      → (ws : List A) (xs : List B) → AllZip R ws xs → Small (flat_map says xs) → Few (flat_map asks ws)
  flat_few R asks says each [] [] zip small = tt
  flat_few R asks says each [] (x ∷ xs) zip small = absurd zip
  flat_few R asks says each (w ∷ ws) [] zip small = absurd zip
  flat_few R asks says each (w ∷ ws) (x ∷ xs) zip small =
      join (asks w) (flat_map asks ws) (each w x zip.0 (left (says x) (flat_map says xs) small))
      (flat_few R asks says each ws xs zip.1 (right (says x) (flat_map says xs) small))

  -- what is left out wants nothing
  all_few : {A : Type 0} (asks : A → List Wanted) (p : A → Bool) → ((w : A) → p w ≡ false → Few (asks w)) → (ws : List A) → Few (flat_map asks (filter p ws)) → Few (flat_map asks ws)
  all_few asks p out [] kept = tt
  all_few {A} asks p out (w ∷ ws) kept = by (p w) refl kept (λ more. all_few asks p out ws more)
    where
      by :
          (b : Bool) → p w ≡ b → Few (flat_map asks (cond b (w ∷ filter p ws) (filter p ws))) → (Few (flat_map asks (filter p ws)) → Few (flat_map asks ws))
          → Few (flat_map asks (w ∷ ws))
      by true is kept others =
          let more = flat_map asks (filter p ws) in join (asks w) (flat_map asks ws) (all_left IsFew (asks w) more kept) (others (all_right IsFew (asks w) more kept))
      by false is kept others = join (asks w) (flat_map asks ws) (out w is) (others kept)

  -- ---- values

  module _ (rs : Registers) where
    value_few : (t : Ty) (w : ValueText) (a : Atom Name) → IsValue m rs t w a → Small (wanted_by_atom m.types a) → Few (wanted_by_value (heads_of m) w)
    value_few t (value.Const w) (Constant c) is small = constants_few m w t is.1 (subst (λ x. Small (wanted_by_constant m.types x)) is.0 small)
    value_few t (value.Local w) (Register x) is small = tt
    value_few t w a is small = absurd is

    operand_few : (w : OperandText) (o : Operand Name) → IsOperand m rs w o → Small (wanted_by_atom m.types o.atom) → Few (wanted_by_operand (heads_of m) w)
    operand_few w o is small = value_few o.ty w.value o.atom is.1 small

    operands_few :
        (ws : List OperandText) (os : List (Operand Name)) → AllZip (IsOperand m rs) ws os → Small (wanted_by_operands m.types os)
        → Few (flat_map (wanted_by_operand (heads_of m)) ws)
    operands_few = flat_few (IsOperand m rs) (wanted_by_operand (heads_of m)) (λ o. wanted_by_atom m.types o.atom) operand_few

    -- ---- lines

    abbrev wanted_at_right : Expr Name → Blocks
    wanted_at_right e = wanted_apart m.types e ++ wanted_by_operands m.types (operands_in e)

    -- an operand and a value
    two :
        (w : OperandText) (v : ValueText) (t u : Ty) (a b : Atom Name) → IsOperand m rs w (record { ty = t; atom = a }) → IsValue m rs u v b
        → Small (wanted_by_atom m.types a ++ (wanted_by_atom m.types b ++ [])) → Few (wanted_by_operand (heads_of m) w ++ wanted_by_value (heads_of m) v)
    two w v t u a b is at small =
        let others = wanted_by_atom m.types b ++ [] in
        join (wanted_by_operand (heads_of m) w) (wanted_by_value (heads_of m) v)
        (operand_few w (record { ty = t; atom = a }) is (left (wanted_by_atom m.types a) others small))
        (value_few u v b at (left (wanted_by_atom m.types b) [] (right (wanted_by_atom m.types a) others small)))

    -- two operands
    pair :
        (v w : OperandText) (a b : Operand Name) → IsOperand m rs v a → IsOperand m rs w b
        → Small (wanted_by_atom m.types a.atom ++ (wanted_by_atom m.types b.atom ++ [])) → Few (wanted_by_operand (heads_of m) v ++ wanted_by_operand (heads_of m) w)
    pair v w a b is at small = two v w.value a.ty b.ty a.atom b.atom is at.1 small

    operation_few : (w : OperationText) (e : Expr Name) → IsOperation m rs w e → Small (wanted_at_right e) → Few (wanted_by_operation (heads_of m) w)
    operation_few (form.Binary w) (expr.Binary b) is small = two w.left w.right b.ty b.ty b.left b.right is.2 is.3 small
    operation_few (form.Compare w) (expr.Icmp c) is small = two w.left w.right c.ty c.ty c.left c.right is.1 is.2 small
    operation_few (form.Cast w) (expr.Cast c) is small = operand_few w.from c.operand is.1 (left (wanted_by_atom m.types c.operand.atom) [] small)
    operation_few (form.Select w) (expr.Select s) is small =
        let first = wanted_by_atom m.types s.condition.atom in
        let others = wanted_by_atom m.types s.left.atom ++ (wanted_by_atom m.types s.right.atom ++ []) in
        join (wanted_by_operand (heads_of m) w.condition) (wanted_by_operand (heads_of m) w.then ++ wanted_by_operand (heads_of m) w.other)
        (operand_few w.condition s.condition is.0 (left first others small)) (pair w.then w.other s.left s.right is.1 is.2 (right first others small))
    operation_few w e is small = absurd is

    indices_are : (ws : List OperandText) (os : List (Operand Name)) → AllZip (IsOperand m rs) ws os → map index_of os ≡ map (λ o. index_of (operand_of o)) ws
    indices_are [] [] zip = refl
    indices_are [] (o ∷ os) zip = absurd zip
    indices_are (w ∷ ws) [] zip = absurd zip
    indices_are (w ∷ ws) (o ∷ os) zip =
        ap (λ p. index_of p ∷ map index_of os) (operand_is m rs w o zip.0) ∙ ap (λ l. index_of (operand_of w) ∷ l) (indices_are ws os zip.1)

    right_few : (w : InstructionText) (e : Expr Name) → IsRight m rs w e → Small (wanted_at_right e) → Few (wanted_by_instruction (heads_of m) w)
    right_few (instruction.Operation w) e is small = operation_few w e is small
    right_few (instruction.Element w) (expr.Element e) is small =
        let taken : List Index = map (λ o. index_of (operand_of o)) w.indices in
        let entered = one_of_each (stepped m.types e.of (map index_of e.indices)) in
        let others = right entered (wanted_by_operands m.types (e.base ∷ e.indices)) small in
        let base = wanted_by_atom m.types e.base.atom in
        let same : map index_of e.indices ≡ taken = indices_are w.indices e.indices is.3 in
        let along : Small (one_of_each (stepped m.types (type_of w.of) taken)) =
        subst (λ l. Small (one_of_each (stepped m.types (type_of w.of) l))) same
        (subst (λ t. Small (one_of_each (stepped m.types t (map index_of e.indices)))) is.1.0 (left entered (wanted_by_operands m.types (e.base ∷ e.indices)) small)) in
        join (wants_along (heads_of m) w.of taken) (wanted_by_operand (heads_of m) w.base ++ flat_map (wanted_by_operand (heads_of m)) w.indices)
        (wants_few m w.of (one_of_each (stepped m.types (type_of w.of) taken)) along)
        (join (wanted_by_operand (heads_of m) w.base) (flat_map (wanted_by_operand (heads_of m)) w.indices)
        (operand_few w.base e.base is.2 (left base (wanted_by_operands m.types e.indices) others))
        (operands_few w.indices e.indices is.3 (right base (wanted_by_operands m.types e.indices) others)))
    right_few (instruction.Load w) (expr.Load l) is small = operand_few w.address l.pointer is.1 (left (wanted_by_atom m.types l.pointer.atom) [] small)
    right_few w e is small = absurd is

    -- so many of a type that is stated; one that isn't kept is 1
    count_few : (w : TypeText) (of : Ty) → of ≡ type_of w → (c : Option CountText) (count : Option (Ty × ℕ)) → IsCount m c count → Small (size.wanted_by_count of count) → Few (wanted_by_count (heads_of m) w c)
    count_few w of is None count counts small =
        wants_few m w ((type_of w, 1) ∷ []) (subst (λ t. Small ((t, 1) ∷ [])) is (subst (λ n. Small (size.wanted_by_count of n)) counts small))
    count_few w of is (Some c) count counts small =
        by (int_of (type_of c.ty) c.number) refl counts.1 (subst (λ t. Small (size.wanted_by_count t count)) is small)
      where
        kept : (n : ℕ) (b : Bool) → nat_eq n 1 ≡ b → is_integer (type_of c.ty) ≡ true → Small (size.wanted_by_count (type_of w) (cond b None (Some (type_of c.ty, n)))) → Small ((type_of w, n) ∷ [])
        kept n true e whole small = subst (λ k. Small ((type_of w, k) ∷ [])) (sym (eqb-true n 1 e)) small
        kept n false e whole small = subst (λ b. Small (cond b ((type_of w, n) ∷ []) [])) whole small

        by : (o : Option ℕ) → int_of (type_of c.ty) c.number ≡ o → IsCountOf o (type_of c.ty) count → Small (size.wanted_by_count (type_of w) count) → Few (so_many (heads_of m) w o)
        by None e of small = absurd of
        by (Some n) e of small =
            wants_few m w ((type_of w, n) ∷ [])
            (kept n (nat_eq n 1) refl (numbered (type_of c.ty) c.number n e) (subst (λ k. Small (size.wanted_by_count (type_of w) k)) of small))

    arguments_few :
        (ws : List ArgumentText) (xs : List Argument) → AllZip (IsArgument m rs) ws xs → Small (wanted_by_operands m.types (map (λ (a : Argument). a.operand) xs))
        → Few (flat_map (λ (a : ArgumentText). wanted_by_value (heads_of m) a.value) ws)
    arguments_few [] [] zip small = tt
    arguments_few [] (a ∷ xs) zip small = absurd zip
    arguments_few (w ∷ ws) [] zip small = absurd zip
    arguments_few (w ∷ ws) (a ∷ xs) zip small =
        let mine = wanted_by_atom m.types a.operand.atom in
        let others = wanted_by_operands m.types (map (λ (a : Argument). a.operand) xs) in
        join (wanted_by_value (heads_of m) w.value) (flat_map (λ (a : ArgumentText). wanted_by_value (heads_of m) a.value) ws)
        (value_few a.operand.ty w.value a.operand.atom zip.0.0.1 (left mine others small)) (arguments_few ws xs zip.1 (right mine others small))

    end_few : (end : CallEndText) (c : Call) → AllZip (IsArgument m rs) end.arguments c.arguments → Small (size.wanted_by_line m.types (instr.Call c)) → Few (wanted_by_end (heads_of m) end)
    end_few end c zip small = arguments_few end.arguments c.arguments zip small

    void_few :
        (stated : Stated) (is_stated : Bool) (w : VoidCallText) (c : Call) → IsVoidCallee m rs stated is_stated w c → Small (size.wanted_by_line m.types (instr.Call c))
        → Few (wanted_by_void (heads_of m) w)
    void_few stated false (of_void.Call name end) c is small = end_few end c is.arguments small
    void_few stated true (of_void.Call name end) c is small = end_few end c is.2.arguments small
    void_few stated is_stated (of_void.Debug name attributes) c is small = tt

    call_few :
        (stated : Stated) (w : CallBodyText) (c : Call) → IsCall m rs stated w c → Small (size.wanted_by_line m.types (instr.Call c)) → Few (wanted_by_call (heads_of m) w)
    call_few stated (call.Convention attributes callee end) c is small = end_few end c is.arguments small
    call_few stated (call.Attributes first others callee end) c is small = end_few end c is.arguments small
    call_few stated (call.Typed t called name end) c is small = end_few end c is.arguments small
    call_few stated (call.Void v) c is small = void_few stated v.is_stated v.call c is small

    instruction_few :
        (stated : Stated) (register : Option (Placed Name)) (w : InstructionText) (i : Instr) → IsInstruction m rs stated register w i
        → Small (size.wanted_by_line m.types i) → Few (wanted_by_instruction (heads_of m) w)
    instruction_few stated register w (instr.Calm c) is small = right_few w c.right is.1 small
    instruction_few stated register (instruction.Alloca w) (instr.Alloca a) is small = count_few w.ty a.of is.1.0.0 w.count a.count is.1.2 small
    instruction_few stated register (instruction.Store w) (instr.Store s) is small = pair w.value w.address s.value s.pointer is.1.0 is.1.1 small
    instruction_few stated register (instruction.Call w) (instr.Call c) is small = call_few stated w.body c is.1 small
    instruction_few stated register w i is small = absurd is

    line_few : (stated : Stated) (w : LineText) (i : Instr) → IsLine m rs stated w i → Small (size.wanted_by_line m.types i) → Few (wanted_by_line (heads_of m) w)
    line_few stated w i is small = instruction_few stated w.register w.attached.instruction i is small

  -- a call that is dropped wants nothing
  dropped_few : (w : LineText) → is_kept w ≡ false → Few (wanted_by_line (heads_of m) w)
  dropped_few w = at w.attached.instruction
    where
      at_void : (w : VoidCallText) → not (is_debug_call w) ≡ false → Few (wanted_by_void (heads_of m) w)
      at_void (of_void.Call name end) e = cc
      at_void (of_void.Debug name attributes) e = tt

      at_call : (w : CallBodyText) → not (is_dropped_call w) ≡ false → Few (wanted_by_call (heads_of m) w)
      at_call (call.Void v) e = at_void v.call e
      at_call w e = cc

      at : (w : InstructionText) → not (is_dropped w) ≡ false → Few (wanted_by_instruction (heads_of m) w)
      at (instruction.Call w) e = at_call w.body e
      at w e = cc

  module _ (rs : Registers) where
    -- ---- blocks

    entries_few :
        (labels : List Name) (t : Ty) (ws : List EntryText) (es : List Entry) → AllZip (IsEntry m rs labels t) ws es
        → Small (wanted_by_operands m.types (map (λ (e : Entry). let o : Operand Name = record { ty = t; atom = e.value } in o) es))
        → Few (flat_map (λ (e : EntryText). wanted_by_value (heads_of m) e.value) ws)
    entries_few labels t [] [] zip small = tt
    entries_few labels t [] (e ∷ es) zip small = absurd zip
    entries_few labels t (w ∷ ws) [] zip small = absurd zip
    entries_few labels t (w ∷ ws) (e ∷ es) zip small =
        let mine = wanted_by_atom m.types e.value in
        let others = wanted_by_operands m.types (map (λ (e : Entry). let o : Operand Name = record { ty = t; atom = e.value } in o) es) in
        join (wanted_by_value (heads_of m) w.value) (flat_map (λ (e : EntryText). wanted_by_value (heads_of m) e.value) ws)
        (value_few rs t w.value e.value zip.0.0 (left mine others small)) (entries_few labels t ws es zip.1 (right mine others small))

    phi_few : (labels : List Name) (w : PhiText) (p : Phi) → IsPhi m rs labels w p → Small (wanted_by_operands m.types (operands_of_phi p)) → Few (wanted_by_phi (heads_of m) w)
    phi_few labels w p is small = entries_few labels p.ty (entries_in w.node) p.entries is.2 small

    abbrev wanted_at_end : Term → Blocks
    wanted_at_end t = wanted_by_operands m.types (operands_at_end t)

    -- an operand alone
    alone : (w : OperandText) (o : Operand Name) → IsOperand m rs w o → Small (wanted_by_atom m.types o.atom ++ []) → Few (wanted_by_operand (heads_of m) w)
    alone w o is small = operand_few rs w o is (left (wanted_by_atom m.types o.atom) [] small)

    return_few : (w : Option OperandText) (t : Term) → IsReturn m rs w t → Small (wanted_at_end t) → Few (wanted_by_return (heads_of m) w)
    return_few (Some w) (term.Ret o) is small = alone w o is small
    return_few None t is small = tt
    return_few w t is small = absurd is

    branch_few : (labels : List Name) (w : BranchText) (t : Term) → IsBranch m rs labels w t → Small (wanted_at_end t) → Few (wanted_by_branch (heads_of m) w)
    branch_few labels (branch.Always w) t is small = tt
    branch_few labels (branch.Condition w) (term.CondBr c) is small = alone w.condition c.condition is.0 small
    branch_few labels w t is small = absurd is

    term_few : (labels : List Name) (w : TermText) (t : Term) → IsTerm m rs labels w t → Small (wanted_at_end t) → Few (wanted_by_term (heads_of m) w)
    term_few labels (written.Ret w) t is small = return_few w t is small
    term_few labels (written.Br w) t is small = branch_few labels w t is small
    term_few labels (written.Switch w) (term.Switch s) is small = alone w.value s.value is.0 small
    term_few labels written.Unreachable t is small = tt
    term_few labels w t is small = absurd is

    block_few :
        (stated : Stated) (labels : List Name) (w : BlockText) (b : Block) → NamesBlock m rs stated labels w b → Small (size.wanted_in_block m.types b)
        → Few (wanted_by_block (heads_of m) w)
    block_few stated labels w b names small =
        let phis = flat_map (λ (p : Phi). wanted_by_operands m.types (operands_of_phi p)) b.phis in
        let lines = flat_map (size.wanted_by_line m.types) b.body in
        let others = right phis (lines ++ wanted_at_end b.term) small in
        let kept =
        flat_few (IsLine m rs stated) (wanted_by_line (heads_of m)) (size.wanted_by_line m.types) (line_few rs stated) (filter is_kept w.body.lines) b.body names.lines.1
        (left lines (wanted_at_end b.term) others) in
        join (flat_map (wanted_by_phi (heads_of m)) w.body.phis) (flat_map (wanted_by_line (heads_of m)) w.body.lines ++ wanted_by_term (heads_of m) w.end.term)
        (flat_few (IsPhi m rs labels) (wanted_by_phi (heads_of m)) (λ (p : Phi). wanted_by_operands m.types (operands_of_phi p)) (phi_few labels) w.body.phis b.phis names.phis
        (left phis (lines ++ wanted_at_end b.term) small))
        (join (flat_map (wanted_by_line (heads_of m)) w.body.lines) (wanted_by_term (heads_of m) w.end.term)
        (all_few (wanted_by_line (heads_of m)) is_kept dropped_few w.body.lines kept) (term_few labels w.end.term b.term names.ends (right lines (wanted_at_end b.term) others)))

  -- ---- items

  abbrev wanted_by_definition : DefinitionText → List Wanted
  wanted_by_definition w = flat_map (wanted_by_block (heads_of m)) (blocks_in w)

  function_few :
      (stated : Stated) (w : DefinitionText) (f : Function) → NamesFunction m stated w f → Small (size.wanted_in_function m.types f) → Few (wanted_by_definition w)
  function_few stated w f names small =
      flat_few (NamesBlock m (registers_of m f) stated (labels_of f)) (wanted_by_block (heads_of m)) (size.wanted_in_block m.types)
      (block_few (registers_of m f) stated (labels_of f)) (blocks_in w) f.blocks names.blocks small

  held_few :
      (t : Ty) (w : HeldText) (l : Linkage) (start : Option Init) → Holds m t w l start → Small (size.wanted_at_start m.types start)
      → Few (wanted_at_start (heads_of m) w)
  held_few t held.External l start is small = tt
  held_few t (held.Init linkage w) l None is small = absurd is
  held_few t (held.Init linkage w) l (Some i) is small = inits_few m w t is.1.1 (subst (λ x. Small (size.wanted_at_start m.types (Some x))) is.1.0 small)

  abbrev wanted_by_body : GlobalNameText × GlobalBodyText → List Wanted
  wanted_by_body w = wanted_by_global (heads_of m) w.1

  global_few : (w : GlobalNameText × GlobalBodyText) (g : GlobalVar) → IsGlobalVar m w g → Small (size.wanted_by_global m.types g) → Few (wanted_by_body w)
  global_few w g is small =
      join (so_many (heads_of m) w.1.ty (Some 1)) (wanted_at_start (heads_of m) w.1.held)
      (wants_few m w.1.ty ((type_of w.1.ty, 1) ∷ []) (subst (λ t. Small ((t, 1) ∷ [])) is.ty.0 (left ((g.ty, 1) ∷ []) (size.wanted_at_start m.types g.init) small)))
      (held_few g.ty w.1.held g.linkage g.init is.held (right ((g.ty, 1) ∷ []) (size.wanted_at_start m.types g.init) small))

  -- ---- modules

  -- items want what globals and definitions do
  items_few :
      (ws : List ItemText) → Few (flat_map wanted_by_body (filter_map global_item ws)) → Few (flat_map wanted_by_definition (filter_map definition_item ws))
      → Few (flat_map (wanted_by_item (heads_of m)) ws)
  items_few [] globals definitions = tt
  items_few (item.Global name b ∷ ws) globals definitions =
      let mine = wanted_by_global (heads_of m) b in
      let others = flat_map wanted_by_body (filter_map global_item ws) in
      join mine (flat_map (wanted_by_item (heads_of m)) ws) (all_left IsFew mine others globals)
      (items_few ws (all_right IsFew mine others globals) definitions)
  items_few (item.Definition d ∷ ws) globals definitions =
      let mine = wanted_by_definition d in
      let others = flat_map wanted_by_definition (filter_map definition_item ws) in
      join mine (flat_map (wanted_by_item (heads_of m)) ws) (all_left IsFew mine others definitions)
      (items_few ws globals (all_right IsFew mine others definitions))
  items_few (w ∷ ws) globals definitions = items_few ws globals definitions

  -- no place is told where none is large
  no_places : (ws : List Wanted) → Few ws → map (λ (b : Wanted). b.place) (filter (is_large (heads_of m)) ws) ≡ []
  no_places [] few = refl
  no_places (w ∷ ws) few =
      ap (λ b. map (λ (v : Wanted). v.place) (cond b (w ∷ filter (is_large (heads_of m)) ws) (filter (is_large (heads_of m)) ws))) few.0 ∙ no_places ws few.1

pub trees_want_little :
    (stated : Stated) (params : StatedParams) (tree : ModuleText) (m : Module) → NamesModule stated params tree m → IsSmall m → large_places (heads_of m) tree ≡ []
trees_want_little stated params tree m names small =
    let globals = flat_map (size.wanted_by_global m.types) m.globals in
    let functions = flat_map (size.wanted_in_function m.types) m.functions in
    no_places m (flat_map (wanted_by_item (heads_of m)) tree.items) (items_few m tree.items
    (flat_few m (IsGlobalVar m) (wanted_by_body m) (size.wanted_by_global m.types) (global_few m) (filter_map global_item tree.items) m.globals names.globals (left m globals functions small))
    (flat_few m (NamesFunction m stated) (wanted_by_definition m) (size.wanted_in_function m.types) (function_few m stated) (filter_map definition_item tree.items) m.functions names.functions
    (right m globals functions small)))
