-- What a module wants, the tree that names it wants.
use Rattle.std.proofs.Common.{◌≡◌, ◌∙◌, ℕ, Bool, true, false, cond, nat_eq, List, [], ◌∷◌, ◌++◌, map, Option, Some, None, refl, sym, ap, subst}
use Rattle.std.specs.Prelude.{Err}
use Rattle.std.specs.List.{AllZip, filter, filter_map, flat_map}
use Rattle.std.proofs.lemmas.Bool.{eqb-true}
use Rattle.ir_core.specs.declared.expressions.Expr.{Expr}
use Rattle.ir_core.specs.declared.expressions.Expr.TheVariants as expr
use Rattle.ir_core.specs.declared.functions.Argument.{Argument}
use Rattle.ir_core.specs.declared.functions.Block.{Block}
use Rattle.ir_core.specs.declared.functions.Call.{Call}
use Rattle.ir_core.specs.declared.functions.Entry.{Entry}
use Rattle.ir_core.specs.declared.functions.Function.{Function}
use Rattle.ir_core.specs.declared.functions.Instr.{Instr}
use Rattle.ir_core.specs.declared.functions.Instr.TheVariants as instr
use Rattle.ir_core.specs.declared.functions.Phi.{Phi}
use Rattle.ir_core.specs.declared.functions.Term.{Term}
use Rattle.ir_core.specs.declared.functions.Term.TheVariants as term
use Rattle.ir_core.specs.declared.modules.GlobalVar.{GlobalVar}
use Rattle.ir_core.specs.declared.modules.Init.{Init}
use Rattle.ir_core.specs.declared.modules.Linkage.{Linkage}
use Rattle.ir_core.specs.declared.modules.Module.{Module}
use Rattle.ir_core.specs.declared.operands.Atom.{Atom}
use Rattle.ir_core.specs.declared.operands.Atom.TheVariants.{Constant, Register}
use Rattle.ir_core.specs.declared.operands.Operand.{Operand}
use Rattle.ir_core.specs.Expressions.{operands_in}
use Rattle.ir_core.specs.Functions.{operands_at_end, operands_of_phi}
use Rattle.ir_core.specs.Sizes.{AreSmall, Blocks, IsSmall, one_of_each, stepped, wanted_apart, wanted_by_atom, wanted_by_constant, wanted_by_operands}
use Rattle.ir_core.specs.Sizes as size
use Rattle.ir_core.specs.Types.{is_integer}
use Rattle.ir_core.specs.Typing.{Index, index_of}
use Rattle.ir_types.specs.declared.names.Name.{Name}
use Rattle.ir_types.specs.declared.sizes.SizeFault.TheVariants.{TooLarge}
use Rattle.ir_types.specs.declared.ty.Ty.{Ty}
use Rattle.ir_types.specs.Named.{block_of}
use Rattle.module_grammar.specs.declared.attributes.ParamAttributeText.{ParamAttributeText}
use Rattle.module_grammar.specs.declared.constants.GlobalNameText.{GlobalNameText}
use Rattle.module_grammar.specs.declared.constants.OperandText.{OperandText}
use Rattle.module_grammar.specs.declared.constants.ValueText.{ValueText}
use Rattle.module_grammar.specs.declared.constants.ValueText.TheVariants as value
use Rattle.module_grammar.specs.declared.flow.BlockText.{BlockText}
use Rattle.module_grammar.specs.declared.flow.BranchText.{BranchText}
use Rattle.module_grammar.specs.declared.flow.BranchText.TheVariants as branch
use Rattle.module_grammar.specs.declared.flow.EntryText.{EntryText}
use Rattle.module_grammar.specs.declared.flow.PhiText.{PhiText}
use Rattle.module_grammar.specs.declared.flow.TermText.{TermText}
use Rattle.module_grammar.specs.declared.flow.TermText.TheVariants as written
use Rattle.module_grammar.specs.declared.functions.DefinitionText.{DefinitionText}
use Rattle.module_grammar.specs.declared.items.GlobalBodyText.{GlobalBodyText}
use Rattle.module_grammar.specs.declared.items.HeldText.{HeldText}
use Rattle.module_grammar.specs.declared.items.HeldText.TheVariants as held
use Rattle.module_grammar.specs.declared.items.ItemText.{ItemText}
use Rattle.module_grammar.specs.declared.items.ItemText.TheVariants as item
use Rattle.module_grammar.specs.declared.items.ModuleText.{ModuleText}
use Rattle.module_grammar.specs.declared.lines.ArgumentText.{ArgumentText}
use Rattle.module_grammar.specs.declared.lines.CallBodyText.{CallBodyText}
use Rattle.module_grammar.specs.declared.lines.CallBodyText.TheVariants as call
use Rattle.module_grammar.specs.declared.lines.CallEndText.{CallEndText}
use Rattle.module_grammar.specs.declared.lines.CountText.{CountText}
use Rattle.module_grammar.specs.declared.lines.InstructionText.{InstructionText}
use Rattle.module_grammar.specs.declared.lines.InstructionText.TheVariants as instruction
use Rattle.module_grammar.specs.declared.lines.OperationText.{OperationText}
use Rattle.module_grammar.specs.declared.lines.OperationText.TheVariants as form
use Rattle.module_grammar.specs.declared.lines.VoidCallText.{VoidCallText}
use Rattle.module_grammar.specs.declared.lines.VoidCallText.TheVariants as of_void
use Rattle.module_grammar.specs.declared.places.Placed.{Placed}
use Rattle.module_grammar.specs.declared.types.CalledText.{CalledText}
use Rattle.module_grammar.specs.declared.types.TypeText.{TypeText}
use Rattle.module_spelling.specs.Blocks.{Wanted, is_large, large_places, so_many, wanted_at_start, wanted_by_block, wanted_by_branch, wanted_by_call, wanted_by_count, wanted_by_end, wanted_by_global, wanted_by_instruction, wanted_by_item, wanted_by_line, wanted_by_operand, wanted_by_operation, wanted_by_phi, wanted_by_return, wanted_by_term, wanted_by_value, wanted_by_void, wants_along}
use Rattle.named_modules.specs.Built.{operand_of}
use Rattle.named_modules.specs.Faults.{heads_of}
use Rattle.named_modules.specs.Flow.{IsBranch, IsEntry, IsPhi, IsReturn, IsTerm, NamesBlock, entries_in}
use Rattle.named_modules.specs.Functions.{NamesFunction, StatedParams, blocks_in, labels_of, registers_of}
use Rattle.named_modules.specs.Lines.{IsArgument, IsCall, IsCount, IsCountOf, IsInstruction, IsLine, IsOperation, IsRight, IsVoidCallee, NamesCall, Stated, is_kept}
use Rattle.named_modules.specs.Modules.{Holds, IsGlobalVar, NamesModule, definition_item, global_item}
use Rattle.named_modules.specs.Types.{int_of, type_of}
use Rattle.named_modules.specs.Values.{IsOperand, IsType, IsValue, Registers}
use Rattle.named_modules.proofs.Lists.{all_append, all_left, all_right}
use Rattle.named_modules.proofs.OneLine.{operand_is}
use Rattle.module_texts.proofs.SpelledLimits.SmallConstants.{AreFew, constants_small, inits_small, wants_small}

module _ (m : Module) where
  abbrev Few : List Wanted → Type 0
  Few = AreFew (heads_of m)

  abbrev Small : Blocks → Type 0
  Small = AreSmall m.types

  left : (xs ys : List Wanted) → Few (xs ++ ys) → Few xs
  left = all_left (λ (w : Wanted). is_large (heads_of m) w ≡ false)

  right : (xs ys : List Wanted) → Few (xs ++ ys) → Few ys
  right = all_right (λ (w : Wanted). is_large (heads_of m) w ≡ false)

  join : (xs ys : Blocks) → Small xs → Small ys → Small (xs ++ ys)
  join = all_append (λ (b : Ty × ℕ). block_of m.types b.0 b.1 ≡ Err TooLarge → ⊥)

  -- what each wants, where what it is named by does
  flat_small :
      {A B : Type 0} (R : A → B → Type 0) (asks : A → List Wanted) (says : B → Blocks) → ((w : A) (x : B) → R w x → Few (asks w) → Small (says x))
      → (ws : List A) (xs : List B) → AllZip R ws xs → Few (flat_map asks ws) → Small (flat_map says xs)
  flat_small R asks says each [] [] zip few = tt
  flat_small R asks says each [] (x ∷ xs) zip few = absurd zip
  flat_small R asks says each (w ∷ ws) [] zip few = absurd zip
  flat_small R asks says each (w ∷ ws) (x ∷ xs) zip few =
      join (says x) (flat_map says xs) (each w x zip.0 (left (asks w) (flat_map asks ws) few))
      (flat_small R asks says each ws xs zip.1 (right (asks w) (flat_map asks ws) few))

  kept_few : {A : Type 0} (asks : A → List Wanted) (p : A → Bool) (ws : List A) → Few (flat_map asks ws) → Few (flat_map asks (filter p ws))
  kept_few asks p [] few = tt
  kept_few {A} asks p (w ∷ ws) few = by (p w) (kept_few asks p ws (right (asks w) (flat_map asks ws) few))
    where
      by : (b : Bool) → Few (flat_map asks (filter p ws)) → Few (flat_map asks (cond b (w ∷ filter p ws) (filter p ws)))
      by true more = all_append (λ (v : Wanted). is_large (heads_of m) v ≡ false) (asks w) (flat_map asks (filter p ws)) (left (asks w) (flat_map asks ws) few) more
      by false more = more

  -- ---- values

  module _ (rs : Registers) where
    value_small : (t : Ty) (w : ValueText) (a : Atom Name) → IsValue m rs t w a → Few (wanted_by_value (heads_of m) w) → Small (wanted_by_atom m.types a)
    value_small t (value.Const w) (Constant c) is few =
        subst (λ x. Small (wanted_by_constant m.types x)) (sym is.0) (constants_small m w t is.1 few)
    value_small t (value.Local w) (Register x) is few = tt
    value_small t w a is few = absurd is

    operand_small : (w : OperandText) (o : Operand Name) → IsOperand m rs w o → Few (wanted_by_operand (heads_of m) w) → Small (wanted_by_atom m.types o.atom)
    operand_small w o is few = value_small o.ty w.value o.atom is.1 few

    -- of two, of three, or of those of a list
    two : (a b : Atom Name) → Small (wanted_by_atom m.types a) → Small (wanted_by_atom m.types b) → Small (wanted_by_atom m.types a ++ (wanted_by_atom m.types b ++ []))
    two a b f g = join (wanted_by_atom m.types a) (wanted_by_atom m.types b ++ []) f (join (wanted_by_atom m.types b) [] g tt)

    operands_small :
        (ws : List OperandText) (os : List (Operand Name)) → AllZip (IsOperand m rs) ws os → Few (flat_map (wanted_by_operand (heads_of m)) ws)
        → Small (wanted_by_operands m.types os)
    operands_small = flat_small (IsOperand m rs) (wanted_by_operand (heads_of m)) (λ o. wanted_by_atom m.types o.atom) operand_small

    -- ---- lines

    abbrev wanted_at_right : Expr Name → Blocks
    wanted_at_right e = wanted_apart m.types e ++ wanted_by_operands m.types (operands_in e)

    operation_small : (w : OperationText) (e : Expr Name) → IsOperation m rs w e → Few (wanted_by_operation (heads_of m) w) → Small (wanted_at_right e)
    operation_small (form.Binary w) (expr.Binary b) is few =
        two b.left b.right
        (operand_small w.left (record { ty = b.ty; atom = b.left }) is.2 (left (wanted_by_operand (heads_of m) w.left) (wanted_by_value (heads_of m) w.right) few))
        (value_small b.ty w.right b.right is.3 (right (wanted_by_operand (heads_of m) w.left) (wanted_by_value (heads_of m) w.right) few))
    operation_small (form.Compare w) (expr.Icmp c) is few =
        two c.left c.right
        (operand_small w.left (record { ty = c.ty; atom = c.left }) is.1 (left (wanted_by_operand (heads_of m) w.left) (wanted_by_value (heads_of m) w.right) few))
        (value_small c.ty w.right c.right is.2 (right (wanted_by_operand (heads_of m) w.left) (wanted_by_value (heads_of m) w.right) few))
    operation_small (form.Cast w) (expr.Cast c) is few = join (wanted_by_atom m.types c.operand.atom) [] (operand_small w.from c.operand is.1 few) tt
    operation_small (form.Select w) (expr.Select s) is few =
        let first = wanted_by_operand (heads_of m) w.condition in
        let second = wanted_by_operand (heads_of m) w.then in
        let third = wanted_by_operand (heads_of m) w.other in
        let behind = right first (second ++ third) few in
        join (wanted_by_atom m.types s.condition.atom) (wanted_by_atom m.types s.left.atom ++ (wanted_by_atom m.types s.right.atom ++ []))
        (operand_small w.condition s.condition is.0 (left first (second ++ third) few))
        (two s.left.atom s.right.atom (operand_small w.then s.left is.1 (left second third behind)) (operand_small w.other s.right is.2 (right second third behind)))
    operation_small w e is few = absurd is

    right_small : (w : InstructionText) (e : Expr Name) → IsRight m rs w e → Few (wanted_by_instruction (heads_of m) w) → Small (wanted_at_right e)
    right_small (instruction.Operation w) e is few = operation_small w e is few
    right_small (instruction.Element w) (expr.Element e) is few =
        let taken : List Index = map (λ o. index_of (operand_of o)) w.indices in
        let first = wants_along (heads_of m) w.of taken in
        let base = wanted_by_operand (heads_of m) w.base in
        let others = flat_map (wanted_by_operand (heads_of m)) w.indices in
        let behind = right first (base ++ others) few in
        let entered : Small (one_of_each (stepped m.types (type_of w.of) taken)) =
        wants_small m w.of (one_of_each (stepped m.types (type_of w.of) taken)) is.1.1 (left first (base ++ others) few) in
        let same : map index_of e.indices ≡ taken = indices_are w.indices e.indices is.3 in
        let apart : Small (one_of_each (stepped m.types e.of (map index_of e.indices))) =
        subst (λ t. Small (one_of_each (stepped m.types t (map index_of e.indices)))) (sym is.1.0)
        (subst (λ l. Small (one_of_each (stepped m.types (type_of w.of) l))) (sym same) entered) in
        join (one_of_each (stepped m.types e.of (map index_of e.indices))) (wanted_by_operands m.types (e.base ∷ e.indices)) apart
        (join (wanted_by_atom m.types e.base.atom) (wanted_by_operands m.types e.indices) (operand_small w.base e.base is.2 (left base others behind))
        (operands_small w.indices e.indices is.3 (right base others behind)))
      where
        indices_are : (ws : List OperandText) (os : List (Operand Name)) → AllZip (IsOperand m rs) ws os → map index_of os ≡ map (λ o. index_of (operand_of o)) ws
        indices_are [] [] zip = refl
        indices_are [] (o ∷ os) zip = absurd zip
        indices_are (w ∷ ws) [] zip = absurd zip
        indices_are (w ∷ ws) (o ∷ os) zip =
            ap (λ p. index_of p ∷ map index_of os) (operand_is m rs w o zip.0) ∙ ap (λ l. index_of (operand_of w) ∷ l) (indices_are ws os zip.1)
    right_small (instruction.Load w) (expr.Load l) is few = join (wanted_by_atom m.types l.pointer.atom) [] (operand_small w.address l.pointer is.1 few) tt
    right_small w e is few = absurd is

    -- a type that is stated, and so many of it
    count_small : (w : TypeText) (of : Ty) → IsType m w of → (c : Option CountText) (count : Option (Ty × ℕ)) → IsCount m c count → Few (wanted_by_count (heads_of m) w c) → Small (size.wanted_by_count of count)
    count_small w of is None count counts few =
        subst (λ n. Small (size.wanted_by_count of n)) (sym counts)
        (subst (λ t. Small ((t, 1) ∷ [])) (sym is.0) (wants_small m w ((type_of w, 1) ∷ []) is.1 few))
    count_small w of is (Some c) count counts few =
        subst (λ t. Small (size.wanted_by_count t count)) (sym is.0) (by (int_of (type_of c.ty) c.number) counts.1 few)
      where
        kept : (n : ℕ) (b : Bool) → nat_eq n 1 ≡ b → Small ((type_of w, n) ∷ []) → Small (size.wanted_by_count (type_of w) (cond b None (Some (type_of c.ty, n))))
        kept n true e small = subst (λ k. Small ((type_of w, k) ∷ [])) (eqb-true n 1 e) small
        kept n false e small = if_integer (is_integer (type_of c.ty))
          where
            if_integer : (b : Bool) → Small (cond b ((type_of w, n) ∷ []) [])
            if_integer true = small
            if_integer false = tt

        by : (o : Option ℕ) → IsCountOf o (type_of c.ty) count → Few (so_many (heads_of m) w o) → Small (size.wanted_by_count (type_of w) count)
        by None of few = absurd of
        by (Some n) of few =
            subst (λ k. Small (size.wanted_by_count (type_of w) k)) (sym of) (kept n (nat_eq n 1) refl (wants_small m w ((type_of w, n) ∷ []) is.1 few))

    argument_small : (w : ArgumentText) (a : Argument) → IsArgument m rs w a → Few (wanted_by_value (heads_of m) w.value) → Small (wanted_by_atom m.types a.operand.atom)
    argument_small w a is few = value_small a.operand.ty w.value a.operand.atom is.0.1 few

    arguments_small :
        (ws : List ArgumentText) (xs : List Argument) → AllZip (IsArgument m rs) ws xs → Few (flat_map (λ (a : ArgumentText). wanted_by_value (heads_of m) a.value) ws)
        → Small (wanted_by_operands m.types (map (λ (a : Argument). a.operand) xs))
    arguments_small [] [] zip few = tt
    arguments_small [] (a ∷ xs) zip few = absurd zip
    arguments_small (w ∷ ws) [] zip few = absurd zip
    arguments_small (w ∷ ws) (a ∷ xs) zip few =
        let mine = wanted_by_value (heads_of m) w.value in
        let others = flat_map (λ (a : ArgumentText). wanted_by_value (heads_of m) a.value) ws in
        join (wanted_by_atom m.types a.operand.atom) (wanted_by_operands m.types (map (λ (a : Argument). a.operand) xs))
        (argument_small w a zip.0 (left mine others few)) (arguments_small ws xs zip.1 (right mine others few))

    called_small :
        (attributes : List ParamAttributeText) (of : Option TypeText) (states : Option CalledText) (name : Placed Name) (end : CallEndText) (c : Call)
        → NamesCall m rs attributes of states name end c → Few (wanted_by_end (heads_of m) end) → Small (size.wanted_by_line m.types (instr.Call c))
    called_small attributes of states name end c is few = arguments_small end.arguments c.arguments is.arguments few

    void_small :
        (stated : Stated) (is_stated : Bool) (w : VoidCallText) (c : Call) → IsVoidCallee m rs stated is_stated w c → Few (wanted_by_void (heads_of m) w)
        → Small (size.wanted_by_line m.types (instr.Call c))
    void_small stated false (of_void.Call name end) c is few = called_small [] None None name end c is few
    void_small stated true (of_void.Call name end) c is few = called_small [] None (Some is.0) name end c is.2 few
    void_small stated is_stated (of_void.Debug name attributes) c is few = absurd is

    call_small :
        (stated : Stated) (w : CallBodyText) (c : Call) → IsCall m rs stated w c → Few (wanted_by_call (heads_of m) w) → Small (size.wanted_by_line m.types (instr.Call c))
    call_small stated (call.Convention attributes callee end) c is few = called_small attributes callee.result callee.called _ end c is few
    call_small stated (call.Attributes first others callee end) c is few = called_small (first ∷ others) callee.result callee.called _ end c is few
    call_small stated (call.Typed t called name end) c is few = called_small [] (Some t) called _ end c is few
    call_small stated (call.Void v) c is few = void_small stated v.is_stated v.call c is few

    line_small :
        (stated : Stated) (register : Option (Placed Name)) (w : InstructionText) (i : Instr) → IsInstruction m rs stated register w i
        → Few (wanted_by_instruction (heads_of m) w) → Small (size.wanted_by_line m.types i)
    line_small stated register w (instr.Calm c) is few = right_small w c.right is.1 few
    line_small stated register (instruction.Alloca w) (instr.Alloca a) is few = count_small w.ty a.of is.1.0 w.count a.count is.1.2 few
    line_small stated register (instruction.Store w) (instr.Store s) is few =
        let first = wanted_by_operand (heads_of m) w.value in
        let second = wanted_by_operand (heads_of m) w.address in
        two s.value.atom s.pointer.atom (operand_small w.value s.value is.1.0 (left first second few)) (operand_small w.address s.pointer is.1.1 (right first second few))
    line_small stated register (instruction.Call w) (instr.Call c) is few = call_small stated w.body c is.1 few
    line_small stated register w i is few = absurd is

    -- ---- blocks

    entries_small :
        (labels : List Name) (t : Ty) (ws : List EntryText) (es : List Entry) → AllZip (IsEntry m rs labels t) ws es
        → Few (flat_map (λ (e : EntryText). wanted_by_value (heads_of m) e.value) ws)
        → Small (wanted_by_operands m.types (map (λ (e : Entry). let o : Operand Name = record { ty = t; atom = e.value } in o) es))
    entries_small labels t [] [] zip few = tt
    entries_small labels t [] (e ∷ es) zip few = absurd zip
    entries_small labels t (w ∷ ws) [] zip few = absurd zip
    entries_small labels t (w ∷ ws) (e ∷ es) zip few =
        let mine = wanted_by_value (heads_of m) w.value in
        let others = flat_map (λ (e : EntryText). wanted_by_value (heads_of m) e.value) ws in
        join (wanted_by_atom m.types e.value) (wanted_by_operands m.types (map (λ (e : Entry). let o : Operand Name = record { ty = t; atom = e.value } in o) es))
        (value_small t w.value e.value zip.0.0 (left mine others few)) (entries_small labels t ws es zip.1 (right mine others few))

    phi_small : (labels : List Name) (w : PhiText) (p : Phi) → IsPhi m rs labels w p → Few (wanted_by_phi (heads_of m) w) → Small (wanted_by_operands m.types (operands_of_phi p))
    phi_small labels w p is few = entries_small labels p.ty (entries_in w.node) p.entries is.2 few

    abbrev wanted_at_end : Term → Blocks
    wanted_at_end t = wanted_by_operands m.types (operands_at_end t)

    return_small : (w : Option OperandText) (t : Term) → IsReturn m rs w t → Few (wanted_by_return (heads_of m) w) → Small (wanted_at_end t)
    return_small (Some w) (term.Ret o) is few = join (wanted_by_atom m.types o.atom) [] (operand_small w o is few) tt
    return_small None term.RetVoid is few = tt
    return_small w t is few = absurd is

    branch_small : (labels : List Name) (w : BranchText) (t : Term) → IsBranch m rs labels w t → Few (wanted_by_branch (heads_of m) w) → Small (wanted_at_end t)
    branch_small labels (branch.Always w) (term.Br label) is few = tt
    branch_small labels (branch.Condition w) (term.CondBr c) is few = join (wanted_by_atom m.types c.condition.atom) [] (operand_small w.condition c.condition is.0 few) tt
    branch_small labels w t is few = absurd is

    end_small : (labels : List Name) (w : TermText) (t : Term) → IsTerm m rs labels w t → Few (wanted_by_term (heads_of m) w) → Small (wanted_at_end t)
    end_small labels (written.Ret w) t is few = return_small w t is few
    end_small labels (written.Br w) t is few = branch_small labels w t is few
    end_small labels (written.Switch w) (term.Switch s) is few = join (wanted_by_atom m.types s.value.atom) [] (operand_small w.value s.value is.0 few) tt
    end_small labels written.Unreachable term.Unreachable is few = tt
    end_small labels w t is few = absurd is

    block_small :
        (stated : Stated) (labels : List Name) (w : BlockText) (b : Block) → NamesBlock m rs stated labels w b → Few (wanted_by_block (heads_of m) w)
        → Small (size.wanted_in_block m.types b)
    block_small stated labels w b names few =
        let phis = flat_map (wanted_by_phi (heads_of m)) w.body.phis in
        let lines = flat_map (wanted_by_line (heads_of m)) w.body.lines in
        let ends = wanted_by_term (heads_of m) w.end.term in
        let behind = right phis (lines ++ ends) few in
        let of_phis = flat_small (IsPhi m rs labels) (wanted_by_phi (heads_of m)) (λ (p : Phi). wanted_by_operands m.types (operands_of_phi p)) (phi_small labels) w.body.phis b.phis names.phis (left phis (lines ++ ends) few) in
        let of_lines =
        flat_small (IsLine m rs stated) (wanted_by_line (heads_of m)) (size.wanted_by_line m.types) (λ l i is f. line_small stated l.register l.attached.instruction i is f)
        (filter is_kept w.body.lines) b.body names.lines.1 (kept_few (wanted_by_line (heads_of m)) is_kept w.body.lines (left lines ends behind)) in
        join (flat_map (λ (p : Phi). wanted_by_operands m.types (operands_of_phi p)) b.phis) (flat_map (size.wanted_by_line m.types) b.body ++ wanted_at_end b.term) of_phis
        (join (flat_map (size.wanted_by_line m.types) b.body) (wanted_at_end b.term) of_lines (end_small labels w.end.term b.term names.ends (right lines ends behind)))

  -- ---- items

  abbrev wanted_by_definition : DefinitionText → List Wanted
  wanted_by_definition w = flat_map (wanted_by_block (heads_of m)) (blocks_in w)

  function_small :
      (stated : Stated) (w : DefinitionText) (f : Function) → NamesFunction m stated w f → Few (wanted_by_definition w) → Small (size.wanted_in_function m.types f)
  function_small stated w f names few =
      flat_small (NamesBlock m (registers_of m f) stated (labels_of f)) (wanted_by_block (heads_of m)) (size.wanted_in_block m.types)
      (block_small (registers_of m f) stated (labels_of f)) (blocks_in w) f.blocks names.blocks few

  start_small :
      (t : Ty) (w : HeldText) (l : Linkage) (start : Option Init) → Holds m t w l start → Few (wanted_at_start (heads_of m) w)
      → Small (size.wanted_at_start m.types start)
  start_small t held.External l start is few = subst (λ i. Small (size.wanted_at_start m.types i)) (sym is.1) tt
  start_small t (held.Init linkage w) l None is few = absurd is
  start_small t (held.Init linkage w) l (Some i) is few =
      subst (λ x. Small (size.wanted_at_start m.types (Some x))) (sym is.1.0) (inits_small m w t is.1.1 few)

  abbrev wanted_by_body : GlobalNameText × GlobalBodyText → List Wanted
  wanted_by_body w = wanted_by_global (heads_of m) w.1

  global_small : (w : GlobalNameText × GlobalBodyText) (g : GlobalVar) → IsGlobalVar m w g → Few (wanted_by_body w) → Small (size.wanted_by_global m.types g)
  global_small w g is few =
      let first = so_many (heads_of m) w.1.ty (Some 1) in
      let others = wanted_at_start (heads_of m) w.1.held in
      let whole : Small ((g.ty, 1) ∷ []) =
      subst (λ t. Small ((t, 1) ∷ [])) (sym is.ty.0) (wants_small m w.1.ty ((type_of w.1.ty, 1) ∷ []) is.ty.1 (left first others few)) in
      join ((g.ty, 1) ∷ []) (size.wanted_at_start m.types g.init) whole (start_small g.ty w.1.held g.linkage g.init is.held (right first others few))

  -- ---- modules

  globals_few : (ws : List ItemText) → Few (flat_map (wanted_by_item (heads_of m)) ws) → Few (flat_map wanted_by_body (filter_map global_item ws))
  globals_few [] few = tt
  globals_few (item.Global name b ∷ ws) few =
      let mine = wanted_by_global (heads_of m) b in
      let others = flat_map (wanted_by_item (heads_of m)) ws in
      all_append (λ (v : Wanted). is_large (heads_of m) v ≡ false) mine (flat_map wanted_by_body (filter_map global_item ws)) (left mine others few) (globals_few ws (right mine others few))
  globals_few (w ∷ ws) few = globals_few ws (right (wanted_by_item (heads_of m) w) (flat_map (wanted_by_item (heads_of m)) ws) few)

  definitions_few : (ws : List ItemText) → Few (flat_map (wanted_by_item (heads_of m)) ws) → Few (flat_map wanted_by_definition (filter_map definition_item ws))
  definitions_few [] few = tt
  definitions_few (item.Definition d ∷ ws) few =
      let mine = wanted_by_definition d in
      let others = flat_map (wanted_by_item (heads_of m)) ws in
      all_append (λ (v : Wanted). is_large (heads_of m) v ≡ false) mine (flat_map wanted_by_definition (filter_map definition_item ws)) (left mine others few)
      (definitions_few ws (right mine others few))
  definitions_few (w ∷ ws) few = definitions_few ws (right (wanted_by_item (heads_of m) w) (flat_map (wanted_by_item (heads_of m)) ws) few)

  -- none is large of which no place is told
  none_large : (ws : List Wanted) → map (λ (b : Wanted). b.place) (filter (is_large (heads_of m)) ws) ≡ [] → Few ws
  none_large [] e = tt
  none_large (w ∷ ws) e = by (is_large (heads_of m) w) refl e (λ more. none_large ws more)
    where
      by :
          (b : Bool) → is_large (heads_of m) w ≡ b → map (λ (b : Wanted). b.place) (cond b (w ∷ filter (is_large (heads_of m)) ws) (filter (is_large (heads_of m)) ws)) ≡ []
          → (map (λ (b : Wanted). b.place) (filter (is_large (heads_of m)) ws) ≡ [] → Few ws) → Few (w ∷ ws)
      by true is e more = cc
      by false is e more = (is, more e)

pub modules_small :
    (stated : Stated) (params : StatedParams) (w : ModuleText) (m : Module) → NamesModule stated params w m → large_places (heads_of m) w ≡ [] → IsSmall m
modules_small stated params w m names none =
    let few = none_large m (flat_map (wanted_by_item (heads_of m)) w.items) none in
    join m (flat_map (size.wanted_by_global m.types) m.globals) (flat_map (size.wanted_in_function m.types) m.functions)
    (flat_small m (IsGlobalVar m) (wanted_by_body m) (size.wanted_by_global m.types) (global_small m) (filter_map global_item w.items) m.globals names.globals (globals_few m w.items few))
    (flat_small m (NamesFunction m stated) (wanted_by_definition m) (size.wanted_in_function m.types) (function_small m stated) (filter_map definition_item w.items) m.functions names.functions (definitions_few m w.items few))
