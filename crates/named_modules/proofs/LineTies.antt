-- Lines are at fault exactly where they name nothing.
use Rattle.std.proofs.Common.{◌≡◌, ◌∙◌, ℕ, Bool, true, false, ◌&&◌, List, [], ◌∷◌, ◌++◌, map, Option, Some, None, refl, sym, ap, subst}
use Rattle.std.specs.Prelude.{not, is_some, unwrap_or}
use Rattle.std.specs.List.{AllByRecursion, AllZip, filter, flat_map}
use Rattle.ir_core.specs.declared.modules.Module.{Module}
use Rattle.ir_core.specs.Functions.{name_set}
use Rattle.ir_core.specs.Types.{is_first_class, is_pointer_at_level}
use Rattle.ir_core.specs.Typing.{signatures_of}
use Rattle.ir_types.specs.declared.names.Name.{Name}
use Rattle.ir_types.specs.declared.ty.Ty.{Ty, Void}
use Rattle.ir_types.specs.declared.ty.Ty.TheViews.{outs-Void}
use Rattle.module_grammar.specs.declared.attributes.ParamAttributeText.{ParamAttributeText}
use Rattle.module_grammar.specs.declared.constants.OperandText.{OperandText}
use Rattle.module_grammar.specs.declared.constants.ValueText.{ValueText}
use Rattle.module_grammar.specs.declared.lines.CallBodyText.{CallBodyText}
use Rattle.module_grammar.specs.declared.lines.CallBodyText.TheVariants as body
use Rattle.module_grammar.specs.declared.lines.CallEndText.{CallEndText}
use Rattle.module_grammar.specs.declared.lines.CountText.{CountText}
use Rattle.module_grammar.specs.declared.lines.InstructionText.{InstructionText}
use Rattle.module_grammar.specs.declared.lines.InstructionText.TheVariants as instruction
use Rattle.module_grammar.specs.declared.lines.LineText.{LineText}
use Rattle.module_grammar.specs.declared.lines.OperationText.{OperationText}
use Rattle.module_grammar.specs.declared.lines.OperationText.TheVariants as form
use Rattle.module_grammar.specs.declared.lines.VoidCallText.{VoidCallText}
use Rattle.module_grammar.specs.declared.lines.VoidCallText.TheVariants as of_void
use Rattle.module_grammar.specs.declared.places.Placed.{Placed}
use Rattle.module_grammar.specs.declared.types.CalledText.{CalledText}
use Rattle.module_grammar.specs.declared.types.TypeText.{TypeText}
use Rattle.named_modules.specs.Built.{count_kept, count_of, due_behind_line, line_at, lines_from, name_due, operand_of, operation_of, result_name, result_of, value_at}
use Rattle.named_modules.specs.Constants.{global_name}
use Rattle.named_modules.specs.Faults.{Things, align_faults, call_faults, called_faults, count_faults, heads_of, instruction_faults, int_faults, line_faults, line_written, operand_faults, operation_faults, sets, type_faults, value_faults, value_type_faults, void_faults}
use Rattle.named_modules.specs.Laws.{Is}
use Rattle.named_modules.specs.Lines.{AreLines, HasNone, IsBare, IsCount, IsCountOf, IsInstruction, IsLine, IsOperation, IsResultNamed, NamesCall, is_dropped, is_dropped_call, is_kept}
use Rattle.named_modules.specs.Types.{int_of, type_of}
use Rattle.named_modules.specs.Values.{IsOperand, IsValue, Registers}
use Rattle.named_modules.proofs.CallTies.{call_to, called_ties}
use Rattle.named_modules.proofs.Lists.{AreDistinct, names_of_pairs}
use Rattle.named_modules.proofs.Named.{name_named}
use Rattle.named_modules.proofs.NamesAre.{kept_behind}
use Rattle.named_modules.proofs.Ordered.{IsBareName}
use Rattle.named_modules.proofs.Ties.{Ties, both, each_built, in_turn, none, seen, through}
use Rattle.named_modules.proofs.ValueTies.{Matches, align_ties, first_class, int_ties, operand_ties, type_at_ties, value_ties, value_type_at_ties}

-- ---- what is counted

count_is : (o : Option ℕ) (t : Ty) → o ≡ Some (unwrap_or o 0) → IsCountOf o t (count_kept t (unwrap_or o 0))
count_is None t e = cc
count_is (Some n) t e = refl

is_number : (o : Option ℕ) (t : Ty) (count : Option (Ty × ℕ)) → IsCountOf o t count → o ≡ Some (unwrap_or o 0)
is_number None t count is = absurd is
is_number (Some n) t count is = refl

pub count_ties : (m : Module) (w : Option CountText) → Ties (count_faults (heads_of m) w) (IsCount m w (count_of w))
count_ties m None = none refl
count_ties m (Some w) =
    let t = type_of w.ty in
    let o = int_of t w.number in
    through (type_faults (heads_of m) w.ty ++ int_faults t w.number) (both (type_faults (heads_of m) w.ty) (int_faults t w.number) (type_at_ties m w.ty) (int_ties t w.number))
    (λ h. (h.0, count_is o t h.1)) (λ h. (h.0, is_number o t (count_of (Some w)) h.1))

abbrev void_call : Bool → VoidCallText → InstructionText
void_call is_stated v = instruction.Call (record { tail = false; body = body.Void (record { is_stated = is_stated; call = v }) })

-- a type of values is none of no value
pub not_void : (t : Ty) → is_first_class t ≡ true → t ≡ Void → ⊥
not_void t first e =
    let no : is_first_class Void ≡ false = ap is_pointer_at_level outs-Void in
    let yes : is_first_class Void ≡ true = ap is_first_class (sym e) ∙ first in
    let wrong : false ≡ true = sym no ∙ yes in cc

module _ (m : Module) (ts : Things) (rs : Registers) (labels : List Name) (matches : Matches ts rs labels) where
  at_operand : (w : OperandText) → Ties (operand_faults (heads_of m) ts w) (IsOperand m rs w (operand_of w))
  at_operand = operand_ties m ts rs labels matches

  -- an operand, and a further value of its type
  pair_ties : (w : OperandText) (v : ValueText) → Ties (operand_faults (heads_of m) ts w ++ value_faults (heads_of m) ts (type_of w.ty) v) (IsOperand m rs w (operand_of w) × IsValue m rs (type_of w.ty) v (value_at (type_of w.ty) v))
  pair_ties w v =
      in_turn (operand_faults (heads_of m) ts w) (value_faults (heads_of m) ts (type_of w.ty) v) (at_operand w) (λ is. value_ties m ts rs labels matches (type_of w.ty) v (first_class m w.ty (type_of w.ty) is.0))

  pub operation_ties : (w : OperationText) → Ties (operation_faults (heads_of m) ts w) (IsOperation m rs w (operation_of w))
  operation_ties (form.Binary w) =
      through (operand_faults (heads_of m) ts w.left ++ value_faults (heads_of m) ts (type_of w.left.ty) w.right) (pair_ties w.left w.right) (λ h. (refl, refl, h.0, h.1)) (λ h. (h.2, h.3))
  operation_ties (form.Compare w) =
      through (operand_faults (heads_of m) ts w.left ++ value_faults (heads_of m) ts (type_of w.left.ty) w.right) (pair_ties w.left w.right) (λ h. (refl, h.0, h.1)) (λ h. (h.1, h.2))
  operation_ties (form.Cast w) =
      let fs = operand_faults (heads_of m) ts w.from in
      let gs = value_type_faults (heads_of m) w.to in
      through (fs ++ gs) (both fs gs (at_operand w.from) (value_type_at_ties m w.to)) (λ h. (refl, h.0, h.1)) (λ h. (h.1, h.2))
  operation_ties (form.Select w) =
      let fs = operand_faults (heads_of m) ts w.condition in
      let gs = operand_faults (heads_of m) ts w.then in
      let hs = operand_faults (heads_of m) ts w.other in
      through (fs ++ (gs ++ hs)) (both fs (gs ++ hs) (at_operand w.condition) (both gs hs (at_operand w.then) (at_operand w.other))) (λ h. (h.0, h.1.0, h.1.1)) (λ h. (h.0, (h.1, h.2)))

  module _ (stated : Placed Name → CalledText) (distinct : AreDistinct (names_of_pairs (signatures_of m))) where
    -- a call that sets nothing, or a register that is named
    result_named_ties : (due : ℕ) (register : Option (Placed Name)) (attributes : List ParamAttributeText) (of : Option TypeText) (c : Option CalledText) (x : Placed Name) (end : CallEndText) → HasNone (not (is_some (result_name 0 None of))) register → Ties (called_faults (heads_of m) ts of c x end) (IsResultNamed register (result_of of) (result_name due register of) × NamesCall m rs attributes of c x end (call_to (result_name due register of) attributes of x end))
    result_named_ties due register attributes None c x end bare =
        through (called_faults (heads_of m) ts None c x end) (called_ties m ts rs labels matches distinct None attributes None c x end) (λ h. ((bare, refl), h)) (λ h. h.1)
    result_named_ties due register attributes (Some w) c x end bare =
        let name : Option Name = Some (name_due due register) in
        through (called_faults (heads_of m) ts (Some w) c x end) (called_ties m ts rs labels matches distinct name attributes (Some w) c x end)
        (λ h. ((name_named due register, not_void (type_of w) (first_class m w (type_of w) h.result)), h)) (λ h. h.1)

    void_ties : (due : ℕ) (register : Option (Placed Name)) (is_stated : Bool) (v : VoidCallText) → is_dropped (void_call is_stated v) ≡ false → register ≡ None → Ties (void_faults (heads_of m) stated ts is_stated v) (IsInstruction m rs (Is stated) register (void_call is_stated v) (line_at m.types due register (void_call is_stated v)))
    void_ties due register false (of_void.Call x end) kept bare = result_named_ties due register [] None None x end bare
    void_ties due register true (of_void.Call x end) kept bare =
        through (called_faults (heads_of m) ts None (Some (stated x)) x end) (result_named_ties due register [] None (Some (stated x)) x end bare)
        (λ h. (h.0, (stated x, refl, h.1))) (λ h. (h.0, subst (λ c. NamesCall m rs [] None (Some c) x end (call_to None [] None x end)) h.1.1 h.1.2))
    void_ties due register is_stated (of_void.Debug x attributes) kept bare = cc

    call_ties : (due : ℕ) (register : Option (Placed Name)) (tail : Bool) (b : CallBodyText) → is_dropped (instruction.Call (record { tail = tail; body = b })) ≡ false → HasNone (not (sets (instruction.Call (record { tail = tail; body = b })))) register → Ties (call_faults (heads_of m) stated ts b) (IsInstruction m rs (Is stated) register (instruction.Call (record { tail = tail; body = b })) (line_at m.types due register (instruction.Call (record { tail = tail; body = b }))))
    call_ties due register tail (body.Convention attributes c end) kept bare = result_named_ties due register attributes c.result c.called (global_name c.name) end bare
    call_ties due register tail (body.Attributes first others c end) kept bare = result_named_ties due register (first ∷ others) c.result c.called (global_name c.name) end bare
    call_ties due register tail (body.Typed t c x end) kept bare = result_named_ties due register [] (Some t) c (global_name x) end bare
    call_ties due register tail (body.Void v) kept bare = void_ties due register v.is_stated v.call kept (no_result v.call kept bare)
      where
        no_result : (v : VoidCallText) → is_dropped (void_call true v) ≡ false → HasNone (not (sets (void_call true v))) register → register ≡ None
        no_result (of_void.Call x end) kept bare = bare
        no_result (of_void.Debug x attributes) kept bare = cc

    instruction_ties : (due : ℕ) (register : Option (Placed Name)) (i : InstructionText) → is_dropped i ≡ false → HasNone (not (sets i)) register → Ties (instruction_faults (heads_of m) stated ts i) (IsInstruction m rs (Is stated) register i (line_at m.types due register i))
    instruction_ties due register (instruction.Operation w) kept bare =
        through (operation_faults (heads_of m) ts w) (operation_ties w) (λ h. (name_named due register, h)) (λ h. h.1)
    instruction_ties due register (instruction.Element w) kept bare =
        let fs = type_faults (heads_of m) w.of in
        let gs = operand_faults (heads_of m) ts w.base in
        let hs = flat_map (operand_faults (heads_of m) ts) w.indices in
        through (fs ++ (gs ++ hs)) (both fs (gs ++ hs) (type_at_ties m w.of) (both gs hs (at_operand w.base) (each_built (operand_faults (heads_of m) ts) (IsOperand m rs) operand_of at_operand w.indices)))
        (λ h. (name_named due register, (refl, h.0, h.1.0, h.1.1, refl))) (λ h. (h.1.1, (h.1.2, h.1.3)))
    instruction_ties due register (instruction.Alloca w) kept bare =
        let fs = type_faults (heads_of m) w.ty in
        let gs = count_faults (heads_of m) w.count in
        let hs = align_faults w.align in
        through (fs ++ (gs ++ hs)) (both fs (gs ++ hs) (type_at_ties m w.ty) (both gs hs (count_ties m w.count) (align_ties w.align)))
        (λ h. (name_named due register, (h.0, refl, h.1.0, h.1.1))) (λ h. (h.1.0, (h.1.2, h.1.3)))
    instruction_ties due register (instruction.Load w) kept bare =
        let fs = value_type_faults (heads_of m) w.ty in
        let gs = operand_faults (heads_of m) ts w.address in
        let hs = align_faults w.align in
        through (fs ++ (gs ++ hs)) (both fs (gs ++ hs) (value_type_at_ties m w.ty) (both gs hs (at_operand w.address) (align_ties w.align)))
        (λ h. (name_named due register, (h.0, h.1.0, h.1.1))) (λ h. (h.1.0, (h.1.1, h.1.2)))
    instruction_ties due register (instruction.Store w) kept bare =
        let fs = operand_faults (heads_of m) ts w.value in
        let gs = operand_faults (heads_of m) ts w.address in
        let hs = align_faults w.align in
        through (fs ++ (gs ++ hs)) (both fs (gs ++ hs) (at_operand w.value) (both gs hs (at_operand w.address) (align_ties w.align)))
        (λ h. (bare, (h.0, h.1.0, h.1.1))) (λ h. (h.1.0, (h.1.1, h.1.2)))
    instruction_ties due register (instruction.Call w) kept bare = call_ties due register w.tail w.body kept bare

    void_dropped : (is_stated : Bool) (v : VoidCallText) → is_dropped (void_call true v) ≡ true → void_faults (heads_of m) stated ts is_stated v ≡ []
    void_dropped is_stated (of_void.Call x end) e = cc
    void_dropped is_stated (of_void.Debug x attributes) e = refl

    call_dropped : (b : CallBodyText) → is_dropped_call b ≡ true → call_faults (heads_of m) stated ts b ≡ []
    call_dropped (body.Void v) e = void_dropped v.is_stated v.call e
    call_dropped (body.Convention attributes c end) e = cc
    call_dropped (body.Attributes first others c end) e = cc
    call_dropped (body.Typed t c x end) e = cc

    dropped : (i : InstructionText) → is_dropped i ≡ true → instruction_faults (heads_of m) stated ts i ≡ []
    dropped (instruction.Call w) e = call_dropped w.body e
    dropped (instruction.Operation w) e = cc
    dropped (instruction.Element w) e = cc
    dropped (instruction.Alloca w) e = cc
    dropped (instruction.Load w) e = cc
    dropped (instruction.Store w) e = cc

    pub lines_ties : (due : ℕ) (ws : List LineText) → AllByRecursion IsBareName (map line_written ws) → Ties (flat_map (line_faults (heads_of m) stated ts) ws) (AreLines m rs (Is stated) ws (lines_from m.types due (filter is_kept ws)))
    lines_ties due [] bare = none (tt, tt)
    lines_ties due (w ∷ ws) bare = by (is_dropped w.attached.instruction) refl (λ next. lines_ties next ws bare.1)
      where
        i : InstructionText
        i = w.attached.instruction

        behind : List LineText
        behind = filter is_kept ws

        by : (b : Bool) → is_dropped w.attached.instruction ≡ b → ((next : ℕ) → Ties (flat_map (line_faults (heads_of m) stated ts) ws) (AreLines m rs (Is stated) ws (lines_from m.types next (filter is_kept ws)))) → Ties (line_faults (heads_of m) stated ts w ++ flat_map (line_faults (heads_of m) stated ts) ws) ((HasNone b w.register × AllByRecursion IsBare ws) × AllZip (IsLine m rs (Is stated)) (kept_behind b w (filter is_kept ws)) (lines_from m.types due (kept_behind b w (filter is_kept ws))))
        by true is rest =
            let more = flat_map (line_faults (heads_of m) stated ts) ws in
            let none_there : w.register ≡ None = subst (λ d. HasNone (not (not d && is_some (name_set (line_at [] 0 None w.attached.instruction)))) w.register) is bare.0 in
            seen (line_faults (heads_of m) stated ts w ++ more) more (ap (λ fs. fs ++ more) (dropped w.attached.instruction is)) (through more (rest due) (λ h. ((none_there, h.0), h.1)) (λ h. (h.0.1, h.1)))
        by false is rest =
            let here = line_faults (heads_of m) stated ts w in
            let more = flat_map (line_faults (heads_of m) stated ts) ws in
            through (here ++ more) (both here more (instruction_ties due w.register w.attached.instruction is bare.0) (rest (due_behind_line m.types due w))) (λ h. ((tt, h.1.0), (h.0, h.1.1))) (λ h. (h.1.0, (h.0.1, h.1.1)))
