-- A module that a tree within the limit on depths names is shallow.
use Rattle.std.proofs.Common.{◌≡◌, ◌≤◌, ◌+◌, ℕ, Bool, true, false, cond, nat_eq, List, [], ◌∷◌, ◌++◌, map, Option, Some, None, ap, sym, subst, arith}
use Rattle.std.specs.Prelude.{max}
use Rattle.std.specs.List.{AllByRecursion, AllZip, filter, filter_map, flat_map}
use Rattle.ir_core.specs.declared.expressions.Expr.{Expr}
use Rattle.ir_core.specs.declared.expressions.Expr.TheVariants as expr
use Rattle.ir_core.specs.declared.functions.Argument.{Argument}
use Rattle.ir_core.specs.declared.functions.Block.{Block}
use Rattle.ir_core.specs.declared.functions.Call.{Call}
use Rattle.ir_core.specs.declared.functions.Case.{Case}
use Rattle.ir_core.specs.declared.functions.Entry.{Entry}
use Rattle.ir_core.specs.declared.functions.Function.{Function}
use Rattle.ir_core.specs.declared.functions.Instr.{Instr}
use Rattle.ir_core.specs.declared.functions.Instr.TheVariants as instr
use Rattle.ir_core.specs.declared.functions.Param.{Param}
use Rattle.ir_core.specs.declared.functions.Phi.{Phi}
use Rattle.ir_core.specs.declared.functions.Term.{Term}
use Rattle.ir_core.specs.declared.functions.Term.TheVariants as term
use Rattle.ir_core.specs.declared.modules.Declaration.{Declaration}
use Rattle.ir_core.specs.declared.modules.DeclaredParam.{DeclaredParam}
use Rattle.ir_core.specs.declared.modules.GlobalVar.{GlobalVar}
use Rattle.ir_core.specs.declared.modules.Init.{Init}
use Rattle.ir_core.specs.declared.modules.Linkage.{Linkage}
use Rattle.ir_core.specs.declared.modules.Module.{Module}
use Rattle.ir_core.specs.declared.operands.Atom.{Atom}
use Rattle.ir_core.specs.declared.operands.Atom.TheVariants.{Constant, Register}
use Rattle.ir_core.specs.declared.operands.Operand.{Operand}
use Rattle.ir_core.specs.Depths.{AreShallow, IsShallow, deepest, depth_at_level, depth_of, depth_of_atom, depth_of_constant, depth_of_init, depth_of_operand, depths_at_line, depths_at_phi, depths_at_start, depths_in_block, depths_in_declaration, depths_in_fields, depths_in_function, depths_in_global, depths_in_named}
use Rattle.ir_core.specs.Expressions.{operands_in}
use Rattle.ir_core.specs.Functions.{cases_of, operands_at_end}
use Rattle.ir_core.specs.Limits.{depth_limit}
use Rattle.ir_core.specs.StatedTypes.{stated_apart, stated_by_count}
use Rattle.ir_types.specs.declared.named.NamedTy.{NamedTy}
use Rattle.ir_types.specs.declared.names.Name.{Name}
use Rattle.ir_types.specs.declared.ty.Ty.{Ty, Void}
use Rattle.ir_types.proofs.Induction as ty
use Rattle.module_grammar.specs.declared.attributes.ParamAttributeText.{ParamAttributeText}
use Rattle.module_grammar.specs.declared.constants.OperandText.{OperandText}
use Rattle.module_grammar.specs.declared.constants.ValueText.{ValueText}
use Rattle.module_grammar.specs.declared.constants.ValueText.TheVariants as value
use Rattle.module_grammar.specs.declared.flow.BlockText.{BlockText}
use Rattle.module_grammar.specs.declared.flow.BranchText.{BranchText}
use Rattle.module_grammar.specs.declared.flow.BranchText.TheVariants as branch
use Rattle.module_grammar.specs.declared.flow.CaseText.{CaseText}
use Rattle.module_grammar.specs.declared.flow.EntryText.{EntryText}
use Rattle.module_grammar.specs.declared.flow.PhiText.{PhiText}
use Rattle.module_grammar.specs.declared.flow.TermText.{TermText}
use Rattle.module_grammar.specs.declared.flow.TermText.TheVariants as written
use Rattle.module_grammar.specs.declared.functions.DeclarationText.{DeclarationText}
use Rattle.module_grammar.specs.declared.functions.DeclaredNameText.{DeclaredNameText}
use Rattle.module_grammar.specs.declared.functions.DeclaredNameText.TheVariants as declared
use Rattle.module_grammar.specs.declared.functions.DeclaredText.{DeclaredText}
use Rattle.module_grammar.specs.declared.functions.DefinitionText.{DefinitionText}
use Rattle.module_grammar.specs.declared.functions.ParamText.{ParamText}
use Rattle.module_grammar.specs.declared.items.GlobalBodyText.{GlobalBodyText}
use Rattle.module_grammar.specs.declared.items.HeldText.{HeldText}
use Rattle.module_grammar.specs.declared.items.HeldText.TheVariants as held
use Rattle.module_grammar.specs.declared.items.ItemText.{ItemText}
use Rattle.module_grammar.specs.declared.items.ItemText.TheVariants as item
use Rattle.module_grammar.specs.declared.items.ModuleText.{ModuleText}
use Rattle.module_grammar.specs.declared.items.TypeBodyText.{TypeBodyText}
use Rattle.module_grammar.specs.declared.items.TypeBodyText.TheVariants as body
use Rattle.module_grammar.specs.declared.constants.GlobalNameText.{GlobalNameText}
use Rattle.module_grammar.specs.declared.lines.ArgumentText.{ArgumentText}
use Rattle.module_grammar.specs.declared.lines.CallBodyText.{CallBodyText}
use Rattle.module_grammar.specs.declared.lines.CallBodyText.TheVariants as call
use Rattle.module_grammar.specs.declared.lines.CallEndText.{CallEndText}
use Rattle.module_grammar.specs.declared.lines.CountText.{CountText}
use Rattle.module_grammar.specs.declared.lines.InstructionText.{InstructionText}
use Rattle.module_grammar.specs.declared.lines.InstructionText.TheVariants as instruction
use Rattle.module_grammar.specs.declared.lines.OperationText.{OperationText}
use Rattle.module_grammar.specs.declared.lines.OperationText.TheVariants as form
use Rattle.module_grammar.specs.declared.lines.VoidCallText.{VoidCallText}
use Rattle.module_grammar.specs.declared.lines.VoidCallText.TheVariants as of_void
use Rattle.module_grammar.specs.declared.places.Placed.{Placed}
use Rattle.module_grammar.specs.declared.types.CalledText.{CalledText}
use Rattle.module_grammar.specs.declared.types.TypeText.{TypeText}
use Rattle.named_modules.specs.Constants.{const_of, init_of}
use Rattle.named_modules.specs.Flow.{IsBranch, IsCase, IsEntry, IsPhi, IsReturn, IsTerm, NamesBlock, entries_in}
use Rattle.named_modules.specs.Functions.{IsDeclared, IsDeclaredParam, IsParam, NamesDeclaration, NamesFunction, StatedParams, blocks_in, labels_of, registers_of}
use Rattle.named_modules.specs.Lines.{IsArgument, IsCall, IsCount, IsCountOf, IsInstruction, IsLine, IsOperation, IsResult, IsRight, IsVoidCallee, NamesCall, Stated, is_kept}
use Rattle.named_modules.specs.Modules.{AreFields, Holds, IsGlobalVar, IsNamedType, NamesModule, declarations_from, definition_item, global_item, type_item}
use Rattle.named_modules.specs.Functions.{is_dropped_name}
use Rattle.named_modules.specs.Types.{int_of, type_of}
use Rattle.named_modules.specs.Values.{IsOperand, IsType, IsValue, Registers}
use Rattle.named_modules.proofs.Lists.{all_append}
use Rattle.named_modules.proofs.Ties.{zip_is}
use Rattle.module_texts.proofs.SpelledLimits.Fits.{ArgumentFits, BlockFits, BodyOfTypeFits, BranchFits, CallFits, CaseFits, CountFits, DeclarationFits, DeclaredFits, DefinitionFits, EndFits, EntryFits, GlobalFits, HeldFits, InstructionFits, ItemFits, LineFits, NameFits, OperandFits, OperationFits, ParamFits, PhiFits, ResultFits, ReturnFits, TermFits, TypeFits, ValueFits, VoidFits}

-- ---- lists

abbrev Deep : ℕ → Type 0
Deep d = d ≤ depth_limit

join : (xs ys : List ℕ) → AreShallow xs → AreShallow ys → AreShallow (xs ++ ys)
join = all_append Deep

-- what each says, where each of those that it is named by fits
flat_shallow :
    {A B : Type 0} (R : A → B → Type 0) (F : A → Type 0) (says : B → List ℕ) → ((w : A) (x : B) → R w x → F w → AreShallow (says x))
    → (ws : List A) (xs : List B) → AllZip R ws xs → AllByRecursion F ws → AreShallow (flat_map says xs)
flat_shallow R F says each [] [] zip fits = tt
flat_shallow R F says each [] (x ∷ xs) zip fits = absurd zip
flat_shallow R F says each (w ∷ ws) [] zip fits = absurd zip
flat_shallow R F says each (w ∷ ws) (x ∷ xs) zip fits =
    join (says x) (flat_map says xs) (each w x zip.0 fits.0) (flat_shallow R F says each ws xs zip.1 fits.1)

each_shallow :
    {A B : Type 0} (R : A → B → Type 0) (F : A → Type 0) (says : B → ℕ) → ((w : A) (x : B) → R w x → F w → Deep (says x))
    → (ws : List A) (xs : List B) → AllZip R ws xs → AllByRecursion F ws → AreShallow (map says xs)
each_shallow R F says each [] [] zip fits = tt
each_shallow R F says each [] (x ∷ xs) zip fits = absurd zip
each_shallow R F says each (w ∷ ws) [] zip fits = absurd zip
each_shallow R F says each (w ∷ ws) (x ∷ xs) zip fits = (each w x zip.0 fits.0, each_shallow R F says each ws xs zip.1 fits.1)

kept_fit : {A : Type 0} (F : A → Type 0) (p : A → Bool) (ws : List A) → AllByRecursion F ws → AllByRecursion F (filter p ws)
kept_fit F p [] fits = tt
kept_fit F p (w ∷ ws) fits = by (p w) (kept_fit F p ws fits.1)
  where
    by : (b : Bool) → AllByRecursion F (filter p ws) → AllByRecursion F (cond b (w ∷ filter p ws) (filter p ws))
    by true more = (fits.0, more)
    by false more = more

-- ---- types and values

alone : (d : ℕ) → 0 + d ≤ depth_limit → Deep d
alone d h = omega (arith, h)

first : Deep 1
first = omega arith

wider : (a b : ℕ) → Deep a → Deep b → Deep (max a b)
wider a b h i = omega (arith, h, i)

type_shallow : (w : TypeText) (t : Ty) → t ≡ type_of w → TypeFits 0 depth_limit w → Deep (depth_of t)
type_shallow w t is fits = subst (λ u. Deep (depth_of u)) (sym is) (alone (depth_of (type_of w)) fits)

void_shallow : (t : Ty) → t ≡ Void → Deep (depth_of t)
void_shallow t is = subst Deep (sym (ap depth_of is)) (subst Deep (sym (ty.at_void ℕ depth_at_level)) first)

module _ (m : Module) where
  result_shallow : (w : Option TypeText) (t : Ty) → IsResult m w t → ResultFits 0 depth_limit w → Deep (depth_of t)
  result_shallow None t is fits = void_shallow t is
  result_shallow (Some w) t is fits = type_shallow w t is.0 fits

  module _ (rs : Registers) where
    atom_shallow : (t : Ty) (w : ValueText) (a : Atom Name) → IsValue m rs t w a → ValueFits 0 depth_limit w → Deep (depth_of_atom a)
    atom_shallow t (value.Const w) (Constant c) is fits =
        subst (λ x. Deep (depth_of_constant x)) (sym is.0) (alone (depth_of_constant (const_of w t)) (fits t))
    atom_shallow t (value.Local w) (Register x) is fits = first
    atom_shallow t w a is fits = absurd is

    operand_shallow : (w : OperandText) (o : Operand Name) → IsOperand m rs w o → OperandFits 0 depth_limit w → Deep (depth_of_operand o)
    operand_shallow w o is fits =
        wider (depth_of o.ty) (depth_of_atom o.atom) (type_shallow w.ty o.ty is.0.0 fits.0) (atom_shallow o.ty w.value o.atom is.1 fits.1)

    -- a value at a type that stands elsewhere
    beside : (t : Ty) (w : ValueText) (a : Atom Name) → Deep (depth_of t) → IsValue m rs t w a → ValueFits 0 depth_limit w → Deep (max (depth_of t) (depth_of_atom a))
    beside t w a deep is fits = wider (depth_of t) (depth_of_atom a) deep (atom_shallow t w a is fits)

    -- ---- lines

    abbrev depths_at_right : Expr Name → List ℕ
    depths_at_right e = map depth_of (stated_apart e) ++ map (λ o. depth_of_operand o) (operands_in e)

    operation_shallow : (w : OperationText) (e : Expr Name) → IsOperation m rs w e → OperationFits 0 depth_limit w → AreShallow (depths_at_right e)
    operation_shallow (form.Binary w) (expr.Binary b) is fits =
        let left = operand_shallow w.left (record { ty = b.ty; atom = b.left }) is.2 fits.0 in
        (left, (beside b.ty w.right b.right (type_shallow w.left.ty b.ty is.2.0.0 fits.0.0) is.3 fits.1, tt))
    operation_shallow (form.Compare w) (expr.Icmp c) is fits =
        let left = operand_shallow w.left (record { ty = c.ty; atom = c.left }) is.1 fits.0 in
        (left, (beside c.ty w.right c.right (type_shallow w.left.ty c.ty is.1.0.0 fits.0.0) is.2 fits.1, tt))
    operation_shallow (form.Cast w) (expr.Cast c) is fits =
        (type_shallow w.to c.to is.2.0 fits.1, (operand_shallow w.from c.operand is.1 fits.0, tt))
    operation_shallow (form.Select w) (expr.Select s) is fits =
        (operand_shallow w.condition s.condition is.0 fits.0, (operand_shallow w.then s.left is.1 fits.1, (operand_shallow w.other s.right is.2 fits.2, tt)))
    operation_shallow w e is fits = absurd is

    right_shallow : (w : InstructionText) (e : Expr Name) → IsRight m rs w e → InstructionFits 0 depth_limit w → AreShallow (depths_at_right e)
    right_shallow (instruction.Operation w) e is fits = operation_shallow w e is fits
    right_shallow (instruction.Element w) (expr.Element e) is fits = (
      type_shallow w.of e.of is.1.0 fits.0,
      (
        operand_shallow w.base e.base is.2 fits.1,
        each_shallow (IsOperand m rs) (OperandFits 0 depth_limit) (λ o. depth_of_operand o) operand_shallow w.indices e.indices is.3 fits.2,
      ),
    )
    right_shallow (instruction.Load w) (expr.Load l) is fits =
        (type_shallow w.ty l.of is.0.0 fits.0, (operand_shallow w.address l.pointer is.1 fits.1, tt))
    right_shallow w e is fits = absurd is

    count_shallow : (w : Option CountText) (count : Option (Ty × ℕ)) → IsCount m w count → CountFits 0 depth_limit w → AreShallow (map depth_of (stated_by_count count))
    count_shallow None count is fits = subst (λ c. AreShallow (map depth_of (stated_by_count c))) (sym is) tt
    count_shallow (Some w) count is fits = by (int_of (type_of w.ty) w.number) is.1
      where
        kept : (n : ℕ) (b : Bool) → AreShallow (map depth_of (stated_by_count (cond b None (Some (type_of w.ty, n)))))
        kept n true = tt
        kept n false = (alone (depth_of (type_of w.ty)) fits, tt)

        by : (o : Option ℕ) → IsCountOf o (type_of w.ty) count → AreShallow (map depth_of (stated_by_count count))
        by None of = absurd of
        by (Some n) of = subst (λ c. AreShallow (map depth_of (stated_by_count c))) (sym of) (kept n (nat_eq n 1))

    argument_shallow : (w : ArgumentText) (a : Argument) → IsArgument m rs w a → ArgumentFits 0 depth_limit w → Deep (depth_of_operand a.operand)
    argument_shallow w a is fits = operand_shallow (record { ty = w.ty; value = w.value }) a.operand is.0 fits

    called_shallow :
        (attributes : List ParamAttributeText) (of : Option TypeText) (states : Option CalledText) (name : Placed Name) (end : CallEndText) (c : Call)
        → NamesCall m rs attributes of states name end c → ResultFits 0 depth_limit of → EndFits 0 depth_limit end → AreShallow (depths_at_line (instr.Call c))
    called_shallow attributes of states name end c is result fits = (
      result_shallow of c.result is.result result,
      each_shallow (IsArgument m rs) (ArgumentFits 0 depth_limit) (λ (a : Argument). depth_of_operand a.operand) argument_shallow end.arguments c.arguments is.arguments fits,
    )

    void_shallow_call :
        (stated : Stated) (is_stated : Bool) (w : VoidCallText) (c : Call) → IsVoidCallee m rs stated is_stated w c → VoidFits 0 depth_limit w
        → AreShallow (depths_at_line (instr.Call c))
    void_shallow_call stated false (of_void.Call name end) c is fits = called_shallow [] None None name end c is tt fits
    void_shallow_call stated true (of_void.Call name end) c is fits = called_shallow [] None (Some is.0) name end c is.2 tt fits
    void_shallow_call stated is_stated (of_void.Debug name attributes) c is fits = absurd is

    call_shallow : (stated : Stated) (w : CallBodyText) (c : Call) → IsCall m rs stated w c → CallFits 0 depth_limit w → AreShallow (depths_at_line (instr.Call c))
    call_shallow stated (call.Convention attributes callee end) c is fits = called_shallow attributes callee.result callee.called _ end c is fits.0 fits.1
    call_shallow stated (call.Attributes head others callee end) c is fits = called_shallow (head ∷ others) callee.result callee.called _ end c is fits.0 fits.1
    call_shallow stated (call.Typed t called name end) c is fits = called_shallow [] (Some t) called _ end c is fits.0 fits.1
    call_shallow stated (call.Void v) c is fits = void_shallow_call stated v.is_stated v.call c is fits

    line_shallow :
        (stated : Stated) (register : Option (Placed Name)) (w : InstructionText) (i : Instr) → IsInstruction m rs stated register w i
        → InstructionFits 0 depth_limit w → AreShallow (depths_at_line i)
    line_shallow stated register w (instr.Calm c) is fits = right_shallow w c.right is.1 fits
    line_shallow stated register (instruction.Alloca w) (instr.Alloca a) is fits = (type_shallow w.ty a.of is.1.0.0 fits.0, count_shallow w.count a.count is.1.2 fits.1)
    line_shallow stated register (instruction.Store w) (instr.Store s) is fits = (operand_shallow w.value s.value is.1.0 fits.0, (operand_shallow w.address s.pointer is.1.1 fits.1, tt))
    line_shallow stated register (instruction.Call w) (instr.Call c) is fits = call_shallow stated w.body c is.1 fits
    line_shallow stated register w i is fits = absurd is

    -- ---- blocks

    entry_shallow : (labels : List Name) (t : Ty) → Deep (depth_of t) → (w : EntryText) (e : Entry) → IsEntry m rs labels t w e → EntryFits 0 depth_limit w → Deep (max (depth_of t) (depth_of_atom e.value))
    entry_shallow labels t deep w e is fits = beside t w.value e.value deep is.0 fits

    entries_shallow :
        (labels : List Name) (t : Ty) → Deep (depth_of t) → (ws : List EntryText) (es : List Entry) → AllZip (IsEntry m rs labels t) ws es
        → AllByRecursion (EntryFits 0 depth_limit) ws → AreShallow (map (λ o. depth_of_operand o) (map (λ (e : Entry). let o : Operand Name = record { ty = t; atom = e.value } in o) es))
    entries_shallow labels t deep [] [] zip fits = tt
    entries_shallow labels t deep [] (e ∷ es) zip fits = absurd zip
    entries_shallow labels t deep (w ∷ ws) [] zip fits = absurd zip
    entries_shallow labels t deep (w ∷ ws) (e ∷ es) zip fits =
        (entry_shallow labels t deep w e zip.0 fits.0, entries_shallow labels t deep ws es zip.1 fits.1)

    phi_shallow : (labels : List Name) (w : PhiText) (p : Phi) → IsPhi m rs labels w p → PhiFits 0 depth_limit w → AreShallow (depths_at_phi p)
    phi_shallow labels w p is fits =
        let deep = type_shallow w.node.ty p.ty is.1.0 fits.0 in
        (deep, entries_shallow labels p.ty deep (entries_in w.node) p.entries is.2 fits.1)

    abbrev depths_at_end : Term → List ℕ
    depths_at_end t = map (λ o. depth_of_operand o) (operands_at_end t) ++ map (λ (c : Case). depth_of c.ty) (cases_of t)

    return_shallow : (w : Option OperandText) (t : Term) → IsReturn m rs w t → ReturnFits 0 depth_limit w → AreShallow (depths_at_end t)
    return_shallow (Some w) (term.Ret o) is fits = (operand_shallow w o is fits, tt)
    return_shallow None term.RetVoid is fits = tt
    return_shallow w t is fits = absurd is

    branch_shallow : (labels : List Name) (w : BranchText) (t : Term) → IsBranch m rs labels w t → BranchFits 0 depth_limit w → AreShallow (depths_at_end t)
    branch_shallow labels (branch.Always w) (term.Br label) is fits = tt
    branch_shallow labels (branch.Condition w) (term.CondBr c) is fits = (operand_shallow w.condition c.condition is.0 fits, tt)
    branch_shallow labels w t is fits = absurd is

    case_shallow : (labels : List Name) (w : CaseText) (c : Case) → IsCase m labels w c → CaseFits 0 depth_limit w → Deep (depth_of c.ty)
    case_shallow labels w c is fits = type_shallow w.ty c.ty is.0.0 fits

    end_shallow : (labels : List Name) (w : TermText) (t : Term) → IsTerm m rs labels w t → TermFits 0 depth_limit w → AreShallow (depths_at_end t)
    end_shallow labels (written.Ret w) t is fits = return_shallow w t is fits
    end_shallow labels (written.Br w) t is fits = branch_shallow labels w t is fits
    end_shallow labels (written.Switch w) (term.Switch s) is fits = (
      operand_shallow w.value s.value is.0 fits.0,
      each_shallow (IsCase m labels) (CaseFits 0 depth_limit) (λ (c : Case). depth_of c.ty) (case_shallow labels) w.cases s.cases is.2 fits.1,
    )
    end_shallow labels written.Unreachable term.Unreachable is fits = tt
    end_shallow labels w t is fits = absurd is

    block_shallow : (stated : Stated) (labels : List Name) (w : BlockText) (b : Block) → NamesBlock m rs stated labels w b → BlockFits 0 depth_limit w → AreShallow (depths_in_block b)
    block_shallow stated labels w b names fits =
        let phis = flat_shallow (IsPhi m rs labels) (PhiFits 0 depth_limit) depths_at_phi (phi_shallow labels) w.body.phis b.phis names.phis fits.0.0 in
        let lines =
        flat_shallow (IsLine m rs stated) (LineFits 0 depth_limit) depths_at_line (λ l i is f. line_shallow stated l.register l.attached.instruction i is f)
        (filter is_kept w.body.lines) b.body names.lines.1 (kept_fit (LineFits 0 depth_limit) is_kept w.body.lines fits.0.1) in
        join (flat_map depths_at_phi b.phis) (flat_map depths_at_line b.body ++ depths_at_end b.term) phis
        (join (flat_map depths_at_line b.body) (depths_at_end b.term) lines (end_shallow labels w.end.term b.term names.ends fits.1))

  -- ---- items

  param_shallow : (w : ParamText) (p : Param) → IsParam m w p → ParamFits 0 depth_limit w → Deep (depth_of p.ty)
  param_shallow w p is fits = type_shallow w.ty p.ty is.1.0 fits

  function_shallow : (stated : Stated) (w : DefinitionText) (f : Function) → NamesFunction m stated w f → DefinitionFits 0 depth_limit w → AreShallow (depths_in_function f)
  function_shallow stated w f names fits =
      let params = each_shallow (IsParam m) (ParamFits 0 depth_limit) (λ (p : Param). depth_of p.ty) param_shallow w.head.params f.params names.params fits.0.1 in
      let blocks =
      flat_shallow (NamesBlock m (registers_of m f) stated (labels_of f)) (BlockFits 0 depth_limit) depths_in_block (block_shallow (registers_of m f) stated (labels_of f))
      (blocks_in w) f.blocks names.blocks fits.1 in
      (result_shallow w.head.result.ty f.result names.result fits.0.0, join (map (λ (p : Param). depth_of p.ty) f.params) (flat_map depths_in_block f.blocks) params blocks)

  declared_param_shallow : (w : ParamText) (p : DeclaredParam) → IsDeclaredParam m w p → ParamFits 0 depth_limit w → Deep (depth_of p.ty)
  declared_param_shallow w p is fits = type_shallow w.ty p.ty is.0.0 fits

  field_shallow : (w : TypeText) (t : Ty) → IsType m w t → t ≡ type_of w
  field_shallow w t is = is.0

  named_shallow : (w : Placed Name × TypeBodyText) (t : NamedTy) → IsNamedType m w t → BodyOfTypeFits 0 depth_limit w.1 → AreShallow (depths_in_named t)
  named_shallow w t is fits = at w.1 t.fields is.1 fits
    where
      at : (w : TypeBodyText) (fields : Option (List Ty)) → AreFields m w fields → BodyOfTypeFits 0 depth_limit w → AreShallow (depths_in_fields fields)
      at body.Opaque fields are fits = subst (λ fs. AreShallow (depths_in_fields fs)) (sym are) tt
      at (body.Struct start ws) None are fits = absurd are
      at (body.Struct start ws) (Some ts) are fits =
          let same : ts ≡ map type_of ws = zip_is (IsType m) type_of field_shallow ws ts are in
          (subst (λ l. Deep (deepest (map depth_of l) + 1)) (sym same) (alone (deepest (map depth_of (map type_of ws)) + 1) fits), tt)

  start_shallow : (t : Ty) (w : HeldText) (l : Linkage) (start : Option Init) → Holds m t w l start → HeldFits 0 depth_limit w → AreShallow (depths_at_start start)
  start_shallow t held.External l start is fits = subst (λ i. AreShallow (depths_at_start i)) (sym is.1) tt
  start_shallow t (held.Init linkage w) l None is fits = absurd is
  start_shallow t (held.Init linkage w) l (Some i) is fits =
      (subst (λ x. Deep (depth_of_init x)) (sym is.1.0) (alone (depth_of_init (init_of w t)) (fits t)), tt)

  global_shallow : (w : GlobalNameText × GlobalBodyText) (g : GlobalVar) → IsGlobalVar m w g → GlobalFits 0 depth_limit w.1 → AreShallow (depths_in_global g)
  global_shallow w g is fits = (type_shallow w.1.ty g.ty is.ty.0 fits.0, start_shallow g.ty w.1.held g.linkage g.init is.held fits.1)

  module _ (params : StatedParams) (declared_fits : (x : Placed Name) (c : DeclaredText) → params x c → DeclaredFits 0 depth_limit c) where
    params_shallow : (w : DeclaredText) (ds : List DeclaredParam) → AllZip (IsDeclaredParam m) w.params ds → DeclaredFits 0 depth_limit w → AreShallow (map (λ (p : DeclaredParam). depth_of p.ty) ds)
    params_shallow w ds zip fits = each_shallow (IsDeclaredParam m) (ParamFits 0 depth_limit) (λ (p : DeclaredParam). depth_of p.ty) declared_param_shallow w.params ds zip fits

    declared_shallow : (w : DeclaredNameText) (d : Declaration) → IsDeclared m params w d → NameFits 0 depth_limit w → AreShallow (map (λ (p : DeclaredParam). depth_of p.ty) d.params)
    declared_shallow (declared.Plain name ps end) d is fits = params_shallow ps d.params is.0 fits
    declared_shallow (declared.Debug name end) d is fits = params_shallow is.0 d.params is.2.0 (declared_fits name is.0 is.1)

    declaration_shallow : (w : ℕ × DeclarationText) (d : Declaration) → NamesDeclaration m params w d → DeclarationFits 0 depth_limit w.1 → AreShallow (depths_in_declaration d)
    declaration_shallow w d names fits = (result_shallow w.1.result.ty d.result names.result fits.0, declared_shallow w.1.declared d names.params fits.1)

-- ---- modules

types_fit : (ws : List ItemText) → AllByRecursion (ItemFits 0 depth_limit) ws → AllByRecursion (λ (w : Placed Name × TypeBodyText). BodyOfTypeFits 0 depth_limit w.1) (filter_map type_item ws)
types_fit [] fits = tt
types_fit (item.Type name b ∷ ws) fits = (fits.0, types_fit ws fits.1)
types_fit (w ∷ ws) fits = types_fit ws fits.1

globals_fit : (ws : List ItemText) → AllByRecursion (ItemFits 0 depth_limit) ws → AllByRecursion (λ (w : GlobalNameText × GlobalBodyText). GlobalFits 0 depth_limit w.1) (filter_map global_item ws)
globals_fit [] fits = tt
globals_fit (item.Global name b ∷ ws) fits = (fits.0, globals_fit ws fits.1)
globals_fit (w ∷ ws) fits = globals_fit ws fits.1

definitions_fit : (ws : List ItemText) → AllByRecursion (ItemFits 0 depth_limit) ws → AllByRecursion (DefinitionFits 0 depth_limit) (filter_map definition_item ws)
definitions_fit [] fits = tt
definitions_fit (item.Definition d ∷ ws) fits = (fits.0, definitions_fit ws fits.1)
definitions_fit (w ∷ ws) fits = definitions_fit ws fits.1

abbrev DeclarationsFit : List (ℕ × DeclarationText) → Type 0
DeclarationsFit = AllByRecursion (λ (w : ℕ × DeclarationText). DeclarationFits 0 depth_limit w.1)

declarations_fit : (count : ℕ) (ws : List ItemText) → AllByRecursion (ItemFits 0 depth_limit) ws → DeclarationsFit (declarations_from count ws)
declarations_fit count [] fits = tt
declarations_fit count (item.Declaration d ∷ ws) fits = by (is_dropped_name d.declared) (declarations_fit count ws fits.1)
  where
    by : (b : Bool) → DeclarationsFit (declarations_from count ws) → DeclarationsFit (cond b [] ((count, d) ∷ []) ++ declarations_from count ws)
    by true more = more
    by false more = (fits.0, more)
declarations_fit count (item.Definition d ∷ ws) fits = declarations_fit (count + 1) ws fits.1
declarations_fit count (w ∷ ws) fits = declarations_fit count ws fits.1

pub modules_shallow :
    (stated : Stated) (params : StatedParams) (w : ModuleText) (m : Module) → NamesModule stated params w m
    → ((x : Placed Name) (c : DeclaredText) → params x c → DeclaredFits 0 depth_limit c) → AllByRecursion (ItemFits 0 depth_limit) w.items → IsShallow m
modules_shallow stated params w m names declared_fits fits =
    let types = flat_shallow (IsNamedType m) (λ (w : Placed Name × TypeBodyText). BodyOfTypeFits 0 depth_limit w.1) depths_in_named (named_shallow m) (filter_map type_item w.items) m.types names.types (types_fit w.items fits) in
    let globals = flat_shallow (IsGlobalVar m) (λ (w : GlobalNameText × GlobalBodyText). GlobalFits 0 depth_limit w.1) depths_in_global (global_shallow m) (filter_map global_item w.items) m.globals names.globals (globals_fit w.items fits) in
    let functions = flat_shallow (NamesFunction m stated) (DefinitionFits 0 depth_limit) depths_in_function (function_shallow m stated) (filter_map definition_item w.items) m.functions names.functions (definitions_fit w.items fits) in
    let declarations =
    flat_shallow (NamesDeclaration m params) (λ (w : ℕ × DeclarationText). DeclarationFits 0 depth_limit w.1) depths_in_declaration (declaration_shallow m params declared_fits) (declarations_from 0 w.items) m.declarations
    names.declarations (declarations_fit 0 w.items fits) in
    join (flat_map depths_in_named m.types) (flat_map depths_in_global m.globals ++ (flat_map depths_in_function m.functions ++ flat_map depths_in_declaration m.declarations)) types
    (join (flat_map depths_in_global m.globals) (flat_map depths_in_function m.functions ++ flat_map depths_in_declaration m.declarations) globals
    (join (flat_map depths_in_function m.functions) (flat_map depths_in_declaration m.declarations) functions declarations))
