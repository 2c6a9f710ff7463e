-- A tidy tree that names a shallow module is within the limit on depths.
use Rattle.std.proofs.Common.{◌≡◌, ◌≤◌, ◌+◌, ℕ, Bool, true, false, not, cond, List, [], ◌∷◌, ◌++◌, map, Option, Some, None, refl, subst, arith}
use Rattle.std.specs.Prelude.{max}
use Rattle.std.specs.List.{AllByRecursion, AllZip, Contains, filter, filter_map, flat_map}
use Rattle.std.proofs.Math.Logic.{⊎_elim}
use Rattle.ir_core.specs.declared.expressions.Expr.{Expr}
use Rattle.ir_core.specs.declared.expressions.Expr.TheVariants as expr
use Rattle.ir_core.specs.declared.functions.Argument.{Argument}
use Rattle.ir_core.specs.declared.functions.Block.{Block}
use Rattle.ir_core.specs.declared.functions.Call.{Call}
use Rattle.ir_core.specs.declared.functions.Case.{Case}
use Rattle.ir_core.specs.declared.functions.Entry.{Entry}
use Rattle.ir_core.specs.declared.functions.Function.{Function}
use Rattle.ir_core.specs.declared.functions.Instr.{Instr}
use Rattle.ir_core.specs.declared.functions.Instr.TheVariants as instr
use Rattle.ir_core.specs.declared.functions.Param.{Param}
use Rattle.ir_core.specs.declared.functions.Phi.{Phi}
use Rattle.ir_core.specs.declared.functions.Term.{Term}
use Rattle.ir_core.specs.declared.functions.Term.TheVariants as term
use Rattle.ir_core.specs.declared.modules.Declaration.{Declaration}
use Rattle.ir_core.specs.declared.modules.DeclaredParam.{DeclaredParam}
use Rattle.ir_core.specs.declared.modules.GlobalVar.{GlobalVar}
use Rattle.ir_core.specs.declared.modules.Init.{Init}
use Rattle.ir_core.specs.declared.modules.Linkage.{Linkage}
use Rattle.ir_core.specs.declared.modules.Module.{Module}
use Rattle.ir_core.specs.declared.operands.Atom.{Atom}
use Rattle.ir_core.specs.declared.operands.Atom.TheVariants.{Constant, Register}
use Rattle.ir_core.specs.declared.operands.Operand.{Operand}
use Rattle.ir_core.specs.Depths.{AreShallow, IsShallow, deepest, depth_of, depth_of_atom, depth_of_constant, depth_of_init, depth_of_operand, depths_at_line, depths_at_phi, depths_at_start, depths_in_block, depths_in_declaration, depths_in_fields, depths_in_function, depths_in_global, depths_in_named}
use Rattle.ir_core.specs.Expressions.{operands_in}
use Rattle.ir_core.specs.Functions.{cases_of, operands_at_end}
use Rattle.ir_core.specs.Limits.{depth_limit}
use Rattle.ir_core.specs.StatedTypes.{stated_apart}
use Rattle.ir_core.specs.Typing.{Signature, declared_signature, defined_signature, signatures_of}
use Rattle.ir_types.specs.declared.named.NamedTy.{NamedTy}
use Rattle.ir_types.specs.declared.names.Name.{Name}
use Rattle.ir_types.specs.declared.ty.Ty.{Ty}
use Rattle.module_grammar.specs.declared.attributes.ParamAttributeText.{ParamAttributeText}
use Rattle.module_grammar.specs.declared.constants.GlobalNameText.{GlobalNameText}
use Rattle.module_grammar.specs.declared.constants.OperandText.{OperandText}
use Rattle.module_grammar.specs.declared.constants.ValueText.{ValueText}
use Rattle.module_grammar.specs.declared.constants.ValueText.TheVariants as value
use Rattle.module_grammar.specs.declared.flow.BlockText.{BlockText}
use Rattle.module_grammar.specs.declared.flow.BranchText.{BranchText}
use Rattle.module_grammar.specs.declared.flow.BranchText.TheVariants as branch
use Rattle.module_grammar.specs.declared.flow.CaseText.{CaseText}
use Rattle.module_grammar.specs.declared.flow.EntryText.{EntryText}
use Rattle.module_grammar.specs.declared.flow.PhiText.{PhiText}
use Rattle.module_grammar.specs.declared.flow.TermText.{TermText}
use Rattle.module_grammar.specs.declared.flow.TermText.TheVariants as written
use Rattle.module_grammar.specs.declared.functions.DeclarationText.{DeclarationText}
use Rattle.module_grammar.specs.declared.functions.DeclaredNameText.{DeclaredNameText}
use Rattle.module_grammar.specs.declared.functions.DeclaredNameText.TheVariants as declared
use Rattle.module_grammar.specs.declared.functions.DefinitionText.{DefinitionText}
use Rattle.module_grammar.specs.declared.functions.ParamText.{ParamText}
use Rattle.module_grammar.specs.declared.items.GlobalBodyText.{GlobalBodyText}
use Rattle.module_grammar.specs.declared.items.HeldText.{HeldText}
use Rattle.module_grammar.specs.declared.items.HeldText.TheVariants as held
use Rattle.module_grammar.specs.declared.items.ItemText.{ItemText}
use Rattle.module_grammar.specs.declared.items.ItemText.TheVariants as item
use Rattle.module_grammar.specs.declared.items.ModuleText.{ModuleText}
use Rattle.module_grammar.specs.declared.items.TypeBodyText.{TypeBodyText}
use Rattle.module_grammar.specs.declared.items.TypeBodyText.TheVariants as body
use Rattle.module_grammar.specs.declared.lines.ArgumentText.{ArgumentText}
use Rattle.module_grammar.specs.declared.lines.CallBodyText.{CallBodyText}
use Rattle.module_grammar.specs.declared.lines.CallBodyText.TheVariants as call
use Rattle.module_grammar.specs.declared.lines.CallEndText.{CallEndText}
use Rattle.module_grammar.specs.declared.lines.CalleeText.{CalleeText}
use Rattle.module_grammar.specs.declared.lines.CountText.{CountText}
use Rattle.module_grammar.specs.declared.lines.InstructionText.{InstructionText}
use Rattle.module_grammar.specs.declared.lines.InstructionText.TheVariants as instruction
use Rattle.module_grammar.specs.declared.lines.LineText.{LineText}
use Rattle.module_grammar.specs.declared.lines.OperationText.{OperationText}
use Rattle.module_grammar.specs.declared.lines.OperationText.TheVariants as form
use Rattle.module_grammar.specs.declared.lines.VoidCallText.{VoidCallText}
use Rattle.module_grammar.specs.declared.lines.VoidCallText.TheVariants as of_void
use Rattle.module_grammar.specs.declared.places.Placed.{Placed}
use Rattle.module_grammar.specs.declared.types.CalledText.{CalledText}
use Rattle.module_grammar.specs.declared.types.TypeText.{TypeText}
use Rattle.module_grammar.specs.Sorts.{Module as ModuleSort}
use Rattle.named_modules.specs.Flow.{IsBranch, IsCase, IsEntry, IsPhi, IsReturn, IsTerm, NamesBlock, entries_in}
use Rattle.named_modules.specs.Functions.{IsDeclared, IsDeclaredParam, IsParam, NamesDeclaration, NamesFunction, StatedParams, blocks_in, labels_of, registers_of}
use Rattle.named_modules.specs.Lines.{IsArgument, IsCall, IsCount, IsCountOf, IsInstruction, IsLine, IsOperation, IsResult, IsRight, IsVoidCallee, MayBeCalled, NamesCall, Stated, is_debug_call, is_dropped, is_dropped_call, is_kept}
use Rattle.named_modules.specs.Modules.{AreFields, Holds, IsGlobalVar, IsNamedType, NamesModule, declarations_from, definition_item, global_item, type_item}
use Rattle.named_modules.specs.Types.{int_of, type_of}
use Rattle.named_modules.specs.Values.{IsOperand, IsType, IsValue, Registers}
use Rattle.named_modules.proofs.Lists.{all_append, all_left, all_right, contains_cases, contains_none}
use Rattle.named_modules.proofs.Ties.{zip_is}
use Rattle.printed_modules.proofs.Deep.{ArgumentFits, BlockFits, BodyOfTypeFits, BranchFits, CallFits, CalleeFits, CaseFits, CountFits, DeclarationFits, DefinitionFits, EndFits, EntryFits, Fits, GlobalFits, HeldFits, InstructionFits, ItemFits, LineFits, NameFits, OperandFits, OperationFits, ParamFits, PhiFits, ResultFits, ReturnFits, StatedFits, TermFits, TypeFits, ValueFits, VoidFits}
use Rattle.printed_modules.proofs.DeepConstants.{around, const_fits_at, init_fits_at, integer_depth, numbered}
use Rattle.printed_modules.proofs.Tidy.{IsTidy, IsTidyItem}

-- ---- lists

abbrev Deep : ℕ → Type 0
Deep d = d ≤ depth_limit

front : (xs ys : List ℕ) → AreShallow (xs ++ ys) → AreShallow xs
front = all_left Deep

behind : (xs ys : List ℕ) → AreShallow (xs ++ ys) → AreShallow ys
behind = all_right Deep

-- each fits, where what it names says what is shallow
flat_fit :
    {A B : Type 0} (R : A → B → Type 0) (F : A → Type 0) (says : B → List ℕ) → ((w : A) (x : B) → R w x → AreShallow (says x) → F w)
    → (ws : List A) (xs : List B) → AllZip R ws xs → AreShallow (flat_map says xs) → AllByRecursion F ws
flat_fit R F says each [] [] zip shallow = tt
flat_fit R F says each [] (x ∷ xs) zip shallow = absurd zip
flat_fit R F says each (w ∷ ws) [] zip shallow = absurd zip
flat_fit R F says each (w ∷ ws) (x ∷ xs) zip shallow =
    (each w x zip.0 (front (says x) (flat_map says xs) shallow), flat_fit R F says each ws xs zip.1 (behind (says x) (flat_map says xs) shallow))

each_fit :
    {A B : Type 0} (R : A → B → Type 0) (F : A → Type 0) (says : B → ℕ) → ((w : A) (x : B) → R w x → Deep (says x) → F w)
    → (ws : List A) (xs : List B) → AllZip R ws xs → AreShallow (map says xs) → AllByRecursion F ws
each_fit R F says each [] [] zip shallow = tt
each_fit R F says each [] (x ∷ xs) zip shallow = absurd zip
each_fit R F says each (w ∷ ws) [] zip shallow = absurd zip
each_fit R F says each (w ∷ ws) (x ∷ xs) zip shallow = (each w x zip.0 shallow.0, each_fit R F says each ws xs zip.1 shallow.1)

-- what is left out fits by itself
all_fit : {A : Type 0} (F : A → Type 0) (p : A → Bool) → ((w : A) → p w ≡ false → F w) → (ws : List A) → AllByRecursion F (filter p ws) → AllByRecursion F ws
all_fit F p out [] kept = tt
all_fit {A} F p out (w ∷ ws) kept = by (p w) refl kept (λ more. all_fit F p out ws more)
  where
    by : (b : Bool) → p w ≡ b → AllByRecursion F (cond b (w ∷ filter p ws) (filter p ws)) → (AllByRecursion F (filter p ws) → AllByRecursion F ws) → AllByRecursion F (w ∷ ws)
    by true is kept others = (kept.0, others kept.1)
    by false is kept others = (out w is, others kept)

-- ---- types and values

left_of : (a b : ℕ) → Deep (max a b) → Deep a
left_of a b h = omega (arith, h)

right_of : (a b : ℕ) → Deep (max a b) → Deep b
right_of a b h = omega (arith, h)

type_fits : (w : TypeText) (t : Ty) → t ≡ type_of w → Deep (depth_of t) → TypeFits 0 depth_limit w
type_fits w t is deep = around (depth_of (type_of w)) (subst (λ u. Deep (depth_of u)) is deep)

-- ---- signatures

abbrev HasShallowParams : Name × Signature → Type 0
HasShallowParams s = AreShallow (map depth_of s.1.params)

types_shallow : {A : Type 0} (ty : A → Ty) (xs : List A) → AreShallow (map (λ x. depth_of (ty x)) xs) → AreShallow (map depth_of (map ty xs))
types_shallow ty [] shallow = tt
types_shallow ty (x ∷ xs) shallow = (shallow.0, types_shallow ty xs shallow.1)

defined_shallow : (fs : List Function) → AreShallow (flat_map depths_in_function fs) → AllByRecursion HasShallowParams (map (λ (f : Function). (f.name, defined_signature f)) fs)
defined_shallow [] shallow = tt
defined_shallow (f ∷ fs) shallow =
    let params = map (λ (p : Param). depth_of p.ty) f.params in
    let blocks = flat_map depths_in_block f.blocks in (
      types_shallow (λ (p : Param). p.ty) f.params (front params blocks (front (depths_in_function f) (flat_map depths_in_function fs) shallow).1),
      defined_shallow fs (behind (depths_in_function f) (flat_map depths_in_function fs) shallow),
    )

declared_shallow : (ds : List Declaration) → AreShallow (flat_map depths_in_declaration ds) → AllByRecursion HasShallowParams (map (λ (d : Declaration). (d.name, declared_signature d)) ds)
declared_shallow [] shallow = tt
declared_shallow (d ∷ ds) shallow = (
  types_shallow (λ (p : DeclaredParam). p.ty) d.params (front (depths_in_declaration d) (flat_map depths_in_declaration ds) shallow).1,
  declared_shallow ds (behind (depths_in_declaration d) (flat_map depths_in_declaration ds) shallow),
)

all_has : {A : Type 0} (P : A → Type 0) (xs : List A) (x : A) → Contains xs x → AllByRecursion P xs → P x
all_has P [] x there all = absurd (contains_none x there)
all_has P (y ∷ ys) x there all = ⊎_elim (λ e. subst P e all.0) (λ more. all_has P ys x more all.1) (contains_cases y x ys there)

module _ (m : Module) (known : AllByRecursion HasShallowParams (signatures_of m)) where
  typed_fit : (w : TypeText) (t : Ty) → IsType m w t → Deep (depth_of t) → TypeFits 0 depth_limit w
  typed_fit w t is deep = type_fits w t is.0 deep

  result_fits : (w : Option TypeText) (t : Ty) → IsResult m w t → Deep (depth_of t) → ResultFits 0 depth_limit w
  result_fits None t is deep = tt
  result_fits (Some w) t is deep = type_fits w t is.0 deep

  module _ (rs : Registers) where
    value_fits : (t : Ty) (w : ValueText) (a : Atom Name) → IsValue m rs t w a → Deep (depth_of_atom a) → ValueFits 0 depth_limit w
    value_fits t (value.Const w) (Constant c) is deep = const_fits_at w t (subst (λ x. Deep (depth_of_constant x)) is.0 deep)
    value_fits t (value.Local w) (Register x) is deep = tt
    value_fits t w a is deep = absurd is

    operand_fits : (w : OperandText) (o : Operand Name) → IsOperand m rs w o → Deep (depth_of_operand o) → OperandFits 0 depth_limit w
    operand_fits w o is deep = (
      type_fits w.ty o.ty is.0.0 (left_of (depth_of o.ty) (depth_of_atom o.atom) deep),
      value_fits o.ty w.value o.atom is.1 (right_of (depth_of o.ty) (depth_of_atom o.atom) deep),
    )

    -- a value at a type that stands elsewhere
    beside : (t : Ty) (w : ValueText) (a : Atom Name) → IsValue m rs t w a → Deep (max (depth_of t) (depth_of_atom a)) → ValueFits 0 depth_limit w
    beside t w a is deep = value_fits t w a is (right_of (depth_of t) (depth_of_atom a) deep)

    operands_fit :
        (ws : List OperandText) (os : List (Operand Name)) → AllZip (IsOperand m rs) ws os → AreShallow (map (λ o. depth_of_operand o) os)
        → AllByRecursion (OperandFits 0 depth_limit) ws
    operands_fit = each_fit (IsOperand m rs) (OperandFits 0 depth_limit) (λ o. depth_of_operand o) operand_fits

    -- ---- lines

    abbrev depths_at_right : Expr Name → List ℕ
    depths_at_right e = map depth_of (stated_apart e) ++ map (λ o. depth_of_operand o) (operands_in e)

    operation_fits : (w : OperationText) (e : Expr Name) → IsOperation m rs w e → AreShallow (depths_at_right e) → OperationFits 0 depth_limit w
    operation_fits (form.Binary w) (expr.Binary b) is shallow =
        (operand_fits w.left (record { ty = b.ty; atom = b.left }) is.2 shallow.0, beside b.ty w.right b.right is.3 shallow.1.0)
    operation_fits (form.Compare w) (expr.Icmp c) is shallow =
        (operand_fits w.left (record { ty = c.ty; atom = c.left }) is.1 shallow.0, beside c.ty w.right c.right is.2 shallow.1.0)
    operation_fits (form.Cast w) (expr.Cast c) is shallow = (operand_fits w.from c.operand is.1 shallow.1.0, type_fits w.to c.to is.2.0 shallow.0)
    operation_fits (form.Select w) (expr.Select s) is shallow =
        (operand_fits w.condition s.condition is.0 shallow.0, operand_fits w.then s.left is.1 shallow.1.0, operand_fits w.other s.right is.2 shallow.1.1.0)
    operation_fits w e is shallow = absurd is

    right_fits : (w : InstructionText) (e : Expr Name) → IsRight m rs w e → AreShallow (depths_at_right e) → InstructionFits 0 depth_limit w
    right_fits (instruction.Operation w) e is shallow = operation_fits w e is shallow
    right_fits (instruction.Element w) (expr.Element e) is shallow =
        (type_fits w.of e.of is.1.0 shallow.0, operand_fits w.base e.base is.2 shallow.1.0, operands_fit w.indices e.indices is.3 shallow.1.1)
    right_fits (instruction.Load w) (expr.Load l) is shallow = (type_fits w.ty l.of is.0.0 shallow.0, operand_fits w.address l.pointer is.1 shallow.1.0)
    right_fits w e is shallow = absurd is

    -- a count is a number, so its type is an integer, also where it isn't kept
    count_fits : (c : Option CountText) (count : Option (Ty × ℕ)) → IsCount m c count → CountFits 0 depth_limit c
    count_fits None count is = tt
    count_fits (Some c) count is = by (int_of (type_of c.ty) c.number) refl is.1
      where
        by : (o : Option ℕ) → int_of (type_of c.ty) c.number ≡ o → IsCountOf o (type_of c.ty) count → TypeFits 0 depth_limit c.ty
        by None e of = absurd of
        by (Some n) e of =
            let one : depth_of (type_of c.ty) ≡ 1 = integer_depth (type_of c.ty) (numbered (type_of c.ty) c.number n e) in
            omega (arith, one)

    argument_fits : (w : ArgumentText) (a : Argument) → IsArgument m rs w a → Deep (depth_of_operand a.operand) → ArgumentFits 0 depth_limit w
    argument_fits w a is deep = operand_fits (record { ty = w.ty; value = w.value }) a.operand is.0 deep

    -- the types of parameters that a call states are those of a signature
    stated_fits : (states : Option CalledText) (name : Name) (s : Signature) → Contains (signatures_of m) (name, s) → MayBeCalled m s states → StatedFits 0 depth_limit states
    stated_fits None name s there may = tt
    stated_fits (Some c) name s there may = each_fit (IsType m) (TypeFits 0 depth_limit) depth_of typed_fit c.types s.params may.0 (all_has HasShallowParams (signatures_of m) (name, s) there known)

    end_fits : (end : CallEndText) (c : Call) → AllZip (IsArgument m rs) end.arguments c.arguments → AreShallow (depths_at_line (instr.Call c)) → EndFits 0 depth_limit end
    end_fits end c zip shallow =
        each_fit (IsArgument m rs) (ArgumentFits 0 depth_limit) (λ (a : Argument). depth_of_operand a.operand) argument_fits end.arguments c.arguments zip shallow.1

    void_fits :
        (stated : Stated) (is_stated : Bool) (w : VoidCallText) (c : Call) → IsVoidCallee m rs stated is_stated w c → AreShallow (depths_at_line (instr.Call c))
        → VoidFits 0 depth_limit w
    void_fits stated false (of_void.Call name end) c is shallow = end_fits end c is.arguments shallow
    void_fits stated true (of_void.Call name end) c is shallow = end_fits end c is.2.arguments shallow
    void_fits stated is_stated (of_void.Debug name attributes) c is shallow = tt

    callee_fits :
        (attributes : List ParamAttributeText) (callee : CalleeText) (name : Placed Name) (end : CallEndText) (c : Call) → NamesCall m rs attributes callee.result callee.called name end c
        → AreShallow (depths_at_line (instr.Call c)) → CalleeFits 0 depth_limit callee
    callee_fits attributes callee name end c is shallow =
        (result_fits callee.result c.result is.result shallow.0, stated_fits callee.called c.callee is.signature is.known is.called)

    call_fits : (stated : Stated) (w : CallBodyText) (c : Call) → IsCall m rs stated w c → AreShallow (depths_at_line (instr.Call c)) → CallFits 0 depth_limit w
    call_fits stated (call.Convention attributes callee end) c is shallow = (callee_fits attributes callee _ end c is shallow, end_fits end c is.arguments shallow)
    call_fits stated (call.Attributes first others callee end) c is shallow = (callee_fits (first ∷ others) callee _ end c is shallow, end_fits end c is.arguments shallow)
    call_fits stated (call.Typed t called name end) c is shallow =
        (result_fits (Some t) c.result is.result shallow.0, stated_fits called c.callee is.signature is.known is.called, end_fits end c is.arguments shallow)
    call_fits stated (call.Void v) c is shallow = void_fits stated v.is_stated v.call c is shallow

    instruction_fits :
        (stated : Stated) (register : Option (Placed Name)) (w : InstructionText) (i : Instr) → IsInstruction m rs stated register w i
        → AreShallow (depths_at_line i) → InstructionFits 0 depth_limit w
    instruction_fits stated register w (instr.Calm c) is shallow = right_fits w c.right is.1 shallow
    instruction_fits stated register (instruction.Alloca w) (instr.Alloca a) is shallow = (type_fits w.ty a.of is.1.0.0 shallow.0, count_fits w.count a.count is.1.2)
    instruction_fits stated register (instruction.Store w) (instr.Store s) is shallow =
        (operand_fits w.value s.value is.1.0 shallow.0, operand_fits w.address s.pointer is.1.1 shallow.1.0)
    instruction_fits stated register (instruction.Call w) (instr.Call c) is shallow = call_fits stated w.body c is.1 shallow
    instruction_fits stated register w i is shallow = absurd is

    line_fits : (stated : Stated) (w : LineText) (i : Instr) → IsLine m rs stated w i → AreShallow (depths_at_line i) → LineFits 0 depth_limit w
    line_fits stated w i is shallow = instruction_fits stated w.register w.attached.instruction i is shallow

  -- of a call that is dropped nothing is kept
  dropped_fits : (w : LineText) → is_kept w ≡ false → LineFits 0 depth_limit w
  dropped_fits w = at w.attached.instruction
    where
      at_void : (w : VoidCallText) → not (is_debug_call w) ≡ false → VoidFits 0 depth_limit w
      at_void (of_void.Call name end) e = cc
      at_void (of_void.Debug name attributes) e = tt

      at_call : (w : CallBodyText) → not (is_dropped_call w) ≡ false → CallFits 0 depth_limit w
      at_call (call.Void v) e = at_void v.call e
      at_call w e = cc

      at : (w : InstructionText) → not (is_dropped w) ≡ false → InstructionFits 0 depth_limit w
      at (instruction.Call w) e = at_call w.body e
      at w e = cc

  module _ (rs : Registers) where
    -- ---- blocks

    entries_fit :
        (labels : List Name) (t : Ty) (ws : List EntryText) (es : List Entry) → AllZip (IsEntry m rs labels t) ws es
        → AreShallow (map (λ o. depth_of_operand o) (map (λ (e : Entry). let o : Operand Name = record { ty = t; atom = e.value } in o) es))
        → AllByRecursion (EntryFits 0 depth_limit) ws
    entries_fit labels t [] [] zip shallow = tt
    entries_fit labels t [] (e ∷ es) zip shallow = absurd zip
    entries_fit labels t (w ∷ ws) [] zip shallow = absurd zip
    entries_fit labels t (w ∷ ws) (e ∷ es) zip shallow = (beside rs t w.value e.value zip.0.0 shallow.0, entries_fit labels t ws es zip.1 shallow.1)

    phi_fits : (labels : List Name) (w : PhiText) (p : Phi) → IsPhi m rs labels w p → AreShallow (depths_at_phi p) → PhiFits 0 depth_limit w
    phi_fits labels w p is shallow = (type_fits w.node.ty p.ty is.1.0 shallow.0, entries_fit labels p.ty (entries_in w.node) p.entries is.2 shallow.1)

    abbrev depths_at_end : Term → List ℕ
    depths_at_end t = map (λ o. depth_of_operand o) (operands_at_end t) ++ map (λ (c : Case). depth_of c.ty) (cases_of t)

    return_fits : (w : Option OperandText) (t : Term) → IsReturn m rs w t → AreShallow (depths_at_end t) → ReturnFits 0 depth_limit w
    return_fits (Some w) (term.Ret o) is shallow = operand_fits rs w o is shallow.0
    return_fits None t is shallow = tt
    return_fits w t is shallow = absurd is

    branch_fits : (labels : List Name) (w : BranchText) (t : Term) → IsBranch m rs labels w t → AreShallow (depths_at_end t) → BranchFits 0 depth_limit w
    branch_fits labels (branch.Always w) t is shallow = tt
    branch_fits labels (branch.Condition w) (term.CondBr c) is shallow = operand_fits rs w.condition c.condition is.0 shallow.0
    branch_fits labels w t is shallow = absurd is

    case_fits : (labels : List Name) (w : CaseText) (c : Case) → IsCase m labels w c → Deep (depth_of c.ty) → CaseFits 0 depth_limit w
    case_fits labels w c is deep = type_fits w.ty c.ty is.0.0 deep

    term_fits : (labels : List Name) (w : TermText) (t : Term) → IsTerm m rs labels w t → AreShallow (depths_at_end t) → TermFits 0 depth_limit w
    term_fits labels (written.Ret w) t is shallow = return_fits w t is shallow
    term_fits labels (written.Br w) t is shallow = branch_fits labels w t is shallow
    term_fits labels (written.Switch w) (term.Switch s) is shallow = (
      operand_fits rs w.value s.value is.0 shallow.0,
      each_fit (IsCase m labels) (CaseFits 0 depth_limit) (λ (c : Case). depth_of c.ty) (case_fits labels) w.cases s.cases is.2 shallow.1,
    )
    term_fits labels written.Unreachable t is shallow = tt
    term_fits labels w t is shallow = absurd is

    block_fits : (stated : Stated) (labels : List Name) (w : BlockText) (b : Block) → NamesBlock m rs stated labels w b → AreShallow (depths_in_block b) → BlockFits 0 depth_limit w
    block_fits stated labels w b names shallow =
        let phis = flat_map depths_at_phi b.phis in
        let lines = flat_map depths_at_line b.body in
        let others = behind phis (lines ++ depths_at_end b.term) shallow in
        let kept =
        flat_fit (IsLine m rs stated) (LineFits 0 depth_limit) depths_at_line (line_fits rs stated) (filter is_kept w.body.lines) b.body names.lines.1
        (front lines (depths_at_end b.term) others) in (
          (
            flat_fit (IsPhi m rs labels) (PhiFits 0 depth_limit) depths_at_phi (phi_fits labels) w.body.phis b.phis names.phis (front phis (lines ++ depths_at_end b.term) shallow),
            all_fit (LineFits 0 depth_limit) is_kept dropped_fits w.body.lines kept,
          ),
          term_fits labels w.end.term b.term names.ends (behind lines (depths_at_end b.term) others),
        )

  -- ---- items

  param_fits : (w : ParamText) (p : Param) → IsParam m w p → Deep (depth_of p.ty) → ParamFits 0 depth_limit w
  param_fits w p is deep = type_fits w.ty p.ty is.1.0 deep

  function_fits : (stated : Stated) (w : DefinitionText) (f : Function) → NamesFunction m stated w f → AreShallow (depths_in_function f) → DefinitionFits 0 depth_limit w
  function_fits stated w f names shallow =
      let params = map (λ (p : Param). depth_of p.ty) f.params in
      let blocks = flat_map depths_in_block f.blocks in (
        (
          result_fits w.head.result.ty f.result names.result shallow.0,
          each_fit (IsParam m) (ParamFits 0 depth_limit) (λ (p : Param). depth_of p.ty) param_fits w.head.params f.params names.params (front params blocks shallow.1),
        ),
        flat_fit (NamesBlock m (registers_of m f) stated (labels_of f)) (BlockFits 0 depth_limit) depths_in_block (block_fits (registers_of m f) stated (labels_of f))
            (blocks_in w) f.blocks names.blocks (behind params blocks shallow.1),
      )

  declared_param_fits : (w : ParamText) (p : DeclaredParam) → IsDeclaredParam m w p → Deep (depth_of p.ty) → ParamFits 0 depth_limit w
  declared_param_fits w p is deep = type_fits w.ty p.ty is.0.0 deep

  field_is : (w : TypeText) (t : Ty) → IsType m w t → t ≡ type_of w
  field_is w t is = is.0

  named_fits : (w : Placed Name × TypeBodyText) (t : NamedTy) → IsNamedType m w t → AreShallow (depths_in_named t) → BodyOfTypeFits 0 depth_limit w.1
  named_fits w t is shallow = at w.1 t.fields is.1 shallow
    where
      at : (w : TypeBodyText) (fields : Option (List Ty)) → AreFields m w fields → AreShallow (depths_in_fields fields) → BodyOfTypeFits 0 depth_limit w
      at body.Opaque fields are shallow = tt
      at (body.Struct start ws) None are shallow = absurd are
      at (body.Struct start ws) (Some ts) are shallow =
          let same : ts ≡ map type_of ws = zip_is (IsType m) type_of field_is ws ts are in
          around (deepest (map depth_of (map type_of ws)) + 1) (subst (λ l. Deep (deepest (map depth_of l) + 1)) same shallow.0)

  held_fits : (t : Ty) (w : HeldText) (l : Linkage) (start : Option Init) → Holds m t w l start → AreShallow (depths_at_start start) → HeldFits 0 depth_limit w
  held_fits t held.External l start is shallow = tt
  held_fits t (held.Init linkage w) l None is shallow = absurd is
  held_fits t (held.Init linkage w) l (Some i) is shallow = init_fits_at w t (subst (λ x. Deep (depth_of_init x)) is.1.0 shallow.0)

  global_fits : (w : GlobalNameText × GlobalBodyText) (g : GlobalVar) → IsGlobalVar m w g → AreShallow (depths_in_global g) → GlobalFits 0 depth_limit w.1
  global_fits w g is shallow = (type_fits w.1.ty g.ty is.ty.0 shallow.0, held_fits g.ty w.1.held g.linkage g.init is.held shallow.1)

  name_fits :
      (params : StatedParams) (w : DeclaredNameText) (d : Declaration) → IsDeclared m params w d → AreShallow (map (λ (p : DeclaredParam). depth_of p.ty) d.params)
      → NameFits 0 depth_limit w
  name_fits params (declared.Plain name ps end) d is shallow =
      each_fit (IsDeclaredParam m) (ParamFits 0 depth_limit) (λ (p : DeclaredParam). depth_of p.ty) declared_param_fits ps.params d.params is.0 shallow
  name_fits params (declared.Debug name end) d is shallow = tt

  declaration_fits :
      (params : StatedParams) (w : ℕ × DeclarationText) (d : Declaration) → NamesDeclaration m params w d → AreShallow (depths_in_declaration d) → DeclarationFits 0 depth_limit w.1
  declaration_fits params w d names shallow = (result_fits w.1.result.ty d.result names.result shallow.0, name_fits params w.1.declared d names.params shallow.1)

-- ---- modules

-- items fit, where those of each sort do, and no declaration is dropped
items_fit :
    (count : ℕ) (ws : List ItemText) → AllByRecursion IsTidyItem ws
    → AllByRecursion (λ (w : Placed Name × TypeBodyText). BodyOfTypeFits 0 depth_limit w.1) (filter_map type_item ws)
    → AllByRecursion (λ (w : GlobalNameText × GlobalBodyText). GlobalFits 0 depth_limit w.1) (filter_map global_item ws)
    → AllByRecursion (DefinitionFits 0 depth_limit) (filter_map definition_item ws)
    → AllByRecursion (λ (w : ℕ × DeclarationText). DeclarationFits 0 depth_limit w.1) (declarations_from count ws)
    → AllByRecursion (ItemFits 0 depth_limit) ws
items_fit count [] tidy types globals definitions declarations = tt
items_fit count (item.Type name b ∷ ws) tidy types globals definitions declarations =
    (types.0, items_fit count ws tidy.1 types.1 globals definitions declarations)
items_fit count (item.Global name b ∷ ws) tidy types globals definitions declarations =
    (globals.0, items_fit count ws tidy.1 types globals.1 definitions declarations)
items_fit count (item.Definition d ∷ ws) tidy types globals definitions declarations =
    (definitions.0, items_fit (count + 1) ws tidy.1 types globals definitions.1 declarations)
items_fit count (item.Declaration d ∷ ws) tidy types globals definitions declarations =
    let kept =
    subst (λ b. AllByRecursion (λ (w : ℕ × DeclarationText). DeclarationFits 0 depth_limit w.1) (cond b [] ((count, d) ∷ []) ++ declarations_from count ws)) tidy.0 declarations in
    (kept.0, items_fit count ws tidy.1 types globals definitions kept.1)
items_fit count (w ∷ ws) tidy types globals definitions declarations = (tt, items_fit count ws tidy.1 types globals definitions declarations)

pub trees_fit :
    (stated : Stated) (params : StatedParams) (tree : ModuleText) (m : Module) → NamesModule stated params tree m → IsTidy tree → IsShallow m
    → Fits 0 depth_limit ModuleSort tree
trees_fit stated params tree m names tidy shallow =
    let types = flat_map depths_in_named m.types in
    let globals = flat_map depths_in_global m.globals in
    let functions = flat_map depths_in_function m.functions in
    let declarations = flat_map depths_in_declaration m.declarations in
    let behind_types = behind types (globals ++ (functions ++ declarations)) shallow in
    let behind_globals = behind globals (functions ++ declarations) behind_types in
    let known : AllByRecursion HasShallowParams (signatures_of m) =
    all_append HasShallowParams _ _ (defined_shallow m.functions (front functions declarations behind_globals)) (declared_shallow m.declarations (behind functions declarations behind_globals)) in
    items_fit 0 tree.items tidy
    (flat_fit (IsNamedType m) (λ (w : Placed Name × TypeBodyText). BodyOfTypeFits 0 depth_limit w.1) depths_in_named (named_fits m known) (filter_map type_item tree.items) m.types names.types
    (front types (globals ++ (functions ++ declarations)) shallow))
    (flat_fit (IsGlobalVar m) (λ (w : GlobalNameText × GlobalBodyText). GlobalFits 0 depth_limit w.1) depths_in_global (global_fits m known) (filter_map global_item tree.items) m.globals names.globals
    (front globals (functions ++ declarations) behind_types))
    (flat_fit (NamesFunction m stated) (DefinitionFits 0 depth_limit) depths_in_function (function_fits m known stated) (filter_map definition_item tree.items) m.functions names.functions
    (front functions declarations behind_globals))
    (flat_fit (NamesDeclaration m params) (λ (w : ℕ × DeclarationText). DeclarationFits 0 depth_limit w.1) depths_in_declaration (declaration_fits m known params) (declarations_from 0 tree.items) m.declarations names.declarations
    (behind functions declarations behind_globals))
