-- What is wrong with a line, a terminator, a phi or a header beside a module (LangRef 3.7, Well-Formedness, Instruction Reference).
use Rattle.std.specs.Prelude.{ℕ, ◌&&◌, Bool, true, not, List, ◌∷◌, ◌++◌, length, map, nat_lt, Option, None, Some}
use Rattle.std.specs.List.{flat_map, list_all}
use Rattle.ir_core.specs.declared.expressions.Expr.{Expr}
use Rattle.ir_core.specs.declared.expressions.Expr.TheVariants as expr
use Rattle.ir_core.specs.declared.functions.Case.{Case}
use Rattle.ir_core.specs.declared.functions.Function.{Function}
use Rattle.ir_core.specs.declared.functions.Instr.{Instr}
use Rattle.ir_core.specs.declared.functions.Instr.TheVariants as instr
use Rattle.ir_core.specs.declared.functions.Param.{Param}
use Rattle.ir_core.specs.declared.functions.Phi.{Phi}
use Rattle.ir_core.specs.declared.functions.Store.{Store}
use Rattle.ir_core.specs.declared.functions.Term.{Term}
use Rattle.ir_core.specs.declared.modules.Declaration.{Declaration}
use Rattle.ir_core.specs.declared.modules.DeclaredParam.{DeclaredParam}
use Rattle.ir_core.specs.declared.modules.Module.{Module}
use Rattle.ir_core.specs.declared.operands.Atom.{Atom}
use Rattle.ir_core.specs.declared.operands.Atom.TheVariants.{Constant, Register}
use Rattle.ir_core.specs.declared.operands.Operand.{Operand}
use Rattle.ir_types.specs.declared.names.Name.{Name}
use Rattle.ir_types.specs.declared.ty.Ty.{Ty}
use Rattle.ir_types.specs.Named.{is_sized}
use Rattle.ir_types.specs.Same.{same_ty}
use Rattle.ir_core.specs.Expressions.{type_of}
use Rattle.ir_core.specs.Functions.{cases_of, operands_at_end, operands_of, operands_of_phi, successors_of}
use Rattle.ir_core.specs.StatedTypes.{stated_by_line, stated_by_operand, stated_by_phi}
use Rattle.ir_core.specs.Types.{is_first_class, is_integer}
use Rattle.ir_typing.specs.OperandTests.Calls.{call_kind}
use Rattle.ir_typing.specs.OperandTests.Constants.{constant_kind, element_kind}
use Rattle.ir_typing.specs.OperandTests.Known.{are_types_known}
use Rattle.ir_typing.specs.declared.shape_kinds.kind.ShapeKind.{ShapeKind}
use Rattle.ir_typing.specs.declared.shape_kinds.kind.ShapeKind.TheVariants as kind
use Rattle.ir_typing.specs.ShapeKinds.Kinds.{fault_unless, least, least_of, points_to}
use Rattle.ir_typing.specs.ShapeKinds.Typed.{Types}
use Rattle.ir_shape.specs.ShapeTests.Kinds.{are_labels, branch_fits, cases_fit, froms_of, is_result, leads_to, phi_fits, return_fits, right_kind}

-- ---- operands

-- a register is one of the function's, and of the type that is stated, where it has one
abbrev pub register_kind : Option (Option Ty) → Ty → Option ShapeKind
register_kind None t = Some kind.Name
register_kind (Some None) t = None
register_kind (Some (Some own)) t = fault_unless (same_ty own t) kind.OperandType

abbrev pub atom_kind : Module → Types → Ty → Atom Name → Option ShapeKind
atom_kind m types t (Constant c) = constant_kind m t c
atom_kind m types t (Register x) = register_kind (types x) t

abbrev pub operands_kind : Module → Types → List (Operand Name) → Option ShapeKind
operands_kind m types os = least_of (map (λ (o : Operand Name). atom_kind m types o.ty o.atom) os)

-- ---- lines

abbrev pub has_count : Option (Ty × ℕ) → Bool
has_count None = true
has_count (Some count) = is_integer count.0

-- a value is stored through a pointer to its type
abbrev pub is_stored : Store → Bool
is_stored s = points_to s.pointer.ty s.value.ty && is_first_class s.value.ty

abbrev pub addressed_kind : {R : Type 0} → Module → Expr R → Option ShapeKind
addressed_kind m (expr.Element e) = element_kind m e
addressed_kind m e = None

-- but for the operands
abbrev pub rest_kind : Module → Instr → Option ShapeKind
rest_kind m (instr.Calm c) =
    least (fault_unless (is_first_class (type_of c.right)) kind.OperandType) (least (right_kind c.right) (addressed_kind m c.right))
rest_kind m (instr.Alloca a) =
    least (fault_unless (points_to a.to a.of && has_count a.count) kind.OperandType) (fault_unless (is_sized m.types a.of) kind.Unsized)
rest_kind m (instr.Store s) = fault_unless (is_stored s) kind.OperandType
rest_kind m (instr.Call c) = call_kind m c

-- Of a line whose register's name is new or not: the named types that it states are the module's, its operands are of their stated types, and
-- it fits.
abbrev pub line_kind : Module → Types → Bool → Instr → Option ShapeKind
line_kind m types new line =
    least (fault_unless (new && are_types_known m (stated_by_line line)) kind.Name)
    (least (operands_kind m types (operands_of line)) (rest_kind m line))

-- ---- terminators and phis

-- the types that a terminator states
abbrev pub stated_at_end : Term → List Ty
stated_at_end end = flat_map stated_by_operand (operands_at_end end) ++ map (λ (c : Case). c.ty) (cases_of end)

-- Of a terminator in a function of those labels and registers, of that entry and that result: the types and labels that it names are such,
-- nothing leads to the entry, and operands, a branch, what is returned and the cases of a switch fit.
-- `switch i8 %x, label %y [i8 255, label %y i8 -1, label %y]` has a `case twice`.
abbrev pub end_kind : Module → List Name → Types → Name → Ty → Term → Option ShapeKind
end_kind m labels types entry result end =
    least (fault_unless (are_types_known m (stated_at_end end)) kind.Name)
    (least (fault_unless (are_labels labels (successors_of end)) kind.Label)
    (least (fault_unless (not (leads_to entry end)) kind.EntryEntered)
    (least (operands_kind m types (operands_at_end end))
    (least (fault_unless (branch_fits end) kind.OperandType)
    (least (fault_unless (return_fits result end) kind.ReturnType) (fault_unless (cases_fit end) kind.CaseTwice))))))

-- a phi whose register's name is new or not, in a block that these edges enter
abbrev pub phi_kind : Module → List Name → Types → List Name → Bool → Phi → Option ShapeKind
phi_kind m labels types edges new p =
    least (fault_unless (new && are_types_known m (stated_by_phi p)) kind.Name)
    (least (fault_unless (are_labels labels (froms_of p.entries)) kind.Label)
    (least (fault_unless (phi_fits edges p.entries) kind.PhiEntries)
    (least (fault_unless (is_first_class p.ty) kind.OperandType) (operands_kind m types (operands_of_phi p)))))

-- ---- headers

-- a function's header, whose parameters have new names or not, and its having blocks
abbrev pub header_kind : Module → Bool → Function → Option ShapeKind
header_kind m new f =
    least (fault_unless (new && are_types_known m (f.result ∷ map (λ (p : Param). p.ty) f.params)) kind.Name)
    (least (fault_unless (nat_lt 0 (length f.blocks)) kind.Label)
    (fault_unless (is_result f.result && list_all (λ (p : Param). is_first_class p.ty) f.params) kind.OperandType))

-- a declaration's header
abbrev pub declared_kind : Module → Declaration → Option ShapeKind
declared_kind m d =
    least (fault_unless (are_types_known m (d.result ∷ map (λ (p : DeclaredParam). p.ty) d.params)) kind.Name)
    (fault_unless (is_result d.result && list_all (λ (p : DeclaredParam). is_first_class p.ty) d.params) kind.OperandType)
