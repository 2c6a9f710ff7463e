-- What is out of range in the tree of an expression: numbers at the types that are stated for them (LangRef 3.7, Simple Constants), counts of
-- arrays, alignments. Nothing else is asked: no module stands around it.
use Rattle.std.specs.Prelude.{List, [], ◌∷◌, ◌++◌}
use Rattle.std.specs.List.{flat_map}
use Rattle.ir_types.specs.declared.ty.Ty.{Ty}
use Rattle.module_grammar.specs.declared.constants.ConstText.{ConstText, fold-ConstText}
use Rattle.module_grammar.specs.declared.constants.ConstText.TheOpen.{ConstText-F}
use Rattle.module_grammar.specs.declared.constants.ConstText.TheOpen as level
use Rattle.module_grammar.specs.declared.constants.OperandText.{OperandText}
use Rattle.module_grammar.specs.declared.constants.ValueText.{ValueText}
use Rattle.module_grammar.specs.declared.constants.ValueText.TheVariants as text
use Rattle.module_grammar.specs.declared.lines.ExprText.{ExprText}
use Rattle.module_grammar.specs.declared.lines.ExprText.TheVariants as written
use Rattle.module_grammar.specs.declared.lines.OperationText.{OperationText}
use Rattle.module_grammar.specs.declared.lines.OperationText.TheVariants as form
use Rattle.module_grammar.specs.declared.types.TypeText.{TypeText}
use Rattle.name_claims.specs.declared.claims.Fault.{Fault}
use Rattle.named_modules.specs.Faults.{align_faults, int_faults}
use Rattle.named_modules.specs.Types.{type_of}
use Rattle.expression_reader.specs.Types.{count_faults}

-- ---- constants

-- a type, and behind it a constant of which this is told at each type
abbrev pub part_faults : TypeText × (Ty → List Fault) → List Fault
part_faults p = count_faults p.0 ++ p.1 (type_of p.0)

abbrev pub const_faults_at_level : ConstText-F (Ty → List Fault) → Ty → List Fault
const_faults_at_level (level.Int i) t = int_faults t i
const_faults_at_level (level.Null at) t = []
const_faults_at_level level.Undef t = []
const_faults_at_level (level.Global g) t = []
const_faults_at_level (level.Element at inbounds (of, base_ty, base, indices)) t =
    count_faults of ++ flat_map part_faults ((base_ty, base) ∷ indices)
const_faults_at_level (level.Cast at (from, c, target)) t = part_faults (from, c) ++ count_faults target

-- Numbers are of their types: 300 is out of range at i8, as is each number at a pointer, and `true` at each type but i1. `null` stands at i8, and
-- what a `bitcast` leads to at another type: that isn't asked.
abbrev pub const_faults : ConstText → Ty → List Fault
const_faults = fold-ConstText (Ty → List Fault) const_faults_at_level

-- ---- operations

abbrev pub value_faults : Ty → ValueText → List Fault
value_faults t (text.Const c) = const_faults c t
value_faults t (text.Local x) = []
value_faults t (text.Tagged tag x) = []

abbrev pub operand_faults : OperandText → List Fault
operand_faults w = count_faults w.ty ++ value_faults (type_of w.ty) w.value

abbrev pub operation_faults : OperationText → List Fault
operation_faults (form.Binary w) = operand_faults w.left ++ value_faults (type_of w.left.ty) w.right
operation_faults (form.Compare w) = operand_faults w.left ++ value_faults (type_of w.left.ty) w.right
operation_faults (form.Cast w) = operand_faults w.from ++ count_faults w.to
operation_faults (form.Select w) = operand_faults w.condition ++ (operand_faults w.then ++ operand_faults w.other)

-- ---- expressions

-- `add i8 %x, 300` is at fault at 11, `load [-1 x i8], i8* 5, align 3` at 6, at 20 and at 29.
abbrev pub range_faults : ExprText → List Fault
range_faults (written.Plain w) = operand_faults w
range_faults (written.Operation w) = operation_faults w
range_faults (written.Element w) = count_faults w.of ++ (operand_faults w.base ++ flat_map operand_faults w.indices)
range_faults (written.Load w) = count_faults w.ty ++ (operand_faults w.address ++ align_faults w.align)
