-- When an aligned line is allowed, and the reason where it isn't: a target may have undefined behaviour at a line only where the source
-- has (Crellvm's postcondition).
use Rattle.std.specs.Prelude.{◌-◌, ◌^◌, ◌%◌, ℕ, Bool, true, false, not, ◌&&◌, cond, map, nat_eq, nat_lt, List, [], ◌∷◌, Option, None, Some, Result, Ok, Err}
use Rattle.ir_types.specs.declared.names.Name.{Name}
use Rattle.ir_types.specs.declared.ty.Ty.{Ty}
use Rattle.ir_types.specs.declared.ty.Ty.TheVariants as ty
use Rattle.ir_core.specs.declared.operands.Const.TheVariants as constant
use Rattle.ir_core.specs.declared.operands.Atom.{Atom}
use Rattle.ir_core.specs.declared.operands.Atom.TheVariants as atom
use Rattle.ir_core.specs.declared.operands.BinOp.{BinOp}
use Rattle.ir_core.specs.declared.operands.Operand.{Operand}
use Rattle.ir_core.specs.declared.functions.Alloca.{Alloca}
use Rattle.ir_core.specs.declared.functions.Instr.{Instr}
use Rattle.ir_core.specs.declared.functions.Instr.TheVariants as line
use Rattle.ir_core.specs.declared.functions.Store.{Store}
use Rattle.ir_core.specs.declared.expressions.Expr.{Expr}
use Rattle.ir_core.specs.declared.expressions.Expr.TheVariants.{Plain, Binary, Icmp, Cast, Select, Element, Load}
use Rattle.ir_core.specs.Expressions.{operands_in}
use Rattle.ir_types.specs.declared.named.NamedTy.{NamedTy}
use Rattle.ir_types.specs.declared.sizes.SizeFault.{SizeFault}
use Rattle.ir_types.specs.Named.{block_of}
use Rattle.ir_types.specs.Same.{same_list, same_ty}
use Rattle.ir_core.specs.Same.{same_op, same_cast, same_pred}
use Rattle.ir_core.specs.Types.{fits, is_pointer}
use Rattle.ir_core.specs.Typing.{number_in}
use Rattle.ir_values.specs.Results.{is_division, is_signed_division}
use Rattle.ir_machine.specs.Machine.{count_made}
use Rattle.ir_machine.specs.Registers.{align_or}
use Rattle.erhl_assert.specs.declared.facts.Assertion.{Assertion}
use Rattle.erhl_assert.specs.declared.facts.Fact.{Fact}
use Rattle.erhl_assert.specs.declared.facts.Fact.TheVariants as fact
use Rattle.erhl_assert.specs.Facts.{has_fact}
use Rattle.erhl_assert.specs.Kills.{is_private}
use Rattle.erhl_assert.specs.declared.verdict.Reason.{Reason}
use Rattle.erhl_assert.specs.declared.verdict.Reason.TheVariants.{KindsDiffer, NotPrivate, Unmatched, TargetMayTrap}
use Rattle.erhl_assert.specs.Matched.{matched, now_operand}
use Rattle.erhl_assert.specs.Alignment.{Line}

-- A number that divides whatever is divided: one of the type other than 0, and in a signed division other than -1, which is 2 to the width
-- less 1. `udiv i8 %x, 255` can't trap, and `sdiv i8 %x, 255`, `sdiv i1 %x, true`, `udiv i8 %x, 0` and `udiv i8 %x, undef` can.
abbrev pub divides_all : {R : Type 0} → BinOp → Ty → Atom R → Bool
divides_all op (ty.Int width) (atom.Constant (constant.Number n)) =
    fits n width && not (nat_eq n 0) && not (is_signed_division op && nat_eq n (2 ^ width - 1))
divides_all op t (atom.Constant c) = false
divides_all op t (atom.Register r) = false

-- Of calm lines a division or remainder can trap, and a load: `udiv i32 %x, %y` and `srem i32 %x, -1` can, `udiv i32 %x, 2` and
-- `shl i32 %x, %y` can't.
abbrev pub can_trap : {R : Type 0} → Expr R → Bool
can_trap (Plain o) = false
can_trap (Binary b) = is_division b.op && not (divides_all b.op b.ty b.right)
can_trap (Icmp c) = false
can_trap (Cast c) = false
can_trap (Select s) = false
can_trap (Element e) = false
can_trap (Load l) = true

abbrev pub stated_types : {R : Type 0} → List (Operand R) → List Ty
stated_types {R} os = map (λ (o : Operand R). o.ty) os

-- an index that is a number is the same number on the target, as a field is told by its number
abbrev pub keeps_number : Option ℕ → Option ℕ → Bool
keeps_number None n = true
keeps_number (Some m) None = false
keeps_number (Some m) (Some n) = nat_eq m n

abbrev pub keep_numbers : {R S : Type 0} → List (Operand R) → List (Operand S) → Bool
keep_numbers (a ∷ xs) (b ∷ ys) = keeps_number (number_in a.atom) (number_in b.atom) && keep_numbers xs ys
keep_numbers [] ys = true
keep_numbers (a ∷ xs) [] = true

-- One operator, with its predicate or conversion, and the same stated types: `add nuw i8 %x, 1` and `add i8 %y, %z` are so,
-- `icmp eq i8 %x, 1` and `icmp ne i8 %x, 1` aren't. Flags play no part, nor do alignments. Of an address also the numbers among the source's
-- indices: beside `getelementptr %p, i64 0, i32 1` no register may stand in the place of the 1.
abbrev pub same_operator : {R S : Type 0} → Expr R → Expr S → Bool
same_operator (Plain a) (Plain b) = same_ty a.ty b.ty
same_operator (Binary s) (Binary t) = same_op s.op t.op && same_ty s.ty t.ty
same_operator (Icmp s) (Icmp t) = same_pred s.pred t.pred && same_ty s.ty t.ty
same_operator (Cast s) (Cast t) = same_cast s.op t.op && same_ty s.operand.ty t.operand.ty && same_ty s.to t.to
same_operator (Select s) (Select t) =
    same_ty s.condition.ty t.condition.ty && same_ty s.left.ty t.left.ty && same_ty s.right.ty t.right.ty
same_operator (Element s) (Element t) =
    same_ty s.of t.of && same_ty s.to t.to && same_list same_ty (stated_types (s.base ∷ s.indices)) (stated_types (t.base ∷ t.indices)) && keep_numbers s.indices t.indices
same_operator (Load s) (Load t) = same_ty s.of t.of && same_ty s.pointer.ty t.pointer.ty
same_operator s t = false

-- ---- loads

-- The target's alignment divides the source's, each being its type's where none is stated: so whatever the source may access the target may.
abbrev pub divides : ℕ → ℕ → Bool
divides target source = nat_lt 0 target && nat_eq (source % target) 0

abbrev pub keeps_alignment : List NamedTy → Expr Name → Expr Name → Bool
keeps_alignment types (Load s) (Load t) = divides (align_or types t.of t.align) (align_or types s.of s.align)
keeps_alignment types s t = true

-- by a fact the load doesn't trap
abbrev pub is_known_to_load : List NamedTy → List Fact → Expr Name → Bool
is_known_to_load types fs (Load l) = has_fact (fact.Ok (Plain (now_operand l.pointer)) l.of (align_or types l.of l.align)) fs
is_known_to_load types fs e = false

-- by what is known of the target its right side may have undefined behaviour
abbrev pub may_trap : List NamedTy → Assertion → Expr Name → Bool
may_trap types known t = can_trap t && not (is_known_to_load types known.tgt t)

-- ---- lines

-- the first operands, in the order of the text, that aren't matched
abbrev pub first_unmatched : Assertion → List (Operand Name) → List (Operand Name) → Option Reason
first_unmatched known (a ∷ xs) (b ∷ ys) = cond (matched known a b) (first_unmatched known xs ys) (Some (Unmatched a b))
first_unmatched known [] ys = None
first_unmatched known (a ∷ xs) [] = None

-- Beside the source's right side, the target's is allowed where it can't trap, or is of the same operator and types with operands that are
-- matched. Else, where operator and types agree, the first operands that aren't matched are the reason. Beside `udiv i8 %a, %b` the target's
-- `udiv i8 %a, %c` is `unmatched %b %c` where %b and %c aren't matched, and `urem i8 %a, %b` is `target may trap`. A load whose alignment doesn't
-- divide the source's counts as another operator.
abbrev pub right_fault : List NamedTy → Assertion → Expr Name → Expr Name → Option Reason
right_fault types known s t =
    cond (may_trap types known t)
    (cond (same_operator s t && keeps_alignment types s t) (first_unmatched known (operands_in s) (operands_in t)) (Some TargetMayTrap)) None

-- ---- stores

-- One type, and the target's alignment divides the source's.
abbrev pub same_access : List NamedTy → Store → Store → Bool
same_access types s t = same_ty s.value.ty t.value.ty && divides (align_or types t.value.ty t.align) (align_or types s.value.ty s.align)

-- by a fact the address is a register that points to a block which is in no pair
abbrev pub is_to_private : List Fact → Store → Bool
is_to_private fs s = is_private fs (now_operand s.pointer).atom

-- by a fact the store doesn't trap
abbrev pub is_known_to_store : List NamedTy → List Fact → Store → Bool
is_known_to_store types fs s = has_fact (fact.Ok (Plain (now_operand s.pointer)) s.value.ty (align_or types s.value.ty s.align)) fs

-- A store of one side alone is to a private block; and the target's doesn't trap.
abbrev pub source_store_fault : Assertion → Store → Option Reason
source_store_fault known s = cond (is_to_private known.src s) None (Some (NotPrivate s.pointer))

abbrev pub target_store_fault : List NamedTy → Assertion → Store → Option Reason
target_store_fault types known t =
    cond (is_to_private known.tgt t) (cond (is_known_to_store types known.tgt t) None (Some TargetMayTrap)) (Some (NotPrivate t.pointer))

-- A store beside another: first type and alignment, then the value, then the address.
abbrev pub store_fault : List NamedTy → Assertion → Store → Store → Option Reason
store_fault types known s t =
    cond (same_access types s t) (first_unmatched known (s.value ∷ s.pointer ∷ []) (t.value ∷ t.pointer ∷ [])) (Some KindsDiffer)

-- ---- allocas

-- how many bytes an alloca makes, where they are those of a block
abbrev pub size_made : List NamedTy → Alloca → Result ℕ SizeFault
size_made types a = block_of types a.of (count_made a.count)

abbrev pub is_one_size : Result ℕ SizeFault → Result ℕ SizeFault → Bool
is_one_size (Ok m) (Ok n) = nat_eq m n
is_one_size (Ok m) (Err e) = false
is_one_size (Err e) b = false

-- Blocks of one size and one alignment, of whatever types.
abbrev pub same_slot : List NamedTy → Alloca → Alloca → Bool
same_slot types s t = is_one_size (size_made types s) (size_made types t) && nat_eq (align_or types s.of s.align) (align_or types t.of t.align)

-- The source's register is said to be a pointer, as that of each well-formed alloca is, and the blocks are alike.
abbrev pub slot_fault : Alloca → Bool → Option Reason
slot_fault s alike = cond (is_pointer s.to && alike) None (Some KindsDiffer)

-- ---- all lines

-- Why an aligned line isn't allowed. A calm line or an alloca of the source alone is; of the target alone an alloca is, and a calm line where it
-- can't trap. A call isn't allowed, on whichever side; nor are lines of two kinds.
abbrev pub line_fault_of : List NamedTy → Assertion → Option Instr → Option Instr → Option Reason
line_fault_of types known None None = None
line_fault_of types known (Some (line.Calm s)) None = None
line_fault_of types known None (Some (line.Calm t)) = cond (may_trap types known t.right) (Some TargetMayTrap) None
line_fault_of types known (Some (line.Calm s)) (Some (line.Calm t)) = right_fault types known s.right t.right
line_fault_of types known (Some (line.Alloca s)) None = slot_fault s true
line_fault_of types known None (Some (line.Alloca t)) = None
line_fault_of types known (Some (line.Alloca s)) (Some (line.Alloca t)) = slot_fault s (same_slot types s t)
line_fault_of types known (Some (line.Store s)) None = source_store_fault known s
line_fault_of types known None (Some (line.Store t)) = target_store_fault types known t
line_fault_of types known (Some (line.Store s)) (Some (line.Store t)) = store_fault types known s t
line_fault_of types known source target = Some KindsDiffer

abbrev pub line_fault : List NamedTy → Assertion → Line → Option Reason
line_fault types known l = line_fault_of types known l.source l.target
