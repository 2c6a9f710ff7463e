-- How much memory a text wants at once: of each global, of each `alloca` with its count, of the first type of each `getelementptr` and of each type that an
-- index behind the first enters, also inside constants. What is too large is told at the first token of the type that is written there.
use Rattle.std.specs.Prelude.{ℕ, Bool, true, false, List, [], ◌∷◌, ◌++◌, map, Option, None, Some, Result, Ok, Err}
use Rattle.std.specs.List.{filter, flat_map}
use Rattle.ir_core.specs.Sizes.{stepped}
use Rattle.ir_core.specs.Typing.{Index, index_of}
use Rattle.ir_types.specs.declared.sizes.SizeFault.{SizeFault}
use Rattle.ir_types.specs.declared.sizes.SizeFault.TheVariants.{TooLarge, Unsized}
use Rattle.ir_types.specs.declared.ty.Ty.{Ty}
use Rattle.ir_types.specs.Named.{block_of}
use Rattle.module_grammar.specs.declared.constants.ConstText.{ConstText, fold-ConstText}
use Rattle.module_grammar.specs.declared.constants.ConstText.TheOpen.{ConstText-F}
use Rattle.module_grammar.specs.declared.constants.ConstText.TheOpen as level
use Rattle.module_grammar.specs.declared.constants.InitText.{InitText, fold-InitText}
use Rattle.module_grammar.specs.declared.constants.InitText.TheOpen.{InitText-F}
use Rattle.module_grammar.specs.declared.constants.InitText.TheOpen as held
use Rattle.module_grammar.specs.declared.constants.OperandText.{OperandText}
use Rattle.module_grammar.specs.declared.constants.ValueText.{ValueText}
use Rattle.module_grammar.specs.declared.constants.ValueText.TheVariants as value
use Rattle.module_grammar.specs.declared.flow.BlockText.{BlockText}
use Rattle.module_grammar.specs.declared.flow.BranchText.{BranchText}
use Rattle.module_grammar.specs.declared.flow.BranchText.TheVariants as branch
use Rattle.module_grammar.specs.declared.flow.EntryText.{EntryText}
use Rattle.module_grammar.specs.declared.flow.PhiText.{PhiText}
use Rattle.module_grammar.specs.declared.flow.TermText.{TermText}
use Rattle.module_grammar.specs.declared.flow.TermText.TheVariants as term
use Rattle.module_grammar.specs.declared.items.GlobalBodyText.{GlobalBodyText}
use Rattle.module_grammar.specs.declared.items.HeldText.{HeldText}
use Rattle.module_grammar.specs.declared.items.HeldText.TheVariants as start
use Rattle.module_grammar.specs.declared.items.ItemText.{ItemText}
use Rattle.module_grammar.specs.declared.items.ItemText.TheVariants as item
use Rattle.module_grammar.specs.declared.items.ModuleText.{ModuleText}
use Rattle.module_grammar.specs.declared.lines.ArgumentText.{ArgumentText}
use Rattle.module_grammar.specs.declared.lines.CallBodyText.{CallBodyText}
use Rattle.module_grammar.specs.declared.lines.CallBodyText.TheVariants as call
use Rattle.module_grammar.specs.declared.lines.CallEndText.{CallEndText}
use Rattle.module_grammar.specs.declared.lines.CountText.{CountText}
use Rattle.module_grammar.specs.declared.lines.InstructionText.{InstructionText}
use Rattle.module_grammar.specs.declared.lines.InstructionText.TheVariants as instruction
use Rattle.module_grammar.specs.declared.lines.LineText.{LineText}
use Rattle.module_grammar.specs.declared.lines.OperationText.{OperationText}
use Rattle.module_grammar.specs.declared.lines.OperationText.TheVariants as form
use Rattle.module_grammar.specs.declared.lines.VoidCallText.{VoidCallText}
use Rattle.module_grammar.specs.declared.lines.VoidCallText.TheVariants as of_void
use Rattle.module_grammar.specs.declared.types.TypeText.{TypeText}
use Rattle.name_claims.specs.declared.claims.Fault.{Fault}
use Rattle.named_modules.specs.Built.{operand_of}
use Rattle.named_modules.specs.Faults.{Heads, first_of, type_faults}
use Rattle.named_modules.specs.Flow.{entries_in}
use Rattle.named_modules.specs.Functions.{blocks_in}
use Rattle.named_modules.specs.Types.{int_of, type_of}

-- so many of a type, where its first token, or that of the type in which it lies, stands
pub record Wanted : Type 0 where
  pub place : ℕ
  pub ty : Ty
  pub count : ℕ

abbrev pub if_faultless : List Fault → List Wanted → List Wanted
if_faultless [] wanted = wanted
if_faultless (f ∷ fs) wanted = []

-- a type with a fault of its own wants nothing
abbrev pub wants : Heads → TypeText → List (Ty × ℕ) → List Wanted
wants h w each =
    if_faultless (type_faults h w) (map (λ (e : Ty × ℕ). let one : Wanted = record { place = first_of w; ty = e.0; count = e.1 } in one) each)

-- the first type of a `getelementptr`, and those that its indices enter
abbrev pub wants_along : Heads → TypeText → List Index → List Wanted
wants_along h w indices = wants h w (map (λ (t : Ty). (t, 1)) (stepped h.types (type_of w) indices))

-- ---- constants

-- of a constant: its number at a type, if it is one, and what is wanted in it
pub record Asked : Type 0 where
  pub number : Ty → Option ℕ
  pub wanted : List Wanted

abbrev pub no_number : Ty → Option ℕ
no_number t = None

abbrev pub index_asked : TypeText × Asked → Index
index_asked p = record { ty = type_of p.0; number = p.1.number (type_of p.0) }

abbrev pub asked_at_level : Heads → ConstText-F Asked → Asked
asked_at_level h (level.Int i) = record { number = λ t. int_of t i; wanted = [] }
asked_at_level h (level.Element at inbounds (of, base_ty, base, indices)) = record {
  number = no_number;
  wanted = wants_along h of (map index_asked indices) ++ (base.wanted ++ flat_map (λ (p : TypeText × Asked). p.1.wanted) indices);
}
asked_at_level h (level.Cast at (from, c, target)) = record { number = no_number; wanted = c.wanted }
asked_at_level h other = record { number = no_number; wanted = [] }

abbrev pub wanted_by_const : Heads → ConstText → List Wanted
wanted_by_const h w = (fold-ConstText Asked (asked_at_level h) w).wanted

abbrev pub init_at_level : Heads → InitText-F (List Wanted) → List Wanted
init_at_level h (held.Const c) = wanted_by_const h c
init_at_level h (held.Array at parts) = flat_map (λ (p : TypeText × List Wanted). p.1) parts
init_at_level h (held.Struct at parts) = flat_map (λ (p : TypeText × List Wanted). p.1) parts
init_at_level h other = []

abbrev pub wanted_by_init : Heads → InitText → List Wanted
wanted_by_init h = fold-InitText (List Wanted) (init_at_level h)

abbrev pub wanted_by_value : Heads → ValueText → List Wanted
wanted_by_value h (value.Const c) = wanted_by_const h c
wanted_by_value h other = []

abbrev pub wanted_by_operand : Heads → OperandText → List Wanted
wanted_by_operand h w = wanted_by_value h w.value

-- ---- lines

abbrev pub wanted_by_operation : Heads → OperationText → List Wanted
wanted_by_operation h (form.Binary w) = wanted_by_operand h w.left ++ wanted_by_value h w.right
wanted_by_operation h (form.Compare w) = wanted_by_operand h w.left ++ wanted_by_value h w.right
wanted_by_operation h (form.Cast w) = wanted_by_operand h w.from
wanted_by_operation h (form.Select w) = wanted_by_operand h w.condition ++ (wanted_by_operand h w.then ++ wanted_by_operand h w.other)

-- a count that is none of its type wants nothing
abbrev pub so_many : Heads → TypeText → Option ℕ → List Wanted
so_many h w None = []
so_many h w (Some n) = wants h w ((type_of w, n) ∷ [])

abbrev pub wanted_by_count : Heads → TypeText → Option CountText → List Wanted
wanted_by_count h w None = so_many h w (Some 1)
wanted_by_count h w (Some c) = so_many h w (int_of (type_of c.ty) c.number)

abbrev pub wanted_by_end : Heads → CallEndText → List Wanted
wanted_by_end h w = flat_map (λ (a : ArgumentText). wanted_by_value h a.value) w.arguments

abbrev pub wanted_by_void : Heads → VoidCallText → List Wanted
wanted_by_void h (of_void.Call name end) = wanted_by_end h end
wanted_by_void h (of_void.Debug name attributes) = []

abbrev pub wanted_by_call : Heads → CallBodyText → List Wanted
wanted_by_call h (call.Convention attributes callee end) = wanted_by_end h end
wanted_by_call h (call.Attributes first others callee end) = wanted_by_end h end
wanted_by_call h (call.Typed t called name end) = wanted_by_end h end
wanted_by_call h (call.Void v) = wanted_by_void h v.call

abbrev pub wanted_by_instruction : Heads → InstructionText → List Wanted
wanted_by_instruction h (instruction.Operation w) = wanted_by_operation h w
wanted_by_instruction h (instruction.Element w) =
    wants_along h w.of (map (λ o. index_of (operand_of o)) w.indices) ++ (wanted_by_operand h w.base ++ flat_map (wanted_by_operand h) w.indices)
wanted_by_instruction h (instruction.Alloca w) = wanted_by_count h w.ty w.count
wanted_by_instruction h (instruction.Load w) = wanted_by_operand h w.address
wanted_by_instruction h (instruction.Store w) = wanted_by_operand h w.value ++ wanted_by_operand h w.address
wanted_by_instruction h (instruction.Call w) = wanted_by_call h w.body

abbrev pub wanted_by_line : Heads → LineText → List Wanted
wanted_by_line h w = wanted_by_instruction h w.attached.instruction

-- ---- blocks

abbrev pub wanted_by_phi : Heads → PhiText → List Wanted
wanted_by_phi h w = flat_map (λ (e : EntryText). wanted_by_value h e.value) (entries_in w.node)

abbrev pub wanted_by_return : Heads → Option OperandText → List Wanted
wanted_by_return h None = []
wanted_by_return h (Some w) = wanted_by_operand h w

abbrev pub wanted_by_branch : Heads → BranchText → List Wanted
wanted_by_branch h (branch.Always label) = []
wanted_by_branch h (branch.Condition w) = wanted_by_operand h w.condition

abbrev pub wanted_by_term : Heads → TermText → List Wanted
wanted_by_term h (term.Ret w) = wanted_by_return h w
wanted_by_term h (term.Br w) = wanted_by_branch h w
wanted_by_term h (term.Switch w) = wanted_by_operand h w.value
wanted_by_term h term.Unreachable = []

abbrev pub wanted_by_block : Heads → BlockText → List Wanted
wanted_by_block h w = flat_map (wanted_by_phi h) w.body.phis ++ (flat_map (wanted_by_line h) w.body.lines ++ wanted_by_term h w.end.term)

-- ---- modules

abbrev pub wanted_at_start : Heads → HeldText → List Wanted
wanted_at_start h start.External = []
wanted_at_start h (start.Init linkage i) = wanted_by_init h i

abbrev pub wanted_by_global : Heads → GlobalBodyText → List Wanted
wanted_by_global h w = so_many h w.ty (Some 1) ++ wanted_at_start h w.held

abbrev pub wanted_by_item : Heads → ItemText → List Wanted
wanted_by_item h (item.Global name w) = wanted_by_global h w
wanted_by_item h (item.Definition w) = flat_map (wanted_by_block h) (blocks_in w)
wanted_by_item h i = []

abbrev pub is_too_large : Result ℕ SizeFault → Bool
is_too_large (Ok bytes) = false
is_too_large (Err TooLarge) = true
is_too_large (Err Unsized) = false

-- a type without size passes no limit
abbrev pub is_large : Heads → Wanted → Bool
is_large h w = is_too_large (block_of h.types w.ty w.count)

-- where the limit on blocks is passed
abbrev pub large_places : Heads → ModuleText → List ℕ
large_places h w = map (λ (b : Wanted). b.place) (filter (is_large h) (flat_map (wanted_by_item h) w.items))
