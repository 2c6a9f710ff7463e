-- What functions define, use and lead to: the names and types of registers, the operands of lines, the successors of blocks.
use Rattle.std.specs.Prelude.{◌+◌, ℕ, Bool, false, List, [], ◌∷◌, ◌++◌, length, map, nat_eq, codes, Option, None, Some}
use Rattle.std.specs.List.{filter, filter_map, flat_map, starts_with, sum_by}
use Rattle.ir_core.specs.declared.functions.Argument.{Argument}
use Rattle.ir_core.specs.declared.functions.Block.{Block}
use Rattle.ir_core.specs.declared.functions.Case.{Case}
use Rattle.ir_core.specs.declared.functions.Entry.{Entry}
use Rattle.ir_core.specs.declared.functions.Function.{Function}
use Rattle.ir_core.specs.declared.functions.Instr.{Instr}
use Rattle.ir_core.specs.declared.functions.Instr.TheVariants as instr
use Rattle.ir_core.specs.declared.modules.Module.{Module}
use Rattle.ir_core.specs.declared.functions.Param.{Param}
use Rattle.ir_core.specs.declared.functions.Phi.{Phi}
use Rattle.ir_core.specs.declared.functions.Term.{Term}
use Rattle.ir_core.specs.declared.functions.Term.TheVariants as term
use Rattle.ir_types.specs.declared.names.Name.{Name}
use Rattle.ir_types.specs.declared.names.Name.TheVariants.{Text, Number}
use Rattle.ir_core.specs.declared.operands.Operand.{Operand}
use Rattle.ir_types.specs.declared.ty.Ty.{Ty, Void}
use Rattle.ir_core.specs.Expressions.{operands_in, type_of}
use Rattle.ir_types.specs.Same.{same_name}

-- ---- registers

-- the name of the register that a line sets, if it sets one
abbrev pub name_set : Instr → Option Name
name_set (instr.Calm c) = Some c.name
name_set (instr.Alloca a) = Some a.name
name_set (instr.Store s) = None
name_set (instr.Call c) = c.name

-- the type of what a line gives: an alloca's is kept beside it, and a store gives nothing
abbrev pub type_set : Instr → Ty
type_set (instr.Calm c) = type_of c.right
type_set (instr.Alloca a) = a.to
type_set (instr.Store s) = Void
type_set (instr.Call c) = c.result

-- a register of that type, where there is a name for it
abbrev pub named_register : Ty → Option Name → Option (Name × Ty)
named_register t None = None
named_register t (Some name) = Some (name, t)

-- the register that a line sets, with its type, if it sets one
abbrev pub register_of : Instr → Option (Name × Ty)
register_of line = named_register (type_set line) (name_set line)

abbrev pub set_by : List Instr → List (Name × Ty)
set_by = filter_map register_of

abbrev pub phi_registers : List Phi → List (Name × Ty)
phi_registers = map (λ (p : Phi). (p.name, p.ty))

-- the registers that a block sets, with their types: by its phis, and then by its lines
abbrev pub registers_of : Block → List (Name × Ty)
registers_of b = phi_registers b.phis ++ set_by b.body

abbrev pub params_of : Function → List (Name × Ty)
params_of f = map (λ (p : Param). (p.name, p.ty)) f.params

-- all registers of a function with their types: its parameters, and what each block sets
abbrev pub typed_of : Function → List (Name × Ty)
typed_of f = params_of f ++ flat_map registers_of f.blocks

-- ---- names

-- the names of registers
abbrev pub names_in : List (Name × Ty) → List Name
names_in = map (λ register. register.0)

-- a block's own name, and those of its registers
abbrev pub block_names : Block → List Name
block_names b = b.name ∷ names_in (registers_of b)

-- All names of a function in order of appearance. In `define i32 @f(i32) { %x = add i32 %0, 7 ret i32 %x }` they are the parameter's
-- 0, the block's 1 and `x`.
abbrev pub names_of : Function → List Name
names_of f = names_in (params_of f) ++ flat_map block_names f.blocks

abbrev pub function_names : Module → List Name
function_names m = map (λ (f : Function). f.name) m.functions

-- a name that begins with `llvm.dbg.`, which is not for functions that are defined
abbrev pub is_debug : Name → Bool
is_debug (Text bytes) = starts_with nat_eq bytes (codes "llvm.dbg.")
is_debug (Number n) = false

-- ---- operands, in the order of the text

abbrev pub operands_of : Instr → List (Operand Name)
operands_of (instr.Calm c) = operands_in c.right
operands_of (instr.Alloca a) = []
operands_of (instr.Store s) = s.value ∷ s.pointer ∷ []
operands_of (instr.Call c) = map (λ (a : Argument). a.operand) c.arguments

abbrev pub operands_at_end : Term → List (Operand Name)
operands_at_end (term.Ret operand) = operand ∷ []
operands_at_end term.RetVoid = []
operands_at_end (term.Br label) = []
operands_at_end (term.CondBr c) = c.condition ∷ []
operands_at_end (term.Switch s) = s.value ∷ []
operands_at_end term.Unreachable = []

abbrev pub operands_of_phi : Phi → List (Operand Name)
operands_of_phi p = map (λ (e : Entry). record { ty = p.ty; atom = e.value }) p.entries

abbrev pub operands_in_block : Block → List (Operand Name)
operands_in_block b = flat_map operands_of_phi b.phis ++ (flat_map operands_of b.body ++ operands_at_end b.term)

-- ---- blocks

-- the cases of a terminator, in order
abbrev pub cases_of : Term → List Case
cases_of (term.Ret operand) = []
cases_of term.RetVoid = []
cases_of (term.Br label) = []
cases_of (term.CondBr c) = []
cases_of (term.Switch s) = s.cases
cases_of term.Unreachable = []

-- The blocks to which a terminator leads, by their names, once for each edge: on true and then on false, or a switch's default and
-- then its cases.
abbrev pub successors_of : Term → List Name
successors_of (term.Ret operand) = []
successors_of term.RetVoid = []
successors_of (term.Br label) = label ∷ []
successors_of (term.CondBr c) = c.on_true ∷ c.on_false ∷ []
successors_of (term.Switch s) = s.default ∷ map (λ (c : Case). c.label) s.cases
successors_of term.Unreachable = []

-- the blocks from which an edge enters the one of this name, once for each edge
abbrev pub edges_into : Function → Name → List Name
edges_into f name = flat_map (λ (b : Block). map (λ _. b.name) (filter (same_name name) (successors_of b.term))) f.blocks

-- ---- lines

-- how many lines a function has: phis, lines and terminators
abbrev pub line_count : Function → ℕ
line_count f = sum_by (λ (b : Block). length b.phis + length b.body + 1) f.blocks
