-- The types that the parts of a module state, in the order of the text (LangRef 3.7, Type System).
use Rattle.std.specs.Prelude.{ℕ, List, [], ◌∷◌, ◌++◌, map, Option, None, Some}
use Rattle.std.specs.List.{flat_map}
use Rattle.ir_core.specs.declared.expressions.Expr.{Expr}
use Rattle.ir_core.specs.declared.expressions.Expr.TheVariants as expr
use Rattle.ir_core.specs.declared.functions.Argument.{Argument}
use Rattle.ir_core.specs.declared.functions.Block.{Block}
use Rattle.ir_core.specs.declared.functions.Case.{Case}
use Rattle.ir_core.specs.declared.functions.Function.{Function}
use Rattle.ir_core.specs.declared.functions.Instr.{Instr}
use Rattle.ir_core.specs.declared.functions.Instr.TheVariants as instr
use Rattle.ir_core.specs.declared.functions.Param.{Param}
use Rattle.ir_core.specs.declared.functions.Phi.{Phi}
use Rattle.ir_core.specs.declared.modules.GlobalVar.{GlobalVar}
use Rattle.ir_core.specs.declared.modules.Init.{Init, fold-Init}
use Rattle.ir_core.specs.declared.modules.Init.TheOpen.{Init-F}
use Rattle.ir_core.specs.declared.modules.Init.TheOpen as init
use Rattle.ir_core.specs.declared.operands.Atom.{Atom}
use Rattle.ir_core.specs.declared.operands.Atom.TheVariants.{Constant, Register}
use Rattle.ir_core.specs.declared.operands.Const.{Const, fold-Const}
use Rattle.ir_core.specs.declared.operands.Const.TheOpen.{Const-F}
use Rattle.ir_core.specs.declared.operands.Const.TheOpen as part
use Rattle.ir_core.specs.declared.operands.Operand.{Operand}
use Rattle.ir_types.specs.declared.ty.Ty.{Ty}
use Rattle.ir_core.specs.Expressions.{operands_in}
use Rattle.ir_core.specs.Functions.{cases_of, operands_at_end, operands_of_phi}

-- each type, and behind it those that its part states
abbrev pub behind_each : List (Ty × List Ty) → List Ty
behind_each = flat_map (λ p. p.0 ∷ p.1)

abbrev pub stated_at_level : Const-F (List Ty) → List Ty
stated_at_level (part.Element e) = e.1 ∷ behind_each e.2
stated_at_level (part.Cast c) = behind_each c.1 ++ c.0 ∷ []
stated_at_level level = []

-- those in a constant
abbrev pub stated_in : Const → List Ty
stated_in = fold-Const (List Ty) stated_at_level

abbrev pub stated_by_atom : {R : Type 0} → Atom R → List Ty
stated_by_atom (Constant c) = stated_in c
stated_by_atom (Register r) = []

abbrev pub stated_by_operand : {R : Type 0} → Operand R → List Ty
stated_by_operand o = o.ty ∷ stated_by_atom o.atom

-- the type that stands apart from the operands: behind `to`, or before the address
abbrev pub stated_apart : {R : Type 0} → Expr R → List Ty
stated_apart (expr.Cast c) = c.to ∷ []
stated_apart (expr.Element e) = e.of ∷ []
stated_apart (expr.Load l) = l.of ∷ []
stated_apart e = []

abbrev pub stated_by_count : Option (Ty × ℕ) → List Ty
stated_by_count None = []
stated_by_count (Some count) = count.0 ∷ []

abbrev pub stated_by_line : Instr → List Ty
stated_by_line (instr.Calm c) = stated_apart c.right ++ flat_map stated_by_operand (operands_in c.right)
stated_by_line (instr.Alloca a) = a.of ∷ stated_by_count a.count
stated_by_line (instr.Store s) = stated_by_operand s.value ++ stated_by_operand s.pointer
stated_by_line (instr.Call c) = c.result ∷ flat_map (λ (a : Argument). stated_by_operand a.operand) c.arguments

abbrev pub stated_by_phi : Phi → List Ty
stated_by_phi p = p.ty ∷ flat_map stated_by_operand (operands_of_phi p)

abbrev pub stated_by_block : Block → List Ty
stated_by_block b =
    flat_map stated_by_phi b.phis
    ++ (flat_map stated_by_line b.body ++ (flat_map stated_by_operand (operands_at_end b.term) ++ map (λ (c : Case). c.ty) (cases_of b.term)))

-- those of a function: its result, its parameters, and those of its lines
abbrev pub types_in : Function → List Ty
types_in f = f.result ∷ (map (λ (p : Param). p.ty) f.params ++ flat_map stated_by_block f.blocks)

-- ---- globals

abbrev pub stated_by_init : Init-F (List Ty) → List Ty
stated_by_init (init.Const c) = stated_in c
stated_by_init (init.Array parts) = behind_each parts
stated_by_init (init.Struct parts) = behind_each parts
stated_by_init level = []

abbrev pub stated_at_start : Option Init → List Ty
stated_at_start None = []
stated_at_start (Some i) = fold-Init (List Ty) stated_by_init i

abbrev pub types_in_global : GlobalVar → List Ty
types_in_global g = g.ty ∷ stated_at_start g.init
