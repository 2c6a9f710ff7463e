-- How much memory is wanted at once: of a global, of an alloca with its count, of a getelementptr's first type and of each type that an index
-- behind the first enters, also inside constants.
use Rattle.std.specs.Prelude.{◌≡◌, ℕ, cond, List, [], ◌∷◌, ◌++◌, map, Option, None, Some, Err}
use Rattle.std.specs.List.{AllByRecursion, flat_map}
use Rattle.ir_types.specs.declared.named.NamedTy.{NamedTy}
use Rattle.ir_types.specs.declared.sizes.SizeFault.TheVariants.{TooLarge}
use Rattle.ir_types.specs.declared.ty.Ty.{Ty}
use Rattle.ir_types.specs.Named.{block_of}
use Rattle.ir_core.specs.declared.expressions.Expr.{Expr}
use Rattle.ir_core.specs.declared.expressions.Expr.TheVariants as expr
use Rattle.ir_core.specs.declared.functions.Argument.{Argument}
use Rattle.ir_core.specs.declared.functions.Block.{Block}
use Rattle.ir_core.specs.declared.functions.Function.{Function}
use Rattle.ir_core.specs.declared.functions.Instr.{Instr}
use Rattle.ir_core.specs.declared.functions.Instr.TheVariants as instr
use Rattle.ir_core.specs.declared.functions.Phi.{Phi}
use Rattle.ir_core.specs.declared.modules.GlobalVar.{GlobalVar}
use Rattle.ir_core.specs.declared.modules.Init.{Init, fold-Init}
use Rattle.ir_core.specs.declared.modules.Init.TheOpen.{Init-F}
use Rattle.ir_core.specs.declared.modules.Init.TheOpen as init
use Rattle.ir_core.specs.declared.modules.Module.{Module}
use Rattle.ir_core.specs.declared.operands.Atom.{Atom}
use Rattle.ir_core.specs.declared.operands.Atom.TheVariants.{Constant, Register}
use Rattle.ir_core.specs.declared.operands.Const.{Const, fold-Const}
use Rattle.ir_core.specs.declared.operands.Const.TheOpen.{Const-F}
use Rattle.ir_core.specs.declared.operands.Const.TheOpen as part
use Rattle.ir_core.specs.declared.operands.Operand.{Operand}
use Rattle.ir_core.specs.Expressions.{operands_in}
use Rattle.ir_core.specs.Functions.{operands_at_end, operands_of_phi}
use Rattle.ir_core.specs.Types.{is_integer}
use Rattle.ir_core.specs.Typing.{Index, entered, index_of}

-- so many of a type
abbrev pub Blocks : Type 0
Blocks = List (Ty × ℕ)

-- a type that is entered, and those that are behind it
abbrev pub entered_behind : (Ty → List Ty) → Option Ty → List Ty
entered_behind behind None = []
entered_behind behind (Some t) = t ∷ behind t

-- the types that indices enter, one inside the other
abbrev pub entered_along : List NamedTy → Ty → List Index → List Ty
entered_along types t [] = []
entered_along types t (i ∷ is) = entered_behind (λ u. entered_along types u is) (entered types t i)

abbrev pub stepped : List NamedTy → Ty → List Index → List Ty
stepped types of [] = of ∷ []
stepped types of (over ∷ further) = of ∷ entered_along types of further

abbrev pub one_of_each : List Ty → Blocks
one_of_each = map (λ (t : Ty). (t, 1))

-- ---- constants

-- of a constant: its number where it is one, and what is wanted in it
pub record Wanted : Type 0 where
  pub number : Option ℕ
  pub blocks : Blocks

abbrev pub wanted_by_parts : List (Ty × Wanted) → Blocks
wanted_by_parts = flat_map (λ p. p.1.blocks)

-- the indices behind the base
abbrev pub indices_behind : List (Ty × Wanted) → List Index
indices_behind [] = []
indices_behind (base ∷ indices) = map (λ (p : Ty × Wanted). record { ty = p.0; number = p.1.number }) indices

abbrev pub wanted_at_level : List NamedTy → Const-F Wanted → Wanted
wanted_at_level types (part.Number n) = record { number = Some n; blocks = [] }
wanted_at_level types (part.Element e) = record { number = None; blocks = one_of_each (stepped types e.1 (indices_behind e.2)) ++ wanted_by_parts e.2 }
wanted_at_level types (part.Cast c) = record { number = None; blocks = wanted_by_parts c.1 }
wanted_at_level types other = record { number = None; blocks = [] }

abbrev pub wanted_by_constant : List NamedTy → Const → Blocks
wanted_by_constant types c = (fold-Const Wanted (wanted_at_level types) c).blocks

abbrev pub wanted_by_atom : {R : Type 0} → List NamedTy → Atom R → Blocks
wanted_by_atom types (Constant c) = wanted_by_constant types c
wanted_by_atom types (Register r) = []

abbrev pub wanted_by_operands : {R : Type 0} → List NamedTy → List (Operand R) → Blocks
wanted_by_operands types = flat_map (λ o. wanted_by_atom types o.atom)

-- ---- what a global holds at the start

abbrev pub wanted_by_init_at : List NamedTy → Init-F Blocks → Blocks
wanted_by_init_at types (init.Const c) = wanted_by_constant types c
wanted_by_init_at types (init.Array parts) = flat_map (λ (p : Ty × Blocks). p.1) parts
wanted_by_init_at types (init.Struct parts) = flat_map (λ (p : Ty × Blocks). p.1) parts
wanted_by_init_at types other = []

abbrev pub wanted_at_start : List NamedTy → Option Init → Blocks
wanted_at_start types None = []
wanted_at_start types (Some i) = fold-Init Blocks (wanted_by_init_at types) i

-- ---- modules

abbrev pub wanted_apart : {R : Type 0} → List NamedTy → Expr R → Blocks
wanted_apart types (expr.Element e) = one_of_each (stepped types e.of (map index_of e.indices))
wanted_apart types e = []

-- an alloca whose count is no integer wants nothing
abbrev pub wanted_by_count : Ty → Option (Ty × ℕ) → Blocks
wanted_by_count of None = (of, 1) ∷ []
wanted_by_count of (Some count) = cond (is_integer count.0) ((of, count.1) ∷ []) []

abbrev pub wanted_by_line : List NamedTy → Instr → Blocks
wanted_by_line types (instr.Calm c) = wanted_apart types c.right ++ wanted_by_operands types (operands_in c.right)
wanted_by_line types (instr.Alloca a) = wanted_by_count a.of a.count
wanted_by_line types (instr.Store s) = wanted_by_operands types (s.value ∷ s.pointer ∷ [])
wanted_by_line types (instr.Call c) = wanted_by_operands types (map (λ (a : Argument). a.operand) c.arguments)

abbrev pub wanted_in_block : List NamedTy → Block → Blocks
wanted_in_block types b =
    flat_map (λ (p : Phi). wanted_by_operands types (operands_of_phi p)) b.phis
    ++ (flat_map (wanted_by_line types) b.body ++ wanted_by_operands types (operands_at_end b.term))

abbrev pub wanted_in_function : List NamedTy → Function → Blocks
wanted_in_function types f = flat_map (wanted_in_block types) f.blocks

abbrev pub wanted_by_global : List NamedTy → GlobalVar → Blocks
wanted_by_global types g = (g.ty, 1) ∷ wanted_at_start types g.init

abbrev pub wanted_in : Module → Blocks
wanted_in m = flat_map (wanted_by_global m.types) m.globals ++ flat_map (wanted_in_function m.types) m.functions

-- a type without size passes no limit
abbrev pub AreSmall : List NamedTy → Blocks → Type 0
AreSmall types = AllByRecursion (λ b. block_of types b.0 b.1 ≡ Err TooLarge → ⊥)

-- nothing in the module passes the limit on blocks
abbrev pub IsSmall : Module → Type 0
IsSmall m = AreSmall m.types (wanted_in m)
