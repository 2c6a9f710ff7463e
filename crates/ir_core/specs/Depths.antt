-- How deep types, constants and initialisers stand in one another: each counts one more than the deepest that stands in it. So `i8*` has the
-- depth 2, and in `[[i8 0]]` the `i8` and the `0` have the depth 3. What a name stands for isn't counted.
use Rattle.std.specs.Prelude.{ℕ, ◌+◌, ◌≤◌, max, List, [], ◌∷◌, ◌++◌, map, Option, None, Some}
use Rattle.std.specs.List.{AllByRecursion, flat_map}
use Rattle.ir_types.specs.declared.named.NamedTy.{NamedTy}
use Rattle.ir_types.specs.declared.ty.Ty.{Ty, fold-Ty}
use Rattle.ir_types.specs.declared.ty.Ty.TheOpen.{Ty-F}
use Rattle.ir_types.specs.declared.ty.Ty.TheOpen as level
use Rattle.ir_core.specs.declared.functions.Argument.{Argument}
use Rattle.ir_core.specs.declared.functions.Block.{Block}
use Rattle.ir_core.specs.declared.functions.Case.{Case}
use Rattle.ir_core.specs.declared.functions.Function.{Function}
use Rattle.ir_core.specs.declared.functions.Instr.{Instr}
use Rattle.ir_core.specs.declared.functions.Instr.TheVariants as instr
use Rattle.ir_core.specs.declared.functions.Param.{Param}
use Rattle.ir_core.specs.declared.functions.Phi.{Phi}
use Rattle.ir_core.specs.declared.modules.Declaration.{Declaration}
use Rattle.ir_core.specs.declared.modules.DeclaredParam.{DeclaredParam}
use Rattle.ir_core.specs.declared.modules.GlobalVar.{GlobalVar}
use Rattle.ir_core.specs.declared.modules.Init.{Init, fold-Init}
use Rattle.ir_core.specs.declared.modules.Init.TheOpen.{Init-F}
use Rattle.ir_core.specs.declared.modules.Init.TheOpen as init
use Rattle.ir_core.specs.declared.modules.Module.{Module}
use Rattle.ir_core.specs.declared.operands.Atom.{Atom}
use Rattle.ir_core.specs.declared.operands.Atom.TheVariants.{Constant, Register}
use Rattle.ir_core.specs.declared.operands.Const.{Const, fold-Const}
use Rattle.ir_core.specs.declared.operands.Const.TheOpen.{Const-F}
use Rattle.ir_core.specs.declared.operands.Const.TheOpen as part
use Rattle.ir_core.specs.declared.operands.Operand.{Operand}
use Rattle.ir_core.specs.Expressions.{operands_in}
use Rattle.ir_core.specs.Functions.{cases_of, operands_at_end, operands_of_phi}
use Rattle.ir_core.specs.Limits.{depth_limit}
use Rattle.ir_core.specs.StatedTypes.{stated_apart, stated_by_count}

abbrev pub deepest : List ℕ → ℕ
deepest [] = 0
deepest (d ∷ ds) = max d (deepest ds)

-- ---- types

abbrev pub depth_at_level : Ty-F ℕ → ℕ
depth_at_level (level.Ptr d) = d + 1
depth_at_level (level.Array count d) = d + 1
depth_at_level (level.Struct ds) = deepest ds + 1
depth_at_level other = 1

abbrev pub depth_of : Ty → ℕ
depth_of = fold-Ty ℕ depth_at_level

-- those of the types that are stated for parts, and of the parts
abbrev pub depth_of_parts : List (Ty × ℕ) → ℕ
depth_of_parts parts = deepest (map (λ (p : Ty × ℕ). max (depth_of p.0) p.1) parts)

-- ---- constants

abbrev pub depth_at_part : Const-F ℕ → ℕ
depth_at_part (part.Element e) = max (depth_of e.1) (depth_of_parts e.2) + 1
depth_at_part (part.Cast c) = max (depth_of c.0) (depth_of_parts c.1) + 1
depth_at_part other = 1

abbrev pub depth_of_constant : Const → ℕ
depth_of_constant = fold-Const ℕ depth_at_part

abbrev pub depth_of_atom : {R : Type 0} → Atom R → ℕ
depth_of_atom (Constant c) = depth_of_constant c
depth_of_atom (Register r) = 1

-- its type and its value stand side by side
abbrev pub depth_of_operand : {R : Type 0} → Operand R → ℕ
depth_of_operand o = max (depth_of o.ty) (depth_of_atom o.atom)

-- ---- what a global holds at the start

abbrev pub depth_of_init_at : Init-F ℕ → ℕ
depth_of_init_at (init.Const c) = depth_of_constant c
depth_of_init_at (init.Array parts) = depth_of_parts parts + 1
depth_of_init_at (init.Struct parts) = depth_of_parts parts + 1
depth_of_init_at other = 1

abbrev pub depth_of_init : Init → ℕ
depth_of_init = fold-Init ℕ depth_of_init_at

-- ---- modules

abbrev pub depths_at_line : Instr → List ℕ
depths_at_line (instr.Calm c) = map depth_of (stated_apart c.right) ++ map (λ o. depth_of_operand o) (operands_in c.right)
depths_at_line (instr.Alloca a) = depth_of a.of ∷ map depth_of (stated_by_count a.count)
depths_at_line (instr.Store s) = depth_of_operand s.value ∷ depth_of_operand s.pointer ∷ []
depths_at_line (instr.Call c) = depth_of c.result ∷ map (λ (a : Argument). depth_of_operand a.operand) c.arguments

abbrev pub depths_at_phi : Phi → List ℕ
depths_at_phi p = depth_of p.ty ∷ map (λ o. depth_of_operand o) (operands_of_phi p)

abbrev pub depths_in_block : Block → List ℕ
depths_in_block b =
    flat_map depths_at_phi b.phis
    ++ (flat_map depths_at_line b.body
    ++ (map (λ o. depth_of_operand o) (operands_at_end b.term) ++ map (λ (c : Case). depth_of c.ty) (cases_of b.term)))

abbrev pub depths_in_function : Function → List ℕ
depths_in_function f = depth_of f.result ∷ (map (λ (p : Param). depth_of p.ty) f.params ++ flat_map depths_in_block f.blocks)

abbrev pub depths_in_declaration : Declaration → List ℕ
depths_in_declaration d = depth_of d.result ∷ map (λ (p : DeclaredParam). depth_of p.ty) d.params

-- the fields stand in a struct; an opaque type has none
abbrev pub depths_in_fields : Option (List Ty) → List ℕ
depths_in_fields None = []
depths_in_fields (Some fields) = (deepest (map depth_of fields) + 1) ∷ []

abbrev pub depths_in_named : NamedTy → List ℕ
depths_in_named t = depths_in_fields t.fields

abbrev pub depths_at_start : Option Init → List ℕ
depths_at_start None = []
depths_at_start (Some i) = depth_of_init i ∷ []

abbrev pub depths_in_global : GlobalVar → List ℕ
depths_in_global g = depth_of g.ty ∷ depths_at_start g.init

abbrev pub depths_in : Module → List ℕ
depths_in m =
    flat_map depths_in_named m.types
    ++ (flat_map depths_in_global m.globals ++ (flat_map depths_in_function m.functions ++ flat_map depths_in_declaration m.declarations))

abbrev pub AreShallow : List ℕ → Type 0
AreShallow = AllByRecursion (λ d. d ≤ depth_limit)

-- nothing in the module passes the limit on depths
abbrev pub IsShallow : Module → Type 0
IsShallow m = AreShallow (depths_in m)
