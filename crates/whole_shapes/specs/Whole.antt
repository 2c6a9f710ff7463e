-- Words of private functions: functions that are seen to have shape at one look-up of each name.
use Rattle.std.specs.Prelude.{◌≡◌, ◌⊎◌, ◌&&◌, ℕ, Bool, false, true, List, [], map, Option, None, Some, slice_get}
use Rattle.std.specs.List.{AllByRecursion, Contains, list_all}
use Rattle.ir_core.specs.declared.expressions.Expr.{Expr}
use Rattle.ir_core.specs.declared.expressions.Expr.TheVariants as expr
use Rattle.ir_core.specs.declared.functions.Block.{Block}
use Rattle.ir_core.specs.declared.functions.Function.{Function}
use Rattle.ir_core.specs.declared.functions.Instr.{Instr}
use Rattle.ir_core.specs.declared.functions.Instr.TheVariants as instr
use Rattle.ir_core.specs.declared.functions.Param.{Param}
use Rattle.ir_core.specs.declared.functions.Phi.{Phi}
use Rattle.ir_core.specs.declared.functions.Term.{Term}
use Rattle.ir_types.specs.declared.names.Name.{Name}
use Rattle.ir_core.specs.declared.operands.Atom.{Atom}
use Rattle.ir_core.specs.declared.operands.Atom.TheVariants.{Constant, Register}
use Rattle.ir_core.specs.declared.operands.Const.{Const}
use Rattle.ir_core.specs.declared.operands.Const.TheVariants as constant
use Rattle.ir_core.specs.declared.operands.Operand.{Operand}
use Rattle.ir_types.specs.declared.ty.Ty.{Ty}
use Rattle.ir_types.specs.declared.ty.Ty.TheVariants as ty
use Rattle.ir_core.specs.Expressions.{operands_in, type_of}
use Rattle.ir_core.specs.Functions.{operands_at_end, operands_of_phi, successors_of, typed_of}
use Rattle.ir_core.specs.Types.{is_integer}
use Rattle.ir_core.specs.WellFormed.{BranchesOn, FitsEdges, HasCases, Returns}
use Rattle.whole_shapes.specs.declared.sight.Home.{Home}
use Rattle.ir_shape.specs.ShapeTests.Edges.{edges_among, row_at}
use Rattle.ir_shape.specs.ShapeTests.Kinds.{leads_to, right_kind}

-- where the name of this place among all stands, if it has one
abbrev pub home_at : Option ℕ → List Home → Option Home
home_at None homes = None
home_at (Some place) homes = slice_get homes place

abbrev pub param_registers : List Param → List (Name × Ty)
param_registers = map (λ (p : Param). (p.name, p.ty))

-- ---- functions over integers alone

-- an integer, or nothing
abbrev pub is_whole_result : Ty → Bool
is_whole_result ty.Void = true
is_whole_result t = is_integer t

-- a result and parameters of such types
abbrev pub is_header_whole : Function → Bool
is_header_whole f = is_whole_result f.result && list_all (λ (p : Param). is_integer p.ty) f.params

-- a number, or undef
abbrev pub IsPlain : Const → Type 0
IsPlain c = ((n : ℕ) × (c ≡ constant.Number n)) ⊎ (c ≡ constant.Undef)

-- a register is one of these, of that type, and a constant a number or undef of an integer type
abbrev pub IsTyped : List (Name × Ty) → Ty → Atom Name → Type 0
IsTyped rs t (Constant c) = (is_integer t ≡ true) × IsPlain c
IsTyped rs t (Register name) = Contains rs (name, t)

abbrev pub AreTyped : List (Name × Ty) → List (Operand Name) → Type 0
AreTyped rs = AllByRecursion (λ (o : Operand Name). IsTyped rs o.ty o.atom)

-- neither an address nor what stands behind one
abbrev pub IsPure : Expr Name → Type 0
IsPure (expr.Element e) = ⊥
IsPure (expr.Load l) = ⊥
IsPure e = Unit {0}

abbrev pub IsRightWhole : List (Name × Ty) → Expr Name → Type 0
IsRightWhole rs e = (is_integer (type_of e) ≡ true) × AreTyped rs (operands_in e) × IsPure e × (right_kind e ≡ None)

abbrev pub IsLineWhole : List (Name × Ty) → Instr → Type 0
IsLineWhole rs (instr.Calm c) = IsRightWhole rs c.right
IsLineWhole rs line = ⊥

abbrev pub IsPhiWhole : Function → Block → Phi → Type 0
IsPhiWhole f b p = (is_integer p.ty ≡ true) × AreTyped (typed_of f) (operands_of_phi p) × FitsEdges f b p

-- all but that its labels are known
abbrev pub IsEndWhole : Function → Name → Term → Type 0
IsEndWhole f entry end =
    AreTyped (typed_of f) (operands_at_end end) × (leads_to entry end ≡ false) × BranchesOn end × Returns f.result end × HasCases end

abbrev pub IsBlockWhole : Function → Name → Block → Type 0
IsBlockWhole f entry b =
    AllByRecursion (IsPhiWhole f b) b.phis × AllByRecursion (IsLineWhole (typed_of f)) b.body × IsEndWhole f entry b.term

abbrev pub AreLabels : List Block → List Name → Type 0
AreLabels bs = AllByRecursion (Contains (map (λ (b : Block). b.name) bs))

abbrev pub LeadsToLabels : List Block → Block → Type 0
LeadsToLabels bs b = AreLabels bs (successors_of b.term)

-- a row without names for each of these
abbrev pub bare_rows : List Name → List (List Name)
bare_rows = map (λ _. [])

-- the edges into the block are kept at the place of its name
abbrev pub HasRow : List Name → List (List Name) → List Block → Block → Type 0
HasRow names rows bs b = row_at names rows b.name ≡ edges_among b.name bs
