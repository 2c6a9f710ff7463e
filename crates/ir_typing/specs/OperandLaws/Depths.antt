-- How deep types, constants and initialisers are, and where in a module they count, by examples.
use Rattle.std.specs.Prelude.{◌≡◌, ◌≤◌, ℕ, zero, suc, false, List, [], ◌∷◌, None, Some}
use Rattle.ir_types.specs.declared.named.NamedTy.{NamedTy}
use Rattle.ir_types.specs.declared.names.Name.{Name}
use Rattle.ir_types.specs.declared.ty.Ty.{Ty, Int, Ptr, Array, Struct, Named, Void}
use Rattle.ir_core.specs.declared.expressions.Expr.{Expr}
use Rattle.ir_core.specs.declared.expressions.Expr.TheVariants as expr
use Rattle.ir_core.specs.declared.functions.Instr.{Instr}
use Rattle.ir_core.specs.declared.functions.Instr.TheVariants as line
use Rattle.ir_core.specs.declared.functions.Phi.{Phi}
use Rattle.ir_core.specs.declared.functions.Term.{Term}
use Rattle.ir_core.specs.declared.functions.Term.TheVariants as end
use Rattle.ir_core.specs.declared.modules.Init.{Init}
use Rattle.ir_core.specs.declared.modules.Init as init
use Rattle.ir_core.specs.declared.modules.Module.{Module}
use Rattle.ir_core.specs.declared.operands.Atom.TheVariants.{Constant}
use Rattle.ir_core.specs.declared.operands.CastOp.TheVariants as conversion
use Rattle.ir_core.specs.declared.operands.Const.{Const, Number, Global}
use Rattle.ir_core.specs.declared.operands.Const as constant
use Rattle.ir_core.specs.declared.operands.Operand.{Operand}
use Rattle.ir_core.specs.Depths.{AreShallow, IsShallow, depth_of, depth_of_constant, depth_of_init, depths_in_named}
use Rattle.ir_core.specs.Examples.{f, held, typed, x, y}
use Rattle.ir_core.specs.Limits.{depth_limit}
use Rattle.ir_core.specs.Modules.{not_extended, plain_function, plain_module, plain_param}
use Rattle.ir_core.specs.TypingLaws.{declared, starting}

-- ---- depths

-- so many pointers, one to the other, and the last to `i8`
abbrev pub pointers : ℕ → Ty
pointers zero = Int 8
pointers (suc n) = Ptr (pointers n)

-- so many `bitcast`s of `i8`, one inside the other, and in the last a 0
abbrev pub recasts : ℕ → Const
recasts zero = Number 0
recasts (suc n) = constant.Cast (Int 8, (Int 8, recasts n) ∷ [])

-- %x = type { ty }
abbrev pub of_field : Ty → NamedTy
of_field ty = record { name = x; fields = Some (ty ∷ []) }

-- [i8 0]
abbrev pub one_zero : Init
one_zero = init.Array ((Int 8, init.Const (Number 0)) ∷ [])

-- `i8*` has the depth 2, and what a name stands for isn't counted. A type is as deep as the limit where 63 pointers lead to an `i8`, or a
-- struct of one behind 62; so is not one more.
pub record DepthsAreCounted : Type 0 where
  pub pointer : depth_of (Ptr (Int 8)) ≡ 2
  pub empty : depth_of (Struct []) ≡ 1
  pub array : depth_of (Array 2 (Struct (Ptr (Int 8) ∷ Int 16 ∷ []))) ≡ 4
  pub named : (name : Name) → depth_of (Ptr (Named name)) ≡ 2
  pub initialiser : depth_of_init (init.Array ((Array 1 (Int 8), one_zero) ∷ [])) ≡ 3
  pub address : depth_of_constant (constant.Element (false, Int 8, (Ptr (Int 8), Global f) ∷ (Int 64, Number 1) ∷ [])) ≡ 3
  pub recast : depth_of_constant (constant.Cast (Ptr (Int 16), (Ptr (Int 8), Global f) ∷ [])) ≡ 3
  pub at_limit : depth_of (pointers 63) ≤ depth_limit
  pub beyond : depth_of (pointers 64) ≤ depth_limit → ⊥
  pub field_at_limit : AreShallow (depths_in_named (of_field (pointers 62)))
  pub field_beyond : AreShallow (depths_in_named (of_field (pointers 63))) → ⊥

-- ---- where types and constants count

-- define void @f() { f: phis lines end }
abbrev pub of_block : List Phi → List Instr → Term → Module
of_block phis lines end = plain_module [] (plain_function Void f [] (record { name = f; phis = phis; body = lines; term = end } ∷ []) ∷ [])

abbrev pub of_line : Instr → Module
of_line line = of_block [] (line ∷ []) end.RetVoid

-- %x = right
abbrev pub of_right : Expr Name → Module
of_right right = of_line (line.Calm (record { name = x; right = right }))

abbrev pub of_phi : Phi → Module
of_phi phi = of_block (phi ∷ []) [] end.RetVoid

abbrev pub of_end : Term → Module
of_end end = of_block [] [] end

-- i8 c
abbrev pub byte : Const → Operand Name
byte c = record { ty = Int 8; atom = Constant c }

-- bitcast operand to to
abbrev pub converting : Operand Name → Ty → Module
converting operand to = of_right (expr.Cast (record { op = conversion.BitCast; operand = operand; to = to }))

-- getelementptr of, base, index
abbrev pub indexing : Ty → Operand Name → Operand Name → Module
indexing of base index =
    of_right (expr.Element (record { inbounds = false; of = of; base = base; indices = index ∷ []; to = Ptr (Int 8) }))

-- load of, pointer
abbrev pub loading : Ty → Operand Name → Module
loading of pointer = of_right (expr.Load (record { of = of; pointer = pointer; align = None }))

-- %x = alloca of, ty 1
abbrev pub allocating_one : Ty → Ty → Module
allocating_one of ty = of_line (line.Alloca (record { name = x; of = of; to = Ptr (Int 8); count = Some (ty, 1); align = None }))

-- store value, pointer
abbrev pub storing : Operand Name → Operand Name → Module
storing value pointer = of_line (line.Store (record { value = value; pointer = pointer; align = None }))

-- %x = call result @f(i8 %y, argument)
abbrev pub calling : Ty → Operand Name → Module
calling result argument = of_line (line.Call (record {
  name = Some x;
  result = result;
  result_extensions = not_extended;
  callee = f;
  arguments =
      record { operand = held (Int 8) y; extensions = not_extended } ∷ record { operand = argument; extensions = not_extended } ∷ [];
}))

-- %x = phi ty [ %y, %f ], [ c, %f ]
abbrev pub merging : Ty → Const → Module
merging ty c = of_phi (record {
  name = x;
  ty = ty;
  entries = record { value = (held ty y).atom; from = f } ∷ record { value = Constant c; from = f } ∷ [];
})

-- switch value, label %f [ i8 0, label %f  ty 0, label %f ]
abbrev pub switching : Operand Name → Ty → Module
switching value ty = of_end (end.Switch (record {
  value = value;
  default = f;
  cases = record { ty = Int 8; number = 0; label = f } ∷ record { ty = ty; number = 0; label = f } ∷ [];
}))

-- br condition, label %f, label %f
abbrev pub branching : Operand Name → Module
branching condition = of_end (end.CondBr (record { condition = condition; on_true = f; on_false = f }))

-- a type in this place of a module may be as deep as the limit, and no deeper
pub record CountsType (at : Ty → Module) : Type 0 where
  pub at_limit : IsShallow (at (pointers 63))
  pub beyond : IsShallow (at (pointers 64)) → ⊥

-- a constant in this place of a module may be as deep as the limit, and no deeper
pub record CountsConstant (at : Const → Module) : Type 0 where
  pub at_limit : IsShallow (at (recasts 63))
  pub beyond : IsShallow (at (recasts 64)) → ⊥

-- The types of globals, of the parameters and results of functions, and in structs are counted.
pub record DeclaredPartsCount : Type 0 where
  pub global : CountsType (λ t. record { types = []; globals = starting x t None ∷ []; functions = []; declarations = [] })
  pub start : CountsConstant (λ c. record { types = []; globals = starting x (Int 8) (Some (init.Const c)) ∷ []; functions = []; declarations = [] })
  pub declared_result : CountsType (λ t. record { types = []; globals = []; functions = []; declarations = declared t f (Int 8) false ∷ [] })
  pub declared_parameter : CountsType (λ t. record { types = []; globals = []; functions = []; declarations = declared Void f t false ∷ [] })
  pub result : CountsType (λ t. plain_module [] (plain_function t f [] [] ∷ []))
  pub parameter : CountsType (λ t. plain_module [] (plain_function Void f (plain_param (Int 8) x ∷ plain_param t y ∷ []) [] ∷ []))

-- Of a line the types that it states are counted, and the constants among its operands.
pub record LinesCount : Type 0 where
  pub converted : CountsConstant (λ c. converting (byte c) (Int 8))
  pub converted_from : CountsType (λ t. converting (held t x) (Int 8))
  pub converted_to : CountsType (λ t. converting (held (Int 8) x) t)
  pub stepped : CountsType (λ t. indexing t (held (Ptr (Int 8)) x) (typed (Int 64) 1))
  pub base : CountsConstant (λ c. indexing (Int 8) (byte c) (typed (Int 64) 1))
  pub index : CountsConstant (λ c. indexing (Int 8) (held (Ptr (Int 8)) x) (byte c))
  pub loaded : CountsType (λ t. loading t (held (Ptr (Int 8)) x))
  pub loaded_from : CountsConstant (λ c. loading (Int 8) (byte c))
  pub allocated : CountsType (λ t. allocating_one t (Int 64))
  pub count : CountsType (λ t. allocating_one (Int 8) t)
  pub stored : CountsConstant (λ c. storing (byte c) (held (Ptr (Int 8)) x))
  pub stored_type : CountsType (λ t. storing (held t y) (held (Ptr (Int 8)) x))
  pub stored_to : CountsConstant (λ c. storing (held (Int 8) y) (byte c))
  pub stored_to_type : CountsType (λ t. storing (held (Int 8) y) (held t x))
  pub call_result : CountsType (λ t. calling t (held (Int 8) y))
  pub argument : CountsConstant (λ c. calling (Int 8) (byte c))
  pub argument_type : CountsType (λ t. calling (Int 8) (held t y))

-- So are those of phis, of what is returned or decides, and of the cases of a switch.
pub record EndsCount : Type 0 where
  pub phi : CountsType (λ t. merging t (Number 0))
  pub entry : CountsConstant (λ c. merging (Int 8) c)
  pub returned : CountsConstant (λ c. of_end (end.Ret (byte c)))
  pub returned_type : CountsType (λ t. of_end (end.Ret (held t x)))
  pub condition : CountsConstant (λ c. branching (byte c))
  pub switched : CountsConstant (λ c. switching (byte c) (Int 8))
  pub switched_type : CountsType (λ t. switching (held t x) (Int 8))
  pub case : CountsType (λ t. switching (held (Int 8) x) t)
