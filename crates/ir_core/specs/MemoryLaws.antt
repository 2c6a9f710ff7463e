-- Of lines of memory: how they are read.
use Rattle.std.specs.Prelude.{◌≡◌, false, true, [], ◌∷◌, Option, None, Some}
use Rattle.ir_types.specs.declared.names.Name.{Name}
use Rattle.ir_types.specs.declared.ty.Ty.{Ty, Int, Ptr, Void}
use Rattle.ir_types.specs.Same.{same_name}
use Rattle.ir_core.specs.declared.expressions.Element.{Element}
use Rattle.ir_core.specs.declared.expressions.Expr.{Expr}
use Rattle.ir_core.specs.declared.expressions.Expr.TheVariants as expr
use Rattle.ir_core.specs.declared.expressions.Load.{Load}
use Rattle.ir_core.specs.declared.functions.Alloca.{Alloca}
use Rattle.ir_core.specs.declared.functions.Call.{Call}
use Rattle.ir_core.specs.declared.functions.Extensions.{Extensions}
use Rattle.ir_core.specs.declared.functions.Instr.{Instr}
use Rattle.ir_core.specs.declared.functions.Instr.TheVariants as line
use Rattle.ir_core.specs.declared.functions.Store.{Store}
use Rattle.ir_core.specs.Examples.{f, held, x, y}
use Rattle.ir_core.specs.Expressions.{expr_has, operands_in, type_of}
use Rattle.ir_core.specs.Functions.{operands_of, register_of}

-- getelementptr inbounds i8, i8* %x, i8 %y
abbrev pub addressing : Expr Name
addressing = expr.Element (record { inbounds = true; of = Int 8; base = held (Ptr (Int 8)) x; indices = held (Int 8) y ∷ []; to = Ptr (Int 8) })

-- load i8, i8* %x, align 1
abbrev pub loading : Expr Name
loading = expr.Load (record { of = Int 8; pointer = held (Ptr (Int 8)) x; align = Some 1 })

-- %x = alloca i8
abbrev pub allocating : Instr
allocating = line.Alloca (record { name = x; of = Int 8; to = Ptr (Int 8); count = None; align = None })

-- store i8 %y, i8* %x
abbrev pub storing : Instr
storing = line.Store (record { value = held (Int 8) y; pointer = held (Ptr (Int 8)) x; align = None })

abbrev pub unchanged : Extensions
unchanged = record { signed = false; zero = false }

-- name = call result @f(i8 %x, i8 %y)
abbrev pub calling : Option Name → Ty → Instr
calling name result = line.Call (record {
  name = name;
  result = result;
  result_extensions = unchanged;
  callee = f;
  arguments = record { operand = held (Int 8) x; extensions = unchanged } ∷ record { operand = held (Int 8) y; extensions = unchanged } ∷ [];
})

-- the type that each has, its operands in the order of the text, and that each of them is looked at
pub record AddressesAreRead : Type 0 where
  pub addressed : type_of addressing ≡ Ptr (Int 8)
  pub loaded : type_of loading ≡ Int 8
  pub of_element : operands_in addressing ≡ held (Ptr (Int 8)) x ∷ held (Int 8) y ∷ []
  pub of_load : operands_in loading ≡ held (Ptr (Int 8)) x ∷ []
  pub in_element : (expr_has (same_name x) addressing ≡ true) × (expr_has (same_name y) addressing ≡ true) × (expr_has (same_name f) addressing ≡ false)
  pub in_load : (expr_has (same_name x) loading ≡ true) × (expr_has (same_name y) loading ≡ false)

-- An alloca sets a pointer, a store nothing, and a call a register where it names one; a store's value stands before its address, and
-- arguments go from left to right.
pub record MemoryLinesAreRead : Type 0 where
  pub alloca : (register_of allocating ≡ Some (x, Ptr (Int 8))) × (operands_of allocating ≡ [])
  pub store : (register_of storing ≡ None) × (operands_of storing ≡ held (Int 8) y ∷ held (Ptr (Int 8)) x ∷ [])
  pub call : register_of (calling (Some x) (Int 8)) ≡ Some (x, Int 8)
  pub nameless : register_of (calling None Void) ≡ None
  pub arguments : operands_of (calling None Void) ≡ held (Int 8) x ∷ held (Int 8) y ∷ []
