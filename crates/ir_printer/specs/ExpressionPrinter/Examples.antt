-- Examples of how types, constants and expressions are printed.
use Rattle.std.specs.Prelude.{◌≡◌, ℕ, true, false, List, codes, [], ◌∷◌, ◌++◌, None, Some}
use Rattle.ir_types.specs.declared.names.Name.{Name}
use Rattle.ir_types.specs.declared.names.Name.TheVariants as name
use Rattle.ir_types.specs.declared.ty.Ty.{Ty, Int, Ptr, Array, Struct, Named, Void}
use Rattle.ir_core.specs.declared.operands.Const.{Const, Number, Null, Global, Element, Cast}
use Rattle.ir_core.specs.declared.operands.Atom.TheVariants.{Constant, Register}
use Rattle.ir_core.specs.declared.operands.Operand.{Operand}
use Rattle.ir_core.specs.declared.expressions.Expr.TheVariants as expr
use Rattle.ir_printer.specs.ExpressionPrinter.Printed.{printed_constant, printed_expr, printed_local, printed_type}

pub record TypesAreWritten : Type 0 where
  pub integer : printed_type (Int 17) ≡ codes "i17"
  pub void : printed_type Void ≡ codes "void"
  pub pointer : printed_type (Ptr (Ptr (Int 8))) ≡ codes "i8**"
  pub array : printed_type (Array 4 (Int 8)) ≡ codes "[4 x i8]"
  pub no_fields : printed_type (Struct []) ≡ codes "{}"
  pub one_field : printed_type (Struct (Int 32 ∷ [])) ≡ codes "{ i32 }"
  pub two_fields : printed_type (Struct (Int 32 ∷ Ptr (Int 8) ∷ [])) ≡ codes "{ i32, i8* }"
  pub nested : printed_type (Array 2 (Struct (Struct [] ∷ Array 0 (Int 1) ∷ []))) ≡ codes "[2 x { {}, [0 x i1] }]"
  pub named : printed_type (Named (name.Text (codes "a"))) ≡ codes "%a"
  pub numbered : printed_type (Ptr (Named (name.Number 7))) ≡ codes "%7*"
  pub quoted : printed_type (Named (name.Text (codes "a b"))) ≡ 37 ∷ 34 ∷ codes "a b" ++ 34 ∷ []

abbrev pub called : List ℕ → Name
called bytes = name.Text bytes

-- the address of a global of that type
abbrev pub address : Ty → List ℕ → Ty × Const
address ty bytes = (Ptr ty, Global (called bytes))

abbrev pub zero : Ty × Const
zero = (Int 32, Number 0)

-- getelementptr inbounds ([4 x i8], [4 x i8]* @s, i32 0, i32 0)
abbrev pub first_byte : Const
first_byte = Element (true, Array 4 (Int 8), address (Array 4 (Int 8)) (codes "s") ∷ zero ∷ zero ∷ [])

-- bitcast (i32* @g to i8*)
abbrev pub as_bytes : Const
as_bytes = Cast (Ptr (Int 8), address (Int 32) (codes "g") ∷ [])

-- a number is signed, and a constant that has constants in it prints each behind its type
pub record ConstantsAreWritten : Type 0 where
  pub number : printed_constant (Int 8) (Number 255) ≡ codes "-1"
  pub null : printed_constant (Ptr (Int 8)) Null ≡ codes "null"
  pub global : printed_constant (Ptr (Int 32)) (Global (called (codes "g"))) ≡ codes "@g"
  pub element : printed_constant (Ptr (Int 8)) first_byte ≡ codes "getelementptr inbounds ([4 x i8], [4 x i8]* @s, i32 0, i32 0)"
  pub cast : printed_constant (Ptr (Int 8)) as_bytes ≡ codes "bitcast (i32* @g to i8*)"
  pub nested : printed_constant (Ptr (Int 8)) (Element (false, Int 8, (Ptr (Int 8), as_bytes) ∷ zero ∷ []))
      ≡ codes "getelementptr (i8, i8* bitcast (i32* @g to i8*), i32 0)"

abbrev pub pointer : Ty → Operand Name
pointer ty = record { ty = Ptr ty; atom = Register (called (codes "p")) }

-- no index, one index, a load with and without an alignment
pub record MemoryIsWritten : Type 0 where
  pub base : printed_expr printed_local (expr.Element (record { inbounds = false; of = Int 8; base = pointer (Int 8); indices = []; to = Ptr (Int 8) }))
      ≡ codes "getelementptr i8, i8* %p"
  pub element : printed_expr printed_local (expr.Element (record {
    inbounds = true;
    of = Int 8;
    base = pointer (Int 8);
    indices = record { ty = Int 32; atom = Constant (Number 1) } ∷ [];
    to = Ptr (Int 8);
  })) ≡ codes "getelementptr inbounds i8, i8* %p, i32 1"
  pub load : printed_expr printed_local (expr.Load (record { of = Int 32; pointer = pointer (Int 32); align = None })) ≡ codes "load i32, i32* %p"
  pub aligned : printed_expr printed_local (expr.Load (record { of = Int 32; pointer = pointer (Int 32); align = Some 4 })) ≡ codes "load i32, i32* %p, align 4"
