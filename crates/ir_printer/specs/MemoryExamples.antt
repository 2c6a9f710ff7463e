-- Examples of how lines of memory and calls are printed.
use Rattle.std.specs.Prelude.{◌≡◌, ℕ, Bool, true, false, [], ◌∷◌, ◌++◌, codes, Option, None, Some}
use Rattle.ir_types.specs.declared.names.Name.TheVariants.{Number}
use Rattle.ir_types.specs.declared.ty.Ty.{Ty, Int, Ptr, Void}
use Rattle.ir_core.specs.declared.functions.Extensions.{Extensions}
use Rattle.ir_core.specs.declared.functions.Function.{Function}
use Rattle.ir_core.specs.declared.functions.Instr.{Instr}
use Rattle.ir_core.specs.declared.functions.Instr.TheVariants as line
use Rattle.ir_core.specs.declared.modules.Declaration.{Declaration}
use Rattle.ir_core.specs.declared.modules.Linkage.TheVariants as linkage
use Rattle.ir_core.specs.Examples.{number}
use Rattle.ir_printer.specs.Examples.{named, register, typed}
use Rattle.ir_printer.specs.Printed.{head_text, instr_text}

abbrev pub allocating : Option (Ty × ℕ) → Option ℕ → Instr
allocating count align = line.Alloca (record { name = named (codes "x"); of = Int 8; to = Ptr (Int 8); count = count; align = align })

abbrev pub storing : Option ℕ → Instr
storing align = line.Store (record { value = typed (Int 32) (register (codes "v")); pointer = typed (Ptr (Int 32)) (register (codes "p")); align = align })

abbrev pub unchanged : Extensions
unchanged = record { signed = false; zero = false }

abbrev pub sign_extended : Extensions
sign_extended = record { signed = true; zero = false }

abbrev pub both_ways : Extensions
both_ways = record { signed = true; zero = true }

abbrev pub calling : Instr
calling = line.Call (record {
  name = Some (named (codes "x"));
  result = Int 8;
  result_extensions = both_ways;
  callee = named (codes "f");
  arguments =
      record { operand = typed (Int 8) (register (codes "y")); extensions = sign_extended } ∷ record { operand = typed (Int 32) (number 1); extensions = unchanged } ∷ [];
})

abbrev pub calling_nothing : Instr
calling_nothing = line.Call (record { name = None; result = Void; result_extensions = unchanged; callee = named (codes "f"); arguments = [] })

abbrev pub widened : Extensions
widened = record { signed = false; zero = true }

-- a head of a function of blocks that play no part
abbrev pub extended : Function
extended = record {
  linkage = linkage.Internal;
  result_extensions = sign_extended;
  result = Int 8;
  name = named (codes "f");
  params =
      record { name = named (codes "x"); ty = Int 8; extensions = both_ways } ∷ record { name = Number 0; ty = Int 1; extensions = widened } ∷ record { name = named (codes "y"); ty = Int 8; extensions = unchanged } ∷ [];
  blocks = [];
}

-- declare void @f(i8* signext), and with `...`
abbrev pub declaring : Bool → Declaration
declaring variadic = record {
  result_extensions = unchanged;
  result = Void;
  name = named (codes "f");
  params = record { ty = Ptr (Int 8); extensions = sign_extended } ∷ [];
  variadic = variadic;
  before = 0;
}

-- declare void @f(...)
abbrev pub only_dots : Declaration
only_dots = record { result_extensions = unchanged; result = Void; name = named (codes "f"); params = []; variadic = true; before = 0 }

abbrev pub calling_other : Instr
calling_other = line.Call (record { name = None; result = Void; result_extensions = unchanged; callee = named (codes "g"); arguments = [] })

-- A count and an alignment are printed as they are kept, and a call without a result sets nothing. Where what is called takes further
-- arguments, the call has its type.
pub record LinesArePrinted : Type 0 where
  pub alloca : instr_text [] (allocating None None) ≡ codes "%x = alloca i8"
  pub counted : instr_text [] (allocating (Some (Int 32, 4)) (Some 16)) ≡ codes "%x = alloca i8, i32 4, align 16"
  pub store : instr_text [] (storing None) ≡ codes "store i32 %v, i32* %p"
  pub aligned : instr_text [] (storing (Some 4)) ≡ codes "store i32 %v, i32* %p, align 4"
  pub call : instr_text (declaring false ∷ []) calling ≡ codes "%x = call signext zeroext i8 @f(i8 signext %y, i32 1)"
  pub nothing : instr_text [] calling_nothing ≡ codes "call void @f()"
  pub further : instr_text (declaring false ∷ declaring true ∷ []) calling_nothing ≡ codes "call void (i8*, ...) @f()"
  pub no_params : instr_text (only_dots ∷ declaring true ∷ []) calling_nothing ≡ codes "call void (...) @f()"
  pub other : instr_text (declaring true ∷ []) calling_other ≡ codes "call void @g()"
  pub head : head_text extended ≡ codes "define internal signext i8 @f(i8 signext zeroext %x, i1 zeroext, i8 %y) {" ++ 10 ∷ []
