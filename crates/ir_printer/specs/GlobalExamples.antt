-- Examples of how globals and declarations are printed, and of where blank lines stand between them.
use Rattle.std.specs.Prelude.{◌≡◌, ℕ, Bool, true, false, List, [], ◌∷◌, ◌++◌, codes, Option, None, Some}
use Rattle.ir_types.specs.declared.named.NamedTy.{NamedTy}
use Rattle.ir_types.specs.declared.ty.Ty.{Ty, Int, Ptr, Array, Struct, Void}
use Rattle.ir_core.specs.declared.functions.Extensions.{Extensions}
use Rattle.ir_core.specs.declared.modules.Declaration.{Declaration}
use Rattle.ir_core.specs.declared.modules.DeclaredParam.{DeclaredParam}
use Rattle.ir_core.specs.declared.modules.GlobalVar.{GlobalVar}
use Rattle.ir_core.specs.declared.modules.Init.{Init}
use Rattle.ir_core.specs.declared.modules.Init.TheVariants as init
use Rattle.ir_core.specs.declared.modules.Linkage.{Linkage}
use Rattle.ir_core.specs.declared.modules.Linkage.TheVariants as linkage
use Rattle.ir_core.specs.declared.modules.Module.{Module}
use Rattle.ir_core.specs.declared.operands.Const.TheVariants as constant
use Rattle.ir_printer.specs.Examples.{lines, named, quote, smallest, smallest_text}
use Rattle.ir_printer.specs.Globals.{global_text}
use Rattle.ir_printer.specs.MemoryExamples.{sign_extended, unchanged}
use Rattle.ir_printer.specs.Printed.{declaration_text, printed_module}

-- ---- globals

abbrev pub global_of : Linkage → Bool → Ty → Option Init → Option ℕ → GlobalVar
global_of l is_constant ty held align = record { name = named (codes "a"); linkage = l; constant = is_constant; ty = ty; init = held; align = align }

-- one that another module defines
abbrev pub outside : GlobalVar
outside = global_of linkage.External false (Int 32) None None

-- that is seen from outside, and holds what is said
abbrev pub holding : Ty → Init → GlobalVar
holding ty held = global_of linkage.External false ty (Some held) None

abbrev pub of_number : ℕ → Init
of_number n = init.Const (constant.Number n)

-- the letter a and a zero
abbrev pub a_string : GlobalVar
a_string = global_of linkage.Private true (Array 2 (Int 8)) (Some (init.Bytes (97 ∷ 0 ∷ []))) (Some 1)

abbrev pub two_numbers : Init
two_numbers = init.Array ((Int 32, of_number 1) ∷ (Int 32, of_number 2) ∷ [])

abbrev pub number_and_null : Init
number_and_null = init.Struct ((Int 32, of_number 1) ∷ (Ptr (Int 8), init.Const constant.Null) ∷ [])

-- ---- declarations

abbrev pub declaring : Extensions → Ty → List ℕ → List DeclaredParam → Bool → ℕ → Declaration
declaring extensions result name params variadic before =
    record { result_extensions = extensions; result = result; name = named name; params = params; variadic = variadic; before = before }

-- a pointer and whatever follows it
abbrev pub variadic : ℕ → Declaration
variadic before = declaring sign_extended (Int 8) (codes "v") (record { ty = Ptr (Int 8); extensions = sign_extended } ∷ []) true before

abbrev pub of_nothing : ℕ → Declaration
of_nothing before = declaring unchanged Void (codes "n") [] false before

-- ---- modules

abbrev pub one_field : NamedTy
one_field = record { name = named (codes "t"); fields = Some (Int 8 ∷ []) }

-- a declaration stands before the definition, and one behind it
abbrev pub of_each : Module
of_each = record { types = one_field ∷ []; globals = outside ∷ outside ∷ []; functions = smallest ∷ []; declarations = of_nothing 0 ∷ variadic 1 ∷ [] }

abbrev pub of_each_text : List ℕ
of_each_text =
    lines (
    codes "%t = type { i8 }"
    ∷ codes ""
    ∷ codes "@a = external global i32"
    ∷ codes "@a = external global i32"
    ∷ codes ""
    ∷ codes "declare void @n()"
    ∷ codes "" ∷ []
    ) ++ (smallest_text ++ lines (codes "" ∷ codes "declare signext i8 @v(i8* signext, ...)" ∷ []))

pub record GlobalsArePrinted : Type 0 where
  pub external : global_text outside ≡ codes "@a = external global i32" ++ 10 ∷ []
  pub string : global_text a_string ≡ codes "@a = private constant [2 x i8] c" ++ quote (97 ∷ 92 ∷ codes "00") ++ codes ", align 1" ++ 10 ∷ []
  pub array : global_text (holding (Array 2 (Int 32)) two_numbers) ≡ codes "@a = global [2 x i32] [i32 1, i32 2]" ++ 10 ∷ []
  pub struct : global_text (holding (Struct (Int 32 ∷ Ptr (Int 8) ∷ [])) number_and_null) ≡ codes "@a = global { i32, i8* } { i32 1, i8* null }" ++ 10 ∷ []
  pub zero : global_text (holding (Array 2 (Int 32)) init.Zero) ≡ codes "@a = global [2 x i32] zeroinitializer" ++ 10 ∷ []
  pub no_elements : global_text (holding (Array 0 (Int 32)) (init.Array [])) ≡ codes "@a = global [0 x i32] []" ++ 10 ∷ []
  pub no_fields : global_text (holding (Struct []) (init.Struct [])) ≡ codes "@a = global {} {}" ++ 10 ∷ []
  pub declared : declaration_text (variadic 0) ≡ codes "declare signext i8 @v(i8* signext, ...)" ++ 10 ∷ []
  pub nothing : declaration_text (of_nothing 0) ≡ codes "declare void @n()" ++ 10 ∷ []
  -- a blank line stands between types, globals, and any two of the others
  pub groups : printed_module of_each ≡ of_each_text
