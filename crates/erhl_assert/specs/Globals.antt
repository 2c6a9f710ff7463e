-- Whether two globals, or two declarations, are the same, as tests that compute. That of globals is true exactly of equal ones, that of
-- declarations exactly where one says what the other does, which is the contract of `globals_are_compared`.
use Rattle.std.specs.Prelude.{◌≡◌, Bool, true, false, ◌&&◌, nat_eq, List, [], ◌∷◌, Option, None, Some}
use Rattle.ir_types.specs.declared.ty.Ty.{Ty}
use Rattle.ir_types.specs.Same.{same_list, same_name, same_ty}
use Rattle.ir_core.specs.declared.functions.Extensions.{Extensions}
use Rattle.ir_core.specs.declared.modules.Declaration.{Declaration}
use Rattle.ir_core.specs.declared.modules.DeclaredParam.{DeclaredParam}
use Rattle.ir_core.specs.declared.modules.GlobalVar.{GlobalVar}
use Rattle.ir_core.specs.declared.modules.Init.{Init, out-Init, fold-Init}
use Rattle.ir_core.specs.declared.modules.Init.TheOpen.{Init-F}
use Rattle.ir_core.specs.declared.modules.Init.TheOpen as level
use Rattle.ir_core.specs.declared.modules.Linkage.{Linkage}
use Rattle.ir_core.specs.Modules.{linkage_code}
use Rattle.ir_core.specs.Same.{same_bool, same_const, same_align}

-- ---- initialisers

-- parts behind their types are the same where each is the same as the one at its place
abbrev pub same_parts : List (Ty × (Init → Bool)) → List (Ty × Init) → Bool
same_parts [] [] = true
same_parts (test ∷ rest) (p ∷ ps) = same_ty test.0 p.0 && test.1 p.1 && same_parts rest ps
same_parts [] (p ∷ ps) = false
same_parts (test ∷ rest) [] = false

-- One level of an initialiser, with the test of each part in its place, and one level of another.
abbrev pub same_init_level : Init-F (Init → Bool) → Init-F Init → Bool
same_init_level (level.Const c) (level.Const d) = same_const c d
same_init_level level.Zero level.Zero = true
same_init_level (level.Bytes a) (level.Bytes b) = same_list nat_eq a b
same_init_level (level.Array a) (level.Array b) = same_parts a b
same_init_level (level.Struct a) (level.Struct b) = same_parts a b
same_init_level a b = false

-- part by part
abbrev pub same_init : Init → Init → Bool
same_init = fold-Init (Init → Bool) (λ tests i. same_init_level tests (out-Init i))

-- one that is left out is the same as another that is
abbrev pub same_start : Option Init → Option Init → Bool
same_start None None = true
same_start (Some i) (Some j) = same_init i j
same_start None (Some j) = false
same_start (Some i) None = false

-- ---- globals

abbrev pub same_linkage : Linkage → Linkage → Bool
same_linkage a b = nat_eq (linkage_code a) (linkage_code b)

-- all that is kept of a global: its name, its linkage, whether it is constant, its type, its initialiser, and the alignment that is written
abbrev pub same_global : GlobalVar → GlobalVar → Bool
same_global g h =
    same_name g.name h.name && same_linkage g.linkage h.linkage && same_bool g.constant h.constant && same_ty g.ty h.ty
    && same_start g.init h.init && same_align g.align h.align

-- ---- declarations

abbrev pub same_extensions : Extensions → Extensions → Bool
same_extensions a b = same_bool a.signed b.signed && same_bool a.zero b.zero

abbrev pub same_declared_param : DeclaredParam → DeclaredParam → Bool
same_declared_param p q = same_ty p.ty q.ty && same_extensions p.extensions q.extensions

-- all but how many definitions stand before it
abbrev pub same_declaration : Declaration → Declaration → Bool
same_declaration d e =
    same_extensions d.result_extensions e.result_extensions && same_ty d.result e.result && same_name d.name e.name
    && same_list same_declared_param d.params e.params && same_bool d.variadic e.variadic

-- One declaration says what the other does, wherever they stand among the definitions.
pub record IsDeclaredAs (d e : Declaration) : Type 0 where
  pub result_extensions : d.result_extensions ≡ e.result_extensions
  pub result : d.result ≡ e.result
  pub name : d.name ≡ e.name
  pub params : d.params ≡ e.params
  pub variadic : d.variadic ≡ e.variadic

-- they are as many, and each says what the one at its place does
abbrev pub AreDeclaredAlike : List Declaration → List Declaration → Type 0
AreDeclaredAlike [] [] = Unit {0}
AreDeclaredAlike (d ∷ ds) (e ∷ es) = IsDeclaredAs d e × AreDeclaredAlike ds es
AreDeclaredAlike (d ∷ ds) [] = ⊥
AreDeclaredAlike [] (e ∷ es) = ⊥
