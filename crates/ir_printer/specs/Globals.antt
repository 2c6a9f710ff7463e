-- How globals are printed (LangRef 3.7, Global Variables, Linkage Types, Simple and Complex Constants).
use Rattle.std.specs.Prelude.{ℕ, Bool, true, false, List, [], ◌∷◌, ◌++◌, codes, map, Option, None, Some}
use Rattle.ir_types.specs.declared.names.Sigil.TheVariants as sigil
use Rattle.ir_types.specs.declared.ty.Ty.{Ty}
use Rattle.ir_core.specs.declared.modules.GlobalVar.{GlobalVar}
use Rattle.ir_core.specs.declared.modules.Init.{Init, fold-Init}
use Rattle.ir_core.specs.declared.modules.Init.TheOpen.{Init-F}
use Rattle.ir_core.specs.declared.modules.Init.TheOpen as init
use Rattle.ir_core.specs.declared.modules.Linkage.{Linkage}
use Rattle.ir_core.specs.declared.modules.Linkage.TheVariants as linkage
use Rattle.ir_core.specs.Words.{linkage_word}
use Rattle.ir_printer.specs.ExpressionPrinter.Printed.{listed, printed_align, printed_constant, printed_name, printed_type, quoted, spaced, struct_text, typed_text}

-- `private `, and nothing for the linkage without a word
abbrev pub linkage_text : Linkage → List ℕ
linkage_text linkage.External = []
linkage_text l = spaced (linkage_word l)

-- ---- what a global holds at the start

-- `[i32 1, i32 2]` and `[]`, of the texts of the elements
abbrev pub array_text : List (List ℕ) → List ℕ
array_text elements = 91 ∷ (listed [] elements ++ 93 ∷ [])

-- ` }` behind the fields of a struct, and `{}` in their place where there are none
abbrev pub struct_end : {A : Type 0} → List A → List ℕ
struct_end [] = codes "{}"
struct_end (field ∷ more) = codes " }"

-- An initialiser at the type that is stated for it, of the texts of those in it: `[2 x i8] [i8 1, i8 2]`, `{ i8, i8* } { i8 1, i8* null }`.
abbrev pub init_text : Init-F (Ty → List ℕ) → Ty → List ℕ
init_text (init.Const c) t = printed_constant t c
init_text init.Zero t = codes "zeroinitializer"
init_text (init.Bytes bytes) t = 99 ∷ quoted bytes
init_text (init.Array elements) t = array_text (map typed_text elements)
init_text (init.Struct fields) t = struct_text (map typed_text fields)

abbrev pub printed_init : Init → Ty → List ℕ
printed_init = fold-Init (Ty → List ℕ) init_text

-- ---- globals

-- `external ` of one that another module defines, and else the word of its linkage, if it has one
abbrev pub global_linkage : Linkage → Option Init → List ℕ
global_linkage linkage.External None = spaced (linkage_word linkage.External)
global_linkage l held = linkage_text l

abbrev pub global_word : Bool → List ℕ
global_word true = codes "constant "
global_word false = codes "global "

-- ` c"abc"`, and nothing of one that another module defines
abbrev pub held_text : Ty → Option Init → List ℕ
held_text t None = []
held_text t (Some i) = 32 ∷ printed_init i t

-- `[4 x i8] c"abc\00", align 1` and the end of the line
abbrev pub contents_text : GlobalVar → List ℕ
contents_text g = printed_type g.ty ++ (held_text g.ty g.init ++ (printed_align g.align ++ 10 ∷ []))

-- `@a = private constant [4 x i8] c"abc\00", align 1` on a line of its own
abbrev pub global_text : GlobalVar → List ℕ
global_text g =
    printed_name sigil.Global g.name ++ (codes " = " ++ (global_linkage g.linkage g.init ++ (global_word g.constant ++ contents_text g)))
