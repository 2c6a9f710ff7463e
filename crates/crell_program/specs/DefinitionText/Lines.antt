-- The registers that are defined at the starts of blocks, as they are printed.
use Rattle.std.specs.Prelude.{◌≡◌, ℕ, List, [], ◌∷◌, ◌++◌, codes, Option, None, Some}
use Rattle.std.specs.List.{flat_map}
use Rattle.ir_core.specs.declared.functions.Block.{Block}
use Rattle.ir_core.specs.declared.functions.Function.{Function}
use Rattle.ir_types.specs.declared.names.Name.{Name}
use Rattle.ir_types.specs.declared.names.Sigil.TheVariants.{Local, Global}
use Rattle.ir_printer.specs.ExpressionPrinter.Printed.{printed_name}
use Rattle.definedness.specs.DefinitionLists.Definitions.{AreLists}

-- names of registers, each behind a blank: ` %x %y`
abbrev pub registers_text : List Name → List ℕ
registers_text names = flat_map (λ name. 32 ∷ printed_name Local name) names

-- the registers; or that no path comes to the block
abbrev pub list_text : Option (List Name) → List ℕ
list_text None = codes " unreachable"
list_text (Some names) = registers_text names

-- `@f %b: %x %y`, or `@f %b: unreachable`
abbrev pub start_text : Name → Name → Option (List Name) → List ℕ
start_text function block list = printed_name Global function ++ (32 ∷ printed_name Local block) ++ codes ":" ++ list_text list ++ 10 ∷ []

-- a line for each block
abbrev pub starts_text : Name → List Block → List (Option (List Name)) → List ℕ
starts_text function [] lists = []
starts_text function (b ∷ bs) [] = []
starts_text function (b ∷ bs) (list ∷ lists) = start_text function b.name list ++ starts_text function bs lists

-- The text has a line for each block of the functions, with what is defined at its start, and no other.
--
-- Of `define void @f(i32 %p) { a: %x = add i32 %p, 1  br label %b  b: ret void }` it has the lines `@f %a: %p` and `@f %b: %p %x`.
abbrev pub AreLines : List Function → List ℕ → Type 0
AreLines [] text = text ≡ []
AreLines (f ∷ fs) text =
    (lists : List (Option (List Name))) × (rest : List ℕ) × AreLists f lists × (text ≡ starts_text f.name f.blocks lists ++ rest) × AreLines fs rest

-- functions have one such text
abbrev pub LinesAreOne : Type 0
LinesAreOne = (fs : List Function) (text other : List ℕ) → AreLines fs text → AreLines fs other → text ≡ other

-- Words of private functions: the lines of one more function stand behind a text.
abbrev pub HasLines : Function → List ℕ → List ℕ → Type 0
HasLines f old new = (lists : List (Option (List Name))) × AreLists f lists × (new ≡ old ++ starts_text f.name f.blocks lists)
