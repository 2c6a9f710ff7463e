-- How types are written (LangRef 3.7, Type System).
use Rattle.std.specs.Prelude.{Bool, true, false, List, [], ◌∷◌, ◌++◌, map, Option, Some, None}
use Rattle.module_grammar.specs.declared.types.CalledText.{CalledText}
use Rattle.module_grammar.specs.declared.types.NextCalledText.{NextCalledText}
use Rattle.module_grammar.specs.declared.types.NextCalledText.TheVariants as next
use Rattle.module_grammar.specs.declared.types.TypeText.{TypeText, TypeText-F, fold-TypeText}
use Rattle.module_grammar.specs.declared.types.TypeText.TheOpen as level
use Rattle.module_grammar.specs.Symbols.{Symbol, Local, Numeral, Width, Star, Bracket, Brace, void, times, dots, open_paren, close_paren, close_bracket, close_brace}
use Rattle.module_grammar.specs.Listed.{listed, further}

-- of what its parts are written as: iN, a type's name, T *, [ N x T ], { T, .. }
abbrev pub type_of_parts : TypeText-F (List Symbol) → List Symbol
type_of_parts (level.Int width) = Width width ∷ []
type_of_parts (level.Named name) = Local name ∷ []
type_of_parts (level.Ptr at target) = target ++ (Star at ∷ [])
type_of_parts (level.Array at (count, element)) = Bracket at ∷ Numeral count ∷ times ∷ (element ++ (close_bracket ∷ []))
type_of_parts (level.Struct at fields) = Brace at ∷ (listed fields ++ (close_brace ∷ []))

-- a type: `i8`, `%pair`, `i8*`, `[4 x i8]`, `{i8, i32*}`
abbrev pub ty : TypeText → List Symbol
ty = fold-TypeText (List Symbol) type_of_parts

-- [T {, T}]: `i8, i32*`
abbrev pub types : List TypeText → List Symbol
types ts = listed (map ty ts)

-- void, or T
abbrev pub result : Option TypeText → List Symbol
result None = void ∷ []
result (Some t) = ty t

-- `...`, where further arguments may follow
abbrev pub open_end : Bool → List (List Symbol)
open_end true = (dots ∷ []) ∷ []
open_end false = []

-- [T {, T}], the last of which may be `...`: `i8*, ...`
abbrev pub called : CalledText → List Symbol
called c = listed (map ty c.types ++ open_end c.is_open)

-- the same where a comma stands before each
abbrev pub more_called : CalledText → List Symbol
more_called c = further (map ty c.types ++ open_end c.is_open)

-- the same from behind a comma on
abbrev pub next_called : NextCalledText → List Symbol
next_called next.Open = dots ∷ []
next_called (next.Type t more) = ty t ++ more_called more

-- [( types )], the type of the function that is called: `(i8*, ...)`
abbrev pub function_type : Option CalledText → List Symbol
function_type None = []
function_type (Some c) = open_paren ∷ (called c ++ (close_paren ∷ []))
