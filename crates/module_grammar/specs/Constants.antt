-- How constants, initialisers and values are written (LangRef 3.7, Constants).
use Rattle.std.specs.Prelude.{Bool, true, false, List, [], ◌∷◌, ◌++◌, map}
use Rattle.module_grammar.specs.declared.constants.ConstText.{ConstText, ConstText-F, fold-ConstText}
use Rattle.module_grammar.specs.declared.constants.ConstText.TheOpen as level
use Rattle.module_grammar.specs.declared.constants.GlobalNameText.{GlobalNameText}
use Rattle.module_grammar.specs.declared.constants.GlobalNameText.TheVariants as global
use Rattle.module_grammar.specs.declared.constants.InitText.{InitText, InitText-F, fold-InitText}
use Rattle.module_grammar.specs.declared.constants.InitText.TheOpen as init_level
use Rattle.module_grammar.specs.declared.constants.IntText.{IntText}
use Rattle.module_grammar.specs.declared.constants.IntText.TheVariants as integer
use Rattle.module_grammar.specs.declared.constants.OperandText.{OperandText}
use Rattle.module_grammar.specs.declared.constants.Tag.{Tag}
use Rattle.module_grammar.specs.declared.constants.Tag.TheVariants as tags
use Rattle.module_grammar.specs.declared.constants.ValueText.{ValueText}
use Rattle.module_grammar.specs.declared.constants.ValueText.TheVariants as text
use Rattle.module_grammar.specs.declared.types.TypeText.{TypeText}
use Rattle.module_grammar.specs.Listed.{listed, further}
use Rattle.module_grammar.specs.Symbols.{Symbol, Local, Global, Debug, Numeral, Truth, Bytes, Bracket, Brace, Null, Element, BitCast, undef, to, old, ghost, zeroinitializer, comma, open_paren, close_paren, close_bracket, close_brace}
use Rattle.module_grammar.specs.Symbols as symbol
use Rattle.module_grammar.specs.Types.{ty}

-- NUMBER, true or false: `7`, `true`
abbrev pub int : IntText → Symbol
int (integer.Number number) = Numeral number
int (integer.Truth b) = Truth b

-- GLOBAL: `@f`, `@llvm.dbg.value`
abbrev pub global_name : GlobalNameText → Symbol
global_name (global.Plain name) = Global name
global_name (global.Debug name) = Debug name

-- [inbounds]
abbrev pub inbounds : Bool → List Symbol
inbounds true = symbol.inbounds ∷ []
inbounds false = []

-- T and what is written behind it
abbrev pub typed : TypeText × List Symbol → List Symbol
typed c = ty c.0 ++ c.1

-- Of what the constants in it are written as: INT, null, undef, GLOBAL, getelementptr [inbounds] ( T, T CONST {, T CONST} ) or
-- bitcast ( T CONST to T ).
abbrev pub const_of_parts : ConstText-F (List Symbol) → List Symbol
const_of_parts (level.Int i) = int i ∷ []
const_of_parts (level.Null at) = Null at ∷ []
const_of_parts level.Undef = undef ∷ []
const_of_parts (level.Global name) = global_name name ∷ []
const_of_parts (level.Element at is_inbounds (of, base_ty, base, indices)) =
    Element at ∷ (inbounds is_inbounds ++ (open_paren ∷ (ty of ++ (comma ∷ (ty base_ty ++ (base ++ (further (map typed indices) ++ (close_paren ∷ []))))))))
const_of_parts (level.Cast at (from, constant, target)) =
    BitCast at ∷ open_paren ∷ (ty from ++ (constant ++ (to ∷ (ty target ++ (close_paren ∷ [])))))

-- a constant: `7`, `null`, `getelementptr inbounds ([4 x i8], [4 x i8]* @s, i32 0, i32 0)`, `bitcast (i8* @s to i32*)`
abbrev pub const : ConstText → List Symbol
const = fold-ConstText (List Symbol) const_of_parts

-- T CONST: `i32 0`
abbrev pub typed_const : TypeText × ConstText → List Symbol
typed_const c = ty c.0 ++ const c.1

-- of what the initialisers in it are written as: CONST, zeroinitializer, c STRING, [ {T INIT} ] or { {T INIT} }
abbrev pub init_of_parts : InitText-F (List Symbol) → List Symbol
init_of_parts (init_level.Const c) = const c
init_of_parts init_level.Zero = zeroinitializer ∷ []
init_of_parts (init_level.Bytes bytes) = symbol.c ∷ Bytes bytes ∷ []
init_of_parts (init_level.Array at parts) = Bracket at ∷ (listed (map typed parts) ++ (close_bracket ∷ []))
init_of_parts (init_level.Struct at parts) = Brace at ∷ (listed (map typed parts) ++ (close_brace ∷ []))

-- an initialiser: `7`, `zeroinitializer`, `c"abc"`, `[i8 1, i8 2]`, `{i8 1, i8* null}`
abbrev pub init : InitText → List Symbol
init = fold-InitText (List Symbol) init_of_parts

-- T INIT: `i8 1`
abbrev pub typed_init : TypeText × InitText → List Symbol
typed_init i = ty i.0 ++ init i.1

-- [T INIT {, T INIT}]
abbrev pub inits : List (TypeText × InitText) → List Symbol
inits parts = listed (map typed_init parts)

-- `old`, `ghost`
abbrev pub tag : Tag → Symbol
tag tags.Old = old
tag tags.Ghost = ghost

-- CONST or [old | ghost] LOCAL: `7`, `%x`, `old %x`
abbrev pub value : ValueText → List Symbol
value (text.Const c) = const c
value (text.Local name) = Local name ∷ []
value (text.Tagged t name) = tag t ∷ Local name ∷ []

-- T V: `i8 %x`
abbrev pub operand : OperandText → List Symbol
operand o = ty o.ty ++ value o.value
