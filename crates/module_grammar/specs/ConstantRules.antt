-- The rules of constants, initialisers and values.
use Rattle.std.specs.Prelude.{true, false, [], ◌∷◌}
use Rattle.module_grammar.specs.Right.{rule, BITCAST, BRACE, BRACKET, BYTES, DEBUG, ELEMENT, GLOBAL, LOCAL, NULL, NUMBER, TRUTH, a_const, a_global_name, a_value, all_inits, all_more_consts, all_more_inits, an_any_type, an_inbounds, an_init, an_int, comma, fixed}
use Rattle.module_grammar.specs.Sorts.{vocabulary}
use Rattle.module_grammar.specs.Symbols as symbol
use Rattle.module_grammar.specs.declared.constants.ConstText as const
use Rattle.module_grammar.specs.declared.constants.GlobalNameText.TheVariants as global_name
use Rattle.module_grammar.specs.declared.constants.InitText as init
use Rattle.module_grammar.specs.declared.constants.IntText.TheVariants as integer
use Rattle.module_grammar.specs.declared.constants.Tag.TheVariants.{Old, Ghost}
use Rattle.module_grammar.specs.declared.constants.ValueText.TheVariants as value
use Rattle.predictive.specs.Typed.{Rule}

abbrev pub plain_name : Rule vocabulary
plain_name = rule 42 (GLOBAL ∷ []) (λ name. global_name.Plain name)

abbrev pub debug_name : Rule vocabulary
debug_name = rule 42 (DEBUG ∷ []) (λ name. global_name.Debug name)

abbrev pub number : Rule vocabulary
number = rule 43 (NUMBER ∷ []) (λ n. integer.Number n)

abbrev pub truth : Rule vocabulary
truth = rule 43 (TRUTH ∷ []) (λ b. integer.Truth b)

abbrev pub not_inbounds : Rule vocabulary
not_inbounds = rule 44 [] false

abbrev pub inbounds : Rule vocabulary
inbounds = rule 44 (fixed symbol.inbounds ∷ []) true

abbrev pub int_const : Rule vocabulary
int_const = rule 45 (an_int ∷ []) (λ i. const.Int i)

abbrev pub null_const : Rule vocabulary
null_const = rule 45 (NULL ∷ []) (λ at. const.Null at)

abbrev pub undef_const : Rule vocabulary
undef_const = rule 45 (fixed symbol.undef ∷ []) const.Undef

abbrev pub global_const : Rule vocabulary
global_const = rule 45 (a_global_name ∷ []) (λ g. const.Global g)

-- getelementptr [inbounds] ( T , T CONST more )
abbrev pub element_const : Rule vocabulary
element_const =
    rule
    45
    (ELEMENT ∷ an_inbounds ∷ fixed symbol.open_paren ∷ an_any_type ∷ comma ∷ an_any_type ∷ a_const ∷ all_more_consts ∷ fixed symbol.close_paren ∷ [])
    (λ at inbounds of base_ty base indices. const.Element at inbounds (of, base_ty, base, indices))

-- bitcast ( T CONST to T )
abbrev pub cast_const : Rule vocabulary
cast_const =
    rule
    45
    (BITCAST ∷ fixed symbol.open_paren ∷ an_any_type ∷ a_const ∷ fixed symbol.to ∷ an_any_type ∷ fixed symbol.close_paren ∷ [])
    (λ at from c to. const.Cast at (from, c, to))

abbrev pub more_consts_end : Rule vocabulary
more_consts_end = rule 46 [] []

-- , T CONST
abbrev pub more_consts : Rule vocabulary
more_consts = rule 46 (comma ∷ an_any_type ∷ a_const ∷ all_more_consts ∷ []) (λ t c more. (t, c) ∷ more)

abbrev pub const_init : Rule vocabulary
const_init = rule 47 (a_const ∷ []) (λ c. init.Const c)

abbrev pub zero_init : Rule vocabulary
zero_init = rule 47 (fixed symbol.zeroinitializer ∷ []) init.Zero

-- c STRING
abbrev pub bytes_init : Rule vocabulary
bytes_init = rule 47 (fixed symbol.c ∷ BYTES ∷ []) (λ b. init.Bytes b)

-- [ inits ]
abbrev pub array_init : Rule vocabulary
array_init = rule 47 (BRACKET ∷ all_inits ∷ fixed symbol.close_bracket ∷ []) (λ at parts. init.Array at parts)

-- { inits }
abbrev pub struct_init : Rule vocabulary
struct_init = rule 47 (BRACE ∷ all_inits ∷ fixed symbol.close_brace ∷ []) (λ at parts. init.Struct at parts)

abbrev pub inits_end : Rule vocabulary
inits_end = rule 48 [] []

-- T INIT
abbrev pub inits : Rule vocabulary
inits = rule 48 (an_any_type ∷ an_init ∷ all_more_inits ∷ []) (λ t i more. (t, i) ∷ more)

abbrev pub more_inits_end : Rule vocabulary
more_inits_end = rule 49 [] []

-- , T INIT
abbrev pub more_inits : Rule vocabulary
more_inits = rule 49 (comma ∷ an_any_type ∷ an_init ∷ all_more_inits ∷ []) (λ t i more. (t, i) ∷ more)

abbrev pub const_value : Rule vocabulary
const_value = rule 50 (a_const ∷ []) (λ c. value.Const c)

abbrev pub local : Rule vocabulary
local = rule 50 (LOCAL ∷ []) (λ name. value.Local name)

abbrev pub old_register : Rule vocabulary
old_register = rule 50 (fixed symbol.old ∷ LOCAL ∷ []) (λ name. value.Tagged Old name)

abbrev pub ghost_register : Rule vocabulary
ghost_register = rule 50 (fixed symbol.ghost ∷ LOCAL ∷ []) (λ name. value.Tagged Ghost name)

-- T V
abbrev pub operand : Rule vocabulary
operand = rule 51 (an_any_type ∷ a_value ∷ []) (λ ty v. record { ty = ty; value = v })
