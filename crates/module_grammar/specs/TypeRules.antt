-- The rules of types.
use Rattle.std.specs.Prelude.{false, [], ◌∷◌, Some, None}
use Rattle.module_grammar.specs.Joined.{called_from, pointers_to}
use Rattle.module_grammar.specs.Right.{rule, BRACE, BRACKET, LOCAL, NUMBER, STAR, WIDTH, a_base_type, a_called, a_more_called, a_next_called, all_more_types, all_stars, all_types, an_any_type, comma, fixed}
use Rattle.module_grammar.specs.Sorts.{vocabulary}
use Rattle.module_grammar.specs.Symbols as symbol
use Rattle.module_grammar.specs.declared.types.NextCalledText.TheVariants as next_called
use Rattle.module_grammar.specs.declared.types.TypeText as type_text
use Rattle.predictive.specs.Typed.{Rule}

-- T {*}
abbrev pub pointers : Rule vocabulary
pointers = rule 33 (a_base_type ∷ all_stars ∷ []) (λ t stars. pointers_to t stars)

abbrev pub int_type : Rule vocabulary
int_type = rule 34 (WIDTH ∷ []) (λ w. type_text.Int w)

abbrev pub named_base : Rule vocabulary
named_base = rule 34 (LOCAL ∷ []) (λ name. type_text.Named name)

-- [ N x T ]
abbrev pub array_type : Rule vocabulary
array_type =
    rule
    34
    (BRACKET ∷ NUMBER ∷ fixed symbol.times ∷ an_any_type ∷ fixed symbol.close_bracket ∷ [])
    (λ at count element. type_text.Array at (count, element))

-- { types }
abbrev pub struct_type : Rule vocabulary
struct_type = rule 34 (BRACE ∷ all_types ∷ fixed symbol.close_brace ∷ []) (λ at fields. type_text.Struct at fields)

abbrev pub stars_end : Rule vocabulary
stars_end = rule 35 [] []

-- *
abbrev pub stars : Rule vocabulary
stars = rule 35 (STAR ∷ all_stars ∷ []) (λ at more. at ∷ more)

abbrev pub types_end : Rule vocabulary
types_end = rule 36 [] []

abbrev pub types : Rule vocabulary
types = rule 36 (an_any_type ∷ all_more_types ∷ []) (λ t ts. t ∷ ts)

abbrev pub more_types_end : Rule vocabulary
more_types_end = rule 37 [] []

-- , T
abbrev pub more_types : Rule vocabulary
more_types = rule 37 (comma ∷ an_any_type ∷ all_more_types ∷ []) (λ t ts. t ∷ ts)

abbrev pub not_called : Rule vocabulary
not_called = rule 38 [] (record { types = []; is_open = false })

abbrev pub called : Rule vocabulary
called = rule 38 (a_next_called ∷ []) (λ x. called_from x)

abbrev pub no_more_called : Rule vocabulary
no_more_called = rule 39 [] (record { types = []; is_open = false })

-- , next
abbrev pub more_called : Rule vocabulary
more_called = rule 39 (comma ∷ a_next_called ∷ []) (λ x. called_from x)

abbrev pub called_open : Rule vocabulary
called_open = rule 40 (fixed symbol.dots ∷ []) next_called.Open

abbrev pub called_type : Rule vocabulary
called_type = rule 40 (an_any_type ∷ a_more_called ∷ []) (λ ty more. next_called.Type ty more)

abbrev pub no_function_type : Rule vocabulary
no_function_type = rule 41 [] None

-- ( types )
abbrev pub function_type : Rule vocabulary
function_type = rule 41 (fixed symbol.open_paren ∷ a_called ∷ fixed symbol.close_paren ∷ []) (λ c. Some c)
