-- The rules of heads, declarations and parameters.
use Rattle.std.specs.Prelude.{true, false, [], ◌∷◌, Some, None}
use Rattle.module_grammar.specs.Joined.{declared_from}
use Rattle.module_grammar.specs.Right.{rule, DEBUG, GLOBAL, LINKAGE, LOCAL, a_convention, a_global_name, a_head_end, a_more_declared, a_next_declared, a_param, a_param_name, a_result, a_result_type, a_unnamed_addr, all_declared_params, all_function_attributes, all_more_params, all_param_attributes, all_params, an_any_type, comma, fixed}
use Rattle.module_grammar.specs.Sorts.{vocabulary}
use Rattle.module_grammar.specs.Symbols as symbol
use Rattle.module_grammar.specs.declared.functions.DeclaredNameText.TheVariants as declared_name
use Rattle.module_grammar.specs.declared.functions.LinkageText.TheVariants as linkage
use Rattle.module_grammar.specs.declared.functions.NextDeclaredText.TheVariants as next_declared
use Rattle.predictive.specs.Typed.{Rule}

-- GLOBAL ( params ) end
abbrev pub declared : Rule vocabulary
declared =
    rule
    6
    (GLOBAL ∷ fixed symbol.open_paren ∷ all_declared_params ∷ fixed symbol.close_paren ∷ a_head_end ∷ [])
    (λ name params end. declared_name.Plain name params end)

-- DEBUG ( balanced ) end
abbrev pub declared_debug : Rule vocabulary
declared_debug =
    rule
    6
    (DEBUG ∷ fixed symbol.open_paren ∷ fixed symbol.balanced ∷ fixed symbol.close_paren ∷ a_head_end ∷ [])
    (λ name end. declared_name.Debug name end)

abbrev pub no_declared_params : Rule vocabulary
no_declared_params = rule 7 [] (record { params = []; is_open = false })

abbrev pub declared_params : Rule vocabulary
declared_params = rule 7 (a_next_declared ∷ []) (λ x. declared_from x)

abbrev pub no_more_declared : Rule vocabulary
no_more_declared = rule 8 [] (record { params = []; is_open = false })

-- , next
abbrev pub more_declared : Rule vocabulary
more_declared = rule 8 (comma ∷ a_next_declared ∷ []) (λ x. declared_from x)

abbrev pub declared_open : Rule vocabulary
declared_open = rule 9 (fixed symbol.dots ∷ []) next_declared.Open

abbrev pub declared_param : Rule vocabulary
declared_param = rule 9 (a_param ∷ a_more_declared ∷ []) (λ param more. next_declared.Param param more)

-- [ccc] attributes (void | T)
abbrev pub result : Rule vocabulary
result =
    rule
    10
    (a_convention ∷ all_param_attributes ∷ a_result_type ∷ [])
    (λ is_ccc attributes ty. record { is_ccc = is_ccc; attributes = attributes; ty = ty })

abbrev pub no_convention : Rule vocabulary
no_convention = rule 11 [] false

abbrev pub convention : Rule vocabulary
convention = rule 11 (fixed symbol.ccc ∷ []) true

abbrev pub void_result : Rule vocabulary
void_result = rule 12 (fixed symbol.void ∷ []) None

abbrev pub typed_result : Rule vocabulary
typed_result = rule 12 (an_any_type ∷ []) (λ ty. Some ty)

-- result GLOBAL ( params ) end
abbrev pub head : Rule vocabulary
head =
    rule
    13
    (a_result ∷ a_global_name ∷ fixed symbol.open_paren ∷ all_params ∷ fixed symbol.close_paren ∷ a_head_end ∷ [])
    (λ result name params end. record { result = result; name = name; params = params; end = end })

-- [unnamed_addr] attributes
abbrev pub head_end : Rule vocabulary
head_end =
    rule
    14
    (a_unnamed_addr ∷ all_function_attributes ∷ [])
    (λ unnamed_addr attributes. record { unnamed_addr = unnamed_addr; attributes = attributes })

abbrev pub no_unnamed_addr : Rule vocabulary
no_unnamed_addr = rule 15 [] false

abbrev pub unnamed_addr : Rule vocabulary
unnamed_addr = rule 15 (fixed symbol.unnamed_addr ∷ []) true

abbrev pub no_linkage : Rule vocabulary
no_linkage = rule 16 [] linkage.None

abbrev pub word_linkage : Rule vocabulary
word_linkage = rule 16 (LINKAGE ∷ []) (λ w. linkage.Word w)

abbrev pub external_linkage : Rule vocabulary
external_linkage = rule 16 (fixed symbol.external ∷ []) linkage.External

abbrev pub params_end : Rule vocabulary
params_end = rule 17 [] []

abbrev pub params : Rule vocabulary
params = rule 17 (a_param ∷ all_more_params ∷ []) (λ p ps. p ∷ ps)

abbrev pub more_params_end : Rule vocabulary
more_params_end = rule 18 [] []

-- , param
abbrev pub more_params : Rule vocabulary
more_params = rule 18 (comma ∷ a_param ∷ all_more_params ∷ []) (λ p ps. p ∷ ps)

-- T attributes [LOCAL]
abbrev pub param : Rule vocabulary
param =
    rule
    19
    (an_any_type ∷ all_param_attributes ∷ a_param_name ∷ [])
    (λ ty attributes name. record { ty = ty; attributes = attributes; name = name })

abbrev pub unnamed : Rule vocabulary
unnamed = rule 20 [] None

abbrev pub named : Rule vocabulary
named = rule 20 (LOCAL ∷ []) (λ name. Some name)
