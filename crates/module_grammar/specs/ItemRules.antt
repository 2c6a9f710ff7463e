-- The rules of items.
use Rattle.std.specs.Prelude.{[], ◌∷◌, Some, None}
use Rattle.module_grammar.specs.Right.{rule, BRACE, HOLDING, LINKAGE, LOCAL, NUMBER, a_block, a_declared_name, a_distinct, a_global_body, a_global_linkage, a_global_name, a_head, a_linkage, a_meta, a_module, a_result, a_type_body, a_unnamed_addr, all_blocks, all_types, an_align, an_any_type, an_attached, an_init, an_item, comma, fixed}
use Rattle.module_grammar.specs.Sorts.{vocabulary}
use Rattle.module_grammar.specs.Symbols as symbol
use Rattle.module_grammar.specs.declared.items.HeldText.TheVariants as held
use Rattle.module_grammar.specs.declared.items.ItemText.TheVariants as item
use Rattle.module_grammar.specs.declared.items.TypeBodyText.TheVariants as type_body
use Rattle.predictive.specs.Typed.{Rule}

abbrev pub items_end : Rule vocabulary
items_end = rule 0 [] (record { items = [] })

abbrev pub items : Rule vocabulary
items = rule 0 (an_item ∷ a_module ∷ []) (λ i rest. record { items = i ∷ rest.items })

-- target property = string
abbrev pub target : Rule vocabulary
target = rule 1 (fixed symbol.target ∷ fixed symbol.property ∷ fixed symbol.equals ∷ fixed symbol.string ∷ []) item.Target

-- attributes #N = { balanced }
abbrev pub attributes : Rule vocabulary
attributes =
    rule
    1
    (fixed symbol.attributes ∷ fixed symbol.group ∷ fixed symbol.equals ∷ BRACE ∷ fixed symbol.balanced ∷ fixed symbol.close_brace ∷ [])
    (λ at. item.Attributes at)

-- !RUN = [distinct] META
abbrev pub metadata : Rule vocabulary
metadata =
    rule
    1
    (fixed symbol.metadata ∷ fixed symbol.equals ∷ a_distinct ∷ a_meta ∷ [])
    (λ is_distinct meta. item.Metadata is_distinct meta)

-- declare result declared
abbrev pub declaration : Rule vocabulary
declaration =
    rule
    1
    (fixed symbol.declare ∷ a_result ∷ a_declared_name ∷ [])
    (λ result declared. item.Declaration (record { result = result; declared = declared }))

-- LOCAL = type body
abbrev pub named_type : Rule vocabulary
named_type = rule 1 (LOCAL ∷ fixed symbol.equals ∷ fixed symbol.type ∷ a_type_body ∷ []) (λ name body. item.Type name body)

-- GLOBAL = body
abbrev pub global : Rule vocabulary
global = rule 1 (a_global_name ∷ fixed symbol.equals ∷ a_global_body ∷ []) (λ name body. item.Global name body)

-- define linkage head attachment { block blocks }
abbrev pub definition : Rule vocabulary
definition =
    rule
    1
    (fixed symbol.define ∷ a_linkage ∷ a_head ∷ an_attached ∷ BRACE ∷ a_block ∷ all_blocks ∷ fixed symbol.close_brace ∷ [])
    (λ linkage head attachment at entry others. item.Definition (record { linkage = linkage; head = head; attachment = attachment; at = at; entry = entry; others = others }))

abbrev pub opaque : Rule vocabulary
opaque = rule 2 (fixed symbol.opaque ∷ []) type_body.Opaque

-- { types }
abbrev pub struct_body : Rule vocabulary
struct_body = rule 2 (BRACE ∷ all_types ∷ fixed symbol.close_brace ∷ []) (λ at fields. type_body.Struct at fields)

-- external [unnamed_addr] (global | constant) T align
abbrev pub external_global : Rule vocabulary
external_global =
    rule
    3
    (fixed symbol.external ∷ a_unnamed_addr ∷ HOLDING ∷ an_any_type ∷ an_align ∷ [])
    (λ unnamed_addr word ty align. record { held = held.External; unnamed_addr = unnamed_addr; word = word; ty = ty; align = align })

-- [LINKAGE] [unnamed_addr] (global | constant) T INIT align
abbrev pub held_global : Rule vocabulary
held_global =
    rule
    3
    (a_global_linkage ∷ a_unnamed_addr ∷ HOLDING ∷ an_any_type ∷ an_init ∷ an_align ∷ [])
    (λ linkage unnamed_addr word ty init align. record { held = held.Init linkage init; unnamed_addr = unnamed_addr; word = word; ty = ty; align = align })

abbrev pub no_global_linkage : Rule vocabulary
no_global_linkage = rule 4 [] None

abbrev pub global_linkage : Rule vocabulary
global_linkage = rule 4 (LINKAGE ∷ []) (λ w. Some w)

abbrev pub no_align : Rule vocabulary
no_align = rule 5 [] None

-- , align N
abbrev pub align : Rule vocabulary
align = rule 5 (comma ∷ fixed symbol.align ∷ NUMBER ∷ []) (λ n. Some n)
