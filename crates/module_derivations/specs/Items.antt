-- What is seen ahead of items.
use Rattle.std.specs.Prelude.{ℕ, List, [], ◌∷◌, Option, Some, None}
use Rattle.ir_lexer.specs.declared.token.Number.{Number}
use Rattle.module_grammar.specs.declared.items.GlobalBodyText.{GlobalBodyText}
use Rattle.module_grammar.specs.declared.items.ItemText.{ItemText}
use Rattle.module_grammar.specs.declared.items.ModuleText.{ModuleText}
use Rattle.module_grammar.specs.declared.items.TypeBodyText.{TypeBodyText}
use Rattle.module_grammar.specs.declared.operators.LinkageWord.{LinkageWord}
use Rattle.module_grammar.specs.declared.places.Placed.{Placed}
use Rattle.module_grammar.specs.declared.items.HeldText.TheVariants as held
use Rattle.module_grammar.specs.declared.items.ItemText.TheVariants as item
use Rattle.module_grammar.specs.declared.items.TypeBodyText.TheVariants as type_body
use Rattle.module_derivations.specs.FlatMarks.Flat.{behind, skip}
use Rattle.module_derivations.specs.declared.rule.TheConstants as rule
use Rattle.module_derivations.specs.Parts.{Part, if_rule}
use Rattle.module_derivations.specs.Empty.{made, said, no_global_body}
use Rattle.module_derivations.specs.Said.{name_of, number_of, linkage_of, holding_of, place_of}
use Rattle.module_derivations.specs.Types.{any_type}
use Rattle.module_derivations.specs.Functions.{result, head}
use Rattle.module_derivations.specs.Blocks.{block}

-- ---- what each rule makes of the parts behind its beginning

-- item whole
abbrev pub whole_by : Option ℕ → List Part → ModuleText
whole_by r s = if_rule r rule.ITEMS (record { items = (made s).item ∷ (made (behind s)).whole.items }) (record { items = [] })

-- target property = STRING; attributes #N = { balanced }; !RUN = distinct meta; declare result declared_name; LOCAL = type type_body;
-- global_name = global_body; define linkage head attached { block blocks }
abbrev pub item_by : Option ℕ → List Part → ItemText
item_by r s =
    if_rule r rule.TARGET item.Target
    (if_rule r rule.ATTRIBUTES (item.Attributes (place_of (said s)))
    (if_rule r rule.METADATA (item.Metadata (made s).distinct (made (behind s)).meta)
    (if_rule r rule.DECLARATION (item.Declaration (record { result = result s; declared = (made (skip 3 s)).declared_name }))
    (if_rule r rule.NAMED_TYPE (item.Type (name_of (said s)) (made (behind s)).type_body)
    (if_rule r rule.GLOBAL (item.Global (made s).global_name (made (behind s)).global_body)
    (if_rule r rule.DEFINITION (item.Definition (record { linkage = (made s).linkage; head = head (behind s); attachment = (made (skip 8 s)).attached; at = place_of (said (skip 9 s)); entry = block (skip 10 s); others = (made (skip 14 s)).blocks }))
    item.Target))))))

-- opaque; { types }
abbrev pub type_body_by : Option ℕ → List Part → TypeBodyText
type_body_by r s =
    if_rule r rule.OPAQUE type_body.Opaque
    (if_rule r rule.STRUCT_BODY (type_body.Struct (place_of (said s)) (made (behind s)).types)
    type_body.Opaque)

-- external unnamed_addr HOLDING any_type align; global_linkage unnamed_addr HOLDING any_type init align
abbrev pub global_body_by : Option ℕ → List Part → GlobalBodyText
global_body_by r s =
    if_rule r rule.EXTERNAL_GLOBAL (record { held = held.External; unnamed_addr = (made s).unnamed_addr; word = holding_of (said (behind s)); ty = any_type (skip 2 s); align = (made (skip 4 s)).align })
    (if_rule r rule.HELD_GLOBAL (record { held = held.Init (made s).global_linkage (made (skip 5 s)).init; unnamed_addr = (made (behind s)).unnamed_addr; word = holding_of (said (skip 2 s)); ty = any_type (skip 3 s); align = (made (skip 6 s)).align })
    no_global_body)

-- LINKAGE
abbrev pub global_linkage_by : Option ℕ → List Part → Option LinkageWord
global_linkage_by r s = if_rule r rule.GLOBAL_LINKAGE (Some (linkage_of (said s))) None

-- , align NUMBER
abbrev pub align_by : Option ℕ → List Part → Option (Placed Number)
align_by r s = if_rule r rule.ALIGN (Some (number_of (said s))) None
