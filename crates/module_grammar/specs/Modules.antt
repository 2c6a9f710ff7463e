-- How modules are written (LangRef 3.7, High Level Structure): {item}.
use Rattle.std.specs.Prelude.{List, [], ◌∷◌, ◌++◌, Option, Some, None}
use Rattle.std.specs.List.{flat_map}
use Rattle.module_grammar.specs.declared.items.GlobalBodyText.{GlobalBodyText}
use Rattle.module_grammar.specs.declared.items.HeldText.{HeldText}
use Rattle.module_grammar.specs.declared.items.HeldText.TheVariants as helds
use Rattle.module_grammar.specs.declared.items.ItemText.{ItemText}
use Rattle.module_grammar.specs.declared.items.ItemText.TheVariants as items
use Rattle.module_grammar.specs.declared.items.ModuleText.{ModuleText}
use Rattle.module_grammar.specs.declared.items.TypeBodyText.{TypeBodyText}
use Rattle.module_grammar.specs.declared.items.TypeBodyText.TheVariants as bodies
use Rattle.module_grammar.specs.declared.operators.LinkageWord.{LinkageWord}
use Rattle.module_grammar.specs.Attributes.{distinct, meta, unnamed_addr}
use Rattle.module_grammar.specs.Constants.{global_name, init}
use Rattle.module_grammar.specs.Functions.{declaration, definition}
use Rattle.module_grammar.specs.Lines.{align}
use Rattle.module_grammar.specs.Symbols.{Symbol, Local, Linkage, Holding, Brace, external, property, attributes, opaque, metadata, group, string, balanced, equals, close_brace}
use Rattle.module_grammar.specs.Symbols as symbol
use Rattle.module_grammar.specs.Types.{ty, types}

-- opaque, or a struct: `{i8, i32*}`
abbrev pub type_body : TypeBodyText → List Symbol
type_body bodies.Opaque = symbol.opaque ∷ []
type_body (bodies.Struct at fields) = Brace at ∷ (types fields ++ (close_brace ∷ []))

-- [LINKAGE]
abbrev pub global_linkage : Option LinkageWord → List Symbol
global_linkage None = []
global_linkage (Some word) = Linkage word ∷ []

-- what stands before the rest: external, or [LINKAGE]
abbrev pub held_where : HeldText → List Symbol
held_where helds.External = external ∷ []
held_where (helds.Init linkage i) = global_linkage linkage

-- INIT, but for one that is external
abbrev pub held : HeldText → List Symbol
held helds.External = []
held (helds.Init linkage i) = init i

-- (external | [LINKAGE]) [unnamed_addr] (global | constant) T [INIT] [, align N]: `internal constant [2 x i8] c"a\00", align 1`
abbrev pub global_body : GlobalBodyText → List Symbol
global_body g =
    held_where g.held ++ (unnamed_addr g.unnamed_addr ++ (Holding g.word ∷ (ty g.ty ++ (held g.held ++ align g.align))))

-- target (datalayout | triple) = STRING; attributes #N = { balanced }; !RUN = [distinct] META; declare ..; LOCAL = type ..; GLOBAL = ..;
-- define ..
abbrev pub item : ItemText → List Symbol
item items.Target = symbol.target ∷ property ∷ equals ∷ string ∷ []
item (items.Attributes at) = symbol.attributes ∷ group ∷ equals ∷ Brace at ∷ balanced ∷ close_brace ∷ []
item (items.Metadata is_distinct m) = metadata ∷ equals ∷ (distinct is_distinct ++ meta m)
item (items.Declaration d) = declaration d
item (items.Type name body) = Local name ∷ equals ∷ symbol.type ∷ type_body body
item (items.Global name body) = global_name name ∷ equals ∷ global_body body
item (items.Definition d) = definition d

-- {item}
abbrev pub written : ModuleText → List Symbol
written m = flat_map item m.items
