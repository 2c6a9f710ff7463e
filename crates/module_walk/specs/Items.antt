-- Words of private functions: items of modules.
use Rattle.std.specs.Prelude.{List, [], ◌∷◌, ◌++◌, length, map}
use Rattle.std.specs.List.{filter_map}
use Rattle.module_derivations.specs.FlatMarks.Flat.{behind, skip}
use Rattle.ir_core.specs.declared.modules.GlobalVar.{GlobalVar}
use Rattle.ir_core.specs.declared.modules.Module.{Module}
use Rattle.ir_types.specs.declared.named.NamedTy.{NamedTy}
use Rattle.ir_types.specs.declared.names.Name.{Name}
use Rattle.module_derivations.specs.Blocks.{block}
use Rattle.module_derivations.specs.Empty.{made, said}
use Rattle.module_derivations.specs.Functions.{head}
use Rattle.module_derivations.specs.Parts.{Part}
use Rattle.module_derivations.specs.Said.{place_of}
use Rattle.module_grammar.specs.declared.constants.GlobalNameText.{GlobalNameText}
use Rattle.module_grammar.specs.declared.functions.DeclaredText.{DeclaredText}
use Rattle.module_grammar.specs.declared.functions.DefinitionText.{DefinitionText}
use Rattle.module_grammar.specs.declared.items.GlobalBodyText.{GlobalBodyText}
use Rattle.module_grammar.specs.declared.items.ItemText.{ItemText}
use Rattle.module_grammar.specs.declared.items.ItemText.TheVariants as item
use Rattle.module_grammar.specs.declared.items.TypeBodyText.{TypeBodyText}
use Rattle.module_grammar.specs.declared.places.Placed.{Placed}
use Rattle.named_modules.specs.Built.{align_of, declaration_of, fields_of_body, function_of, global_of, linkage_held, start_held, type_named}
use Rattle.named_modules.specs.Modules.{declarations_at, is_constant, type_item}
use Rattle.named_modules.specs.Types.{type_of}

-- ---- named types

abbrev pub type_with : Name → TypeBodyText → NamedTy
type_with x w = record { name = x; fields = fields_of_body w }

abbrev pub types_in : List ItemText → List NamedTy
types_in items = map type_named (filter_map type_item items)

-- ---- globals

-- global_name = global_body
abbrev pub global : List Part → GlobalNameText × GlobalBodyText
global s = ((made s).global_name, (made (behind s)).global_body)

abbrev pub global_with : Name → GlobalBodyText → GlobalVar
global_with x w = record {
  name = x;
  linkage = linkage_held w.held;
  constant = is_constant w.word;
  ty = type_of w.ty;
  init = start_held (type_of w.ty) w.held;
  align = align_of w.align;
}

-- ---- modules

-- linkage head attached { block blocks }
abbrev pub definition : List Part → DefinitionText
definition s = record {
  linkage = (made s).linkage;
  head = head (behind s);
  attachment = (made (skip 8 s)).attached;
  at = place_of (said (skip 9 s));
  entry = block (skip 10 s);
  others = (made (skip 14 s)).blocks;
}

-- with what an item is, but for a named type
abbrev pub with_item : (Placed Name → DeclaredText) → Module → ItemText → Module
with_item told m (item.Declaration d) = record m { declarations = m.declarations ++ map (declaration_of told) (declarations_at (length m.functions) d) }
with_item told m (item.Global x b) = record m { globals = m.globals ++ global_of (x, b) ∷ [] }
with_item told m (item.Definition d) = record m { functions = m.functions ++ function_of m.types d ∷ [] }
with_item told m i = m
