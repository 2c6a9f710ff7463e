-- The names of a tree around which stands what it doesn't keep.
use Rattle.std.specs.Prelude.{ℕ, Bool, true, List, [], ◌∷◌}
use Rattle.std.specs.List.{filter_map, flat_map}
use Rattle.ir_types.specs.declared.names.Name.{Name}
use Rattle.module_grammar.specs.declared.flow.BlockText.{BlockText}
use Rattle.module_grammar.specs.declared.functions.DeclarationText.{DeclarationText}
use Rattle.module_grammar.specs.declared.functions.DeclaredNameText.{DeclaredNameText}
use Rattle.module_grammar.specs.declared.functions.DeclaredNameText.TheVariants as declared
use Rattle.module_grammar.specs.declared.functions.DefinitionText.{DefinitionText}
use Rattle.module_grammar.specs.declared.items.ModuleText.{ModuleText}
use Rattle.module_grammar.specs.declared.lines.CallBodyText.{CallBodyText}
use Rattle.module_grammar.specs.declared.lines.CallBodyText.TheVariants as call
use Rattle.module_grammar.specs.declared.lines.InstructionText.{InstructionText}
use Rattle.module_grammar.specs.declared.lines.InstructionText.TheVariants as instruction
use Rattle.module_grammar.specs.declared.lines.LineText.{LineText}
use Rattle.module_grammar.specs.declared.lines.VoidCallText.{VoidCallText}
use Rattle.module_grammar.specs.declared.lines.VoidCallText.TheVariants as of_void
use Rattle.module_grammar.specs.declared.places.Placed.{Placed}
use Rattle.named_modules.specs.Functions.{blocks_in}
use Rattle.named_modules.specs.Modules.{declarations_from, definition_item}

-- ---- names that are called behind `void` and stated types, but those of debugging

abbrev pub called_of_void : Bool → VoidCallText → List (Placed Name)
called_of_void true (of_void.Call name end) = name ∷ []
called_of_void is_stated v = []

abbrev pub called_in_body : CallBodyText → List (Placed Name)
called_in_body (call.Void v) = called_of_void v.is_stated v.call
called_in_body b = []

abbrev pub called_in_instruction : InstructionText → List (Placed Name)
called_in_instruction (instruction.Call c) = called_in_body c.body
called_in_instruction i = []

abbrev pub called_in_line : LineText → List (Placed Name)
called_in_line w = called_in_instruction w.attached.instruction

abbrev pub called_in_block : BlockText → List (Placed Name)
called_in_block w = flat_map called_in_line w.body.lines

abbrev pub called_in_definition : DefinitionText → List (Placed Name)
called_in_definition w = flat_map called_in_block (blocks_in w)

-- of all functions in their order: of `call void (i8*, ...) @f(i8* %p)` the `@f`
abbrev pub called_names : ModuleText → List (Placed Name)
called_names w = flat_map called_in_definition (filter_map definition_item w.items)

-- ---- names of debugging that are declared and kept

abbrev pub debug_name : DeclaredNameText → List (Placed Name)
debug_name (declared.Plain name params end) = []
debug_name (declared.Debug name end) = name ∷ []

abbrev pub debug_declared : ℕ × DeclarationText → List (Placed Name)
debug_declared w = debug_name w.1.declared

-- those behind whose parentheses `unnamed_addr` stands, in their order
abbrev pub declared_names : ModuleText → List (Placed Name)
declared_names w = flat_map debug_declared (declarations_from 0 w.items)
