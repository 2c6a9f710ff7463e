-- Trees all of whose types, constants and initialisers are kept by what they name: no count of an `alloca` is dropped, and no declaration.
use Rattle.std.specs.Prelude.{◌≡◌, false, Option, None, Some}
use Rattle.std.specs.List.{AllByRecursion}
use Rattle.module_grammar.specs.declared.flow.BlockText.{BlockText}
use Rattle.module_grammar.specs.declared.functions.DefinitionText.{DefinitionText}
use Rattle.module_grammar.specs.declared.items.ItemText.{ItemText}
use Rattle.module_grammar.specs.declared.items.ItemText.TheVariants as item
use Rattle.module_grammar.specs.declared.items.ModuleText.{ModuleText}
use Rattle.module_grammar.specs.declared.lines.CountText.{CountText}
use Rattle.module_grammar.specs.declared.lines.InstructionText.{InstructionText}
use Rattle.module_grammar.specs.declared.lines.InstructionText.TheVariants as instruction
use Rattle.module_grammar.specs.declared.lines.LineText.{LineText}
use Rattle.named_modules.specs.Functions.{blocks_in, is_dropped_name}
use Rattle.named_modules.specs.Types.{int_of, type_of}

abbrev pub IsCountKept : Option CountText → Type 0
IsCountKept None = Unit {0}
IsCountKept (Some c) = int_of (type_of c.ty) c.number ≡ Some 1 → ⊥

abbrev pub IsTidyInstruction : InstructionText → Type 0
IsTidyInstruction (instruction.Alloca w) = IsCountKept w.count
IsTidyInstruction w = Unit {0}

abbrev pub IsTidyLine : LineText → Type 0
IsTidyLine w = IsTidyInstruction w.attached.instruction

abbrev pub IsTidyBlock : BlockText → Type 0
IsTidyBlock w = AllByRecursion IsTidyLine w.body.lines

abbrev pub IsTidyDefinition : DefinitionText → Type 0
IsTidyDefinition w = AllByRecursion IsTidyBlock (blocks_in w)

abbrev pub IsTidyItem : ItemText → Type 0
IsTidyItem (item.Declaration d) = is_dropped_name d.declared ≡ false
IsTidyItem (item.Definition d) = IsTidyDefinition d
IsTidyItem i = Unit {0}

abbrev pub IsTidy : ModuleText → Type 0
IsTidy w = AllByRecursion IsTidyItem w.items
