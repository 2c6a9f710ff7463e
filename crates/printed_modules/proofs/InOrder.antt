-- A module that a text spells has its names in the order of the file.
use Rattle.std.proofs.Common.{ℕ, List, [], ◌∷◌}
use Rattle.std.specs.List.{AllByRecursion, AllZip, filter_map}
use Rattle.ir_core.specs.declared.functions.Function.{Function}
use Rattle.ir_core.specs.declared.modules.Module.{Module}
use Rattle.ir_core.specs.Functions.{names_of}
use Rattle.ir_core.specs.Order.{AreInOrder}
use Rattle.module_grammar.specs.declared.functions.DefinitionText.{DefinitionText}
use Rattle.module_spelling.specs.Spells.{Spells, StatesTypes}
use Rattle.named_modules.specs.Functions.{NamesFunction}
use Rattle.named_modules.specs.Lines.{Stated}
use Rattle.named_modules.specs.Modules.{definition_item}
use Rattle.printed_modules.specs.Order.{IsInFileOrder}

functions_in_order :
    (m : Module) (stated : Stated) (ws : List DefinitionText) (fs : List Function) → AllZip (NamesFunction m stated) ws fs
    → AllByRecursion (λ (f : Function). AreInOrder (names_of f)) fs
functions_in_order m stated [] [] zip = tt
functions_in_order m stated [] (f ∷ fs) zip = absurd zip
functions_in_order m stated (w ∷ ws) [] zip = absurd zip
functions_in_order m stated (w ∷ ws) (f ∷ fs) zip = (zip.0.order, functions_in_order m stated ws fs zip.1)

pub spelled_in_order : (bytes : List ℕ) (m : Module) → Spells bytes m → IsInFileOrder m
spelled_in_order bytes m s = record {
  types = s.names.type_order;
  globals = s.names.order;
  functions = functions_in_order m (StatesTypes s.symbols) (filter_map definition_item s.tree.items) m.functions s.names.functions;
}
