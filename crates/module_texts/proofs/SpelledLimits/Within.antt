-- A module that a text spells passes no limit.
use Rattle.std.proofs.Common.{List, [], ◌∷◌, map, refl}
use Rattle.std.specs.List.{AllZip, filter_map}
use Rattle.std.proofs.lemmas.Bool.{ltb-true}
use Rattle.ir_core.specs.declared.functions.Function.{Function}
use Rattle.ir_core.specs.declared.modules.Module.{Module}
use Rattle.ir_core.specs.Limits.{depth_limit}
use Rattle.module_grammar.specs.declared.functions.DefinitionText.{DefinitionText}
use Rattle.module_grammar.specs.Spelled.{symbol}
use Rattle.module_grammar.specs.declared.words.Language.TheVariants.{Ir}
use Rattle.module_grammar.proofs.ModulesMade.{module_text}
use Rattle.ir_typing.specs.ModuleLimits.Passed.{AreShort}
use Rattle.module_spelling.specs.Spells.{StatesParams, StatesTypes}
use Rattle.named_modules.specs.Functions.{NamesFunction}
use Rattle.named_modules.specs.Lines.{Stated}
use Rattle.named_modules.specs.Modules.{definition_item}
use Rattle.module_texts.specs.SpelledLimits.Laws.{ModulesAreWithin}
use Rattle.module_texts.proofs.SpelledLimits.Declared.{depths_within, params_fit}
use Rattle.module_texts.proofs.SpelledLimits.ShallowModules.{modules_shallow}
use Rattle.module_texts.proofs.SpelledLimits.ShallowTrees.{written_fits}
use Rattle.module_texts.proofs.SpelledLimits.SmallModules.{modules_small}

-- a function that is named is within the limit on lines
functions_short : (m : Module) (stated : Stated) (ws : List DefinitionText) (fs : List Function) → AllZip (NamesFunction m stated) ws fs → AreShort fs
functions_short m stated [] [] zip = tt
functions_short m stated [] (f ∷ fs) zip = absurd zip
functions_short m stated (w ∷ ws) [] zip = absurd zip
functions_short m stated (w ∷ ws) (f ∷ fs) zip = (zip.0.few, functions_short m stated ws fs zip.1)

pub modules_are_within : ModulesAreWithin
modules_are_within bytes m s = (
  modules_shallow (StatesTypes s.symbols) (StatesParams s.symbols) s.tree m s.names (params_fit (map (symbol Ir bytes) s.tokens) s.symbols s.stand)
      (written_fits 0 (ltb-true 0 92 refl) (ltb-true 0 94 refl, refl) s.tree (module_text s.tree) s.symbols s.written s.derivation s.formed s.yields 0 depth_limit
      (depths_within s.derivation s.within)),
  functions_short m (StatesTypes s.symbols) (filter_map definition_item s.tree.items) m.functions s.names.functions,
  modules_small (StatesTypes s.symbols) (StatesParams s.symbols) s.tree m s.names s.small,
)
