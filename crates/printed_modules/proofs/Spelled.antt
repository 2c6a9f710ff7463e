-- A module that can be written as text and passes no limit is spelled by what is printed of it.
use Rattle.std.proofs.Common.{◌≡◌, ℕ, List, [], map, false, subst}
use Rattle.ir_core.specs.declared.modules.Module.{Module}
use Rattle.ir_core.specs.Depths.{IsShallow}
use Rattle.ir_core.specs.Sizes.{IsSmall}
use Rattle.ir_printer.specs.Printed.{printed_module}
use Rattle.ir_types.specs.declared.names.Name.{Name}
use Rattle.module_grammar.specs.declared.functions.DeclaredText.{DeclaredText}
use Rattle.module_grammar.specs.declared.items.ModuleText.{ModuleText}
use Rattle.module_grammar.specs.declared.places.Placed.{Placed}
use Rattle.module_grammar.specs.declared.types.CalledText.{CalledText}
use Rattle.module_grammar.specs.declared.words.Language.TheVariants.{Ir}
use Rattle.module_grammar.specs.Spelled.{symbol}
use Rattle.module_grammar.specs.Symbols.{Symbol}
use Rattle.module_grammar.proofs.OneTree.{called, declared}
use Rattle.ir_typing.specs.ModuleLimits.Passed.{AreShort}
use Rattle.module_spelling.specs.Context.{StandFor}
use Rattle.module_spelling.specs.Spells.{Spells, StatesParams, StatesTypes}
use Rattle.module_texts.proofs.Looked.{first_told, told_by}
use Rattle.module_texts.proofs.Needs.{needs, retold}
use Rattle.module_texts.proofs.Starts.{tokens_from}
use Rattle.module_texts.proofs.Stating.{params_one, types_one}
use Rattle.ir_lexer.specs.Cut.{Placed as PlacedToken, cut}
use Rattle.std.specs.Prelude.{Ok}
use Rattle.named_modules.specs.Built.{module_of}
use Rattle.named_modules.specs.Laws.{Is}
use Rattle.named_modules.specs.Laws as built
use Rattle.named_modules.specs.Modules.{NamesModule}
use Rattle.named_modules.proofs.OneModule.{named_faultless}
use Rattle.printed_modules.proofs.DeepTrees.{trees_fit}
use Rattle.printed_modules.proofs.FewWanted.{trees_want_little}
use Rattle.printed_modules.proofs.Fit.{FitsModule}
use Rattle.printed_modules.proofs.ModuleTexts.{module_read}
use Rattle.printed_modules.proofs.Stands.{stands}
use Rattle.printed_modules.proofs.TreesWithin.{called_whole, module_within}

no_types : CalledText
no_types = record { types = []; is_open = false }

no_params : DeclaredText
no_params = record { params = []; is_open = false }

-- the module that a tree of tokens of the text names is the one that is built of it
built_of :
    (bytes : List ℕ) (tokens : List PlacedToken) → cut 0 0 bytes ≡ Ok tokens → (symbols : List Symbol) → StandFor (map (symbol Ir bytes) tokens) symbols
    → (tree : ModuleText) (m : Module) → NamesModule (StatesTypes symbols) (StatesParams symbols) tree m → (params : Placed Name → DeclaredText) × (m ≡ module_of params tree)
built_of bytes tokens is_cut symbols stand tree m names =
    let one_call = types_one bytes tokens symbols (tokens_from bytes tokens is_cut) stand called in
    let one_declared = params_one bytes tokens symbols (tokens_from bytes tokens is_cut) stand declared in
    let n = needs (StatesTypes symbols) (StatesParams symbols) tree m names in
    let stated : Placed Name → CalledText = told_by (StatesTypes symbols) one_call n.calls.pairs n.calls.pairs no_types in
    let params : Placed Name → DeclaredText = told_by (StatesParams symbols) one_declared n.declarations.pairs n.declarations.pairs no_params in (
      params,
      (named_faultless stated params tree m
          (retold (StatesTypes symbols) (Is stated) (StatesParams symbols) (Is params) tree m n
          (first_told (StatesTypes symbols) one_call n.calls.pairs n.calls.pairs no_types n.calls.told n.calls.told)
          (first_told (StatesParams symbols) one_declared n.declarations.pairs n.declarations.pairs no_params n.declarations.told n.declarations.told))).0,
    )

pub module_spelled : (m : Module) → FitsModule m → IsShallow m → AreShort m.functions → IsSmall m → Spells (printed_module m) m
module_spelled m fits shallow short small =
    let r = module_read called_whole m fits in
    let symbols : List Symbol = map (symbol Ir (printed_module m)) r.tokens in
    let stand : StandFor symbols symbols = stands symbols r.guarded r.no_addr in
    let is = built_of (printed_module m) r.tokens r.cut symbols stand r.tree m r.names in
    let deep = trees_fit (StatesTypes symbols) (StatesParams symbols) r.tree m r.names r.tidy shallow in
    let within = module_within is.0 r.tree symbols r.written deep (subst built.AreShort is.1 short) in
    record {
      tokens = r.tokens;
      cut = r.cut;
      symbols = symbols;
      stand = stand;
      tree = r.tree;
      written = r.written;
      derivation = within.0;
      formed = within.1;
      yields = within.2;
      within = within.3;
      names = r.names;
      small = trees_want_little (StatesTypes symbols) (StatesParams symbols) r.tree m r.names small;
    }
