-- A text spells one module.
use Rattle.std.proofs.Common.{◌≡◌, ℕ, false, List, [], map, Ok, sym, ◌∙◌, subst}
use Rattle.ir_core.specs.declared.modules.Module.{Module}
use Rattle.ir_lexer.specs.Cut.{Placed as PlacedToken, cut}
use Rattle.ir_types.specs.declared.names.Name.{Name}
use Rattle.module_grammar.specs.Laws.{WritesOneTree}
use Rattle.module_grammar.specs.Sorts.{Called, DeclaredParams, Module as ModuleSort}
use Rattle.module_grammar.specs.Spelled.{symbol}
use Rattle.module_grammar.specs.Symbols.{Symbol}
use Rattle.module_grammar.specs.Texts.{IsWritten}
use Rattle.module_grammar.specs.declared.functions.DeclaredText.{DeclaredText}
use Rattle.module_grammar.specs.declared.items.ModuleText.{ModuleText}
use Rattle.module_grammar.specs.declared.places.Placed.{Placed}
use Rattle.module_grammar.specs.declared.types.CalledText.{CalledText}
use Rattle.module_grammar.specs.declared.words.Language.TheVariants.{Ir}
use Rattle.module_spelling.specs.Context.{StandFor}
use Rattle.module_spelling.specs.Spells.{Spells, StatesParams, StatesTypes}
use Rattle.named_modules.specs.Built.{module_of}
use Rattle.named_modules.specs.Laws.{Is, NamedTreesAreFaultless}
use Rattle.named_modules.specs.Modules.{NamesModule}
use Rattle.module_texts.proofs.Looked.{first_told, second_told, told_by}
use Rattle.module_texts.proofs.Needs.{needs, retold}
use Rattle.module_texts.proofs.Starts.{tokens_from}
use Rattle.module_texts.proofs.Stating.{params_one, types_one}
use Rattle.module_texts.proofs.Stood.{stand_for_one}

no_types : CalledText
no_types = record { types = []; is_open = false }

no_params : DeclaredText
no_params = record { params = []; is_open = false }

module _ (called_once : WritesOneTree Called) (declared_once : WritesOneTree DeclaredParams) (faultless : NamedTreesAreFaultless) where
  module _ (bytes : List ℕ) (tokens : List PlacedToken) (is_cut : cut 0 0 bytes ≡ Ok tokens) (symbols : List Symbol) (stand : StandFor (map (symbol Ir bytes) tokens) symbols) where
    one_call : (x y : Placed Name) (c d : CalledText) → StatesTypes symbols x c → StatesTypes symbols y d → x.start ≡ y.start → c ≡ d
    one_call = types_one bytes tokens symbols (tokens_from bytes tokens is_cut) stand called_once

    one_declared : (x y : Placed Name) (c d : DeclaredText) → StatesParams symbols x c → StatesParams symbols y d → x.start ≡ y.start → c ≡ d
    one_declared = params_one bytes tokens symbols (tokens_from bytes tokens is_cut) stand declared_once

    -- a tree of tokens names one module, by what stands around its names
    pub named_one : (tree : ModuleText) (a b : Module) → NamesModule (StatesTypes symbols) (StatesParams symbols) tree a → NamesModule (StatesTypes symbols) (StatesParams symbols) tree b → a ≡ b
    named_one tree a b names other =
        let n = needs (StatesTypes symbols) (StatesParams symbols) tree a names in
        let o = needs (StatesTypes symbols) (StatesParams symbols) tree b other in
        let stated : Placed Name → CalledText = told_by (StatesTypes symbols) one_call n.calls.pairs o.calls.pairs no_types in
        let params : Placed Name → DeclaredText = told_by (StatesParams symbols) one_declared n.declarations.pairs o.declarations.pairs no_params in
        let first : a ≡ module_of params tree =
        (faultless stated params tree a
        (retold (StatesTypes symbols) (Is stated) (StatesParams symbols) (Is params) tree a n
        (first_told (StatesTypes symbols) one_call n.calls.pairs o.calls.pairs no_types n.calls.told o.calls.told)
        (first_told (StatesParams symbols) one_declared n.declarations.pairs o.declarations.pairs no_params n.declarations.told o.declarations.told))).0 in
        let second : b ≡ module_of params tree =
        (faultless stated params tree b
        (retold (StatesTypes symbols) (Is stated) (StatesParams symbols) (Is params) tree b o
        (second_told (StatesTypes symbols) one_call n.calls.pairs o.calls.pairs no_types n.calls.told o.calls.told)
        (second_told (StatesParams symbols) one_declared n.declarations.pairs o.declarations.pairs no_params n.declarations.told o.declarations.told))).0 in
        first ∙ sym second

  of_same : WritesOneTree ModuleSort → (bytes : List ℕ) (a b : Module) (s : Spells bytes a) (t : Spells bytes b) → s.tokens ≡ t.tokens → a ≡ b
  of_same once bytes a b s t same =
      let stand : StandFor (map (symbol Ir bytes) s.tokens) t.symbols = subst (λ tokens. StandFor (map (symbol Ir bytes) tokens) t.symbols) (sym same) t.stand in
      let symbols : t.symbols ≡ s.symbols = stand_for_one (map (symbol Ir bytes) s.tokens) t.symbols s.symbols stand s.stand in
      let tree : t.tree ≡ s.tree = once t.tree s.tree s.symbols (subst (IsWritten ModuleSort t.tree) symbols t.written) s.written in
      let names : NamesModule (StatesTypes s.symbols) (StatesParams s.symbols) t.tree b = subst (λ symbols. NamesModule (StatesTypes symbols) (StatesParams symbols) t.tree b) symbols t.names in
      named_one bytes s.tokens s.cut s.symbols s.stand s.tree a b s.names (subst (λ tree. NamesModule (StatesTypes s.symbols) (StatesParams s.symbols) tree b) tree names)

  pub spell_one : WritesOneTree ModuleSort → (bytes : List ℕ) (a b : Module) → Spells bytes a → Spells bytes b → a ≡ b
  spell_one once bytes a b s t =
      let both = sym s.cut ∙ t.cut in
      let same : s.tokens ≡ t.tokens = cc in
      of_same once bytes a b s t same
