-- The text of a module is laid as a tree that names it, whatever is stated of the parameters of functions of debugging.
use Rattle.std.proofs.Common.{◌≡◌, ◌+◌, ◌≤◌, ℕ, Bool, true, false, nat_le, List, [], ◌∷◌, ◌++◌, length, map, refl, sym, ap, subst, append_assoc, arith}
use Rattle.std.specs.Prelude.{Ok}
use Rattle.std.specs.List.{AllByRecursion, AllZip, flat_map}
use Rattle.std.proofs.lemmas.Bool.Decides.{nat_tests}
use Rattle.ir_core.specs.declared.functions.Function.{Function}
use Rattle.ir_core.specs.declared.modules.Declaration.{Declaration}
use Rattle.ir_core.specs.declared.modules.GlobalVar.{GlobalVar}
use Rattle.ir_core.specs.declared.modules.Module.{Module}
use Rattle.ir_core.specs.Ranges.{IsNameInRange, StandBehind}
use Rattle.ir_lexer.specs.Cut.{Placed as PlacedToken, cut}
use Rattle.ir_types.specs.declared.named.NamedTy.{NamedTy}
use Rattle.module_grammar.specs.declared.functions.DeclaredNameText.{DeclaredNameText}
use Rattle.module_grammar.specs.declared.functions.DeclaredNameText.TheVariants as declared
use Rattle.module_grammar.specs.declared.functions.DeclarationText.{DeclarationText}
use Rattle.module_grammar.specs.declared.items.ItemText.{ItemText}
use Rattle.module_grammar.specs.declared.items.ItemText.TheVariants as item
use Rattle.module_grammar.specs.declared.items.ModuleText.{ModuleText}
use Rattle.module_grammar.specs.declared.words.Language.TheVariants.{Ir}
use Rattle.module_grammar.specs.Modules as write
use Rattle.module_grammar.specs.Sorts.{Module as ModuleSort}
use Rattle.module_grammar.specs.Spelled.{symbol}
use Rattle.module_grammar.specs.Texts.{IsWritten}
use Rattle.module_spelling.specs.Spells.{StatesParams, StatesTypes}
use Rattle.named_modules.specs.Functions.{IsDeclared, NamesDeclaration, StatedParams}
use Rattle.named_modules.specs.Lines.{Stated}
use Rattle.named_modules.specs.Modules.{NamesModule, declarations_from}
use Rattle.ir_printer.specs.Globals.{global_text}
use Rattle.ir_printer.specs.Printed.{declaration_text, function_text, function_texts, group, named_type_text, printed_module}
use Rattle.printed_modules.proofs.Declarations.{declaration_laid}
use Rattle.printed_modules.proofs.Calls.{CalledAreWhole}
use Rattle.printed_modules.proofs.Definitions.{definition_laid}
use Rattle.printed_modules.proofs.FileTexts.{before_it, behind_it, blank, joined, module_joined}
use Rattle.printed_modules.proofs.Fit.{FitsDeclaration, FitsFunction, FitsGlobal, FitsModule, FitsNamedType}
use Rattle.printed_modules.proofs.Globals.{global_laid}
use Rattle.printed_modules.proofs.Guarded.{HasNoAddr, IsGuarded}
use Rattle.printed_modules.proofs.Items.{NamesItems, NoParams, no_items, with_declaration, with_definition, with_global, with_type}
use Rattle.printed_modules.proofs.Laid.{Laid}
use Rattle.printed_modules.proofs.Lays.{Lays}
use Rattle.printed_modules.proofs.Lays as lays
use Rattle.printed_modules.proofs.NamedTypes.{type_laid}
use Rattle.printed_modules.proofs.Tidy.{IsTidy}
use Rattle.printed_tokens.proofs.Lists.{all_over}
use Rattle.printed_tokens.proofs.Marks as marks
use Rattle.printed_tokens.proofs.ModuleTypes.{HasNames}
use Rattle.printed_tokens.proofs.Places.{symbols_from}
use Rattle.printed_tokens.proofs.Prints.{IsFixed, empty}
use Rattle.printed_tokens.proofs.ReadTexts.{Any}
use Rattle.printed_tokens.proofs.ReadTexts as reads

-- ---- what can be written has names that can

type_names_in_range : (m : Module) (ts : List NamedTy) → AllByRecursion (FitsNamedType m) ts → AllByRecursion IsNameInRange (map (λ (t : NamedTy). t.name) ts)
type_names_in_range m [] all = tt
type_names_in_range m (t ∷ ts) all = (all.0.name, type_names_in_range m ts all.1)

pub has_names : (m : Module) → FitsModule m → HasNames m
has_names m fits = record {
  types = type_names_in_range m m.types fits.types;
  globals = all_over (FitsGlobal m) (λ (g : GlobalVar). IsNameInRange g.name) m.globals (λ g fits. fits.name) fits.globals;
}

-- a blank line is a gap
gap : (behind : Bool) → IsFixed Ir Any (blank behind) []
gap true = marks.line_end Ir
gap false = empty Ir Any

-- the tree names the module, whatever is stated of parameters, and all of it is kept
abbrev pub NamesTidyModule : Module → Stated → ModuleText → Type 0
NamesTidyModule m stated w = NamesModule stated NoParams w m × IsTidy w

-- ---- items

module _ (whole : CalledAreWhole) (m : Module) (fits : FitsModule m) where
  abbrev Named : ℕ → List NamedTy → List GlobalVar → List Function → List Declaration → Stated → List ItemText → Type 0
  Named count ts gs fs ds stated items = NamesItems m stated count items ts gs fs ds

  -- the text is items, behind so many definitions, that name these
  abbrev AreItems : ℕ → List NamedTy → List GlobalVar → List Function → List Declaration → List ℕ → Type 1
  AreItems count ts gs fs ds text = Lays Any (flat_map write.item) (Named count ts gs fs ds) text

  nothing_named : (count : ℕ) (stated : Stated) (items : List ItemText) → AllZip (λ (i : ItemText) (x : Unit {0}). ⊥) items [] → Named count [] [] [] [] stated items
  nothing_named count stated [] none = no_items m stated count
  nothing_named count stated (i ∷ items) none = absurd none

  nothing : (count : ℕ) → AreItems count [] [] [] [] []
  nothing count =
      lays.read_as (flat_map write.item) (Named count [] [] [] []) (λ items. items) (λ items. refl) (nothing_named count)
      (lays.none Any write.item (λ stated (i : ItemText) (x : Unit {0}). ⊥))

  -- ---- definitions and declarations

  a_definition :
      (behind : Bool) (count : ℕ) (f : Function) (fs : List Function) (ds : List Declaration) (texts : List (List ℕ)) → FitsFunction m f
      → AreItems (count + 1) [] [] fs ds (joined true texts) → AreItems count [] [] (f ∷ fs) ds (joined behind (function_text m.declarations f ∷ texts))
  a_definition behind count f fs ds texts one more =
      lays.read_as (flat_map write.item) (Named count [] [] (f ∷ fs) ds) (λ t. item.Definition t.0 ∷ t.1) (λ t. refl)
      (λ stated t named. with_definition m stated t.0 f named.0.0 named.0.1 named.1)
      (lays.gap_before (gap behind) (lays.both (definition_laid whole m (has_names m fits) f one) more (λ rest end. tt)))

  a_declaration :
      (behind : Bool) (count : ℕ) (d : Declaration) (fs : List Function) (ds : List Declaration) (texts : List (List ℕ)) → FitsDeclaration m d → d.before ≡ count
      → AreItems count [] [] fs ds (joined true texts) → AreItems count [] [] fs (d ∷ ds) (joined behind (declaration_text d ∷ texts))
  a_declaration behind count d fs ds texts one is more =
      lays.read_as (flat_map write.item) (Named count [] [] fs (d ∷ ds)) (λ t. item.Declaration t.0 ∷ t.1) (λ t. refl)
      (λ stated t named. with_declaration m stated t.0 d (subst (λ n. NamesDeclaration m NoParams (n, t.0) d) is named.0.0) named.0.1 named.1)
      (lays.gap_before (gap behind) (lays.both (declaration_laid m (has_names m fits) d one) more (λ rest end. tt)))

  -- behind the last definition
  at_end : (behind : Bool) (count : ℕ) (ds : List Declaration) → AllByRecursion (FitsDeclaration m) ds → StandBehind count count ds
      → AreItems count [] [] [] ds (joined behind (map declaration_text ds))
  at_end behind count [] all stand = nothing count
  at_end behind count (d ∷ ds) all stand =
      let is : d.before ≡ count = omega (arith, stand.0, stand.1) in
      a_declaration behind count d [] ds (map declaration_text ds) all.0 is (at_end true count ds all.1 (subst (λ n. StandBehind n count ds) is stand.2))

  module _ (most count : ℕ) (f : Function) (fs : List Function) (one : FitsFunction m f)
      (further : (behind : Bool) (ds : List Declaration) → AllByRecursion (FitsDeclaration m) ds → StandBehind (count + 1) most ds
      → AreItems (count + 1) [] [] fs ds (joined behind (function_texts m.declarations (count + 1) ds fs)))
    where
      abbrev FromHere : List Declaration → Type 1
      FromHere ds = (behind : Bool) → AllByRecursion (FitsDeclaration m) ds → StandBehind count most ds → AreItems count [] [] (f ∷ fs) ds (joined behind (function_texts m.declarations count ds (f ∷ fs)))

      before_or_behind : (d : Declaration) (ds : List Declaration) (before : Bool) → nat_le d.before count ≡ before → FromHere ds → FromHere (d ∷ ds)
      before_or_behind d ds true is more behind all stand =
          let same : d.before ≡ count = grind (arith, nat_tests, is, stand.0) in
          lays.of_text (joined behind (declaration_text d ∷ function_texts m.declarations count ds (f ∷ fs))) (joined behind (function_texts m.declarations count (d ∷ ds) (f ∷ fs)))
          (ap (joined behind) (sym (before_it m.declarations count d ds f fs is)))
          (a_declaration behind count d (f ∷ fs) ds (function_texts m.declarations count ds (f ∷ fs)) all.0 same (more true all.1 (subst (λ n. StandBehind n most ds) same stand.2)))
      before_or_behind d ds false is more behind all stand =
          let above : count + 1 ≤ d.before = grind (arith, nat_tests, is) in
          lays.of_text (joined behind (function_text m.declarations f ∷ function_texts m.declarations (count + 1) (d ∷ ds) fs)) (joined behind (function_texts m.declarations count (d ∷ ds) (f ∷ fs)))
          (ap (joined behind) (sym (behind_it m.declarations count d ds f fs is)))
          (a_definition behind count f fs (d ∷ ds) (function_texts m.declarations (count + 1) (d ∷ ds) fs) one (further true (d ∷ ds) all (above, stand.1, stand.2)))

      from_here : (ds : List Declaration) → FromHere ds
      from_here [] behind all stand = a_definition behind count f fs [] (function_texts m.declarations (count + 1) [] fs) one (further true [] tt tt)
      from_here (d ∷ ds) behind all stand = before_or_behind d ds (nat_le d.before count) refl (from_here ds) behind all stand

  functions : (most count : ℕ) (fs : List Function) → count + length fs ≡ most → AllByRecursion (FitsFunction m) fs
      → (behind : Bool) (ds : List Declaration) → AllByRecursion (FitsDeclaration m) ds → StandBehind count most ds
      → AreItems count [] [] fs ds (joined behind (function_texts m.declarations count ds fs))
  functions most count [] is all behind ds each stand = at_end behind count ds each (subst (λ n. StandBehind count n ds) (omega (arith, is)) stand)
  functions most count (f ∷ fs) is all behind ds each stand =
      from_here most count f fs all.0 (functions most (count + 1) fs (omega (arith, is)) all.1) ds behind each stand

  -- ---- globals and types

  globals : (fs : List Function) (ds : List Declaration) (gs : List GlobalVar) (text : List ℕ) → AllByRecursion (FitsGlobal m) gs → AreItems 0 [] [] fs ds text
      → AreItems 0 [] gs fs ds (flat_map global_text gs ++ text)
  globals fs ds [] text all more = more
  globals fs ds (g ∷ gs) text all more =
      lays.of_text (global_text g ++ (flat_map global_text gs ++ text)) ((global_text g ++ flat_map global_text gs) ++ text) (sym (append_assoc (global_text g) (flat_map global_text gs) text))
      (lays.read_as (flat_map write.item) (Named 0 [] (g ∷ gs) fs ds) (λ t. item.Global t.0.0 t.0.1 ∷ t.1) (λ t. refl)
      (λ stated t named. with_global m stated t.0.0 t.0.1 g named.0 named.1)
      (lays.both (global_laid m (has_names m fits) g all.0) (globals fs ds gs text all.1 more) (λ rest end. tt)))

  types : (gs : List GlobalVar) (fs : List Function) (ds : List Declaration) (ts : List NamedTy) (text : List ℕ) → AllByRecursion (FitsNamedType m) ts → AreItems 0 [] gs fs ds text
      → AreItems 0 ts gs fs ds (flat_map named_type_text ts ++ text)
  types gs fs ds [] text all more = more
  types gs fs ds (t ∷ ts) text all more =
      lays.of_text (named_type_text t ++ (flat_map named_type_text ts ++ text)) ((named_type_text t ++ flat_map named_type_text ts) ++ text)
      (sym (append_assoc (named_type_text t) (flat_map named_type_text ts) text))
      (lays.read_as (flat_map write.item) (Named 0 (t ∷ ts) gs fs ds) (λ w. item.Type w.0.0 w.0.1 ∷ w.1) (λ w. refl)
      (λ stated w named. with_type m stated w.0.0 w.0.1 t named.0 named.1)
      (lays.both (type_laid m (has_names m fits) t all.0) (types gs fs ds ts text all.1 more) (λ rest end. tt)))

  -- a group before further texts
  global_group : (fs : List Function) (ds : List Declaration) (gs : List GlobalVar) (texts : List (List ℕ)) → AllByRecursion (FitsGlobal m) gs
      → ((behind : Bool) → AreItems 0 [] [] fs ds (joined behind texts)) → (behind : Bool) → AreItems 0 [] gs fs ds (joined behind (group global_text gs ++ texts))
  global_group fs ds [] texts all more behind = more behind
  global_group fs ds (g ∷ gs) texts all more behind = lays.gap_before (gap behind) (globals fs ds (g ∷ gs) (joined true texts) all (more true))

  type_group : (gs : List GlobalVar) (fs : List Function) (ds : List Declaration) (ts : List NamedTy) (texts : List (List ℕ)) → AllByRecursion (FitsNamedType m) ts
      → ((behind : Bool) → AreItems 0 [] gs fs ds (joined behind texts)) → (behind : Bool) → AreItems 0 ts gs fs ds (joined behind (group named_type_text ts ++ texts))
  type_group gs fs ds [] texts all more behind = more behind
  type_group gs fs ds (t ∷ ts) texts all more behind = lays.gap_before (gap behind) (types gs fs ds (t ∷ ts) (joined true texts) all (more true))

  -- ---- the module

  named : (stated : Stated) (items : List ItemText) → Named 0 m.types m.globals m.functions m.declarations stated items → NamesTidyModule m stated (record { items = items })
  named stated items is = (
    record { types = is.types; globals = is.globals; functions = is.functions; declarations = is.declarations; type_order = fits.type_order; order = fits.order },
    is.tidy,
  )

  pub module_laid : Lays Any write.written (NamesTidyModule m) (printed_module m)
  module_laid =
      let texts = function_texts m.declarations 0 m.declarations m.functions in
      lays.of_text (joined false (group named_type_text m.types ++ (group global_text m.globals ++ texts))) (printed_module m) (sym (module_joined m))
      (lays.read_as write.written (NamesTidyModule m) (λ items. record { items = items }) (λ items. refl) named
      (type_group m.globals m.functions m.declarations m.types (group global_text m.globals ++ texts) fits.types
      (global_group m.functions m.declarations m.globals texts fits.globals
      (λ behind. functions (length m.functions) 0 m.functions (omega arith) fits.functions behind m.declarations fits.declarations fits.behind)) false))

-- ---- whatever is stated of parameters

declared_any : (m : Module) (params : StatedParams) (w : DeclaredNameText) (d : Declaration) → IsDeclared m NoParams w d → IsDeclared m params w d
declared_any m params (declared.Plain name inside end) d is = is
declared_any m params (declared.Debug name end) d is = absurd is.1

declaration_any : (m : Module) (params : StatedParams) (w : ℕ × DeclarationText) (d : Declaration) → NamesDeclaration m NoParams w d → NamesDeclaration m params w d
declaration_any m params w d is =
    record { before = is.before; extensions = is.extensions; result = is.result; name = is.name; params = declared_any m params w.1.declared d is.params }

declarations_any :
    (m : Module) (params : StatedParams) (ws : List (ℕ × DeclarationText)) (ds : List Declaration) → AllZip (NamesDeclaration m NoParams) ws ds → AllZip (NamesDeclaration m params) ws ds
declarations_any m params [] [] all = tt
declarations_any m params [] (d ∷ ds) all = absurd all
declarations_any m params (w ∷ ws) [] all = absurd all
declarations_any m params (w ∷ ws) (d ∷ ds) all = (declaration_any m params w d all.0, declarations_any m params ws ds all.1)

pub any_params : (m : Module) (stated : Stated) (params : StatedParams) (w : ModuleText) → NamesModule stated NoParams w m → NamesModule stated params w m
any_params m stated params w is = record {
  types = is.types;
  globals = is.globals;
  functions = is.functions;
  declarations = declarations_any m params (declarations_from 0 w.items) m.declarations is.declarations;
  type_order = is.type_order;
  order = is.order;
}

-- ---- the whole text

-- The text is cut into tokens, whose symbols are written of a tree that names the module; all of the tree is kept, and the symbols stand for
-- themselves.
pub record ReadsModule (m : Module) : Type 0 where
  pub tokens : List PlacedToken
  pub cut : cut 0 0 (printed_module m) ≡ Ok tokens
  pub tree : ModuleText
  pub written : IsWritten ModuleSort tree (map (symbol Ir (printed_module m)) tokens)
  pub names : NamesModule (StatesTypes (map (symbol Ir (printed_module m)) tokens)) (StatesParams (map (symbol Ir (printed_module m)) tokens)) tree m
  pub tidy : IsTidy tree
  pub guarded : IsGuarded (map (symbol Ir (printed_module m)) tokens)
  pub no_addr : HasNoAddr (map (symbol Ir (printed_module m)) tokens)

of_laid : (m : Module) (tokens : List PlacedToken) → cut 0 0 (printed_module m) ≡ Ok tokens → Laid write.written (NamesTidyModule m) (map (symbol Ir (printed_module m)) tokens) → ReadsModule m
of_laid m tokens is laid =
    let symbols = map (symbol Ir (printed_module m)) tokens in
    let named = laid.names (StatesTypes symbols) (λ x c states. states) in
    record {
      tokens = tokens;
      cut = is;
      tree = laid.tree;
      written = laid.are;
      names = any_params m (StatesTypes symbols) (StatesParams symbols) laid.tree named.0;
      tidy = named.1;
      guarded = laid.sound.guarded;
      no_addr = laid.sound.no_addr;
    }

pub module_read : CalledAreWhole → (m : Module) → FitsModule m → ReadsModule m
module_read whole m fits =
    let p = module_laid whole m fits in
    let (tokens, is, at) = symbols_from Ir (printed_module m) p.tokens (reads.whole Any (printed_module m) p.tokens tt p.reads) in
    of_laid m tokens is (p.is (map (symbol Ir (printed_module m)) tokens) at)
