-- A text that is spelled has no fault, by none of the steps.
use Rattle.std.proofs.Common.{◌≡◌, ◌+◌, ℕ, List, [], ◌∷◌, length, map, take, drop, inl, inr, refl, ap, sym, ◌∙◌, subst, arith}
use Rattle.std.proofs.lemmas.Bool.{ltb-true}
use Rattle.std.proofs.lemmas.List.{length-take, take-append-drop}
use Rattle.std.specs.List.{Contains}
use Rattle.ir_core.specs.declared.limits.Limit.{Limit}
use Rattle.ir_core.specs.declared.limits.Limit.TheVariants as limit
use Rattle.ir_core.specs.declared.modules.Module.{Module}
use Rattle.ir_lexer.specs.Cut.{Placed as PlacedToken}
use Rattle.ir_lexer.specs.declared.token.LexFault.{LexFault}
use Rattle.ir_lexer.specs.declared.token.LexFault.TheVariants as lexer
use Rattle.ir_types.specs.declared.names.Name.{Name}
use Rattle.module_grammar.specs.Laws.{WritesOneTree}
use Rattle.module_grammar.specs.Sets.{sets}
use Rattle.module_grammar.specs.Sorts.{Module as ModuleSort}
use Rattle.module_grammar.specs.Symbols.{Symbol, kind_of}
use Rattle.module_grammar.specs.Tokens.{token_grammar}
use Rattle.module_grammar.specs.declared.functions.DeclaredText.{DeclaredText}
use Rattle.module_grammar.specs.declared.items.ModuleText.{ModuleText}
use Rattle.module_grammar.specs.declared.places.Placed.{Placed}
use Rattle.module_grammar.specs.declared.types.CalledText.{CalledText}
use Rattle.module_spelling.specs.Blocks.{large_places}
use Rattle.module_spelling.specs.Context.{StandFor}
use Rattle.module_spelling.specs.Faults.{HasLargeBlock, HasLimit, HasNameFault, IsRead, IsStuck, PassesLimit, faults_in, large_in, module_number}
use Rattle.module_spelling.specs.Opened.{IsWithin}
use Rattle.module_spelling.specs.Spells.{Spells, StatesParams, StatesTypes}
use Rattle.name_claims.specs.declared.claims.Fault.{Fault}
use Rattle.named_modules.specs.Built.{module_of}
use Rattle.named_modules.specs.Faults.{heads_of}
use Rattle.named_modules.specs.Laws.{Is, NamedTreesAreFaultless}
use Rattle.named_modules.specs.Modules.{NamesModule}
use Rattle.predictive.proofs.Faults.{none_in_text}
use Rattle.predictive.specs.Grammar.{Forest, Forms, yield}
use Rattle.predictive.specs.Predictive.{MayEnd}
use Rattle.predictive.specs.declared.symbol.Symbol.TheVariants.{Non}
use Rattle.ir_lexer.specs.declared.fault.TextFault.{TextFault}
use Rattle.ir_lexer.specs.declared.fault.TextFault.TheVariants as fault
use Rattle.derivation_writer.specs.TokenLimits.Laws.{IsWatched, MarksFirst}
use Rattle.module_texts.proofs.Lists.{all_mapped}
use Rattle.module_texts.proofs.Needs.{needs, retold}
use Rattle.module_texts.proofs.Prefixes.{pass_both}
use Rattle.module_texts.proofs.Stood.{stand_for_one}
use Rattle.module_texts.specs.Laws.{IsToldFault}
use Rattle.module_texts.specs.Texts.{HasLexFault, IsNameFault, IsShort, IsTextFault, OfSymbols, own_symbols}

-- ---- the grammar and its limits

pub module_may_end : MayEnd sets module_number
module_may_end = (ltb-true 0 94 refl, refl)

pub watched : (f : Forest) → Forms token_grammar f (Non module_number ∷ []) → IsWatched module_number f
watched f formed = record { formed = formed; other = λ e. absurd (omega (arith, e)) }

pub no_limit :
    MarksFirst → (kinds : List ℕ) (k : ℕ) (l : Limit) (f : Forest) → Forms token_grammar f (Non module_number ∷ []) → yield f ≡ kinds → IsWithin f
    → PassesLimit module_number kinds k l → ⊥
no_limit marks kinds k l f formed yields within (less, (more, h, derived, e, first)) =
    let n : length (take (k + 1) kinds) ≡ k + 1 = let full = length-take (k + 1) kinds in omega (arith, less, full) in
    let passed =
    pass_both marks module_number module_may_end h f (watched h derived) (watched f formed) (take (k + 1) kinds) more (drop (k + 1) kinds) e
    (yields ∙ sym (take-append-drop (k + 1) kinds)) k l (omega (arith, n)) first.0 in
    within passed.right passed.passed passed.right_first.0

pub not_stuck : (kinds : List ℕ) (k : ℕ) (f : Forest) → Forms token_grammar f (Non module_number ∷ []) → yield f ≡ kinds → IsStuck module_number kinds k → ⊥
not_stuck kinds k f formed yields stuck = none_in_text token_grammar (Non module_number ∷ []) kinds k (f, formed, yields) stuck.0

-- ---- names

none_there : {X : Type 0} (xs : List X) (x : X) → xs ≡ [] → Contains xs x → ⊥
none_there [] x e (k, less, at) = omega (arith, less)
none_there (y ∷ ys) x e has = cc

module _ (faultless : NamedTreesAreFaultless) (symbols : List Symbol) (m : Module) where
  abbrev Named : ModuleText → Type 0
  Named tree = NamesModule (StatesTypes symbols) (StatesParams symbols) tree m

  -- a tree that is read, and names a module, has no fault
  read_named : (r : IsRead symbols) → Named r.tree → (m ≡ module_of r.params r.tree) × (faults_in r ≡ [])
  read_named r names =
      let n = needs (StatesTypes symbols) (StatesParams symbols) r.tree m names in
      faultless r.stated r.params r.tree m
      (retold (StatesTypes symbols) (Is r.stated) (StatesParams symbols) (Is r.params) r.tree m n
      (all_mapped (λ (p : Placed Name × CalledText). StatesTypes symbols p.0 p.1) (λ (p : Placed Name × CalledText). Is r.stated p.0 p.1) (λ p s. sym (r.types p.0 p.1 s)) n.calls.pairs n.calls.told)
      (all_mapped (λ (p : Placed Name × DeclaredText). StatesParams symbols p.0 p.1) (λ (p : Placed Name × DeclaredText). Is r.params p.0 p.1) (λ p s. sym (r.declared p.0 p.1 s)) n.declarations.pairs n.declarations.told))

  no_name_fault : (f : Fault) (h : HasNameFault symbols f) → Named h.0.tree → ⊥
  no_name_fault f h names = none_there (faults_in h.0) f (read_named h.0 names).1 h.1.0

  no_large_block : (h : HasLargeBlock symbols) → Named h.0.tree → large_places (heads_of m) h.0.tree ≡ [] → ⊥
  no_large_block h names small =
      let same : large_in h.0 ≡ [] = ap (λ n. large_places (heads_of n) h.0.tree) (sym (read_named h.0 names).0) ∙ small in
      none_there (large_in h.0) h.1.0 same h.1.1

-- ---- all together

module _ (once : WritesOneTree ModuleSort) (faultless : NamedTreesAreFaultless) (marks : MarksFirst) (bytes : List ℕ) (m : Module) (s : Spells bytes m) where
  -- what is so of the symbols of the text is so of those that are spelled
  of_spelled : (P : List PlacedToken → List Symbol → Type 0) → OfSymbols bytes P → P s.tokens s.symbols
  of_spelled P (tokens, symbols, has, is) =
      let both = sym has.0.1 ∙ s.cut in
      let same : tokens ≡ s.tokens = cc in
      let stand = subst (λ tokens. StandFor (own_symbols bytes tokens) symbols) same has.1 in
      let stood : symbols ≡ s.symbols = stand_for_one (own_symbols bytes s.tokens) symbols s.symbols stand s.stand in
      subst (P s.tokens) stood (subst (λ tokens. P tokens symbols) same is)

  one_tree : (r : IsRead s.symbols) → s.tree ≡ r.tree
  one_tree r = once s.tree r.tree s.symbols s.written r.written

  named_at : (r : IsRead s.symbols) → NamesModule (StatesTypes s.symbols) (StatesParams s.symbols) r.tree m
  named_at r = subst (λ tree. NamesModule (StatesTypes s.symbols) (StatesParams s.symbols) tree m) (one_tree r) s.names

  no_lexed : (f : LexFault) → HasLexFault bytes f → ⊥
  no_lexed f has = let both = sym has.1 ∙ s.cut in cc

  no_stuck : (k : ℕ) → IsStuck module_number (map kind_of s.symbols) k → ⊥
  no_stuck k stuck = not_stuck (map kind_of s.symbols) k s.derivation s.formed s.yields stuck

  no_passed : (l : Limit) → HasLimit (own_symbols bytes s.tokens) s.symbols l → ⊥
  no_passed l (inl passes) = no_limit marks (map kind_of s.symbols) passes.0 l s.derivation s.formed s.yields s.within passes.1
  no_passed l (inr deep) = no_stuck deep.1.0 deep.1.1

  no_named : (f : Fault) → IsNameFault bytes f → ⊥
  no_named f is =
      let has = of_spelled (λ tokens symbols. HasNameFault symbols f) is in
      no_name_fault faultless s.symbols m f has (named_at has.0)

  no_block : HasLargeBlock s.symbols → ⊥
  no_block has = no_large_block faultless s.symbols m has (named_at has.0) (ap (large_places (heads_of m)) (sym (one_tree has.0)) ∙ s.small)

  no_fault : (f : TextFault) → IsShort bytes → IsTextFault bytes f → (f ≡ fault.Memory → ⊥) → ⊥
  no_fault (fault.Limit limit.Text) short is some = omega (arith, short, is)
  no_fault (fault.Limit limit.Depth) short is some = no_passed limit.Depth (of_spelled (λ tokens symbols. HasLimit (own_symbols bytes tokens) symbols limit.Depth) is)
  no_fault (fault.Limit limit.Lines) short is some = no_passed limit.Lines (of_spelled (λ tokens symbols. HasLimit (own_symbols bytes tokens) symbols limit.Lines) is)
  no_fault (fault.Limit limit.Block) short is some = no_block (of_spelled (λ tokens symbols. HasLargeBlock symbols) is)
  no_fault (fault.Limit limit.Json) short is some = is
  no_fault (fault.Limit limit.Facts) short is some = is
  no_fault (fault.BadByte place) short is some = no_lexed (lexer.BadByte place) is
  no_fault (fault.BadString place) short is some = no_lexed (lexer.BadString place) is
  no_fault (fault.BadNumber place) short is some = no_lexed (lexer.BadNumber place) is
  no_fault (fault.Expected place) short (tokens, symbols, has, is) some =
      no_stuck is.0 (of_spelled (λ tokens symbols. IsStuck module_number (map kind_of symbols) is.0) (tokens, symbols, has, is.1.0))
  no_fault (fault.LeftOut place size) short (inl (tokens, symbols, has, is)) some =
      no_stuck is.0 (of_spelled (λ tokens symbols. IsStuck module_number (map kind_of symbols) is.0) (tokens, symbols, has, is.2.0))
  no_fault (fault.LeftOut place size) short (inr is) some = no_named _ is.1
  no_fault (fault.Unknown place size) short is some = no_named _ is.1
  no_fault (fault.Twice place size) short is some = no_named _ is.1
  no_fault (fault.WrongNumber place expected) short is some = no_named _ is.1
  no_fault (fault.WrongType place) short is some = no_named _ is.1
  no_fault fault.Memory short is some = some refl

pub exclude :
    WritesOneTree ModuleSort → NamedTreesAreFaultless → MarksFirst → (bytes : List ℕ) (f : TextFault) (m : Module) → IsShort bytes → IsToldFault bytes f → Spells bytes m → ⊥
exclude once faultless marks bytes f m short told s = no_fault once faultless marks bytes m s f short told.0 told.1
