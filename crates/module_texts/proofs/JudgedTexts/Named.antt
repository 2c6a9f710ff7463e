-- A tree of a text names a module, which the text spells, or something is at fault in it.
use Rattle.std.proofs.Common.{◌≡◌, ◌≤◌, ◌<◌, ℕ, Bool, true, false, nat_lt, List, [], ◌∷◌, ◌⊎◌, inl, inr, refl, sym, subst, arith}
use Rattle.std.proofs.lemmas.Bool.{ltb-false, ltb-true}
use Rattle.std.specs.List.{Contains}
use Rattle.ir_core.specs.declared.modules.Module.{Module}
use Rattle.ir_lexer.specs.Cut.{Placed as PlacedToken}
use Rattle.module_grammar.specs.Laws.{WritesOneTree}
use Rattle.module_grammar.specs.Sorts.{Called, DeclaredParams}
use Rattle.module_grammar.specs.Symbols.{Symbol}
use Rattle.module_spelling.specs.Faults.{HasLargeBlock, HasNameFault, IsFirstOf, IsRead, faults_in, large_in}
use Rattle.module_spelling.specs.Spells.{Spells, StatesParams, StatesTypes}
use Rattle.module_texts.proofs.Starts.{tokens_from}
use Rattle.module_texts.specs.Texts.{HasSymbols}
use Rattle.name_claims.specs.declared.claims.Fault.{Fault}
use Rattle.named_modules.specs.Built.{module_of}
use Rattle.named_modules.specs.Laws.{FaultlessTreesNameWhatIsBuilt}
use Rattle.named_modules.specs.Modules.{NamesModule}
use Rattle.derivation_writer.specs.TokenLimits.Laws.{MarksFirst}
use Rattle.module_spelling.specs.TokenLaws.{CalledNamesStand, DeclaredNamesStand, NamesRestOnTheseAlone, WithinTreesAreShort}
use Rattle.module_texts.proofs.JudgedTexts.Around.{params, params_are, params_stand, stated, types_are, types_stand}
use Rattle.module_texts.proofs.JudgedTexts.Least.{first_fault, first_place, not_behind}
use Rattle.module_texts.proofs.JudgedTexts.Limits.{Tree}

-- the laws that are called
pub record TextLaws : Type 0 where
  pub called_once : WritesOneTree Called
  pub declared_once : WritesOneTree DeclaredParams
  pub marks : MarksFirst
  pub named : FaultlessTreesNameWhatIsBuilt
  pub short : WithinTreesAreShort
  pub called : CalledNamesStand
  pub declared : DeclaredNamesStand
  pub rest : NamesRestOnTheseAlone

none_in : {X : Type 0} (xs : List X) (x : X) → xs ≡ [] → Contains xs x → ⊥
none_in [] x e there = absurd (omega (arith, there.1))
none_in (y ∷ ys) x e there = cc

module _ (laws : TextLaws) (bytes : List ℕ) (tokens : List PlacedToken) (symbols : List Symbol) (has : HasSymbols bytes tokens symbols) (t : Tree symbols) where
  -- ---- what is at fault

  reading : IsRead symbols
  reading = record {
    tree = t.tree;
    written = t.written;
    derivation = t.derivation;
    formed = t.formed;
    yields = t.yields;
    within = t.within;
    stated = stated symbols;
    params = params symbols;
    types = types_are bytes tokens symbols (tokens_from bytes tokens has.0.1) has.1 laws.called_once;
    declared = params_are bytes tokens symbols (tokens_from bytes tokens has.0.1) has.1 laws.declared_once;
  }

  abbrev faults : List Fault
  faults = faults_in reading

  abbrev places : List ℕ
  places = large_in reading

  abbrev IsFaultless : Type 0
  IsFaultless = (faults ≡ []) × (places ≡ [])

  -- nothing, or a fault, or a large block
  abbrev IsTold : Type 0
  IsTold = IsFaultless ⊎ (((f : Fault) × HasNameFault symbols f) ⊎ HasLargeBlock symbols)

  both :
      (f : Fault) (place : ℕ) (less : Bool) → nat_lt place f.start ≡ less → IsFirstOf faults f → Contains places place
      → ((other : ℕ) → Contains places other → place ≤ other) → IsTold
  both f place true e first large upto =
      inr (inr (
        reading,
        (
          place,
          large,
          λ g there. let less : place < f.start = ltb-true place f.start e in
              let from : f.start ≤ g.start = not_behind f g (first.1 g there) in omega (arith, less, from),
        ),
      ))
  both f place false e first large upto =
      inr (inl (
        f,
        (
          reading,
          first,
          λ other there. let from : f.start ≤ place = ltb-false place f.start e in
              let less : place ≤ other = upto other there in omega (arith, from, less),
        ),
      ))

  told :
      ((f : Fault) × IsFirstOf faults f) ⊎ (faults ≡ []) → ((place : ℕ) × Contains places place × ((other : ℕ) → Contains places other → place ≤ other)) ⊎ (places ≡ [])
      → IsTold
  told (inr none) (inr small) = inl (none, small)
  told (inr none) (inl large) = inr (inr (reading, (large.0, large.1, λ f there. absurd (none_in faults f none there))))
  told (inl first) (inr small) = inr (inl (first.0, (reading, first.1, λ place there. absurd (none_in places place small there))))
  told (inl first) (inl large) = both first.0 large.0 (nat_lt large.0 first.0.start) refl first.1 large.1 large.2

  -- ---- where nothing is

  names_by : faults ≡ [] → NamesModule (StatesTypes symbols) (StatesParams symbols) t.tree (module_of (params symbols) t.tree)
  unfolding reading
  names_by none =
      let from = tokens_from bytes tokens has.0.1 in
      let short = laws.short (params symbols) t.tree symbols t.derivation t.written t.formed t.yields t.within in
      (laws.rest (stated symbols) (params symbols) symbols t.tree (module_of (params symbols) t.tree)
      (λ x c there. (
        λ states. sym (types_are bytes tokens symbols from has.1 laws.called_once x c states),
        λ same.
            let at = laws.called t.tree symbols x t.written there in
            subst (StatesTypes symbols x) (sym same) (types_stand bytes tokens symbols from has.1 x at.0 at.1 at.2 at.3 at.4),
      ))
      (λ x c there. (
        λ states. sym (params_are bytes tokens symbols from has.1 laws.declared_once x c states),
        λ same.
            let at = laws.declared t.tree symbols x t.written there in
            subst (StatesParams symbols x) (sym same) (params_stand bytes tokens symbols from has.1 x at.0 at.1 at.2 at.3 at.4),
      ))).1
      (laws.named (stated symbols) (params symbols) t.tree short none)

  spelled : IsFaultless → (m : Module) × Spells bytes m
  unfolding reading
  spelled none = (
    module_of (params symbols) t.tree,
    record {
      tokens = tokens;
      cut = has.0.1;
      symbols = symbols;
      stand = has.1;
      tree = t.tree;
      written = t.written;
      derivation = t.derivation;
      formed = t.formed;
      yields = t.yields;
      within = t.within;
      names = names_by none.0;
      small = none.1;
    },
  )

  pub named_or_not : ((m : Module) × Spells bytes m) ⊎ (((f : Fault) × HasNameFault symbols f) ⊎ HasLargeBlock symbols)
  named_or_not = by (told (first_fault faults) (first_place places))
    where
      by : IsTold → ((m : Module) × Spells bytes m) ⊎ (((f : Fault) × HasNameFault symbols f) ⊎ HasLargeBlock symbols)
      by (inl none) = inl (spelled none)
      by (inr fault) = inr fault
