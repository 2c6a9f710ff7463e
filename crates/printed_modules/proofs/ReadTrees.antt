-- A derivation that was grown of a value bears out what is claimed of that value.
use Rattle.std.proofs.Common.{◌≡◌, ◌<◌, ℕ, List, [], ◌∷◌, Some, ap, sym, ◌∙◌, subst}
use Rattle.predictive.specs.Gapped.{opened}
use Rattle.predictive.proofs.Filling.{Grown}
use Rattle.module_grammar.specs.declared.parts.Part.{Part}
use Rattle.module_grammar.specs.Rules.{first_rule, meaning, rules, written_at}
use Rattle.module_grammar.specs.Sorts.{vocabulary}
use Rattle.module_grammar.specs.Symbols.{Symbol}
use Rattle.module_grammar.specs.Tokens.{with_gap, token_grammar}
use Rattle.module_grammar.proofs.Lawful.{lawful}
use Rattle.module_grammar.proofs.Vocabulary.{is_vocabulary}
use Rattle.module_grammar.proofs.WithGap.{is_gapped}
use Rattle.predictive.specs.Grammar.{Forest, Forms}
use Rattle.predictive.specs.declared.symbol.Symbol.{Symbol as Sign}
use Rattle.predictive.specs.declared.symbol.Symbol.TheVariants.{Non}
use Rattle.module_spelling.proofs.Acts.{acts}
use Rattle.predictive.specs.Meaning.{Each, State}
use Rattle.predictive.specs.Typed.{made, nth, top}
use Rattle.printed_modules.proofs.Told as told

abbrev pub make : (p : ℕ) → Each meaning (meaning.grammar.right p) → vocabulary.Value (meaning.grammar.left p)
make p vs = made vocabulary (nth first_rule rules p) vs

state : List Symbol → List Part → State meaning
state ts ps = record { tokens = ts; parts = ps }

-- a derivation of the tokens, whose run leaves the value
abbrev pub GrownOf : (n : ℕ) → vocabulary.Value n → List Symbol → Type 0
GrownOf = Grown meaning lawful with_gap is_gapped

module _ (Claim : ℕ → Forest → (n : ℕ) → vocabulary.Value n → Type 0) where
  abbrev pub Claims : Forest → (s : List Sign) → Each meaning s → Type 0
  Claims = told.Claims meaning lawful with_gap is_gapped Claim

  abbrev pub IsClaimed : ℕ → Type 0
  IsClaimed p =
      (kids : Forest) → Forms token_grammar kids (opened with_gap.kind with_gap.non (meaning.grammar.right p)) → (vs : Each meaning (meaning.grammar.right p))
      → Claims kids (meaning.grammar.right p) vs → Claim p kids (meaning.grammar.left p) (make p vs)

  pub bears :
      ((p : ℕ) → p < meaning.grammar.count → IsClaimed p) → (n : ℕ) → n < 92 → (v : vocabulary.Value n) (tokens : List Symbol) → (g : GrownOf n v tokens)
      → Claims g.forest (Non n ∷ []) (v, tt)
  unfolding state
  bears claim n small v tokens g =
      let r = told.claimed meaning lawful with_gap is_gapped Claim make (λ p h vs below. acts vocabulary is_vocabulary written_at first_rule rules p h vs below) claim
      g.forest (Non n ∷ []) (small, tt) g.forms tokens (sym g.yields) in
      let ends : state [] (meaning.part n v ∷ []) ≡ state [] (meaning.part n r.values.0 ∷ []) = sym (g.runs [] []) ∙ r.runs [] [] in
      let values : Some v ≡ Some r.values.0 =
      sym (is_vocabulary.value n v) ∙ ap (λ (st : State meaning). top (vocabulary.value n) st.parts) ends ∙ is_vocabulary.value n r.values.0 in
      let one : r.values.0 ≡ v = cc in
      subst (λ u. Claims g.forest (Non n ∷ []) (u, tt)) one r.claims
