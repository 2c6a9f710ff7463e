-- What is derived is what is written, its gaps filled; the first fault is the first unexpected kind, and a text is written of one value.
use Rattle.std.proofs.Common.{◌≡◌, ◌<◌, ℕ, List, [], ◌∷◌, ◌++◌, map, take, drop, refl, ap, sym, ◌∙◌, append_assoc, subst}
use Rattle.std.proofs.lemmas.List.{append-nil}
use Rattle.predictive.specs.Grammar.{Forest, Forms, yield, after_trees, Derives, Agree, IsFirstFault, IsUnambiguous}
use Rattle.predictive.specs.declared.symbol.Symbol.TheVariants.{Non}
use Rattle.predictive.specs.Made.{Made}
use Rattle.predictive.specs.Meaning.{Meaning, State, begun, shifted, IsLawful}
use Rattle.predictive.specs.Unexpected.{GoesNowhere, IsUnexpected}
use Rattle.predictive.specs.Gapped.{Gapped, IsGapped, Text, Writes, reduced}
use Rattle.predictive.proofs.Filling.{grown}
use Rattle.predictive.proofs.GapSound.{reads}

module _ (m : Meaning) (lawful : IsLawful m) (x : Gapped m) (is : IsGapped m x) (n : ℕ) (small : n < x.non) where
  -- some tokens of these kinds
  some_tokens : (ks : List ℕ) → (ts : List m.Token) × (map m.kind_of ts ≡ ks)
  some_tokens [] = ([], refl)
  some_tokens (k ∷ ks) =
      let t = m.token k (lawful.some k) in
      let more = some_tokens ks in
      (t ∷ more.0, ap (λ j. j ∷ map m.kind_of more.0) (lawful.kind k (lawful.some k)) ∙ ap (λ j. k ∷ j) more.1)

  pub text_of_kinds : (ks : List ℕ) → Derives x.grammar (Non n ∷ []) ks → (t : Text m x n) × (map m.kind_of t.1 ≡ ks)
  text_of_kinds ks derived =
      let some = some_tokens ks in
      let r = reads m lawful x is derived.0 (Non n ∷ []) (small, tt) derived.1 some.0 (some.1 ∙ sym derived.2) in
      ((r.0.0, some.0, r.1), some.1)

  pub kinds_of_text : ((v : m.Value n) → Made m n v) → (t : Text m x n) → Derives x.grammar (Non n ∷ []) (map m.kind_of t.1)
  kinds_of_text made t =
      let g = grown m lawful x is n small t.0 (made t.0) t.1 t.2 in
      (g.forest, g.forms, g.yields)

  pub unexpected :
      ((v : m.Value n) → Made m n v) → (ks : List ℕ) (place : ℕ) → IsFirstFault x.grammar (Non n ∷ []) ks place
      → IsUnexpected m.kind_of (λ (t : Text m x n). t.1) ks place
  unexpected made ks place fault =
      let t = text_of_kinds (take place ks ++ fault.1.0) fault.1.1 in
      (fault.0, (t.0, fault.1.0, t.1), nowhere (take place ks) (drop place ks) fault.2)
    where
      nowhere :
          (done rest : List ℕ) → ((more : List ℕ) → Agree more rest → Derives x.grammar (Non n ∷ []) (done ++ more) → ⊥)
          → GoesNowhere m.kind_of (λ (t : Text m x n). t.1) done rest
      nowhere done [] none = λ t e. none [] tt (subst (λ l. Derives x.grammar (Non n ∷ []) l) (e ∙ sym (append-nil done)) (kinds_of_text made t))
      nowhere done (k ∷ rest) none = λ begins.
          none (k ∷ begins.1) refl
          (subst (λ l. Derives x.grammar (Non n ∷ []) l) (begins.2 ∙ append_assoc done (k ∷ []) begins.1) (kinds_of_text made begins.0))

  -- two values of which one text is written leave the same part
  pub written_once :
      IsUnambiguous x.grammar (Non n ∷ []) → ((v : m.Value n) → Made m n v) → (v w : m.Value n) (ts : List m.Token) → Writes m x (m.written n v) ts
      → Writes m x (m.written n w) ts → m.part n v ∷ [] ≡ m.part n w ∷ []
  written_once one made v w ts a b =
      let g = grown m lawful x is n small v (made v) ts a in
      let h = grown m lawful x is n small w (made w) ts b in
      let same : g.forest ≡ h.forest = one g.forest h.forest g.forms h.forms (g.yields ∙ sym h.yields) in
      ap (λ (st : State m). st.parts) (
      sym (g.runs [] [])
      ∙ ap (λ f. after_trees (begun m) (shifted m) (reduced m x) f (record { tokens = ts ++ []; parts = [] })) same
      ∙ h.runs [] [])

  -- what a whole run leaves
  pub leaves :
      (f : Forest) → Forms x.grammar f (Non n ∷ []) → (ts : List m.Token) → yield f ≡ map m.kind_of ts
      → (v : m.Value n) × Writes m x (m.written n v) ts
      × (after_trees (begun m) (shifted m) (reduced m x) f (record { tokens = ts; parts = [] }) ≡ record { tokens = []; parts = m.part n v ∷ [] })
  leaves f formed ts e =
      let r = reads m lawful x is f (Non n ∷ []) (small, tt) formed ts (sym e) in
      (r.0.0, r.1, ap (λ l. after_trees (begun m) (shifted m) (reduced m x) f (record { tokens = l; parts = [] })) (sym (append-nil ts)) ∙ r.2 [] [])
