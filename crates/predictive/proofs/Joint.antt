-- What is derived is what is written, the first fault is the first unexpected kind, and what is written is written of one value.
use Rattle.std.proofs.Common.{◌≡◌, ℕ, List, [], ◌∷◌, ◌++◌, map, take, drop, refl, ap, sym, ◌∙◌, append_assoc, subst}
use Rattle.std.proofs.lemmas.List.{append-nil}
use Rattle.predictive.specs.Grammar.{Forest, Forms, yield, after_trees, Derives, Agree, IsFirstFault, IsUnambiguous}
use Rattle.predictive.specs.declared.symbol.Symbol.TheVariants.{Non}
use Rattle.predictive.specs.Meaning.{Meaning, State, begun, shifted, reduced, IsLawful}
use Rattle.predictive.specs.Unexpected.{GoesNowhere, IsUnexpected}
use Rattle.predictive.specs.Made.{Made}
use Rattle.predictive.proofs.Sound.{reads}
use Rattle.predictive.proofs.Makes.{grows}

-- some tokens of these kinds
some_tokens : (m : Meaning) → IsLawful m → (ks : List ℕ) → (ts : List m.Token) × (map m.kind_of ts ≡ ks)
some_tokens m lawful [] = ([], refl)
some_tokens m lawful (k ∷ ks) =
    let t = m.token k (lawful.some k) in
    let more = some_tokens m lawful ks in
    (t ∷ more.0, ap (λ j. j ∷ map m.kind_of more.0) (lawful.kind k (lawful.some k)) ∙ ap (λ j. k ∷ j) more.1)

pub value_of_kinds : (m : Meaning) → IsLawful m → (n : ℕ) (ks : List ℕ) → Derives m.grammar (Non n ∷ []) ks → (v : m.Value n) × (map m.kind_of (m.written n v) ≡ ks)
value_of_kinds m lawful n ks derived =
    let some = some_tokens m lawful ks in
    let r = reads m lawful derived.0 (Non n ∷ []) derived.1 some.0 (some.1 ∙ sym derived.2) in
    (r.0.0, ap (λ l. map m.kind_of l) r.1 ∙ some.1)

pub kinds_of_value : (m : Meaning) → IsLawful m → (n : ℕ) → ((v : m.Value n) → Made m n v) → (v : m.Value n) → Derives m.grammar (Non n ∷ []) (map m.kind_of (m.written n v))
kinds_of_value m lawful n made v =
    let g = grows m lawful (Non n ∷ []) (v, tt) (made v, tt) in
    (g.forest, g.forms, g.yields)

pub unexpected : (m : Meaning) → IsLawful m → (n : ℕ) → ((v : m.Value n) → Made m n v) → (ks : List ℕ) (place : ℕ) → IsFirstFault m.grammar (Non n ∷ []) ks place → IsUnexpected m.kind_of (m.written n) ks place
unexpected m lawful n made ks place fault =
    let v = value_of_kinds m lawful n (take place ks ++ fault.1.0) fault.1.1 in
    (fault.0, (v.0, fault.1.0, v.1), nowhere (take place ks) (drop place ks) fault.2)
  where
    nowhere : (done rest : List ℕ) → ((more : List ℕ) → Agree more rest → Derives m.grammar (Non n ∷ []) (done ++ more) → ⊥) → GoesNowhere m.kind_of (m.written n) done rest
    nowhere done [] none = λ v e. none [] tt (subst (λ l. Derives m.grammar (Non n ∷ []) l) (e ∙ sym (append-nil done)) (kinds_of_value m lawful n made v))
    nowhere done (k ∷ rest) none = λ begins.
        none (k ∷ begins.1) refl (subst (λ l. Derives m.grammar (Non n ∷ []) l) (begins.2 ∙ append_assoc done (k ∷ []) begins.1) (kinds_of_value m lawful n made begins.0))

-- two values that are written alike leave the same part
pub written_once : (m : Meaning) → IsLawful m → (n : ℕ) → IsUnambiguous m.grammar (Non n ∷ []) → ((v : m.Value n) → Made m n v) → (v w : m.Value n) → m.written n v ≡ m.written n w → m.part n v ∷ [] ≡ m.part n w ∷ []
written_once m lawful n one made v w e =
    let g = grows m lawful (Non n ∷ []) (v, tt) (made v, tt) in
    let h = grows m lawful (Non n ∷ []) (w, tt) (made w, tt) in
    let same : g.forest ≡ h.forest = one g.forest h.forest g.forms h.forms (g.yields ∙ ap (λ l. map m.kind_of l) e ∙ sym h.yields) in
    ap (λ (st : State m). st.parts) (
    sym (g.runs [] [])
    ∙ ap (λ f. after_trees (begun m) (shifted m) (reduced m) f (record { tokens = m.written n v ++ []; parts = [] })) same
    ∙ ap (λ l. after_trees (begun m) (shifted m) (reduced m) h.forest (record { tokens = l ++ []; parts = [] })) e
    ∙ h.runs [] [])

-- what a whole run leaves
pub leaves : (m : Meaning) → IsLawful m → (n : ℕ) (f : Forest) → Forms m.grammar f (Non n ∷ []) → (ts : List m.Token) → yield f ≡ map m.kind_of ts
    → (v : m.Value n) × (m.written n v ≡ ts) × (after_trees (begun m) (shifted m) (reduced m) f (record { tokens = ts; parts = [] }) ≡ record { tokens = []; parts = m.part n v ∷ [] })
leaves m lawful n f formed ts e =
    let r = reads m lawful f (Non n ∷ []) formed ts (sym e) in
    (r.0.0, r.1, ap (λ l. after_trees (begun m) (shifted m) (reduced m) f (record { tokens = l; parts = [] })) (sym (append-nil ts)) ∙ r.2 [] [])
