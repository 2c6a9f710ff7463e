-- What a rule makes is what its act leaves on a parser's stack.
use Rattle.std.proofs.Common.{◌≡◌, ◌<◌, ◌+◌, ℕ, zero, suc, Bool, true, false, cond, nat_eq, List, [], ◌∷◌, length, Option, Some, None, refl, ap, ◌∙◌, arith}
use Rattle.std.proofs.lemmas.Bool.{eq-eqb, eqb-true}
use Rattle.predictive.specs.Meaning.{EachOf, onto}
use Rattle.predictive.specs.Typed.{IsVocabulary, Rule, Vocabulary, act_at, action, made, meaning_of, nth, take, unload}
use Rattle.predictive.specs.declared.symbol.Symbol.{Symbol}
use Rattle.predictive.specs.declared.symbol.Symbol.TheVariants.{Kind, Non}

differ : (p i : ℕ) → (p ≡ i → ⊥) → nat_eq p i ≡ false
differ p i h = go (nat_eq p i) (λ e. h (eqb-true p i e))
  where
    go : (b : Bool) → (b ≡ true → ⊥) → b ≡ false
    go true never = absurd (never refl)
    go false never = refl

module _ (w : Vocabulary) (are : IsVocabulary w) (written : (n : ℕ) → w.Value n → List w.Token) (first : Rule w) (rules : List (Rule w)) where
  took : (n : ℕ) (v : w.Value n) (s : List w.Part) (then : w.Value n → List w.Part → List w.Part) → take (w.value n) (w.part n v ∷ s) then ≡ then v s
  took n v s then = go (w.value n (w.part n v)) (are.value n v)
    where
      go : (o : Option (w.Value n)) → o ≡ Some v → take (λ p. o) (w.part n v ∷ s) then ≡ then v s
      go None e = cc
      go (Some x) e = ap (λ o. take (λ p. o) (w.part n v ∷ s) then) e

  unloads :
      (s : List Symbol) (vs : EachOf w.Content w.Value s) (parts : List w.Part) (then : EachOf w.Content w.Value s → List w.Part → List w.Part)
      → unload w s (onto (meaning_of w written first rules) s vs parts) then ≡ then vs parts
  unloads [] vs parts then = refl
  unloads (Kind k ∷ s) vs parts then =
      unloads s vs.1 (w.kept (w.token k vs.0) parts) (λ us ps. w.unkept k ps (λ x ps. then (x, us) ps))
      ∙ are.kept k vs.0 parts (λ x ps. then (x, vs.1) ps)
  unloads (Non n ∷ s) vs parts then =
      unloads s vs.1 (w.part n vs.0 ∷ parts) (λ us ps. take (w.value n) ps (λ v ps. then (v, us) ps))
      ∙ took n vs.0 parts (λ v ps. then (v, vs.1) ps)

  act_is : (i : ℕ) (rs : List (Rule w)) (q : ℕ) → q < length rs → (p : ℕ) → p ≡ i + q → (s : List w.Part) → act_at w i rs p s ≡ action w (nth first rs q) s
  act_is i [] q h p e s = absurd (grind arith)
  act_is i (r ∷ rs) zero h p e s = ap (λ b. cond b (action w r s) (act_at w (i + 1) rs p s)) (eq-eqb p i (grind arith))
  act_is i (r ∷ rs) (suc q) h p e s =
      ap (λ b. cond b (action w r s) (act_at w (i + 1) rs p s)) (differ p i (λ same. grind arith))
      ∙ act_is (i + 1) rs q (grind arith) p (grind arith) s

  pub acts :
      (p : ℕ) → p < length rules → (vs : EachOf w.Content w.Value (nth first rules p).right) (below : List w.Part)
      → act_at w 0 rules p (onto (meaning_of w written first rules) (nth first rules p).right vs below)
      ≡ w.part (nth first rules p).left (made w (nth first rules p) vs) ∷ below
  acts p h vs below =
      act_is 0 rules p h p (grind arith) (onto (meaning_of w written first rules) (nth first rules p).right vs below)
      ∙ unloads (nth first rules p).right vs below (λ vs ps. w.part (nth first rules p).left (made w (nth first rules p) vs) ∷ ps)
