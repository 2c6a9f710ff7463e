-- Tokens that fill what is written fill its parts, one after another, and the other way round.
use Rattle.std.proofs.Common.{◌≡◌, Bool, true, false, List, [], ◌∷◌, ◌++◌, refl, ap, sym, ◌∙◌, append_assoc, ◌⊎◌, inl, inr}
use Rattle.predictive.specs.Fills.{Fills, FillsFrom}

module _ {T : Type 0} (is_gap : T → Bool) (Fit : List T → Type 0) where
  both_from :
      (b : Bool) (w : T) (More Both : List T → Type 0) (us : List T) → ((ts : List T) → More ts → Both (ts ++ us))
      → (ts : List T) → FillsFrom b Fit w More ts → FillsFrom b Fit w Both (ts ++ us)
  both_from true w More Both us go ts from =
      (from.0, from.1 ++ us, sym (append_assoc from.0 from.1 us) ∙ ap (λ l. l ++ us) from.2, from.3, go from.1 from.4)
  both_from false w More Both us go ts from = (from.0 ++ us, ap (λ l. l ++ us) from.1, go from.0 from.2)

  pub both : (a b : List T) (ts us : List T) → Fills is_gap Fit a ts → Fills is_gap Fit b us → Fills is_gap Fit (a ++ b) (ts ++ us)
  both [] b [] us first second = second
  both [] b (t ∷ ts) us first second = cc
  both (w ∷ a) b ts us first second =
      both_from (is_gap w) w (Fills is_gap Fit a) (Fills is_gap Fit (a ++ b)) us (λ ts first. both a b ts us first second) ts first

  abbrev pub Split : List T → List T → List T → Type 0
  Split a b ts = (front : List T) × (back : List T) × (front ++ back ≡ ts) × Fills is_gap Fit a front × Fills is_gap Fit b back

  split_from :
      (g : Bool) (w : T) (a b : List T) → ((ts : List T) → Fills is_gap Fit (a ++ b) ts → Split a b ts)
      → (ts : List T) → FillsFrom g Fit w (Fills is_gap Fit (a ++ b)) ts
      → (front : List T) × (back : List T) × (front ++ back ≡ ts) × FillsFrom g Fit w (Fills is_gap Fit a) front × Fills is_gap Fit b back
  split_from true w a b go ts from =
      let s = go from.1 from.4 in (
        from.0 ++ s.0,
        s.1,
        append_assoc from.0 s.0 s.1 ∙ ap (λ l. from.0 ++ l) s.2 ∙ from.2,
        (from.0, s.0, refl, from.3, s.3),
        s.4,
      )
  split_from false w a b go ts from =
      let s = go from.0 from.2 in
      (w ∷ s.0, s.1, ap (λ l. w ∷ l) s.2 ∙ from.1, (s.0, refl, s.3), s.4)

  pub split : (a b ts : List T) → Fills is_gap Fit (a ++ b) ts → Split a b ts
  split [] b ts all = ([], ts, refl, refl, all)
  split (w ∷ a) b ts all = split_from (is_gap w) w a b (λ ts all. split a b ts all) ts all

  -- what stands for the first, the token itself or a filling
  abbrev pub First : Bool → T → (List T → Type 0) → List T → Type 0
  First g w More ts = (a : List T) × (b : List T) × (a ++ b ≡ ts) × More b × (((g ≡ true) × Fit a) ⊎ ((g ≡ false) × (a ≡ w ∷ [])))

  pub first : (g : Bool) (w : T) (More : List T → Type 0) (ts : List T) → FillsFrom g Fit w More ts → First g w More ts
  first true w More ts from = (from.0, from.1, from.2, from.4, inl (refl, from.3))
  first false w More ts from = (w ∷ [], from.0, from.1, from.2, inr (refl, refl))

  pub by_itself : (g : Bool) (w t : T) (More : List T → Type 0) (ts : List T) → g ≡ false → w ≡ t → More ts → FillsFrom g Fit w More (t ∷ ts)
  by_itself true w t More ts e at more = cc
  by_itself false w t More ts e at more = (ts, ap (λ u. u ∷ ts) at, more)

  pub by_filling : (g : Bool) (w : T) (More : List T → Type 0) (a b : List T) → g ≡ true → Fit a → More b → FillsFrom g Fit w More (a ++ b)
  by_filling true w More a b e fit more = (a, b, refl, fit, more)
  by_filling false w More a b e fit more = cc
