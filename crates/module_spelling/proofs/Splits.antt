-- Tokens that fill what is written fill its parts, one after another.
use Rattle.std.proofs.Common.{◌≡◌, Bool, true, false, List, [], ◌∷◌, ◌++◌, refl, ap, ◌∙◌, append_assoc}
use Rattle.predictive.specs.Fills.{Fills, FillsFrom}

module _ {T : Type 0} (is_gap : T → Bool) (Fit : List T → Type 0) where
  abbrev pub Split : List T → List T → List T → Type 0
  Split a b ts = (front : List T) × (back : List T) × (front ++ back ≡ ts) × Fills is_gap Fit a front × Fills is_gap Fit b back

  split_from :
      (g : Bool) (w : T) (a b : List T) → ((ts : List T) → Fills is_gap Fit (a ++ b) ts → Split a b ts)
      → (ts : List T) → FillsFrom g Fit w (Fills is_gap Fit (a ++ b)) ts
      → (front : List T) × (back : List T) × (front ++ back ≡ ts) × FillsFrom g Fit w (Fills is_gap Fit a) front × Fills is_gap Fit b back
  split_from true w a b go ts from =
      let s = go from.1 from.4 in
      (from.0 ++ s.0, s.1, append_assoc from.0 s.0 s.1 ∙ ap (λ l. from.0 ++ l) s.2 ∙ from.2, (from.0, s.0, refl, from.3, s.3), s.4)
  split_from false w a b go ts from =
      let s = go from.0 from.2 in
      (w ∷ s.0, s.1, ap (λ l. w ∷ l) s.2 ∙ from.1, (s.0, refl, s.3), s.4)

  pub split : (a b ts : List T) → Fills is_gap Fit (a ++ b) ts → Split a b ts
  split [] b ts all = ([], ts, refl, refl, all)
  split (w ∷ a) b ts all = split_from (is_gap w) w a b (λ ts all. split a b ts all) ts all
