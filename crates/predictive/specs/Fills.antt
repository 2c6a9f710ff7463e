-- Texts with gaps: what is written is a list of tokens some of which are gaps, in whose places any tokens may stand that fill them.
use Rattle.std.specs.Prelude.{◌≡◌, Bool, true, false, List, [], ◌∷◌, ◌++◌}

-- the tokens begin with what is first, the token itself or a filling of the gap, and go on with more
abbrev pub FillsFrom : {T : Type 0} → Bool → (List T → Type 0) → T → (List T → Type 0) → List T → Type 0
FillsFrom {T} true Fit w More ts = (a : List T) × (b : List T) × (a ++ b ≡ ts) × Fit a × More b
FillsFrom {T} false Fit w More ts = (b : List T) × (w ∷ b ≡ ts) × More b

-- Where `_` is a gap that rows of brackets fill, the tokens of `{()()}` fill `{_}`, and so do those of `{}`.
abbrev pub Fills : {T : Type 0} → (T → Bool) → (List T → Type 0) → List T → List T → Type 0
Fills is_gap Fit [] ts = ts ≡ []
Fills is_gap Fit (w ∷ ws) ts = FillsFrom (is_gap w) Fit w (Fills is_gap Fit ws) ts
