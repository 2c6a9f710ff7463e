-- Lists of texts with a comma between any two, the last of which may be `...`.
use Rattle.std.proofs.Common.{ℕ, Bool, true, false, List, [], ◌∷◌, ◌++◌, codes, map, refl, ap}
use Rattle.std.specs.List.{AllByRecursion, AllZip}
use Rattle.std.proofs.lemmas.List.{append-nil}
use Rattle.module_grammar.specs.declared.words.Language.TheVariants.{Ir}
use Rattle.module_grammar.specs.Listed.{further, listed}
use Rattle.module_grammar.specs.Symbols.{Symbol}
use Rattle.module_grammar.specs.Types.{open_end}
use Rattle.ir_printer.specs.ExpressionPrinter.Printed as printed
use Rattle.ir_printer.specs.Printed.{dots}
use Rattle.printed_modules.proofs.Laid.{AreCalm, both_calm}
use Rattle.printed_tokens.proofs.Marks as marks
use Rattle.printed_tokens.proofs.Prints.{IsFixed, Prints, before, both, empty, of_text, read_as}
use Rattle.printed_tokens.proofs.ReadTexts.{Stops}

-- ---- texts

-- `, ...`, or nothing
end_behind : (is_open : Bool) → IsFixed Ir Stops (printed.listed (codes ", ") (dots is_open)) (further (open_end is_open))
end_behind true = before Ir (marks.comma Ir) (marks.dots Ir)
end_behind false = empty Ir Stops

-- `...`, or nothing
end_alone : (is_open : Bool) → IsFixed Ir Stops (printed.listed [] (dots is_open)) (listed (open_end is_open))
end_alone true = marks.dots Ir
end_alone false = empty Ir Stops

module _ {X T : Type 0} (P : X → Type 0) (w : T → List Symbol) (N : T → X → Type 0) (text : X → List ℕ) (one : (x : X) → P x → Prints Ir Stops w (λ t. N t x) (text x)) where
  further_stop : (xs : List X) (is_open : Bool) (rest : List ℕ) → Stops rest → Stops (printed.listed (codes ", ") (map text xs ++ dots is_open) ++ rest)
  further_stop [] true rest stop = refl
  further_stop [] false rest stop = stop
  further_stop (x ∷ xs) is_open rest stop = refl

  further_open : (xs : List X) (is_open : Bool) → AllByRecursion P xs
      → Prints Ir Stops (λ (ts : List T). further (map w ts ++ open_end is_open)) (λ (ts : List T). AllZip N ts xs) (printed.listed (codes ", ") (map text xs ++ dots is_open))
  further_open [] is_open all =
      read_as Ir (λ (ts : List T). further (map w ts ++ open_end is_open)) (λ (ts : List T). AllZip N ts []) (λ t. []) (λ t named. refl) (λ t named. tt) (end_behind is_open)
  further_open (x ∷ xs) is_open all =
      read_as Ir (λ (ts : List T). further (map w ts ++ open_end is_open)) (λ (ts : List T). AllZip N ts (x ∷ xs)) (λ t. t.0 ∷ t.1) (λ t named. refl) (λ t named. named)
      (before Ir (marks.comma Ir) (both Ir (one x all.0) (further_open xs is_open all.1) (further_stop xs is_open)))

  pub listed_open : (xs : List X) (is_open : Bool) → AllByRecursion P xs
      → Prints Ir Stops (λ (ts : List T). listed (map w ts ++ open_end is_open)) (λ (ts : List T). AllZip N ts xs) (printed.listed [] (map text xs ++ dots is_open))
  listed_open [] is_open all =
      read_as Ir (λ (ts : List T). listed (map w ts ++ open_end is_open)) (λ (ts : List T). AllZip N ts []) (λ t. []) (λ t named. refl) (λ t named. tt) (end_alone is_open)
  listed_open (x ∷ xs) is_open all =
      read_as Ir (λ (ts : List T). listed (map w ts ++ open_end is_open)) (λ (ts : List T). AllZip N ts (x ∷ xs)) (λ t. t.0 ∷ t.1) (λ t named. refl) (λ t named. named)
      (both Ir (one x all.0) (further_open xs is_open all.1) (further_stop xs is_open))

  -- without `...`
  pub listed_closed : (xs : List X) → AllByRecursion P xs → Prints Ir Stops (λ (ts : List T). listed (map w ts)) (λ (ts : List T). AllZip N ts xs) (printed.listed [] (map text xs))
  listed_closed xs all =
      of_text Ir (printed.listed [] (map text xs ++ [])) (printed.listed [] (map text xs)) (ap (printed.listed []) (append-nil (map text xs)))
      (read_as Ir (λ (ts : List T). listed (map w ts)) (λ (ts : List T). AllZip N ts xs) (λ ts. ts) (λ ts named. ap listed (append-nil (map w ts))) (λ ts named. named)
      (listed_open xs false all))

-- ---- calm rows

module _ {T : Type 0} (w : T → List Symbol) (calm : (t : T) → AreCalm (w t)) where
  further_calm : (ts : List T) (is_open : Bool) → AreCalm (further (map w ts ++ open_end is_open))
  further_calm [] true = refl
  further_calm [] false = refl
  further_calm (t ∷ ts) is_open = both_calm (w t) (further (map w ts ++ open_end is_open)) (calm t) (further_calm ts is_open)

  pub open_calm : (ts : List T) (is_open : Bool) → AreCalm (listed (map w ts ++ open_end is_open))
  open_calm [] true = refl
  open_calm [] false = refl
  open_calm (t ∷ ts) is_open = both_calm (w t) (further (map w ts ++ open_end is_open)) (calm t) (further_calm ts is_open)
