-- `...` behind parameters.
use Rattle.std.proofs.Common.{◌≡◌, ◌∙◌, ◌++◌, ◌∷◌, [], ℕ, Bool, true, false, List, codes, length, map, refl, ap, append_assoc, append-nil, arith}
use Rattle.std.proofs.lemmas.Bool.Decides.{nat_tests}
use Rattle.std.specs.Prelude.{◌==◌}
use Rattle.ir_printer.specs.Called.{dots_text}
use Rattle.ir_printer.specs.ExpressionPrinter.Printed.{listed}
use Rattle.ir_printer.specs.Printed.{dots}

grouped : (a b c d : List ℕ) → (a ++ b ++ c) ++ d ≡ a ++ b ++ (c ++ d)
grouped a b c d = simp append_assoc

behind_one : (before x : List ℕ) (xs : List (List ℕ)) (v : Bool) → listed before (x ∷ xs) ++ dots_text false v ≡ listed before (x ∷ (xs ++ dots v))
behind_one before x [] true = grouped before x [] (codes ", ...")
behind_one before x [] false = append-nil (listed before (x ∷ []))
behind_one before x (y ∷ ys) v =
    grouped before x (listed (codes ", ") (y ∷ ys)) (dots_text false v) ∙ ap (λ more. before ++ x ++ more) (behind_one (codes ", ") y ys v)

some_are : {A : Type 0} (p : A) (ps : List A) → (length (p ∷ ps) == 0) ≡ false
some_are p ps = grind (arith, nat_tests)

pub dots_behind : {A : Type 0} (f : A → List ℕ) (ps : List A) (none v : Bool) → none ≡ (length ps == 0)
    → listed [] (map f ps) ++ dots_text none v ≡ listed [] (map f ps ++ dots v)
dots_behind f [] none true is = ap (λ n. dots_text n true) is
dots_behind f [] none false is = refl
dots_behind f (p ∷ ps) none v is = ap (λ n. listed [] (map f (p ∷ ps)) ++ dots_text n v) (is ∙ some_are p ps) ∙ behind_one [] (f p) (map f ps) v
