-- Operands are matched where each of them is.
use Rattle.std.proofs.Common.{◌≡◌, Bool, true, false, ◌&&◌, [], ◌∷◌, refl}
use Rattle.ir_types.specs.declared.names.Name.{Name}
use Rattle.ir_core.specs.declared.operands.Operand.{Operand}
use Rattle.erhl_assert.specs.declared.facts.Assertion.{Assertion}
use Rattle.erhl_assert.specs.Matched.{matched, are_matched}

and_true : (p : Bool) → (p && true) ≡ p
and_true true = refl
and_true false = refl

two : (p q : Bool) → (p && (q && true)) ≡ (p && q)
two true q = and_true q
two false q = refl

three : (p q r : Bool) → (p && (q && (r && true))) ≡ ((p && q) && r)
three true q r = two q r
three false q r = refl

module _ (known : Assertion) where
  pub one_matched : (a b : Operand Name) → are_matched known (a ∷ []) (b ∷ []) ≡ matched known a b
  one_matched a b = and_true (matched known a b)

  pub two_matched : (a b c d : Operand Name) → are_matched known (a ∷ b ∷ []) (c ∷ d ∷ []) ≡ (matched known a c && matched known b d)
  two_matched a b c d = two (matched known a c) (matched known b d)

  pub three_matched : (a b c d e f : Operand Name) → are_matched known (a ∷ b ∷ c ∷ []) (d ∷ e ∷ f ∷ []) ≡ ((matched known a d && matched known b e) && matched known c f)
  three_matched a b c d e f = three (matched known a d) (matched known b e) (matched known c f)
