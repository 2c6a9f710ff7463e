-- Lists of one name or two.
use Rattle.std.proofs.Common.{◌≡◌, ◌∙◌, List, [], ◌∷◌, length, get_or, sym, ap, arith}
use Rattle.std.specs.Borrow.{Bor}
use Rattle.ir_types.specs.declared.names.Name.{Name}
use Rattle.ir_shape.specs.ShapeTests.Edges.{named}

pub one_name : (xs : List (Bor Name)) (x : Bor Name) → length xs ≡ 1 → x ≡ get_or xs 0 x → named xs ≡ x.now ∷ []
one_name [] x one is = absurd (omega arith)
one_name (y ∷ []) x one is = ap (λ (b : Bor Name). b.now ∷ []) (sym is)
one_name (y ∷ z ∷ xs) x one is = absurd (omega arith)

pub two_names : (xs : List (Bor Name)) (x y : Bor Name) → length xs ≡ 2 → x ≡ get_or xs 0 x → y ≡ get_or xs 1 y → named xs ≡ x.now ∷ y.now ∷ []
two_names [] x y two is next = absurd (omega arith)
two_names (a ∷ []) x y two is next = absurd (omega arith)
two_names (a ∷ b ∷ []) x y two is next = ap (λ (c : Bor Name). c.now ∷ b.now ∷ []) (sym is) ∙ ap (λ (c : Bor Name). x.now ∷ c.now ∷ []) (sym next)
two_names (a ∷ b ∷ c ∷ xs) x y two is next = absurd (omega arith)
