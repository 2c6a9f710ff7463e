-- The deepest of depths, and depths where more is open around.
use Rattle.std.proofs.Common.{◌≡◌, ◌+◌, max, ℕ, Bool, true, false, cond, nat_eq, List, [], ◌∷◌, ◌++◌, map, refl, ap, sym, ◌∙◌, arith}
use Rattle.std.proofs.lemmas.List.{map-append}
use Rattle.ir_core.specs.Depths.{deepest}
use Rattle.predictive.specs.Grammar.{Forest, End, Leaf, Node}
use Rattle.module_spelling.specs.Opened.{depths, opens, pointers}

pub deepest_joined : (a b : List ℕ) → deepest (a ++ b) ≡ max (deepest a) (deepest b)
deepest_joined [] b = omega arith
deepest_joined (d ∷ a) b = let e = deepest_joined a b in omega arith

raised : (n : ℕ) (ds : List ℕ) → max n (deepest (map (λ d. n + d) ds)) ≡ n + deepest ds
raised n [] = omega arith
raised n (d ∷ ds) = let e = raised n ds in omega arith

further : (n m i : ℕ) → (n + m) + i ≡ n + (m + i)
further n m i = omega arith

joined :
    (n : ℕ) (a b x y : List ℕ) → x ≡ map (λ d. n + d) a → y ≡ map (λ d. n + d) b
    → x ++ y ≡ map (λ d. n + d) (a ++ b)
joined n a b x y e h = ap (λ l. l ++ y) e ∙ ap (λ l. map (λ d. n + d) a ++ l) h ∙ sym (map-append (λ d. n + d) a b)

chosen : (n : ℕ) (b : Bool) (a c x z : List ℕ) → x ≡ map (λ d. n + d) a → z ≡ map (λ d. n + d) c → cond b x z ≡ map (λ d. n + d) (cond b a c)
chosen n true a c x z e h = e
chosen n false a c x z e h = h

-- depths where so many more are open around
deeper : (n m : ℕ) (f : Forest) → depths (n + m) f ≡ map (λ d. n + d) (depths m f)
deeper n m End = refl
deeper n m (Leaf k f) = ap (λ ds. (n + m) ∷ ds) (deeper n m f)
deeper n m (Node p End f) = deeper n m f
deeper n m (Node p (Leaf k kids) f) =
    joined n (depths (m + opens p) (Leaf k kids)) (depths m f) (depths (n + m + opens p) (Leaf k kids)) (depths (n + m) f)
    (ap (λ i. depths i (Leaf k kids)) (further n m (opens p)) ∙ deeper n (m + opens p) (Leaf k kids))
    (deeper n m f)
deeper n m (Node p (Node b base stars) f) =
    let inside = deepest (depths (opens b) base) in
    joined n
    (cond (nat_eq p pointers) (depths (m + opens b) base ++ depths (m + inside) stars) (depths (m + opens p) (Node b base stars)))
    (depths m f)
    (cond (nat_eq p pointers) (depths (n + m + opens b) base ++ depths (n + m + inside) stars) (depths (n + m + opens p) (Node b base stars)))
    (depths (n + m) f)
    (chosen n (nat_eq p pointers)
    (depths (m + opens b) base ++ depths (m + inside) stars)
    (depths (m + opens p) (Node b base stars))
    (depths (n + m + opens b) base ++ depths (n + m + inside) stars)
    (depths (n + m + opens p) (Node b base stars))
    (joined n (depths (m + opens b) base) (depths (m + inside) stars) (depths (n + m + opens b) base) (depths (n + m + inside) stars)
    (ap (λ i. depths i base) (further n m (opens b)) ∙ deeper n (m + opens b) base)
    (ap (λ i. depths i stars) (further n m inside) ∙ deeper n (m + inside) stars))
    (ap (λ i. depths i (Node b base stars)) (further n m (opens p)) ∙ deeper n (m + opens p) (Node b base stars)))
    (deeper n m f)

-- what a type without stars is, in a type so deep
pub base_depth : (n : ℕ) (f : Forest) → max n (deepest (depths (n + 1) f)) ≡ n + deepest (depths 1 f)
base_depth n f = ap (λ ds. max n (deepest ds)) (deeper n 1 f) ∙ raised n (depths 1 f)
