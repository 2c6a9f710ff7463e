-- Measures by which walks through constants and initialisers end: a list of them stands between what holds it and what it holds.
use Rattle.std.proofs.Common.{◌≡◌, ◌*◌, ◌+◌, ◌<◌, ◌≤◌, ℕ, zero, suc, Bool, List, [], ◌∷◌, length, get_or, map, max, sym, subst, arith}
use Rattle.ir_core.specs.declared.modules.Init.{Init}
use Rattle.ir_core.specs.declared.modules.Init as init
use Rattle.ir_core.specs.declared.operands.Const.{Const, Element, Cast}
use Rattle.ir_core.specs.Depths.{deepest, depth_at_part, depth_of, depth_of_constant, depth_of_init, depth_of_init_at}
use Rattle.ir_core.proofs.Constants as constants
use Rattle.ir_core.proofs.Inits as inits
use Rattle.ir_types.specs.declared.ty.Ty.{Ty}

-- the depth of the deepest of these, or of their types
abbrev depths : {A : Type 0} → (A → ℕ) → List (Ty × A) → List ℕ
depths depth ps = map (λ (p : Ty × ℕ). max (depth_of p.0) p.1) (map (λ p. (p.0, depth p.1)) ps)

at_most : {A : Type 0} (depth : A → ℕ) (ps : List (Ty × A)) (k : ℕ) (p : Ty × A) → k < length ps → p ≡ get_or ps k p → depth p.1 ≤ deepest (depths depth ps)
at_most depth [] k p inside is = absurd (omega arith)
at_most {A} depth (q ∷ ps) zero p inside is = subst (λ (r : Ty × A). depth r.1 ≤ deepest (depths depth (q ∷ ps))) (sym is) (omega arith)
at_most depth (q ∷ ps) (suc k) p inside is = omega (arith, at_most depth ps k p (omega arith) is)

-- ---- constants

pub of_constant : Const → ℕ
of_constant c = 2 * depth_of_constant c

pub of_constants : List (Ty × Const) → ℕ
of_constants ps = 2 * deepest (depths depth_of_constant ps) + 1

pub in_element : (e : Bool × Ty × List (Ty × Const)) → of_constants e.2 < of_constant (Element e)
unfolding of_constant of_constants
in_element e = rw (constants.at_element ℕ depth_at_part e.0 e.1 e.2) (omega arith)

pub in_cast : (c : Ty × List (Ty × Const)) → of_constants c.1 < of_constant (Cast c)
unfolding of_constant of_constants
in_cast c = rw (constants.at_cast ℕ depth_at_part c.0 c.1) (omega arith)

pub in_constants : (ps : List (Ty × Const)) (k : ℕ) (p : Ty × Const) → k < length ps → p ≡ get_or ps k p → of_constant p.1 < of_constants ps
unfolding of_constant of_constants
in_constants ps k p inside is = omega (arith, at_most depth_of_constant ps k p inside is)

-- ---- initialisers

pub of_init : Init → ℕ
of_init i = 2 * depth_of_init i

pub of_inits : List (Ty × Init) → ℕ
of_inits ps = 2 * deepest (depths depth_of_init ps) + 1

pub in_array : (ps : List (Ty × Init)) → of_inits ps < of_init (init.Array ps)
unfolding of_init of_inits
in_array ps = rw (inits.at_array ℕ depth_of_init_at ps) (omega arith)

pub in_struct : (ps : List (Ty × Init)) → of_inits ps < of_init (init.Struct ps)
unfolding of_init of_inits
in_struct ps = rw (inits.at_struct ℕ depth_of_init_at ps) (omega arith)

pub in_inits : (ps : List (Ty × Init)) (k : ℕ) (p : Ty × Init) → k < length ps → p ≡ get_or ps k p → of_init p.1 < of_inits ps
unfolding of_init of_inits
in_inits ps k p inside is = omega (arith, at_most depth_of_init ps k p inside is)
