-- A text has one free name.
use Rattle.std.proofs.Common.{◌≡◌, ◌<◌, ℕ, arith, sym, ap, ◌∙◌, subst}
use Rattle.std.specs.List.{Contains}
use Rattle.std.specs.Prelude.{List}
use Rattle.ir_types.specs.declared.names.Name.{Name}
use Rattle.ir_types.specs.declared.names.Name.TheVariants.{Text}
use Rattle.ir_rename.specs.Named.{IsFresh, dotted}
use Rattle.renaming_laws.specs.Laws.{FreshNamesAreOne}

-- one with fewer dots than another would be taken
not_fewer : (taken : List Name) (text a b : List ℕ) (p : IsFresh taken text a) (q : IsFresh taken text b) → p.dots < q.dots → ⊥
not_fewer taken text a b p q less = p.not_taken (subst (λ (t : List ℕ). Contains taken (Text t)) (sym p.is) (q.fewest p.dots less))

pub fresh_names_are_one : FreshNamesAreOne
fresh_names_are_one taken text a b p q =
    let not_less : p.dots < q.dots → ⊥ = not_fewer taken text a b p q in
    let not_more : q.dots < p.dots → ⊥ = not_fewer taken text b a q p in
    let same : p.dots ≡ q.dots = omega arith in
    p.is ∙ ap (dotted text) same ∙ sym q.is
