use Rattle.std.proofs.Common.{◌≡◌, ◌∙◌, ◌+◌, ◌<◌, ℕ, List, ◌∷◌, drop, get_or, length, map, sym, ap}
use Rattle.std.proofs.lemmas.List.{drop_more}
use Rattle.ir_types.specs.declared.named.NamedTy.{NamedTy}
use Rattle.ir_types.specs.declared.names.Name.{Name}
use Rattle.ir_typing.specs.ShapeKinds.Names.{with_name, with_names}
use Rattle.ir_typing.proofs.operand_tests.beside.names_of.Goals as goal

abbrev names : List NamedTy → List Name
names = map (λ (t : NamedTy). t.name)

-- one name more, and these types are left
one_more : (before now all : List Name) (ts : List NamedTy) (k : ℕ) (t : NamedTy) → k < length ts → t ≡ get_or ts k t → now ≡ with_name before t.name
    → with_names before (names (drop k ts)) ≡ all → with_names now (names (drop (k + 1) ts)) ≡ all
one_more before now all ts k t inside is kept so_far =
    ap (λ (taken : List Name). with_names taken (names (drop (k + 1) ts))) kept
    ∙ sym (ap (λ (us : List NamedTy). with_names before (names us)) (drop_more ts k t inside ∙ ap (λ (u : NamedTy). u ∷ drop (k + 1) ts) (sym is)))
    ∙ so_far

pub loop-named-preserved : goal.loop-named-preserved
loop-named-preserved c =
    one_more _ _ _ c.args.types.now c.loop-named.named-index c.named-item.result c.loop-named-test.true c.named-item.is c.in_ok-take.ensures.names c.loop-named.invariant
