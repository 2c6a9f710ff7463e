use Rattle.std.proofs.Common.{◌≡◌, ◌+◌, ◌-◌, ◌<◌, ◌∙◌, ℕ, Option, Some, cond, get_or, length, ap, sym, arith}
use Rattle.std.proofs.lemmas.List.{get_or-map}
use Rattle.ir_types.specs.declared.names.Name.{Name}
use Rattle.ir_types.specs.Same.{same_name}
use Rattle.ir_core.proofs.NameIndexes.FirstPlaces.{behind_more, behind_none, place_behind}
use Rattle.definedness.specs.DefinitionLists.Shown.{named}
use Rattle.definedness.proofs.DefinitionLists.Listing.{named_many}
use Rattle.definedness.proofs.definition_lists.places.index_of.Goals as goal

pub loop-at-preserved : goal.loop-at-preserved
loop-at-preserved c =
    let ns = named c.args.names.now in
    let k = c.loop-at.at - 1 in
    let lent = c.index-names-at.result in
    let next : c.loop-at.at ≡ k + 1 = omega arith in
    let inside : k < length c.args.names.now = omega (arith, c.loop-at.invariant.0) in
    let here : lent.now ≡ get_or ns k lent.now = ap (λ n. n.now) c.index-names-at.is ∙ sym (get_or-map (λ n. n.now) c.args.names.now k lent lent.now inside) in (
      omega (arith, c.loop-at.invariant.0),
      λ name.
          c.in_ok-put.ensures name
          ∙ ap (λ (rest : Option ℕ). cond (same_name name lent.now) (Some k) rest) (c.loop-at.invariant.1 name ∙ ap (λ n. place_behind name n ns) next)
          ∙ ap (λ (x : Name). cond (same_name name x) (Some k) (place_behind name (k + 1) ns)) here
          ∙ behind_more name ns k lent.now (omega (arith, named_many c.args.names.now, inside)),
    )

pub returns : goal.returns
returns c =
    let none : c.loop-at.at ≡ 0 = omega arith in
    λ name. c.loop-at.invariant.1 name ∙ ap (λ n. place_behind name n (named c.args.names.now)) none ∙ sym (behind_none name (named c.args.names.now))
