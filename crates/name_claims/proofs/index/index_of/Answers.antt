use Rattle.std.proofs.Common.{◌≡◌, ◌+◌, ◌-◌, ◌<◌, drop, get_or, length, ap, subst, ◌∙◌, arith}
use Rattle.name_claims.specs.Indexes.{AreAllNew, at_name, or_else}
use Rattle.name_claims.proofs.Found.{behind_more, first_behind, more_new}
use Rattle.name_claims.proofs.index.index_of.Goals as goal

pub loop-at-preserved : goal.loop-at-preserved
loop-at-preserved c =
    let ds = c.args.definitions.now in
    let k = c.loop-at.at - 1 in
    let d = get_or ds k c.index-definitions-at.result in
    let next : c.loop-at.at ≡ k + 1 = omega arith in
    let inside : k < length ds = omega arith in
    record {
      within = omega arith;
      put = λ name.
          c.in_ok-put.ensures.first name
          ∙ ap (or_else (at_name d.name k name)) (c.loop-at.invariant.put name ∙ ap (λ n. first_behind name n ds) next)
          ∙ behind_more name ds k c.index-definitions-at.result inside;
      new = λ new_too. more_new ds k c.index-definitions-at.result _ _ _ inside c.in_ok-put.ensures.new (c.loop-at.invariant.put d.name ∙ ap (λ n. first_behind d.name n ds) next) (λ old. subst (λ n. AreAllNew (drop n ds)) next (c.loop-at.invariant.new old)) new_too;
    }
