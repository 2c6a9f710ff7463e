use Rattle.std.proofs.Common.{[], refl, sym, subst, ◌∙◌, ◌≡◌}
use Rattle.std.proofs.lemmas.Bool.{true≢false}
use Rattle.std.proofs.lemmas.List.{get_or_read}
use Rattle.flow_solver.specs.Frameworks.{value_at}
use Rattle.flow_solver.proofs.Solved.{lower_entered, same_entered}
use Rattle.flow_solver.proofs.solver.enter.Goals as goal

pub returns-in_ok-wait : goal.returns-in_ok-wait
returns-in_ok-wait g c =
    let f = g.F.Facts.framework c.args.facts.now in
    let vs = c.args.sets.now.items in
    let n = c.args.node in
    let read : c.index-own.result.now ≡ value_at f vs n = get_or_read vs n c.index-own.result.now c.requires.node c.index-own.ensures f.top in
    let met : c.in_ok-met.met ≡ f.meet (value_at f vs n) c.args.set.now = subst (λ u. c.in_ok-met.met ≡ f.meet u c.args.set.now) read c.in_ok-met.ensures in
    lower_entered f (g.met.F.Facts.monotone c.args.facts.now) [] vs n c.args.set.now c.in_ok-met.met c.args.queue.now c.wait.new.self
    c.requires.node c.requires.own c.requires.set met (λ same. true≢false (sym (c.if-not-same.ensures.1 (same ∙ sym read))))
    c.in_ok-wait.ensures.queue c.in_ok-wait.ensures.still c.in_ok-wait.ensures.waits c.in_ok-wait.ensures.one

pub returns-else-not-same : goal.returns-else-not-same
returns-else-not-same g c =
    let f = g.F.Facts.framework c.args.facts.now in
    let vs = c.args.sets.now.items in
    let n = c.args.node in
    let read : c.index-own.result.now ≡ value_at f vs n = get_or_read vs n c.index-own.result.now c.requires.node c.index-own.ensures f.top in
    let met : c.in_ok-met.met ≡ f.meet (value_at f vs n) c.args.set.now = subst (λ u. c.in_ok-met.met ≡ f.meet u c.args.set.now) read c.in_ok-met.ensures in
    same_entered f (g.met.F.Facts.monotone c.args.facts.now) [] vs n c.args.set.now c.in_ok-met.met c.args.queue.now met (c.if-not-same.ensures.0 refl ∙ read) c.requires.queue
