use Rattle.std.proofs.Common.{◌≡◌, ◌∙◌, Option, drop, false, sym, ap, rules}
use Rattle.std.specs.Borrow.{Bor}
use Rattle.std.specs.Option.{option_copied}
use Rattle.ir_types.specs.declared.ty.Ty.{Ty}
use Rattle.ir_values.specs.Private.{leads_small}
use Rattle.ir_values.proofs.LedSmall.{walk_large, walk_leads, walk_nowhere}
use Rattle.ir_values.proofs.addresses.leads_inside.Goals as goal

pub returns-then-not-is_small : goal.returns-then-not-is_small
returns-then-not-is_small g c =
    let enters = sym c.entered.ensures ∙ ap (λ (o : Option (Bor Ty)). option_copied o) c.in-Some.is in
    let large : c.is_small.result ≡ false = search rules in
    walk_large c.args.types.now c.loop-place.ty.now (g.I.Indices.listed c.args.indices.now) c.loop-place.place (leads_small c.args.types.now c.args.of.now (drop c.args.start (g.I.Indices.listed c.args.indices.now))) c.loop-place.invariant c.at.result c.at.ensures c.in-Some.further.now enters
    (sym c.is_small.ensures ∙ large)

pub returns-in-None : goal.returns-in-None
returns-in-None g c =
    let enters = sym c.entered.ensures ∙ ap (λ (o : Option (Bor Ty)). option_copied o) c.in-None.is in
    walk_nowhere c.args.types.now c.loop-place.ty.now (g.I.Indices.listed c.args.indices.now) c.loop-place.place (leads_small c.args.types.now c.args.of.now (drop c.args.start (g.I.Indices.listed c.args.indices.now))) c.loop-place.invariant c.at.result c.at.ensures enters

pub loop-place-preserved : goal.loop-place-preserved
loop-place-preserved g c =
    let enters = sym c.entered.ensures ∙ ap (λ (o : Option (Bor Ty)). option_copied o) c.in-Some.is in
    walk_leads c.args.types.now c.loop-place.ty.now (g.I.Indices.listed c.args.indices.now) c.loop-place.place (leads_small c.args.types.now c.args.of.now (drop c.args.start (g.I.Indices.listed c.args.indices.now))) c.loop-place.invariant c.at.result c.at.ensures c.in-Some.further.now enters
    (sym c.is_small.ensures ∙ c.if-not-is_small.false)
