use Rattle.std.proofs.Common.{◌≡◌, ◌∙◌, ◌+◌, ◌-◌, sym, ap, length, drop, map, arith, rules}
use Rattle.std.specs.List.{range_with_len, zip}
use Rattle.block_memory.proofs.Places.{refilled}
use Rattle.ir_machine.specs.Scalars.{byte_among}
use Rattle.ir_machine.specs.Walks.{overlaid}
use Rattle.ir_machine.proofs.Laying.{laid_next, laid_past, none_laid, overlaid_long}
use Rattle.ir_machine.proofs.scalars.laid.Goals as goal

pub loop-place-init : goal.loop-place-init
loop-place-init c = c.in_ok-bytes.ensures ∙ none_laid c.args.scalars.now c.args.values.now c.args.size

pub loop-place-preserved-then-place-values : goal.loop-place-preserved-then-place-values
loop-place-preserved-then-place-values c =
    let place = c.loop-place.place in
    let items = c.loop-place.bytes.items in
    let held = zip c.args.scalars.now c.args.values.now in
    let old = c.deref_mut.ensures.value in
    let long : length c.put_scalar.new.bytes ≡ length items = ap length c.put_scalar.ensures ∙ overlaid_long _ 0 c.deref_mut.result.now ∙ ap length old in
    let more : place ≡ place - 1 + 1 = omega (arith, c.loop-place-test.true) in
    refilled items c.put_scalar.new.bytes c.loop-place.bytes.len (sym c.loop-place.bytes.ok.0) (long ∙ sym c.loop-place.bytes.ok.0)
    ∙ laid_next c.args.scalars.now c.args.values.now c.args.size (place - 1) items c.put_scalar.new.bytes _ _ (search rules) c.if-place-values.true (search rules) (search rules)
    (c.loop-place.invariant ∙ ap (λ n. map (byte_among (drop n held)) (range_with_len 0 c.args.size)) more) (c.put_scalar.ensures ∙ ap (overlaid _ 0) old)

pub loop-place-preserved : goal.loop-place-preserved
loop-place-preserved c =
    let place = c.loop-place.place in
    let held = zip c.args.scalars.now c.args.values.now in
    let more : place ≡ place - 1 + 1 = omega (arith, c.loop-place-test.true) in
    laid_past c.args.scalars.now c.args.values.now c.args.size (place - 1) c.loop-place.bytes.items c.loop-place.bytes.items (omega (arith, c.if-place-values.false))
    (c.loop-place.invariant ∙ ap (λ n. map (byte_among (drop n held)) (range_with_len 0 c.args.size)) more)
