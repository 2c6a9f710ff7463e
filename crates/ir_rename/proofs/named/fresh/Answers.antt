use Rattle.std.proofs.Common.{◌≡◌, ◌∙◌, ◌-◌, ◌+◌, suc, true, false, length, sym, ap, arith}
use Rattle.ir_types.specs.declared.names.Name.TheVariants.{Text}
use Rattle.ir_core.specs.NameIndexes.Among.{is_among}
use Rattle.ir_rename.specs.Lent.{lent}
use Rattle.ir_rename.specs.Named.{free_in}
use Rattle.ir_rename.proofs.Tries.{free_next, free_now}
use Rattle.ir_rename.proofs.named.fresh.Goals as goal

pub returns-then-not-is_taken : goal.returns-then-not-is_taken
returns-then-not-is_taken c =
    let names = lent c.args.taken.now in
    let text = c.loop-tried.text.items in
    let left = length c.args.taken.now - c.loop-tried._tried in
    let is : c.in_ok-from_slice.field-0 ≡ text = c.in_ok-from_slice.ensures ∙ c.as_slice.ensures.value in
    let free : is_among (Text text) names ≡ false =
    ap (λ t. is_among (Text t) names) (sym is) ∙ sym c.is_taken.ensures ∙ c.if-not-is_taken.true in
    ap Text (is ∙ sym (free_now left names text (omega (arith, c.loop-tried-test.true)) free) ∙ c.loop-tried.invariant.1)

pub loop-tried-preserved : goal.loop-tried-preserved
loop-tried-preserved c =
    let names = lent c.args.taken.now in
    let text = c.loop-tried.text.items in
    let left = length c.args.taken.now - (c.loop-tried._tried + 1) in
    let is : c.in_ok-from_slice.field-0 ≡ text = c.in_ok-from_slice.ensures ∙ c.as_slice.ensures.value in
    let taken : is_among (Text text) names ≡ true =
    ap (λ t. is_among (Text t) names) (sym is) ∙ sym c.is_taken.ensures ∙ c.if-not-is_taken.false in
    let one : suc left ≡ length c.args.taken.now - c.loop-tried._tried = omega (arith, c.loop-tried-test.true) in (
      omega (arith, c.loop-tried-test.true),
      ap (free_in left names) c.in_ok-push.ensures.items ∙ sym (free_next left names text taken) ∙ ap (λ n. free_in n names text) one ∙ c.loop-tried.invariant.1,
    )
