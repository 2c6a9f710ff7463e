use Rattle.std.proofs.Common.{◌≡◌, ◌∙◌, ◌+◌, ◌++◌, [], ◌∷◌, take, sym, ap}
use Rattle.std.proofs.lemmas.List.{take_more}
use Rattle.erhl_assert.specs.declared.hints.HintBlock.{HintBlock}
use Rattle.erhl_checker.proofs.Numbering.{numbered_on}
use Rattle.erhl_checker.proofs.hint_lists.HintLists.of.Goals as goal

pub loop-block-preserved : goal.loop-block-preserved
loop-block-preserved c =
    let blocks = c.args.blocks.now in
    let i = c.loop-block.block-index in
    let block = c.block-item.result in
    numbered_on c.loop-block.lists.items c.number_for.new.lists.items c.loop-block.numbers.items c.push.new.self.items c.in_ok-number.number
    (take i blocks) (take (i + 1) blocks) block
    c.loop-block.invariant c.in_ok-number.ensures.keeps c.in_ok-number.ensures.numbered c.in_ok-push.ensures.items
    (take_more blocks i block c.loop-block-test.true ∙ ap (λ (b : HintBlock). take i blocks ++ b ∷ []) (sym c.block-item.is))
