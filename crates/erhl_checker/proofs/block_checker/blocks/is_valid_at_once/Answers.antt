use Rattle.std.proofs.Common.{◌∙◌, sym, rules}
use Rattle.line_align.specs.Lent.{lent_block}
use Rattle.erhl_checker.specs.CheckedPair.Asked.{asked}
use Rattle.erhl_checker.specs.CheckedPair.Progress.{names_lent}
use Rattle.erhl_checker.proofs.CheckedPair.Agreements.{empty_too, agreeing_blocks}
use Rattle.erhl_checker.proofs.block_checker.blocks.is_valid_at_once.Goals as goal

pub returns : goal.returns
returns g c = λ valid.
    agreeing_blocks (asked _ _ c.args.pair.now) (lent_block c.args.block.now) (names_lent c.args.labels.now) c.requires.labels
    (empty_too c.args.hint.now _ c.requires.parts (search rules)) (sym c.in_ok-agree.ensures ∙ valid)
