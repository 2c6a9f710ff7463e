use Rattle.std.proofs.Common.{◌<◌, ◌∙◌, ◌++◌, ap, arith, length, rules, sym}
use Rattle.std.proofs.lemmas.List.{get_or-map}
use Rattle.definedness.proofs.Graphs.{length-map}
use Rattle.definedness.specs.DefinitionLists.Shown.{list_named, lists_named}
use Rattle.ir_core.specs.declared.functions.Block.{Block}
use Rattle.crell_program.specs.DefinitionText.Lines.{start_text}
use Rattle.crell_program.proofs.DefinitionText.Writing.{all_lines_told, one_line_more}
use Rattle.crell_program.proofs.definition_text.text.push_starts.Goals as goal

pub loop-at-preserved : goal.loop-at-preserved
loop-at-preserved c =
    let bs = c.args.blocks.now in
    let ls = c.args.lists.now in
    let k = c.loop-at.at in
    let list = c.index-lists-at.result in
    let in_blocks : k < length bs = search rules in
    let in_lent : k < length ls = omega (arith, c.requires, in_blocks) in
    let in_lists : k < length (lists_named ls) = omega (arith, length-map list_named ls, in_lent) in
    let at = ap list_named c.index-lists-at.is ∙ sym (get_or-map list_named ls k list (list_named list) in_lent) in
    one_line_more c.args.function.now bs (lists_named ls) k c.index-blocks-at.result (list_named list) c.loop-at.text.items _ _
    in_blocks in_lists c.index-blocks-at.is at
    (c.in_ok-push_start.ensures ∙ ap (λ (b : Block). c.loop-at.text.items ++ start_text c.args.function.now b.name (list_named list)) (sym c.index-blocks-at.is))
    c.loop-at.invariant

pub returns : goal.returns
returns c =
    all_lines_told c.args.function.now c.args.blocks.now (lists_named c.args.lists.now) c.loop-at.at c.loop-at.text.items _ (search rules) c.loop-at.invariant
