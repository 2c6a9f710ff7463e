use Rattle.std.proofs.Common.{◌<◌, ◌≤◌, ◌∙◌, ap, arith, length, sym}
use Rattle.std.proofs.lemmas.List.{get_or-map}
use Rattle.definedness.proofs.DefinitionLists.Listing.{named_many}
use Rattle.definedness.specs.DefinitionLists.Shown.{named}
use Rattle.crell_program.proofs.DefinitionText.Writing.{all_names_told, one_name_more}
use Rattle.crell_program.proofs.definition_text.text.push_registers.Goals as goal

pub loop-name-preserved : goal.loop-name-preserved
loop-name-preserved c =
    let names = c.args.names.now in
    let k = c.loop-name.name-index in
    let lent = c.name-item.result in
    let inside : k < length (named names) = omega (arith, named_many names, c.loop-name-test.true) in
    let at = ap (λ n. n.now) c.name-item.is ∙ sym (get_or-map (λ n. n.now) names k lent lent.now c.loop-name-test.true) in
    one_name_more (named names) k lent.now c.loop-name.text.items _ _ inside at c.in_ok-push_local.ensures c.loop-name.invariant

pub returns : goal.returns
returns c =
    let past : length (named c.args.names.now) ≤ c.loop-name.name-index = omega (arith, named_many c.args.names.now, c.loop-name-test.false) in
    all_names_told (named c.args.names.now) c.loop-name.name-index c.loop-name.text.items _ past c.loop-name.invariant
