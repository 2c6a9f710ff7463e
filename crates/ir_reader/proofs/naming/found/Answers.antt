-- What is noted is what is first at fault.
use Rattle.std.proofs.Common.{◌∙◌, ap, subst, sym}
use Rattle.derivation_cursor.specs.At.{ahead_of}
use Rattle.derivation_cursor.specs.declared.cursor.Cursor.{Cursor}
use Rattle.fault_walk.specs.First.{IsFirst}
use Rattle.module_derivations.specs.Empty.{made}
use Rattle.module_grammar.specs.declared.items.ModuleText.{ModuleText}
use Rattle.module_spelling.specs.Blocks.{large_places}
use Rattle.named_modules.specs.Built.{module_of}
use Rattle.named_modules.specs.Faults.{Heads, heads_of}
use Rattle.ir_reader.proofs.Judged.{judged_by}
use Rattle.ir_reader.proofs.naming.found.Goals as goal
use Rattle.ir_reader.specs.Naming.{IsJudged}

abbrev whole : Cursor → ModuleText
whole k = (made (ahead_of k)).whole

pub note_module-requires-clause-module : goal.note_module-requires-clause-module
note_module-requires-clause-module g c =
    c.requires.module ∙ ap (λ k. module_of (g.S.Gaps.declared c.args.around.now) (whole k)) (sym c.fork.ensures)

pub returns : goal.returns
returns g c =
    let called = g.S.Gaps.called c.args.around.now in
    let declared = g.S.Gaps.declared c.args.around.now in
    let heads = c.requires.sight ∙ ap heads_of (c.requires.module ∙ ap (λ k. module_of declared (whole k)) (sym c.fork.ensures)) in
    let large = subst (λ (h : Heads). IsFirst (large_places h (whole c.fork.result)) c.in_ok-told.told.large) heads c.in_ok-told.ensures.large in
    subst (λ k. IsJudged called declared (whole k) c.first_of.result) c.fork.ensures
    (judged_by called declared (whole c.fork.result) c.in_ok-told.told.fault c.in_ok-told.told.large c.first_of.result c.first_of.ensures
    c.in_ok-told.ensures.none c.in_ok-told.ensures.first large)
