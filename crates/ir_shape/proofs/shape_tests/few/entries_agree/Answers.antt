use Rattle.std.proofs.Common.{◌≡◌, ◌∙◌, true, false, sym, rules}
use Rattle.ir_core.specs.declared.functions.Entry.{Entry}
use Rattle.ir_shape.specs.ShapeTests.Edges.{agrees, named}
use Rattle.ir_shape.specs.ShapeTests.Kinds.{froms_of}
use Rattle.ir_shape.proofs.ShapeTests.Tests.{all_more, all_stops}
use Rattle.ir_shape.proofs.shape_tests.few.entries_agree.Goals as goal

pub returns-then-not-agrees : goal.returns-then-not-agrees
returns-then-not-agrees c =
    let no : c.agrees.result ≡ false = search rules in
    all_stops (agrees (named c.args.edges.now) (froms_of c.args.entries.now)) (λ (e : Entry). e.from) c.args.entries.now c.loop-entry.entry-index c.entry-item.result (search rules) c.entry-item.is
    (sym c.agrees.ensures ∙ no) c.loop-entry.invariant

pub loop-entry-preserved : goal.loop-entry-preserved
loop-entry-preserved c =
    let yes : c.agrees.result ≡ true = search rules in
    all_more (agrees (named c.args.edges.now) (froms_of c.args.entries.now)) (λ (e : Entry). e.from) c.args.entries.now c.loop-entry.entry-index c.entry-item.result (search rules) c.entry-item.is
    (sym c.agrees.ensures ∙ yes) c.loop-entry.invariant
