use Rattle.std.proofs.Common.{ap, ◌∙◌, length, get_or, arith}
use Rattle.ir_values.specs.declared.operations.Outcome.TheVariants.{Gives}
use Rattle.block_memory.proofs.Places.{place_there, place_inside, load_answer}
use Rattle.block_memory.proofs.blocks.Blocks.load_at.Goals as goal

pub index-requires : goal.index-requires
index-requires c =
    let h = place_there c.args.self.now c.args.kind c.args.ptr.now c.args.align c.in-Some.block c.in-Some.start c.in-Some.ensures.some.0 c.in-Some.ensures.some.1 in
    omega (arith, ap length c.self.view_is, c.self.inside.cells.ok.0)

pub read-requires-clause-inside : goal.read-requires-clause-inside
read-requires-clause-inside c =
    place_inside c.args.self.now c.args.kind c.args.ptr.now c.args.align c.in-Some.block c.in-Some.start c.in-Some.ensures.some.0 c.in-Some.ensures.some.1
    c.index.result.now (c.index.ensures ∙ ap (λ m. get_or m c.in-Some.block c.index.result.now) c.self.view_is)

pub returns-in-Some-clause-value : goal.returns-in-Some-clause-value
returns-in-Some-clause-value c =
    ap Gives c.read.ensures.value
    ∙ load_answer c.args.self.now c.args.kind c.args.ptr.now c.args.align c.in-Some.block c.in-Some.start c.in-Some.ensures.some.0 c.in-Some.ensures.some.1
    c.index.result.now (c.index.ensures ∙ ap (λ m. get_or m c.in-Some.block c.index.result.now) c.self.view_is)
