use Rattle.std.proofs.Common.{arith, ap, ◌∙◌, length, get_or, set, ◌∷◌, []}
use Rattle.block_memory.specs.Memory.{Memory, with_bytes}
use Rattle.block_memory.proofs.Places.{changed_at, nothing_updated}
use Rattle.block_memory.proofs.blocks.Blocks.write_byte.Goals as goal

pub returns-then-block-len : goal.returns-then-block-len
returns-then-block-len c =
    let long = ap length c.self.view_is in
    ap (λ (m : Memory). set m c.args.block c.put.new.self) c.self.view_is ∙ ap (λ x. set c.args.self.now c.args.block x) c.put.ensures
    ∙ changed_at (with_bytes c.args.place (c.args.byte ∷ [])) c.args.self.now c.args.block c.index_mut.result.now (omega (arith, c.self.inside.cells.ok.0))
    (c.index_mut.ensures.value ∙ ap (λ m. get_or m c.args.block c.index_mut.result.now) c.self.view_is)

pub returns-else-block-len : goal.returns-else-block-len
returns-else-block-len c =
    let long = ap length c.self.view_is in
    nothing_updated (with_bytes c.args.place (c.args.byte ∷ [])) c.args.self.now c.args.block (omega (arith, c.self.inside.cells.ok.0))
