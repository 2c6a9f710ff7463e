use Rattle.std.proofs.Common.{ap, ◌∙◌, get_or, set}
use Rattle.block_memory.specs.Memory.{Memory}
use Rattle.block_memory.specs.Memory.{ended}
use Rattle.block_memory.proofs.Places.{changed_at}
use Rattle.block_memory.proofs.blocks.Blocks.end_block.Goals as goal

pub returns : goal.returns
returns c =
    ap (λ (m : Memory). set m c.args.block c.end.new.self) c.self.view_is ∙ ap (λ x. set c.args.self.now c.args.block x) c.end.ensures
    ∙ changed_at ended c.args.self.now c.args.block c.index_mut.result.now c.requires
    (c.index_mut.ensures.value ∙ ap (λ m. get_or m c.args.block c.index_mut.result.now) c.self.view_is)
