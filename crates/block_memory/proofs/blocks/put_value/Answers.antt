use Rattle.std.proofs.Common.{arith, ap, ◌∙◌, set, take, ◌+◌}
use Rattle.block_memory.proofs.Steps.{put_more}
use Rattle.block_memory.proofs.blocks.put_value.Goals as goal

pub loop-place-preserved : goal.loop-place-preserved
loop-place-preserved c =
    ap (λ x. take (c.loop-place.place + 1) (set c.loop-place.bytes c.loop-place.place x)) c.byte_at.ensures
    ∙ put_more c.args.value c.loop-place.bytes c.loop-place.place (omega arith) c.loop-place.invariant
