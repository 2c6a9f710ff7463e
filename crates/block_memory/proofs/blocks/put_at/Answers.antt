use Rattle.std.proofs.Common.{arith}
use Rattle.block_memory.proofs.Places.{put_part}
use Rattle.block_memory.proofs.blocks.put_at.Goals as goal

pub returns : goal.returns
returns c = put_part c.args.bytes.now c.args.start c.args.count _ c.args.value c.put_value.new.bytes (omega arith) (omega arith) c.put_value.ensures
