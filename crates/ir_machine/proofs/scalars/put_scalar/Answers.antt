use Rattle.std.proofs.Common.{◌∙◌, ◌≡◌, ap, rules}
use Rattle.block_memory.specs.Bytes.{byte_count}
use Rattle.ir_machine.proofs.Laying.{first_over, over_all}
use Rattle.ir_machine.proofs.scalars.put_scalar.Goals as goal

pub returns : goal.returns
returns c =
    let s = c.args.scalar in
    let all : c.loop-place.place ≡ byte_count s.kind = search rules in
    c.loop-place.invariant ∙ ap (λ n. first_over s.at c.args.value n 0 c.args.bytes.now) all ∙ over_all s c.args.value 0 c.args.bytes.now
