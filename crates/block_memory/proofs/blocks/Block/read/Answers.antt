use Rattle.std.proofs.Common.{◌≡◌, ◌+◌, ◌-◌, ap, ◌∙◌, arith, take, drop, List}
use Rattle.block_memory.specs.Bytes.{byte_count, value_of}
use Rattle.ir_core.specs.declared.values.Byte.{Byte}
use Rattle.block_memory.proofs.blocks.Block.read.Goals as goal

pub returns-clause-value : goal.returns-clause-value
returns-clause-value c =
    let n : (c.args.start + c.byte_count.result) - c.args.start ≡ c.byte_count.result = omega arith in
    c.value_of.ensures.value ∙ ap (λ m. value_of c.args.kind (take m (drop c.args.start c.deref.result.now))) (n ∙ c.byte_count.ensures)
    ∙ ap (λ (xs : List Byte). value_of c.args.kind (take (byte_count c.args.kind) (drop c.args.start xs))) (c.deref.ensures.value ∙ ap (λ x. x.bytes) c.self.view_is)
