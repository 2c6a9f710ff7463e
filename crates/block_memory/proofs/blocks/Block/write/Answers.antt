use Rattle.std.proofs.Common.{◌≡◌, ap, ◌∙◌, sym, length, List}
use Rattle.block_memory.specs.Bytes.{bytes_of}
use Rattle.block_memory.specs.Memory.{put, with_bytes}
use Rattle.ir_core.specs.declared.values.Byte.{Byte}
use Rattle.block_memory.proofs.Accesses.{put_length}
use Rattle.block_memory.proofs.Places.{refilled}
use Rattle.block_memory.proofs.blocks.Block.write.Goals as goal

pub returns : goal.returns
returns c =
    let old : c.deref_mut.result.now ≡ c.self.inside.bytes.items = c.deref_mut.ensures.value in
    let long : length c.put_at.new.bytes ≡ length c.self.inside.bytes.items =
    ap length c.put_at.ensures ∙ put_length c.deref_mut.result.now c.args.start (bytes_of c.args.count c.args.value) ∙ ap length old in
    let all = refilled c.self.inside.bytes.items c.put_at.new.bytes c.self.inside.bytes.len (sym c.self.inside.bytes.ok.0) (long ∙ sym c.self.inside.bytes.ok.0) in
    ap (λ (ys : List Byte). record { align = c.self.inside.align; live = c.self.inside.live; bytes = ys })
    (all ∙ c.put_at.ensures ∙ ap (λ (xs : List Byte). put xs c.args.start (bytes_of c.args.count c.args.value)) old)
    ∙ ap (with_bytes c.args.start (bytes_of c.args.count c.args.value)) c.self.view_is
