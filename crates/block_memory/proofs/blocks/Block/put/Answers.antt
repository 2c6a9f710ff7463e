use Rattle.std.proofs.Common.{arith, ap, ◌∙◌, sym, [], ◌∷◌, List}
use Rattle.ir_core.specs.declared.values.Byte.{Byte}
use Rattle.block_memory.specs.Memory.{with_bytes}
use Rattle.block_memory.proofs.Places.{put_inside, put_outside}
use Rattle.block_memory.proofs.blocks.Block.put.Goals as goal

pub returns-then-place-len : goal.returns-then-place-len
returns-then-place-len c =
    ap (λ (ys : List Byte). record { align = c.self.inside.align; live = c.self.inside.live; bytes = ys })
    (put_inside c.self.inside.bytes.items c.args.place c.args.byte (omega (arith, c.self.inside.bytes.ok.0)))
    ∙ ap (with_bytes c.args.place (c.args.byte ∷ [])) c.self.view_is

pub returns-else-place-len : goal.returns-else-place-len
returns-else-place-len c =
    sym c.self.view_is
    ∙ ap (λ (ys : List Byte). record { align = c.self.inside.align; live = c.self.inside.live; bytes = ys })
    (put_outside c.self.inside.bytes.items c.args.place (c.args.byte ∷ []) (omega (arith, c.self.inside.bytes.ok.0)))
    ∙ ap (with_bytes c.args.place (c.args.byte ∷ [])) c.self.view_is
