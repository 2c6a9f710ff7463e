use Rattle.std.proofs.Common.{Some, ap, ◌∙◌, sym}
use Rattle.std.specs.Option.{option_map}
use Rattle.block_memory.specs.Memory.{Cell, cell_at}
use Rattle.block_memory.proofs.Places.{found_at, not_at}
use Rattle.block_memory.proofs.blocks.Blocks.align.Goals as goal

pub returns-in-Some : goal.returns-in-Some
returns-in-Some c =
    ap Some c.align.ensures
    ∙ ap (option_map (λ (x : Cell). x.align))
    (sym (found_at c.deref.result.now c.args.block c.in-Some.cell.now c.in-Some.ensures.lookup.3.0 c.in-Some.ensures.lookup.1) ∙ ap (λ m. cell_at m c.args.block) (c.deref.ensures.value ∙ c.self.view_is))

pub returns-in-None : goal.returns-in-None
returns-in-None c =
    ap (option_map (λ (x : Cell). x.align))
    (sym (not_at c.deref.result.now c.args.block c.in-None.ensures.lookup.3) ∙ ap (λ m. cell_at m c.args.block) (c.deref.ensures.value ∙ c.self.view_is))
