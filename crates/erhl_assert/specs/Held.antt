-- How the hint of a block is held.
use Rattle.std.specs.Prelude.{[], None}
use Rattle.ir_types.specs.declared.names.Name.{Name}
use Rattle.erhl_assert.specs.declared.held.Held.{Held}
use Rattle.erhl_assert.specs.declared.held.Held.TheVariants.{Bare, Whole}
use Rattle.erhl_assert.specs.declared.hints.HintBlock.{HintBlock}

-- the hint that says nothing of the block of that name: all lines stand on both sides, and nothing is claimed
abbrev pub bare : Name → HintBlock
bare name = record { at = name; lines = None; entry = record { src = []; tgt = []; diff = [] }; steps = []; edges = [] }

abbrev pub hint_held : Held → HintBlock
hint_held (Bare name) = bare name
hint_held (Whole hint) = hint
