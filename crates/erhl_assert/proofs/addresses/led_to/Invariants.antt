use Rattle.std.proofs.Common.{◌≡◌, drop, map}
use Rattle.ir_core.specs.Typing.{index_of, led_to}
use Rattle.erhl_assert.proofs.addresses.led_to.Given as goal

-- the indices that are left lead on
abbrev pub invariant-loop-index : goal.invariant-loop-index
invariant-loop-index l = led_to l.types l.ty (map index_of (drop l.index-index l.indices)) ≡ led_to l.types l.of (map index_of l.indices)
