use Rattle.std.proofs.Common.{◌≡◌, ◌∷◌, ◌++◌, [], length, rules}
use Rattle.block_memory.specs.Memory.{new_cell}
use Rattle.ir_machine.specs.State.{scope_of}
use Rattle.ir_machine.proofs.Starts.{global_next}
use Rattle.ir_machine.proofs.starting.put_globals.Goals as goal

pub loop-global-preserved : goal.loop-global-preserved
loop-global-preserved c =
    let bytes = c.in_ok-bytes.bytes.items in
    let align = c.align_or-align.result in
    let made : c.new_block.new.self ≡ c.loop-global.blocks ++ (new_cell (length bytes) align bytes ∷ []) = search rules in
    global_next (scope_of c.args.«module».now) c.args.input.now c.loop-global.blocks c.new_block.new.self _ c.as_slice-global-items.result.now c.loop-global.global-index
    c.global-item.result bytes align c.loop-global-test.true c.global-item.is c.in_ok-bytes.ensures c.align_or-align.ensures made c.loop-global.invariant
