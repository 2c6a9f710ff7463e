use Rattle.std.proofs.Common.{◌≡◌, ◌++◌, drop, length, map}
use Rattle.definedness.specs.Along.{left_along, use_of}
use Rattle.definedness.proofs.uses.note_lines.Given as goal

-- the uses so far and those of the lines that are left are all
abbrev pub invariant-loop-instr : goal.invariant-loop-instr
invariant-loop-instr l =
    (map use_of l.uses.items ++ left_along l.known.params l.known.own l.block l.line (drop l.instr-index l.block.body) l.block.term
    ≡ map use_of l.initial.uses.items ++ left_along l.initial.known.params l.initial.known.own l.block (length l.block.phis) l.block.body l.block.term)
    × (l.known.params ≡ l.initial.known.params)
