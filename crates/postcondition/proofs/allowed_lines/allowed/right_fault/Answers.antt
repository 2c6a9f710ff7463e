use Rattle.postcondition.proofs.AllowedLines.Trapping.{binary_told}
use Rattle.postcondition.proofs.allowed_lines.allowed.right_fault.Goals as goal

pub returns-in-Binary-Binary : goal.returns-in-Binary-Binary
returns-in-Binary-Binary g c =
    binary_told c.args.types.now c.args.known.now c.args.s.now c.args.t.now c.in-Binary-Binary.a c.in-Binary-Binary.b c.in-Binary-Binary.is-0 c.in-Binary-Binary.is-1
    c.binary_fault.result c.binary_fault.ensures
