use Rattle.std.proofs.Common.{rules}
use Rattle.ir_values.proofs.Signs.{remainder_by_signs}
use Rattle.ir_values.proofs.results.remainder.Goals as goal

pub returns : goal.returns
returns c = search (rules, remainder_by_signs)
