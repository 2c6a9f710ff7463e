use Rattle.std.proofs.Common.{rules}
use Rattle.postcondition.proofs.allowed_lines.matching.atoms_matched.Goals as goal

pub returns-then-same_ty : goal.returns-then-same_ty
returns-then-same_ty g c = search rules
