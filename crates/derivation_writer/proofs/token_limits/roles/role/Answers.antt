use Rattle.std.proofs.Common.{◌∙◌}
use Rattle.derivation_writer.proofs.TokenLimits.Listed.{role_listed}
use Rattle.derivation_writer.specs.TokenLimits.Roles.{role_of}
use Rattle.derivation_writer.proofs.token_limits.roles.role.Goals as goal

pub returns : goal.returns
unfolding role_of
returns c = c.role_at.ensures ∙ role_listed c.args.rule
