-- A rule that has no role changes nothing.
use Rattle.std.proofs.Common.{◌≡◌, ℕ, Option, None, Some, refl, ap, ◌∙◌}
use Rattle.ir_core.specs.declared.limits.Limit.{Limit}
use Rattle.derivation_writer.specs.TokenLimits.Roles.{role_of}
use Rattle.derivation_writer.specs.TokenLimits.Watched.{begun, begun_as, reduced, reduced_as, unless_marked}
use Rattle.derivation_writer.specs.declared.token_limits.role.Role.TheVariants.{Plain}
use Rattle.derivation_writer.specs.declared.token_limits.watch.Watch.{Watch}

either_same : (m : Option Limit) (w : Watch) → w ≡ unless_marked m w w
either_same None w = refl
either_same (Some l) w = refl

pub plain_begun : (w : Watch) (p : ℕ) → Plain ≡ role_of p → w ≡ begun w p
plain_begun w p e = either_same w.mark w ∙ ap (λ r. begun_as r w) e

pub plain_reduced : (w : Watch) (p : ℕ) → Plain ≡ role_of p → w ≡ reduced w p
plain_reduced w p e = either_same w.mark w ∙ ap (λ r. reduced_as r w) e
