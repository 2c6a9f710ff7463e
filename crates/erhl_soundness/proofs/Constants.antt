-- Constants point into blocks of globals alone, so where each of these is in a pair with itself, every constant is related to itself.
use Rattle.std.proofs.Common.{◌<◌, ℕ, Option, None, Some, length, refl}
use Rattle.ir_types.specs.declared.ty.Ty.{Ty}
use Rattle.ir_core.specs.declared.operands.Const.{Const}
use Rattle.ir_core.specs.declared.values.Kind.{Kind}
use Rattle.ir_core.specs.declared.values.Value.{Value}
use Rattle.ir_core.specs.declared.values.Value.TheVariants.{Num, Ptr, Bare, Undef, Poison}
use Rattle.ir_values.specs.Constants.{Scope, constant_value}
use Rattle.ir_values.specs.Related.{ArePaired, IsRelated, Pairing}
use Rattle.ir_machine.specs.Keeps.{IsAmong}
use Rattle.ir_machine.specs.Registers.{constant_at}
use Rattle.ir_machine.proofs.HeldConstants.{constant_good}

module _ (ps : Pairing) where
  self_related : (v : Value) → IsAmong (λ b. ArePaired ps b b) v → IsRelated ps v v
  self_related (Ptr b o) h = (b, h, refl)
  self_related (Num n) h = refl
  self_related (Bare n) h = refl
  self_related Undef h = tt
  self_related Poison h = tt

  pub constant_related : (scope : Scope) → ((k : ℕ) → k < length scope.globals → ArePaired ps k k) → (t : Ty) (k : Option Kind) (c : Const)
      → IsRelated ps (constant_at scope t k c) (constant_at scope t k c)
  constant_related scope globals t None c = tt
  constant_related scope globals t (Some k) c = self_related (constant_value scope t c) (constant_good (λ b. ArePaired ps b b) scope globals t c).1
