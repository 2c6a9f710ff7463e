-- What is found among a module's functions is its first fault.
use Rattle.std.proofs.Common.{◌≡◌, ◌<◌, ◌^◌, ℕ, suc, List, [], ◌∷◌, get_or, Fits, w8, Result, None, Ok, Err, IfOk, IfErr, arith}
use Rattle.ir_core.specs.declared.modules.Module.{Module}
use Rattle.ir_core.specs.Ranges.{AreBytes}
use Rattle.ir_core.specs.declared.limits.Limit.{Limit}
use Rattle.ir_core.specs.declared.limits.Limit.TheVariants as limit
use Rattle.ir_shape.specs.Shape.{first_fault}
use Rattle.ir_typing.specs.ModuleLimits.Passed.{IsPassed, IsWithin}
use Rattle.ir_reader.specs.declared.fault.ModuleFault.{ModuleFault}
use Rattle.ir_reader.specs.declared.fault.ModuleFault.TheVariants as fault
use Rattle.ir_reader.specs.Found.{HasFault, ShapeAmong, UndefinedAmong}

below_byte : (b : ℕ) → Fits w8 b → b < 2 ^ 8
below_byte b fit = omega (arith, fit)

pub are_bytes : (bytes : List ℕ) → ((i : ℕ) → Fits w8 (get_or bytes i 0)) → AreBytes bytes
are_bytes [] fit = tt
are_bytes (b ∷ bytes) fit = (below_byte b (fit 0), are_bytes bytes (λ i. fit (suc i)))

-- a module within the limits passes none
pub never_passed : (m : Module) (l : Limit) → IsWithin m → IsPassed m l → ⊥
never_passed m limit.Depth within passed = passed within.0
never_passed m limit.Lines within passed = passed.1 within.1
never_passed m limit.Block within passed = passed.2 within.2
never_passed m limit.Text within passed = passed
never_passed m limit.Json within passed = passed
never_passed m limit.Facts within passed = passed

-- a fault of shape is the module's first
pub of_shape : (m : Module) (e : ModuleFault) → ShapeAmong m e → HasFault m e
of_shape m (fault.Text f) among = among
of_shape m (fault.Shape f) among = among
of_shape m (fault.Undefined function u) among = absurd among
of_shape m fault.Memory among = tt

of_uses : (m : Module) → first_fault m ≡ None → (e : ModuleFault) → UndefinedAmong m.functions e → HasFault m e
of_uses m faultless (fault.Text f) among = among
of_uses m faultless (fault.Shape f) among = absurd among
of_uses m faultless (fault.Undefined function u) among = (faultless, among)
of_uses m faultless fault.Memory among = tt

-- where the module has shape, a use that isn't defined is its first fault
pub undefined_is_first : {A : Type 0} (m : Module) → first_fault m ≡ None → (r : Result A ModuleFault) → IfErr r (UndefinedAmong m.functions)
    → IfErr r (HasFault m)
undefined_is_first m faultless (Ok a) among = tt
undefined_is_first m faultless (Err e) among = of_uses m faultless e among

pub always_ok : {A E : Type 0} (r : Result A E) (P : Type 0) → P → IfOk r (λ _. P)
always_ok (Ok a) P p = p
always_ok (Err e) P p = tt
