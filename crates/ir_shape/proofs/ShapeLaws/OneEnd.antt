-- Of a module, and of a function beside one, there is one end.
use Rattle.std.proofs.Common.{◌≡◌, false, List, Option, Some, refl, ap, sym, ◌∙◌}
use Rattle.ir_core.specs.declared.functions.Function.{Function}
use Rattle.ir_core.specs.declared.limits.Limit.{Limit}
use Rattle.ir_core.specs.declared.limits.Limit.TheVariants as limit
use Rattle.ir_core.specs.declared.modules.Module.{Module}
use Rattle.ir_core.specs.Depths.{AreShallow, IsShallow, depths_in_function}
use Rattle.ir_core.specs.Sizes.{AreSmall, IsSmall, wanted_in_function}
use Rattle.ir_shape.specs.declared.fault.ShapeEnd.{ShapeEnd}
use Rattle.ir_shape.specs.declared.fault.ShapeEnd.TheVariants as end
use Rattle.ir_shape.specs.declared.fault.ShapeFault.{ShapeFault}
use Rattle.ir_shape.specs.Shape.{AreShort, IsEndWithin, IsFirstPassed, IsShort, faults_of, first_of, in_function}
use Rattle.ir_shape.specs.ShapeLaws.Laws.{EndsAreOne, EndsOfFunctionsAreOne, IsOfModule}

-- where none is passed, none is the first
none_is_first : (shallow short small : Type 0) (l : Limit) → shallow × short × small → IsFirstPassed shallow short small l → ⊥
none_is_first shallow short small limit.Depth within passed = passed within.0
none_is_first shallow short small limit.Lines within passed = passed.1 within.1
none_is_first shallow short small limit.Block within passed = passed.2 within.2
none_is_first shallow short small l within passed = passed

one_is_first : (shallow short small : Type 0) (a b : Limit) → IsFirstPassed shallow short small a → IsFirstPassed shallow short small b → a ≡ b
one_is_first shallow short small limit.Depth limit.Depth at_a at_b = refl
one_is_first shallow short small limit.Depth limit.Lines at_a at_b = absurd (at_a at_b.0)
one_is_first shallow short small limit.Depth limit.Block at_a at_b = absurd (at_a at_b.0)
one_is_first shallow short small limit.Depth b at_a at_b = absurd at_b
one_is_first shallow short small limit.Lines limit.Depth at_a at_b = absurd (at_b at_a.0)
one_is_first shallow short small limit.Lines limit.Lines at_a at_b = refl
one_is_first shallow short small limit.Lines limit.Block at_a at_b = absurd (at_a.1 at_b.1)
one_is_first shallow short small limit.Lines b at_a at_b = absurd at_b
one_is_first shallow short small limit.Block limit.Depth at_a at_b = absurd (at_b at_a.0)
one_is_first shallow short small limit.Block limit.Lines at_a at_b = absurd (at_b.1 at_a.1)
one_is_first shallow short small limit.Block limit.Block at_a at_b = refl
one_is_first shallow short small limit.Block b at_a at_b = absurd at_b
one_is_first shallow short small a b at_a at_b = absurd at_a

one_fault : (faults : List ShapeFault) (f g : ShapeFault) → first_of faults ≡ Some f → first_of faults ≡ Some g → f ≡ g
one_fault faults f g is_f is_g = let same : Some f ≡ Some g = sym is_f ∙ is_g in cc

one_end : (shallow short small : Type 0) (faults : List ShapeFault) (a b : ShapeEnd) → IsOfModule a → IsOfModule b
    → IsEndWithin shallow short small faults a → IsEndWithin shallow short small faults b → a ≡ b
one_end shallow short small faults (end.Fault f) (end.Fault g) p q at_a at_b = ap end.Fault (one_fault faults f g at_a.1 at_b.1)
one_end shallow short small faults (end.Fault f) (end.Limit l) p q at_a at_b = absurd (none_is_first shallow short small l at_a.0 at_b)
one_end shallow short small faults (end.Limit l) (end.Fault f) p q at_a at_b = absurd (none_is_first shallow short small l at_b.0 at_a)
one_end shallow short small faults (end.Limit k) (end.Limit l) p q at_a at_b = ap end.Limit (one_is_first shallow short small k l at_a at_b)
one_end shallow short small faults end.Memory b p q at_a at_b = absurd p
one_end shallow short small faults (end.Fault f) end.Memory p q at_a at_b = absurd q
one_end shallow short small faults (end.Limit k) end.Memory p q at_a at_b = absurd q

pub ends_are_one : EndsAreOne
ends_are_one m = one_end (IsShallow m) (AreShort m.functions) (IsSmall m) (faults_of m)

pub ends_of_functions_are_one : EndsOfFunctionsAreOne
ends_of_functions_are_one m f =
    one_end (AreShallow (depths_in_function f)) (IsShort f) (AreSmall m.types (wanted_in_function m.types f)) (in_function m false f)
