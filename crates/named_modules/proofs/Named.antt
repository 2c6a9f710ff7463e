-- What is built for a name is what is written there.
use Rattle.std.proofs.Common.{◌≡◌, ℕ, ◌<◌, ◌^◌, Bool, true, false, cond, Option, Some, None, refl, arith, ltb-true}
use Rattle.std.specs.Prelude.{nat_lt}
use Rattle.ir_types.specs.declared.names.Name.{Name}
use Rattle.module_grammar.specs.declared.places.Placed.{Placed}
use Rattle.named_modules.specs.Built.{label_name, name_due}
use Rattle.named_modules.specs.Values.{IsNamed}

small : (due : ℕ) (b : Bool) → nat_lt due (2 ^ 32) ≡ b → cond b due 0 < 2 ^ 32
small due true e = ltb-true due (2 ^ 32) e
small due false e = omega arith

pub name_named : (due : ℕ) (w : Option (Placed Name)) → IsNamed w (name_due due w)
name_named due None = small due (nat_lt due (2 ^ 32)) refl
name_named due (Some w) = refl

pub label_named : (due : ℕ) (w : Option (Placed Name)) → IsNamed w (name_due due (label_name w))
label_named due None = small due (nat_lt due (2 ^ 32)) refl
label_named due (Some w) = refl
