-- The `:` of a label is no part of its name.
use Rattle.std.proofs.Common.{◌≡◌, ℕ, Option, None, Some, refl}
use Rattle.ir_types.specs.declared.names.Name.{Name}
use Rattle.module_grammar.specs.declared.places.Placed.{Placed}
use Rattle.named_modules.specs.Built.{due_behind, label_name, name_due}

pub named : (d : ℕ) (l : Option (Placed Name)) → name_due d (label_name l) ≡ name_due d l
named d None = refl
named d (Some w) = refl

pub counted : (d : ℕ) (l : Option (Placed Name)) → due_behind d (label_name l) ≡ due_behind d l
counted d None = refl
counted d (Some w) = refl
