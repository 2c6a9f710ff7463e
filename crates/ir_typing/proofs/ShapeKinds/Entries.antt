-- An entry more of an index by names that are lent.
use Rattle.std.proofs.Common.{◌≡◌, ◌∙◌, cond, List, Option, None, Some, refl, ap}
use Rattle.std.specs.Borrow.{Bor}
use Rattle.std.specs.HashMap.{HashMap, Updates}
use Rattle.std.specs.Map.{lookup}
use Rattle.ir_types.specs.declared.names.Name.{Name}
use Rattle.ir_types.specs.declared.ty.Ty.{Ty}
use Rattle.ir_types.specs.NameLaws.{name_equivalence}
use Rattle.ir_types.specs.Same.{same_name}
use Rattle.ir_typing.specs.ShapeKinds.Typed.{or_else}

-- that name has the value, and each other name what it had
abbrev pub Puts : {V : Type 0} → List (Bor Name × V) → List (Bor Name × V) → Bor Name → V → Type 0
Puts old new name value =
    (n : Name) → lookup (λ (q : Bor Name). same_name n q.now) new ≡ cond (same_name n name.now) (Some value) (lookup (λ (q : Bor Name). same_name n q.now) old)

pub puts : {V S : Type 0} (old new : HashMap (Bor Name) V S) (name : Bor Name) (value : V) → Updates (λ (x y : Bor Name). same_name x.now y.now) old new name (Some value)
    → Puts old.entries new.entries name value
puts old new name value updates n =
    updates.0 (record { ref_ptr = name.ref_ptr; now = n })
    ∙ ap (λ b. cond b (Some value) (lookup (λ (q : Bor Name). same_name n q.now) old.entries)) (name_equivalence.symm name.now n)

pub or_none : (o : Option (Option Ty)) → or_else o None ≡ o
or_none None = refl
or_none (Some t) = refl
