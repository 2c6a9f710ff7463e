-- Registers as they are kept, and what setting one makes of them.
use Rattle.std.proofs.Common.{◌≡◌, ◌∙◌, ℕ, zero, suc, Bool, true, false, cond, List, [], ◌∷◌, length, drop, slice_get, Option, Some, refl, sym, ap, subst, arith}
use Rattle.std.specs.Map.{lookup}
use Rattle.std.proofs.Math.ListN.{drop_of_length-le}
use Rattle.ir_types.specs.declared.names.Name.{Name}
use Rattle.ir_types.specs.NameLaws.{name_equivalence}
use Rattle.ir_types.specs.Same.{same_name}
use Rattle.ir_core.specs.declared.values.Kind.{Kind}
use Rattle.ir_core.specs.declared.values.Value.{Value}
use Rattle.ir_values.specs.Values.{IsInKindOf}
use Rattle.ir_machine.specs.Kept.{entry_held, held_of, kept_registers}
use Rattle.ir_machine.specs.Registers.{AreInKind, Registers, holding}
use Rattle.ir_machine.specs.Registers as meaning
use Rattle.ir_machine.proofs.Runs.{set_in_kind}

abbrev pub Entries : Type 0
Entries = List (Name × Option (Kind × Value))

-- one entry is put, and the others stay
abbrev pub Puts : Entries → Entries → Name → Option (Kind × Value) → Type 0
Puts old new x held = (q : Name) → lookup (same_name q) new ≡ cond (same_name x q) (Some held) (lookup (same_name q) old)

held_at_once : (t : Bool) (held : Option (Kind × Value)) (o : Option (Option (Kind × Value)))
    → entry_held (cond t (Some held) o) ≡ cond t (held_of held) (entry_held o)
held_at_once true held o = refl
held_at_once false held o = refl

module _ (old new : Entries) (x : Name) (held : Option (Kind × Value)) (puts : Puts old new x held) (k : Option Kind) (v : Value) (is : held_of held ≡ holding k v) where
  -- to put a name's entry is to set its register
  pub put_sets : kept_registers new ≡ meaning.set (kept_registers old) x k v
  put_sets = λ i q. at q i
    where
      at : (q : Name) → kept_registers new q ≡ meaning.set (kept_registers old) x k v q
      at q = ap entry_held (puts q) ∙ held_at_once (same_name x q) held (lookup (same_name q) old) ∙ ap (λ h. cond (same_name x q) h (kept_registers old q)) is

  pub put_in_kind : IsInKindOf k v → AreInKind (kept_registers old) → AreInKind (kept_registers new)
  put_in_kind p h = subst (λ (r : Registers). AreInKind r) (sym put_sets) (set_in_kind (kept_registers old) x k v h p)

-- ---- entries copied from the last to the first

next_copied : (es : Entries) (i : ℕ) (e : Name × Option (Kind × Value)) → slice_get es i ≡ Some e → drop i es ≡ e ∷ drop (suc i) es
next_copied [] i e h = cc
next_copied (x ∷ es) zero e h = let same : x ≡ e = cc in ap (λ y. y ∷ es) same
next_copied (x ∷ es) (suc i) e h = next_copied es i e h

-- the entries from a place on are copied
abbrev pub AreCopied : Entries → Entries → ℕ → Type 0
AreCopied copy es i = (q : Name) → lookup (same_name q) copy ≡ lookup (same_name q) (drop i es)

pub none_copied : (es : Entries) → AreCopied [] es (length es)
none_copied es q = sym (ap (lookup (same_name q)) (drop_of_length-le es {i = length es} (omega arith)))

pub more_copied : (copy new es : Entries) (i j : ℕ) (name x : Name) (held : Option (Kind × Value)) → slice_get es i ≡ Some (name, held) → j ≡ suc i → x ≡ name
    → AreCopied copy es j → Puts copy new x held → AreCopied new es i
more_copied copy new es i j name x held at is same before puts q =
    puts q
    ∙ ap (λ o. cond (same_name x q) (Some held) o) (before q ∙ ap (λ k. lookup (same_name q) (drop k es)) is)
    ∙ ap (λ t. cond t (Some held) (lookup (same_name q) (drop (suc i) es))) (ap (λ y. same_name y q) same ∙ name_equivalence.symm name q)
    ∙ ap (lookup (same_name q)) (sym (next_copied es i (name, held) at))

pub all_copied : (copy es : Entries) → AreCopied copy es 0 → kept_registers copy ≡ kept_registers es
all_copied copy es h = λ i q. entry_held (h q i)
