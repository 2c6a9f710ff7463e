-- Runs, step by step: what a proof that one module refines another needs.
use Rattle.std.proofs.Common.{◌≡◌, Bool, true, false, cond, inl, inr, ℕ, zero, suc, ◌≤◌, List, [], ◌∷◌, ◌++◌, refl, sym, ap, ◌∙◌, subst, arith}
use Rattle.std.specs.Prelude.{Option, Some, None}
use Rattle.std.proofs.lemmas.List.{append_assoc, append-nil}
use Rattle.ir_types.specs.NameLaws.{same_name_refl}
use Rattle.ir_types.specs.Same.{same_name}
use Rattle.ir_types.specs.declared.names.Name.{Name}
use Rattle.ir_core.specs.declared.values.Value.{Value}
use Rattle.ir_core.specs.declared.values.Value.TheVariants.{Poison}
use Rattle.ir_core.specs.declared.values.Kind.{Kind}
use Rattle.ir_core.specs.declared.modules.Module.{Module}
use Rattle.ir_values.specs.Values.{IsInKind, same_kind}
pub use Rattle.ir_values.specs.Values.{IsInKindOf}
use Rattle.ir_values.proofs.KindLaws.{same_kind_true, same_kind_refl, poison_in_kind}
use Rattle.ir_machine.specs.declared.items.Item.{Item}
use Rattle.ir_machine.specs.declared.items.Item.TheVariants.{Wrong}
use Rattle.ir_machine.specs.Registers.{Held, Registers, read, held_at, holding, set, AreInKind}
use Rattle.ir_machine.specs.State.{State, Over}
use Rattle.ir_machine.specs.Machine.{Made, Follows, asks, ShowsFrom}
pub use Rattle.ir_machine.specs.Refinement.{MayShowFrom}

-- every run may show nothing
pub shows_nothing : (m : Module) (n : ℕ) (s : State) → ShowsFrom m n s []
shows_nothing m zero s = refl
shows_nothing m (suc n) s = inl refl

-- a step at the front
pub step_on : (m : Module) (n : ℕ) (s : State) (made : Made) (rest : List Item) → Follows (asks m s) made → ShowsFrom m n made.after rest
    → ShowsFrom m (suc n) s (made.items ++ rest)
step_on m n s made rest f h = inr (made, rest, f, refl, h)

-- more steps may be made
pub shows_more : (m : Module) (n k : ℕ) (s : State) (items : List Item) → ShowsFrom m n s items → n ≤ k → ShowsFrom m k s items
shows_more m zero k s items h le = subst (λ (shown : List Item). ShowsFrom m k s shown) (sym h) (shows_nothing m k s)
shows_more m (suc n) zero s items h le = absurd (omega arith)
shows_more m (suc n) (suc k) s items (inl e) le = inl e
shows_more m (suc n) (suc k) s items (inr h) le = inr (h.0, h.1, h.2, h.3, shows_more m n k h.0.after h.1 h.4 (omega arith))

-- nothing is shown once the run is over
pub over_shows : (m : Module) (n : ℕ) (items : List Item) → ShowsFrom m n Over items → items ≡ []
over_shows m zero items h = h
over_shows m (suc n) items (inl e) = e
over_shows m (suc n) items (inr h) = absurd h.2

pub may_show_nothing : (m : Module) (s : State) → MayShowFrom m s []
may_show_nothing m s = inl (zero, refl)

pub may_step_on : (m : Module) (s : State) (made : Made) (rest : List Item) → Follows (asks m s) made → MayShowFrom m made.after rest
    → MayShowFrom m s (made.items ++ rest)
may_step_on m s made rest f (inl h) = inl (suc h.0, step_on m h.0 s made rest f h.1)
may_step_on m s made rest f (inr h) = inr (
  suc h.0,
  made.items ++ h.1,
  h.2,
  ap (λ (x : List Item). made.items ++ x) h.3 ∙ sym (append_assoc made.items h.1 h.2),
  subst (λ (shown : List Item). ShowsFrom m (suc h.0) s shown) (sym (append_assoc made.items h.1 (Wrong ∷ []))) (step_on m h.0 s made (h.1 ++ Wrong ∷ []) f h.4),
)

-- a step that shows undefined behaviour after some items stands for whatever would be shown after them
pub may_go_wrong : (m : Module) (s : State) (made : Made) (seen rest : List Item) → Follows (asks m s) made → made.items ≡ seen ++ Wrong ∷ []
    → MayShowFrom m s (seen ++ rest)
may_go_wrong m s made seen rest f e = inr (
  suc zero,
  seen,
  rest,
  refl,
  inr (made, [], f, sym e ∙ sym (append-nil made.items), refl),
)

-- a register that was just set reads as what it was set to
pub read_set_same : (registers : Registers) (x : Name) (k : Kind) (v : Value) → read (set registers x (Some k) v) k x ≡ v
read_set_same registers x k v = rw (same_name_refl x, same_kind_refl k) refl

-- at any kind
pub read_set_at : (registers : Registers) (x y : Name) (k : Option Kind) (j : Kind) (v : Value) → same_name x y ≡ true
    → read (set registers x k v) j y ≡ held_at j (holding k v)
read_set_at registers x y k j v e = rw e refl

-- the others read as before
pub read_set_other : (registers : Registers) (x y : Name) (k : Option Kind) (j : Kind) (v : Value) → same_name x y ≡ false
    → read (set registers x k v) j y ≡ read registers j y
read_set_other registers x y k j v e = rw e refl

held_in_kind : (same : Bool) (k j : Kind) (v : Value) → (same ≡ true → k ≡ j) → IsInKind k v → IsInKind j (cond same v Poison)
held_in_kind true k j v h p = subst (λ (i : Kind). IsInKind i v) (h refl) p
held_in_kind false k j v h p = poison_in_kind j

pub holding_in_kind : (k : Option Kind) (j : Kind) (v : Value) → IsInKindOf k v → IsInKind j (held_at j (holding k v))
holding_in_kind None j v p = poison_in_kind j
holding_in_kind (Some k) j v p = held_in_kind (same_kind k j) k j v (same_kind_true k j) p

set_reads_in_kind : (same : Bool) (k : Option Kind) (j : Kind) (v : Value) (before : Option Held) → IsInKindOf k v → IsInKind j (held_at j before)
    → IsInKind j (held_at j (cond same (holding k v) before))
set_reads_in_kind true k j v before p h = holding_in_kind k j v p
set_reads_in_kind false k j v before p h = h

-- to set a register to a value of its kind leaves every register in kind
pub set_in_kind : (registers : Registers) (x : Name) (k : Option Kind) (v : Value) → AreInKind registers → IsInKindOf k v → AreInKind (set registers x k v)
set_in_kind registers x k v h p = λ y j. set_reads_in_kind (same_name x y) k j v (registers y) p (h y j)
