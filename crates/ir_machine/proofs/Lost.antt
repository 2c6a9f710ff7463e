-- The states that no run of a well-formed module comes to.
use Rattle.std.proofs.Common.{◌≡◌, false, true, [], ◌∷◌, Option, None, Some, refl, sym, ap, ◌∙◌, subst}
use Rattle.std.specs.Prelude.{is_some, IsSome}
use Rattle.std.specs.List.{AllByRecursion}
use Rattle.ir_core.specs.declared.functions.Block.{Block}
use Rattle.ir_core.specs.declared.functions.Phi.{Phi}
use Rattle.ir_types.specs.declared.names.Name.TheVariants.{Number}
use Rattle.ir_core.specs.declared.values.Value.TheVariants.{Undef}
use Rattle.ir_machine.specs.Examples.{number}
use Rattle.ir_machine.specs.Machine.{entry_from}
use Rattle.ir_machine.specs.Lost.{LostCallsAreTold, LostJumpsAreTold, UnsetIsTold, joining_block}
use Rattle.ir_machine.specs.Registers.{Held}

nothing_named : {T : Type 0} (x : T) → None ≡ Some x → ⊥
nothing_named x e = absurd (cc)

unset : (held : Option Held) → held ≡ None → IsSome held → ⊥
unset held none is = let e : false ≡ true = sym (ap is_some none) ∙ is in absurd (cc)

-- the block's phi has no entry for the block 1
no_entry : (b : Block) → Some (joining_block (number 7) 2) ≡ Some b → AllByRecursion (λ (p : Phi). IsSome (entry_from (Number 1) p.entries)) b.phis → ⊥
no_entry b named entries =
    let same : joining_block (number 7) 2 ≡ b = cc in
    let all = subst (λ (c : Block). AllByRecursion (λ (p : Phi). IsSome (entry_from (Number 1) p.entries)) c.phis) (sym same) entries in
    let e : false ≡ true = all.0 in absurd (cc)

pub lost_jumps_are_told : LostJumpsAreTold
lost_jumps_are_told m = record {
  no_block = λ h. nothing_named h.0.labels.0.block h.0.labels.0.named;
  no_second = λ h. nothing_named h.0.labels.1.0.block h.0.labels.1.0.named;
  no_entry = λ h. no_entry h.0.labels.0.block h.0.labels.0.named h.0.labels.0.entries;
  called_outside = λ h. nothing_named h.0.labels.0.block h.0.labels.0.named;
  called = λ h. nothing_named h.1.0.labels.0.block h.1.0.labels.0.named;
}

not_declared : false ≡ true → ⊥
not_declared e = absurd (cc)

pub lost_calls_are_told : LostCallsAreTold
lost_calls_are_told = record {
  no_function = λ h. not_declared h.0.callees.0;
  no_block = λ h. let e : [] ≡ h.0.callees.0.0 ∷ h.0.callees.0.1 = h.0.callees.0.2 in absurd (cc);
  called_outside = λ h. not_declared h.0.callees.0;
  called = λ h. not_declared h.1.0.callees.0;
}

pub unset_is_told : UnsetIsTold
unset_is_told registers none = record {
  line = λ h. unset (registers (Number 9)) none h.0.0;
  returned = λ h. unset (registers (Number 9)) none h.0.0.0;
  condition = λ h. unset (registers (Number 9)) none h.0.0.0;
  phi = λ h. unset (registers (Number 9)) none ((h.0.1.0 _ refl).0 _ refl);
  argument = λ h. unset (registers (Number 9)) none h.0.0;
  called_outside = λ h. unset (registers (Number 9)) none (h.0 None Undef).0;
  called = λ h. unset (registers (Number 9)) none (h.1.0 None Undef).0;
  answered = (λ k v. (refl, tt), tt);
}
