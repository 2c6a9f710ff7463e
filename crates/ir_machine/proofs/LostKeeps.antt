-- States that aren't as what is kept asks.
use Rattle.std.proofs.Common.{◌≡◌, ℕ, zero, suc, ◌<◌, ◌≤◌, ◌^◌, ◌+◌, pos, true, false, [], ◌∷◌, length, None, Some, refl, sym, ap, ◌∙◌, subst, arith, slice_get}
use Rattle.std.specs.List.{Contains}
use Rattle.ir_types.specs.declared.names.Name.TheVariants.{Number}
use Rattle.ir_types.specs.declared.ty.Ty.TheVariants.{Int}
use Rattle.ir_types.specs.Named.{align_of, size_of}
use Rattle.ir_types.proofs.Monotone as layout
use Rattle.ir_core.specs.declared.modules.GlobalVar.{GlobalVar}
use Rattle.ir_core.specs.declared.values.Kind.TheVariants as kind
use Rattle.ir_core.specs.declared.values.Value.TheVariants as value
use Rattle.block_memory.specs.Memory.{Cell, Memory, cell_at}
use Rattle.ir_machine.specs.declared.inputs.InputBlock.{InputBlock}
use Rattle.ir_machine.specs.KeepExamples.{IsKeptThere, LostKeepsAreTold, the_block, the_global, cell, holding_byte, of_block, three_blocks, two_names, with_own, with_registers, zero_byte}
use Rattle.ir_machine.specs.Keeps.{AreRegistersAmong, IsLive, IsMade}
use Rattle.ir_machine.specs.Registers.{AreInKind, align_or, no_registers}
use Rattle.ir_machine.proofs.InKind.{no_registers_in_kind}
use Rattle.ir_machine.proofs.Holding.{set_among}
use Rattle.ir_machine.proofs.Runs.{set_in_kind}

-- what a live block is
is_live : (m : Memory) (b align size : ℕ) (c : Cell) → cell_at m b ≡ Some c → IsLive m b align size → (c.live ≡ true) × (c.align ≡ align) × (length c.bytes ≡ size)
is_live m b align size c there h =
    let both : Some c ≡ Some h.cell = sym there ∙ h.there in
    let same : c ≡ h.cell = cc in
    (ap (λ (x : Cell). x.live) same ∙ h.live, ap (λ (x : Cell). x.align) same ∙ h.align_is, ap (λ (x : Cell). length x.bytes) same ∙ h.size_is)

ended : false ≡ true → ⊥
ended e = absurd (cc)

differ : (n : ℕ) → suc (suc zero) ≡ n → n ≡ 1 → ⊥
differ n e one = absurd (omega (arith, e, one))

-- an i8 is one byte
sized : size_of [] (Int 8) ≡ 1
sized = simp (layout.at_int) refl

aligned : align_of [] (Int 8) ≡ 1
aligned = simp (layout.at_int) refl

-- a list of one
only : {A : Type 0} (P : ℕ → A → Type 0) (x : A) → P 0 x → (k : ℕ) (y : A) → slice_get (x ∷ []) k ≡ Some y → P k y
only P x h zero y is = let same : x ≡ y = cc in subst (P 0) same h
only P x h (suc k) y is = absurd (cc)

named : (k : ℕ) → k < 2 → slice_get two_names k ≡ Some (Some k)
named zero below = refl
named (suc zero) below = refl
named (suc (suc k)) below = absurd (omega (arith, below))

nothing_there : {A : Type 0} (x : A) → Contains [] x → ⊥
nothing_there x there = absurd (omega (arith, there.1))

kept : IsKeptThere (with_own (2 ∷ []) [])
kept = record {
  registers = (no_registers_in_kind, (no_registers_in_kind, tt));
  bytes = ((omega arith, tt), ((omega arith, tt), ((omega arith, tt), tt)));
  held = record { registers = (λ x. tt, (λ x. tt, tt)); bytes = ((tt, tt), ((tt, tt), ((tt, tt), tt))); names = (omega arith, (omega arith, tt)) };
  own = ((record { new = omega arith; made = omega arith }, tt), (tt, tt));
  apart = ((λ b own also. nothing_there b also, tt), (tt, tt));
  globals =
      only (λ (k : ℕ) (g : GlobalVar). IsLive three_blocks k (align_or [] g.ty g.align) (size_of [] g.ty)) the_global
      (record { cell = holding_byte zero_byte; there = refl; live = refl; align_is = sym aligned; size_is = sym sized });
  inputs =
      only (λ (k : ℕ) (b : InputBlock). IsLive three_blocks (1 + k) b.align (length b.bytes)) the_block
      (record { cell = holding_byte zero_byte; there = refl; live = refl; align_is = refl; size_is = refl });
  named = named;
  once = (refl, (refl, tt));
}

in_kind : (b : ℕ) → AreInKind (of_block b)
in_kind b = set_in_kind no_registers (Number 1) (Some kind.Ptr) (value.Ptr b (pos 0)) no_registers_in_kind (record { sfits = omega arith })

holds : (b : ℕ) → b < 3 → AreRegistersAmong (IsMade three_blocks) (of_block b)
holds b made = set_among (IsMade three_blocks) no_registers (Number 1) (Some kind.Ptr) (value.Ptr b (pos 0)) (λ x. tt) (omega (arith, made))

kept_pointers : IsKeptThere (with_registers (of_block 2) (of_block 1))
kept_pointers = record {
  registers = (in_kind 2, (in_kind 1, tt));
  bytes = kept.bytes;
  held = record { registers = (holds 2 (omega arith), (holds 1 (omega arith), tt)); bytes = kept.held.bytes; names = kept.held.names };
  own = kept.own;
  apart = kept.apart;
  globals = kept.globals;
  inputs = kept.inputs;
  named = kept.named;
  once = kept.once;
}

past : 256 < 2 ^ 8 → ⊥
past h = absurd (omega (arith, h))

unmade : 3 < 3 → ⊥
unmade h = absurd (omega (arith, h))

pub lost_keeps_are_told : LostKeepsAreTold
lost_keeps_are_told = record {
  kept = kept;
  kept_pointers = kept_pointers;
  value_kind = λ h. past (h.registers.0 (Number 1) (kind.Int 8));
  value_kind_below = λ h. past (h.registers.1.0 (Number 1) (kind.Int 8));
  byte_range = λ h. (let no : 256 < 256 = h.bytes.1.1.0.0 in absurd (omega (arith, no)));
  register = λ h. unmade (h.held.registers.0 (Number 1));
  register_below = λ h. unmade (h.held.registers.1.0 (Number 1));
  part = λ h. unmade h.held.bytes.1.1.0.0;
  name = λ h. unmade h.held.names.1.1.0;
  own_unmade = λ h. unmade h.own.0.0.made;
  own_global = λ h. (let no : 2 ≤ 0 = h.own.0.0.new in absurd (omega (arith, no)));
  own_input = λ h. (let no : 2 ≤ 1 = h.own.1.0.0.new in absurd (omega (arith, no)));
  own_twice = λ h. h.apart.0.0 2 (zero, omega arith, refl) (zero, omega arith, refl);
  global_ended = λ h. ended (is_live _ 0 _ _ (cell 1 false (zero_byte ∷ [])) refl (h.globals 0 the_global refl)).0;
  global_aligned = λ h. differ (align_of [] (Int 8)) (is_live _ 0 _ _ (cell 2 true (zero_byte ∷ [])) refl (h.globals 0 the_global refl)).1 aligned;
  global_sized = λ h. differ (size_of [] (Int 8)) (is_live _ 0 _ _ (cell 1 true (zero_byte ∷ zero_byte ∷ [])) refl (h.globals 0 the_global refl)).2 sized;
  input_ended = λ h. ended (is_live _ 1 _ _ (cell 1 false (zero_byte ∷ [])) refl (h.inputs 0 the_block refl)).0;
  input_aligned = λ h. differ 1 (is_live _ 1 _ _ (cell 2 true (zero_byte ∷ [])) refl (h.inputs 0 the_block refl)).1 refl;
  input_sized = λ h. differ 1 (is_live _ 1 _ _ (cell 1 true (zero_byte ∷ zero_byte ∷ [])) refl (h.inputs 0 the_block refl)).2 refl;
  names_changed = λ h. (let no : Some (Some 1) ≡ Some (Some 0) = h.named 0 (omega arith) in absurd (cc));
  no_name = λ h. (let no : None ≡ Some (Some 1) = h.named 1 (omega arith) in absurd (cc));
  named_twice = λ h. (let no : true ≡ false = h.once.1.1.0 in absurd (cc));
}
