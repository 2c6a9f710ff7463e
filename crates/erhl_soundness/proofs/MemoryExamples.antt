-- Facts of memory on sides that are written out.
use Rattle.std.proofs.Common.{◌≡◌, ℕ, zero, suc, pos, false, cond, length, Option, None, Some, refl, sym, ap, arith, subst, subst₂}
use Rattle.std.proofs.lemmas.Bool.{false≢true}
use Rattle.ir_types.specs.declared.names.Name.{Name}
use Rattle.ir_types.specs.declared.names.Name.TheVariants.{Number}
use Rattle.ir_types.specs.declared.ty.Ty.{Int, Ptr, Void}
use Rattle.ir_types.specs.declared.ty.Ty.TheViews.{outs-Void}
use Rattle.ir_types.specs.Same.{same_name}
use Rattle.ir_core.specs.declared.expressions.Reg.{Reg}
use Rattle.ir_core.specs.declared.operands.Atom.TheVariants.{Register}
use Rattle.ir_core.specs.declared.values.Kind.{Kind}
use Rattle.ir_core.specs.declared.values.Kind.TheVariants as kind
use Rattle.ir_core.specs.declared.values.Value.TheVariants as value
use Rattle.ir_core.specs.Types.{is_pointer_at_level, kind_of}
use Rattle.ir_values.specs.declared.operations.Outcome.TheVariants.{Gives}
use Rattle.ir_values.proofs.ConstantValues.{is_pointer_to, pointer_kind}
use Rattle.ir_machine.specs.Keeps.{IsHeldAmong}
use Rattle.ir_machine.specs.Registers.{no_registers, register_value, set}
use Rattle.erhl_assert.specs.Holding.{AreNoAliases, CanAccess, IsNot}
use Rattle.erhl_assert.specs.Postcondition.{accessed}
use Rattle.erhl_assert.specs.Sides.{SideState, read_reg, worth}
use Rattle.erhl_soundness.specs.MemoryExamples.{KillsAreTold, NoAliasIsTold, OkIsTold, PrivateIsTold, UniqueIsTold, alone, beside, dead, first, into, plain, second}
use Rattle.erhl_soundness.proofs.Kills.{same_name_apart}

-- no register but %1 is set
no_other : (y : Name) → same_name y (Number 1) ≡ false → IsHeldAmong (IsNot 0) (set no_registers (Number 1) (Some kind.Ptr) (into (pos 0)) y)
no_other y h = rw (same_name_apart y (Number 1) h) tt

pub unique_told : UniqueIsTold
unique_told = record {
  unshared = record { now = no_other; others = tt; bytes = ((tt, (tt, (tt, (tt, (tt, (tt, (tt, (tt, tt)))))))), tt); names = tt };
  of_no_pointer = tt;
  old = record { now = no_other; others = tt; bytes = ((tt, (tt, (tt, (tt, (tt, (tt, (tt, (tt, tt)))))))), tt); names = tt };
  in_a_register = λ h. h.now (Number 2) refl refl;
  in_another_frame = λ h. h.others.1.0 (Number 1) refl;
  in_a_byte = λ h. h.bytes.0.0 refl;
  in_a_name = λ h. h.names.1.0 refl;
  of_an_old_register = λ h. h;
}

pub private_told : PrivateIsTold
private_told = record {
  own = record { unpaired = refl; own = (zero, omega arith, refl) };
  shared = record { unpaired = refl; own = (zero, omega arith, refl) };
  of_another_frame = λ h. (let inside = h.own.1 in omega (arith, inside));
  in_a_pair = λ h. false≢true (sym h.unpaired);
  of_a_ghost = λ h. h;
}

-- what a register is worth at a pointer type
plain_worth : (side : SideState) (r : Reg) → worth side (plain r) ≡ Gives (read_reg side kind.Ptr r)
plain_worth side r = ap (λ o. Gives (register_value (read_reg side) o r)) (pointer_kind (Ptr (Int 32)) (is_pointer_to (Int 32)))

other_block : (b c : ℕ) → c ≡ suc b → Some c ≡ Some b → ⊥
other_block b c is e = let same : c ≡ b = cc in omega (arith, is, same)

pub no_alias_told : NoAliasIsTold
no_alias_told = record {
  of_no_blocks = (let w = plain_worth (beside (value.Bare 8)) second in subst₂ AreNoAliases (sym w) (sym w) tt);
  of_two_blocks =
      (let side = beside (value.Ptr 1 (pos 0)) in
      subst₂ AreNoAliases (sym (plain_worth side first)) (sym (plain_worth side second)) (other_block 0 1 refl));
  of_one_block = (let side = beside (into (pos 4)) in λ h. subst₂ AreNoAliases (plain_worth side first) (plain_worth side second) h refl);
}

-- an access at a kind, by what the register holds
accesses : (side : SideState) (r : Reg) (o : Option Kind) (align : ℕ) → CanAccess side o (worth side (plain r)) align → CanAccess side o (Gives (read_reg side kind.Ptr r)) align
accesses side r o align h = subst (λ w. CanAccess side o w align) (plain_worth side r) h

no_kind : kind_of Void ≡ None
no_kind = ap (λ b. cond b (Some kind.Ptr) None) (ap is_pointer_at_level outs-Void)

pub ok_told : OkIsTold
ok_told = record {
  fits = subst (λ w. CanAccess alone (Some (kind.Int 64)) w 4) (sym (plain_worth alone first)) refl;
  too_many = λ h. false≢true (accesses alone first (Some (kind.Int 64)) 8 h);
  behind_the_end = λ h. false≢true (accesses (beside (into (pos 8))) second (Some (kind.Int 8)) 1 h);
  without_alignment = λ h. false≢true (accesses alone first (Some (kind.Int 8)) 0 h);
  of_no_type = λ h. subst (λ o. CanAccess alone o (worth alone (plain first)) 1) no_kind h;
  of_the_dead = λ h. false≢true (accesses dead first (Some (kind.Int 8)) 1 h);
  of_no_block = λ h. false≢true (accesses (beside (value.Bare 8)) second (Some (kind.Int 8)) 1 h);
}

pub kills_told : KillsAreTold
kills_told = record {
  apart_so = refl;
  turned = refl;
  unique_store = refl;
  unique_load = refl;
  from_old = refl;
  from_itself = refl;
  by_nothing = refl;
  a_load = refl;
  its_own_address = refl;
  of_nothing = ap (λ (o : Option Kind). suc (suc (length (accessed o (Number 2) Void (record { ty = Int 64; atom = Register first }) 4)))) no_kind;
  a_store = refl;
  an_alloca = refl;
  of_one_side = refl;
  an_edge = refl;
}
