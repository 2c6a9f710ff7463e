-- What is judged, counted and known of checks that are written out, by computing.
use Rattle.std.proofs.Common.{◌≡◌, Bool, true, false, cond, [], Some, refl, ap}
use Rattle.ir_types.specs.declared.names.Name.TheVariants.{Number}
use Rattle.ir_types.specs.declared.ty.Ty.{Int, Ptr}
use Rattle.ir_types.specs.Named.{align_of, layout_of}
use Rattle.ir_types.specs.Same.{same_ty}
use Rattle.ir_types.proofs.Monotone as layout
use Rattle.ir_types.proofs.SameLaws.{same_ty_refl}
use Rattle.ir_core.specs.Types.{is_pointer, kind_of}
use Rattle.ir_core.specs.declared.values.Kind.TheVariants as kind
use Rattle.ir_core.specs.declared.expressions.Reg.{Reg}
use Rattle.ir_core.specs.declared.expressions.Reg.TheVariants.{Now}
use Rattle.ir_values.proofs.ConstantValues.{is_pointer_to, pointer_kind}
use Rattle.erhl_assert.specs.declared.verdict.Reason.TheVariants.{DiffLeft}
use Rattle.erhl_assert.specs.declared.verdict.Spot.TheVariants as spot
use Rattle.erhl_assert.specs.declared.verdict.Verdict.TheVariants as verdict
use Rattle.erhl_soundness.specs.Examples.{pair}
use Rattle.erhl_soundness.specs.Laws.{FactsAreCounted, LinesAreJudged}
use Rattle.erhl_soundness.specs.FlowLaws.{ControlFlowIsJudged}

pub counted : FactsAreCounted
counted = record { of_both_sides = refl; up_to_a_refusal = refl; source_first = refl; along_an_edge = refl; over_phis = refl }

-- types of pointers and structs are the same as themselves
same_address : same_ty (Ptr (Int 32)) (Ptr (Int 32)) ≡ true
same_address = same_ty_refl (Ptr (Int 32))

same_pair : same_ty pair pair ≡ true
same_pair = same_ty_refl pair

same_base : same_ty (Ptr pair) (Ptr pair) ≡ true
same_base = same_ty_refl (Ptr pair)

address_kind : kind_of (Ptr (Int 32)) ≡ Some kind.Ptr
address_kind = pointer_kind (Ptr (Int 32)) (is_pointer_to (Int 32))

base_kind : kind_of (Ptr pair) ≡ Some kind.Ptr
base_kind = pointer_kind (Ptr pair) (is_pointer_to pair)

-- an i32 is at a multiple of 4
natural : align_of [] (Int 32) ≡ 4
natural = simp (layout.at_int) refl

slot_pointer : is_pointer (Ptr (Int 32)) ≡ true
slot_pointer = is_pointer_to (Int 32)

laid_32 : layout_of [] (Int 32) ≡ Some (record { size = 4; align = 4 })
laid_32 = simp (layout.at_int) refl

laid_25 : layout_of [] (Int 25) ≡ Some (record { size = 4; align = 4 })
laid_25 = simp (layout.at_int) refl

laid_64 : layout_of [] (Int 64) ≡ Some (record { size = 8; align = 8 })
laid_64 = simp (layout.at_int) refl

pub judged : LinesAreJudged
judged = record {
  by_a_register = refl;
  by_zero = refl;
  by_undef = refl;
  by_a_number = refl;
  by_minus_one = refl;
  by_minus_two = refl;
  of_one_bit = refl;
  of_the_source = refl;
  beside_another = refl;
  beside_itself = refl;
  another_divisor = refl;
  another_operator = refl;
  another_type = refl;
  of_a_load = refl;
  known_by_ok = rw same_address refl;
  known_of_its_type = rw (same_address, natural) refl;
  known_of_another_alignment = rw same_address refl;
  known_of_another_address = rw same_address refl;
  known_of_the_source = refl;
  load_beside_itself = rw (same_address, address_kind, address_kind) refl;
  smaller_alignment = rw (same_address, address_kind, address_kind) refl;
  greater_alignment = rw same_address refl;
  alignment_of_its_type = rw (same_address, natural) refl;
  no_alignment = rw same_address refl;
  another_address = rw (same_address, address_kind, address_kind) refl;
  stored_alone = refl;
  stored_to_private = refl;
  private_of_the_target = refl;
  may_store = refl;
  stored_by_target = rw same_address refl;
  stored_without_private = refl;
  stored_at_more = rw same_address refl;
  store_beside_itself = rw (same_address, address_kind, address_kind) refl;
  store_at_less = rw (same_address, address_kind, address_kind) refl;
  store_at_more = refl;
  store_of_another_type = refl;
  another_value = refl;
  stored_elsewhere = rw (same_address, address_kind, address_kind) refl;
  slot_of_the_source = rw slot_pointer refl;
  slot_of_the_target = refl;
  slots_of_one_size = rw (slot_pointer, laid_32, laid_25) refl;
  slots_of_two_sizes = rw (slot_pointer, laid_32, laid_64) refl;
  slots_of_two_alignments = rw (slot_pointer, laid_32) refl;
  of_two_kinds = refl;
  called_by_the_source = refl;
  called_by_the_target = refl;
  called_by_both = refl;
  of_an_address = refl;
  address_beside_itself = rw (same_address, same_pair, same_base, base_kind, base_kind) refl;
  without_inbounds = rw (same_address, same_pair, same_base, base_kind, base_kind) refl;
  with_inbounds = rw (same_address, same_pair, same_base) refl;
  another_field = rw (same_address, same_pair, same_base) refl;
  field_by_a_register = refl;
  not_by_a_register = rw (same_address, same_pair, same_base) refl;
  fewer_flags = refl;
  more_flags = refl;
}

-- of two registers that are one the first that is printed
either_one : (b : Bool) (r : Reg) → cond b r r ≡ r
either_one true r = refl
either_one false r = refl

pub flow_judged : ControlFlowIsJudged
flow_judged = record {
  moved_out = (_, refl);
  may_differ = refl;
  by_a_line = (_, refl);
  without_steps = ap (λ r. verdict.Refused (Number 10) (spot.Edge (Number 12)) (DiffLeft r)) (either_one _ (Now (Number 3)));
  swapped = refl;
  as_it_was = (refl, refl);
  not_as_it_is = λ h. let e = h.1 in cc;
  chosen_again = refl;
}
