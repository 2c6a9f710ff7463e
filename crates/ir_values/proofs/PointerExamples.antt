-- The examples of addresses compute.
use Rattle.std.proofs.Common.{◌<◌, ◌^◌, refl, arith}
use Rattle.ir_types.proofs.Monotone as layout
use Rattle.ir_types.specs.declared.ty.Ty.TheViews.{outs-Array, outs-Struct}
use Rattle.ir_values.specs.PointerExamples.{AddressesCompareSo, AddressesMoveSo, OffsetsHaveARange, OtherKindsAreUndef}

pub addresses_compare_so : AddressesCompareSo
addresses_compare_so = record {
  eq_same = refl;
  ne_past_ends = refl;
  ult_by_offset = refl;
  ult_negative = refl;
  slt_negative = refl;
  eq_two_blocks = refl;
  ne_two_blocks = refl;
  ult_two_blocks = refl;
  eq_two_blocks_at_end = refl;
  ne_two_blocks_before = refl;
  eq_null = refl;
  null_ne = refl;
  null_outside = refl;
  null_beside_outside = refl;
  null_order = refl;
  eq_bare = refl;
  bare_ne = refl;
  two_bare = refl;
  signed_bare = refl;
  undef = refl;
  poison = refl;
}

pub other_kinds_are_undef : OtherKindsAreUndef
other_kinds_are_undef = record {
  add = refl;
  add_nuw = refl;
  udiv = refl;
  icmp = refl;
  icmp_address = refl;
  select = refl;
  zext = refl;
  bitcast = refl;
  bitcast_number = refl;
  select_address = refl;
}

pub addresses_move_so : AddressesMoveSo
addresses_move_so = record {
  one_i32 = simp (layout.at_int) refl;
  back = simp (layout.at_int) refl;
  to_the_end = simp (layout.at_int) refl;
  past_the_end = simp (layout.at_int) refl;
  past_the_end_without = simp (layout.at_int) refl;
  before_the_start = simp (layout.at_int) refl;
  from_outside = simp (layout.at_int) refl;
  outside_on_the_way = simp (layout.at_int, layout.at_array, outs-Array) refl;
  inside_again_without = simp (layout.at_int, layout.at_array, outs-Array) refl;
  wraps = simp (layout.at_int) refl;
  bare = simp (layout.at_int) refl;
  bare_inbounds = simp (layout.at_int) refl;
  second_field = simp (layout.at_int, layout.at_array, layout.at_struct, outs-Struct) refl;
  element_of_field = simp (layout.at_int, layout.at_array, layout.at_struct, outs-Struct, outs-Array) refl;
  no_field = simp (layout.at_int, layout.at_array, layout.at_struct, outs-Struct) refl;
  undef_index = simp (layout.at_int) refl;
  undef_index_inbounds = simp (layout.at_int) refl;
  undef_base = simp (layout.at_int) refl;
  whole_limit = simp (layout.at_int, layout.at_array, outs-Array) refl;
  past_the_limit = simp (layout.at_int, layout.at_array, layout.at_struct, outs-Struct) refl;
  large_array = simp (layout.at_int, layout.at_array, outs-Array) refl;
  large_inside = simp (layout.at_int, layout.at_array, outs-Array) refl;
  no_size = simp (layout.at_void) refl;
  no_size_undef = simp (layout.at_void) refl;
  poison_index = refl;
}

pub offsets_have_a_range : OffsetsHaveARange
offsets_have_a_range = record {
  greatest = record { sfits = omega arith };
  least = record { sfits = omega arith };
  more = λ h. let below = h.sfits in omega arith;
  less = λ h. let below = h.sfits in omega arith;
  address = omega arith;
  wide_address = λ (h : 18446744073709551616 < 2 ^ 64). omega arith;
  number = λ h. h;
}
