-- What operations give of addresses, worked out by hand from the LangRef: an example of each case.
use Rattle.std.specs.Prelude.{◌≡◌, ℕ, pos, negsuc, true, false, [], ◌∷◌}
use Rattle.ir_types.specs.declared.ty.Ty.{Ty, Array, Int, Struct, Void}
use Rattle.ir_core.specs.declared.values.Value.{Value}
use Rattle.ir_core.specs.declared.values.Value.TheVariants.{Num, Ptr, Bare, Undef, Poison}
use Rattle.ir_core.specs.declared.values.Kind.TheVariants as kind
use Rattle.ir_core.specs.declared.operands.BinOp.TheVariants as op
use Rattle.ir_core.specs.declared.operands.CastOp.TheVariants as cast
use Rattle.ir_core.specs.declared.operands.Pred.{Pred}
use Rattle.ir_core.specs.declared.operands.Pred.TheVariants as pred
use Rattle.ir_values.specs.declared.operations.Outcome.{Outcome}
use Rattle.ir_values.specs.declared.operations.Outcome.TheVariants.{Gives, Trap}
use Rattle.ir_values.specs.Addresses.{GivenIndex, gep_outcome}
use Rattle.ir_values.specs.Comparisons.{icmp_outcome}
use Rattle.ir_values.specs.Conversions.{cast_outcome}
use Rattle.ir_values.specs.Examples.{gives, no_flags, nuw}
use Rattle.ir_values.specs.Operations.{binary_outcome}
use Rattle.ir_values.specs.Selections.{select_outcome}
use Rattle.ir_values.specs.Values.{IsInKind}

-- each block has 8 bytes
abbrev pub compared : Pred → Value → Value → Outcome
compared p a b = icmp_outcome p kind.Ptr a b 8 8

-- Block 0 and block 1 have 8 bytes, `null` is the address 0: -1 is past the start, 8 is one past the end.
pub record AddressesCompareSo : Type 0 where
  pub eq_same : compared pred.Eq (Ptr 0 (pos 4)) (Ptr 0 (pos 4)) ≡ gives 1
  pub ne_past_ends : compared pred.Ne (Ptr 0 (negsuc 0)) (Ptr 0 (pos 9)) ≡ gives 1
  pub ult_by_offset : compared pred.Ult (Ptr 0 (pos 1)) (Ptr 0 (pos 4)) ≡ gives 1
  pub ult_negative : compared pred.Ult (Ptr 0 (negsuc 0)) (Ptr 0 (pos 4)) ≡ gives 0
  pub slt_negative : compared pred.Slt (Ptr 0 (negsuc 0)) (Ptr 0 (pos 4)) ≡ gives 1
  pub eq_two_blocks : compared pred.Eq (Ptr 0 (pos 4)) (Ptr 1 (pos 0)) ≡ gives 0
  pub ne_two_blocks : compared pred.Ne (Ptr 0 (pos 4)) (Ptr 1 (pos 0)) ≡ gives 1
  pub ult_two_blocks : compared pred.Ult (Ptr 0 (pos 4)) (Ptr 1 (pos 0)) ≡ Gives Undef
  pub eq_two_blocks_at_end : compared pred.Eq (Ptr 0 (pos 8)) (Ptr 1 (pos 0)) ≡ Gives Undef
  pub ne_two_blocks_before : compared pred.Ne (Ptr 0 (pos 4)) (Ptr 1 (negsuc 0)) ≡ Gives Undef
  pub eq_null : compared pred.Eq (Ptr 0 (pos 0)) (Bare 0) ≡ gives 0
  pub null_ne : compared pred.Ne (Bare 0) (Ptr 0 (pos 7)) ≡ gives 1
  pub null_outside : compared pred.Eq (Ptr 0 (pos 8)) (Bare 0) ≡ Gives Undef
  pub null_beside_outside : compared pred.Ne (Bare 0) (Ptr 0 (pos 8)) ≡ Gives Undef
  pub null_order : compared pred.Ugt (Ptr 0 (pos 0)) (Bare 0) ≡ Gives Undef
  pub eq_bare : compared pred.Eq (Ptr 0 (pos 0)) (Bare 16) ≡ Gives Undef
  pub bare_ne : compared pred.Ne (Bare 16) (Ptr 0 (pos 0)) ≡ Gives Undef
  pub two_bare : compared pred.Ult (Bare 8) (Bare 16) ≡ gives 1
  pub signed_bare : compared pred.Slt (Bare 18446744073709551615) (Bare 0) ≡ gives 1
  pub undef : compared pred.Eq Undef (Ptr 0 (pos 0)) ≡ Gives Undef
  pub poison : compared pred.Eq Undef Poison ≡ Gives Poison

-- A value of another kind counts as undef, at each operator.
pub record OtherKindsAreUndef : Type 0 where
  pub add : binary_outcome op.Add no_flags 8 (Ptr 0 (pos 0)) (Num 1) ≡ Gives Undef
  pub add_nuw : binary_outcome op.Add nuw 8 (Num 1) (Bare 1) ≡ Gives Poison
  pub udiv : binary_outcome op.UDiv no_flags 8 (Num 1) (Bare 1) ≡ Trap
  pub icmp : icmp_outcome pred.Eq (kind.Int 64) (Bare 0) (Num 0) 0 0 ≡ Gives Undef
  pub icmp_address : compared pred.Eq (Ptr 0 (pos 0)) (Num 0) ≡ Gives Undef
  pub select : select_outcome (Bare 1) (Num 7) (Num 9) ≡ Gives Undef
  pub zext : cast_outcome cast.ZExt (kind.Int 8) (kind.Int 16) (Bare 7) ≡ Gives Undef
  pub bitcast : cast_outcome cast.BitCast kind.Ptr kind.Ptr (Ptr 0 (pos 3)) ≡ Gives (Ptr 0 (pos 3))
  pub bitcast_number : cast_outcome cast.BitCast kind.Ptr kind.Ptr (Num 3) ≡ Gives Undef
  pub select_address : select_outcome (Num 1) (Ptr 0 (pos 0)) Poison ≡ Gives (Ptr 0 (pos 0))

abbrev pub at : ℕ → ℕ → GivenIndex
at width n = (width, Num n)

-- { i8, i32, [4 x i8] }: fields at 0, 4 and 8, 12 bytes
abbrev pub padded : Ty
padded = Struct (Int 8 ∷ Int 32 ∷ Array 4 (Int 8) ∷ [])

-- a byte past 2^31 of them
abbrev pub large : Ty
large = Struct (Array 2147483648 (Int 8) ∷ Int 8 ∷ [])

-- Addresses in a block of 12 bytes. 255 of i8 is -1.
pub record AddressesMoveSo : Type 0 where
  pub one_i32 : gep_outcome true [] (Int 32) (Ptr 0 (pos 4)) 12 (at 64 1 ∷ []) ≡ Gives (Ptr 0 (pos 8))
  pub back : gep_outcome true [] (Int 32) (Ptr 0 (pos 4)) 12 (at 8 255 ∷ []) ≡ Gives (Ptr 0 (pos 0))
  pub to_the_end : gep_outcome true [] (Int 32) (Ptr 0 (pos 4)) 12 (at 64 2 ∷ []) ≡ Gives (Ptr 0 (pos 12))
  pub past_the_end : gep_outcome true [] (Int 32) (Ptr 0 (pos 4)) 12 (at 64 3 ∷ []) ≡ Gives Poison
  pub past_the_end_without : gep_outcome false [] (Int 32) (Ptr 0 (pos 4)) 12 (at 64 3 ∷ []) ≡ Gives (Ptr 0 (pos 16))
  pub before_the_start : gep_outcome true [] (Int 32) (Ptr 0 (pos 0)) 12 (at 8 255 ∷ []) ≡ Gives Poison
  pub from_outside : gep_outcome true [] (Int 32) (Ptr 0 (negsuc 3)) 12 (at 64 1 ∷ []) ≡ Gives Poison
  pub outside_on_the_way : gep_outcome true [] (Array 2 (Int 8)) (Ptr 0 (pos 12)) 12 (at 64 1 ∷ at 8 254 ∷ []) ≡ Gives Poison
  pub inside_again_without : gep_outcome false [] (Array 2 (Int 8)) (Ptr 0 (pos 12)) 12 (at 64 1 ∷ at 8 254 ∷ []) ≡ Gives (Ptr 0 (pos 12))
  pub wraps : gep_outcome false [] (Int 8) (Ptr 0 (pos 9223372036854775807)) 12 (at 8 1 ∷ []) ≡ Gives (Ptr 0 (negsuc 9223372036854775807))
  pub bare : gep_outcome false [] (Int 32) (Bare 18446744073709551612) 0 (at 64 2 ∷ []) ≡ Gives (Bare 4)
  pub bare_inbounds : gep_outcome true [] (Int 32) (Bare 16) 0 (at 64 0 ∷ []) ≡ Gives Poison
  pub second_field : gep_outcome true [] padded (Ptr 0 (pos 0)) 12 (at 32 0 ∷ at 32 1 ∷ []) ≡ Gives (Ptr 0 (pos 4))
  pub element_of_field : gep_outcome true [] padded (Ptr 0 (pos 0)) 12 (at 32 0 ∷ at 32 2 ∷ at 64 3 ∷ []) ≡ Gives (Ptr 0 (pos 11))
  pub no_field : gep_outcome false [] padded (Ptr 0 (pos 0)) 12 (at 32 0 ∷ at 32 3 ∷ []) ≡ Gives Poison
  pub undef_index : gep_outcome false [] (Int 8) (Ptr 0 (pos 0)) 12 ((64, Undef) ∷ []) ≡ Gives Undef
  pub undef_index_inbounds : gep_outcome true [] (Int 8) (Ptr 0 (pos 0)) 12 ((64, Undef) ∷ []) ≡ Gives Poison
  pub undef_base : gep_outcome false [] (Int 8) Undef 0 (at 64 1 ∷ []) ≡ Gives Undef
  pub whole_limit : gep_outcome false [] (Array 2147483648 (Int 8)) (Ptr 0 (pos 0)) 12 (at 64 0 ∷ at 64 5 ∷ []) ≡ Gives (Ptr 0 (pos 5))
  pub past_the_limit : gep_outcome false [] large (Ptr 0 (pos 0)) 12 (at 32 0 ∷ at 32 1 ∷ []) ≡ Gives Poison
  pub large_array : gep_outcome false [] (Array 1099511627776 (Int 8)) (Ptr 0 (pos 0)) 12 (at 64 0 ∷ at 64 0 ∷ []) ≡ Gives Poison
  pub large_inside : gep_outcome false [] (Array 0 (Array 1099511627776 (Int 8))) (Ptr 0 (pos 0)) 12 (at 64 0 ∷ at 64 0 ∷ []) ≡ Gives Poison
  pub no_size : gep_outcome false [] Void (Ptr 0 (pos 0)) 12 (at 64 0 ∷ []) ≡ Gives Poison
  pub no_size_undef : gep_outcome false [] Void Undef 0 (at 64 0 ∷ []) ≡ Gives Poison
  pub poison_index : gep_outcome false [] (Int 8) Undef 0 ((64, Poison) ∷ []) ≡ Gives Poison

-- an offset is a signed number of 64 bits, an address one of 64 bits
pub record OffsetsHaveARange : Type 0 where
  pub greatest : IsInKind kind.Ptr (Ptr 0 (pos 9223372036854775807))
  pub least : IsInKind kind.Ptr (Ptr 0 (negsuc 9223372036854775807))
  pub more : IsInKind kind.Ptr (Ptr 0 (pos 9223372036854775808)) → ⊥
  pub less : IsInKind kind.Ptr (Ptr 0 (negsuc 9223372036854775808)) → ⊥
  pub address : IsInKind kind.Ptr (Bare 18446744073709551615)
  pub wide_address : IsInKind kind.Ptr (Bare 18446744073709551616) → ⊥
  pub number : IsInKind kind.Ptr (Num 0) → ⊥
