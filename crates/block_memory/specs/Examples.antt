-- What bytes, blocks and names give: an example of each case, worked out by hand from the LangRef.
use Rattle.std.specs.Prelude.{◌≡◌, ℕ, pos, negsuc, true, List, [], ◌∷◌, ◌++◌, replicate, None, Some}
use Rattle.ir_core.specs.declared.values.Value.{Value}
use Rattle.ir_core.specs.declared.values.Value.TheVariants as value
use Rattle.ir_core.specs.declared.values.Byte.{Byte}
use Rattle.ir_core.specs.declared.values.Byte.TheVariants as byte
use Rattle.ir_core.specs.declared.values.Kind.TheVariants as kind
use Rattle.ir_values.specs.declared.operations.Outcome.TheVariants.{Gives, Trap}
use Rattle.block_memory.specs.declared.items.Choice.TheVariants as choice
use Rattle.block_memory.specs.declared.items.Shown.TheVariants as shown
use Rattle.block_memory.specs.Bytes.{bytes_of, value_of}
use Rattle.block_memory.specs.Memory.{Memory, ended, loaded, new_cell, stored}
use Rattle.block_memory.specs.Names.{Names, chosen, resolved, shown_of}

-- the parts of the pointer to byte 8 of block 3, and the same but for the last, which is of block 4
abbrev pub seven_parts : List Byte
seven_parts = byte.Frag 3 (pos 8) 0 ∷ byte.Frag 3 (pos 8) 1 ∷ byte.Frag 3 (pos 8) 2 ∷ byte.Frag 3 (pos 8) 3 ∷ byte.Frag 3 (pos 8) 4 ∷ byte.Frag 3 (pos 8) 5 ∷ byte.Frag 3 (pos 8) 6 ∷ []

pub record BytesAreThese : Type 0 where
  pub i16_has_the_least_first : bytes_of 2 (value.Num 258) ≡ byte.Num 2 ∷ byte.Num 1 ∷ []
  pub i17_has_three : bytes_of 3 (value.Num 65537) ≡ byte.Num 1 ∷ byte.Num 0 ∷ byte.Num 1 ∷ []
  pub i16_again : value_of (kind.Int 16) (byte.Num 2 ∷ byte.Num 1 ∷ []) ≡ value.Num 258
  pub high_bit_of_i7 : value_of (kind.Int 7) (byte.Num 255 ∷ []) ≡ value.Undef
  pub i7 : value_of (kind.Int 7) (byte.Num 127 ∷ []) ≡ value.Num 127
  pub two_of_i1 : value_of (kind.Int 1) (byte.Num 2 ∷ []) ≡ value.Undef
  pub poison_before_undef : value_of (kind.Int 16) (byte.Undef ∷ byte.Poison ∷ []) ≡ value.Poison
  pub one_undef : value_of (kind.Int 16) (byte.Num 1 ∷ byte.Undef ∷ []) ≡ value.Undef
  pub pointer : value_of kind.Ptr (seven_parts ++ (byte.Frag 3 (pos 8) 7 ∷ [])) ≡ value.Ptr 3 (pos 8)
  pub another_pointers_part : value_of kind.Ptr (seven_parts ++ (byte.Frag 4 (pos 8) 7 ∷ [])) ≡ value.Undef
  pub part_at_another_place : value_of kind.Ptr (seven_parts ++ (byte.Frag 3 (pos 8) 6 ∷ [])) ≡ value.Undef
  pub part_and_number : value_of kind.Ptr (seven_parts ++ (byte.Num 0 ∷ [])) ≡ value.Undef
  pub part_as_a_number : value_of (kind.Int 8) (byte.Frag 3 (pos 8) 0 ∷ []) ≡ value.Undef
  pub address : value_of kind.Ptr (bytes_of 8 (value.Num 16)) ≡ value.Bare 16

-- one block of 8 undef bytes at alignment 4
abbrev pub one_block : Memory
one_block = new_cell 8 4 [] ∷ []

-- after `store i32 16909060` (0x01020304) to byte 4
abbrev pub written : Memory
written = record { align = 4; live = true; bytes = replicate 4 byte.Undef ++ (byte.Num 4 ∷ byte.Num 3 ∷ byte.Num 2 ∷ byte.Num 1 ∷ []) } ∷ []

abbrev pub dead_block : Memory
dead_block = ended (new_cell 8 4 []) ∷ []

abbrev pub at : ℕ → Value
at offset = value.Ptr 0 (pos offset)

pub record AccessesAreThese : Type 0 where
  pub store : stored one_block (kind.Int 32) (value.Num 16909060) (at 4) 4 ≡ Some written
  pub load : loaded written (kind.Int 32) (at 4) 4 ≡ Gives (value.Num 16909060)
  pub second_byte : loaded written (kind.Int 8) (at 5) 1 ≡ Gives (value.Num 3)
  pub before_it : loaded written (kind.Int 32) (at 0) 4 ≡ Gives value.Undef
  pub half_undef : loaded written (kind.Int 32) (at 2) 2 ≡ Gives value.Undef
  pub past_the_end : loaded written (kind.Int 32) (at 6) 2 ≡ Trap
  pub at_the_end : loaded written (kind.Int 8) (at 8) 1 ≡ Trap
  pub unaligned_offset : loaded written (kind.Int 32) (at 2) 4 ≡ Trap
  pub unaligned_block : loaded written (kind.Int 32) (at 0) 8 ≡ Trap
  pub no_alignment : loaded written (kind.Int 8) (at 0) 0 ≡ Trap
  pub negative_offset : loaded written (kind.Int 8) (value.Ptr 0 (negsuc 0)) 1 ≡ Trap
  pub dead : loaded dead_block (kind.Int 8) (at 0) 1 ≡ Trap
  pub no_block : loaded written (kind.Int 8) (value.Ptr 1 (pos 0)) 1 ≡ Trap
  pub null : loaded written (kind.Int 8) (value.Bare 0) 1 ≡ Trap
  pub undef : stored one_block (kind.Int 8) (value.Num 0) value.Undef 1 ≡ None

-- name 0 is block 1's
abbrev pub one_name : Names
one_name = Some 1 ∷ []

abbrev pub two_names : Names
two_names = Some 1 ∷ Some 0 ∷ []

pub record ShowingsAreThese : Type 0 where
  pub number : shown_of one_name (value.Num 7) ≡ Some (shown.Num 7, one_name)
  pub named : shown_of one_name (value.Ptr 1 (pos 4)) ≡ Some (shown.Name 0 (pos 4), one_name)
  pub unnamed : shown_of one_name (value.Ptr 0 (pos 4)) ≡ Some (shown.Name 1 (pos 4), two_names)
  pub again : shown_of two_names (value.Ptr 0 (pos 0)) ≡ Some (shown.Name 1 (pos 0), two_names)
  pub undef_as_a_number : chosen (kind.Int 8) one_block one_name (choice.Pick (shown.Num 255)) ≡ Some (shown.Num 255, one_name)
  pub undef_as_too_wide : chosen (kind.Int 8) one_block one_name (choice.Pick (shown.Num 256)) ≡ None
  pub undef_as_a_name : chosen kind.Ptr one_block one_name (choice.Pick (shown.Name 0 (pos 9))) ≡ Some (shown.Name 0 (pos 9), one_name)
  pub undef_as_no_name : chosen kind.Ptr one_block one_name (choice.Pick (shown.Name 1 (pos 0))) ≡ None
  pub undef_as_next : chosen kind.Ptr one_block one_name (choice.Fresh (Some 0) (pos 2)) ≡ Some (shown.Name 1 (pos 2), two_names)
  pub undef_as_nothing : chosen kind.Ptr one_block one_name (choice.Fresh None (pos 2)) ≡ Some (shown.Name 1 (pos 2), Some 1 ∷ None ∷ [])
  pub undef_as_named_block : chosen kind.Ptr one_block two_names (choice.Fresh (Some 0) (pos 2)) ≡ None
  pub undef_as_no_block : chosen kind.Ptr one_block [] (choice.Fresh (Some 1) (pos 2)) ≡ None
  pub number_as_next : chosen (kind.Int 8) one_block one_name (choice.Fresh None (pos 0)) ≡ None
  pub resolves : resolved two_names 1 (pos 3) ≡ value.Ptr 0 (pos 3)
  pub bound_to_nothing : resolved (None ∷ []) 0 (pos 3) ≡ value.Undef
