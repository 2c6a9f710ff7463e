-- Examples of layouts, worked out by hand.
use Rattle.std.specs.Prelude.{◌≡◌, ℕ, ◌^◌, codes, List, [], ◌∷◌, Option, None, Some, Ok, Err}
use Rattle.ir_types.specs.declared.named.NamedTy.{NamedTy}
use Rattle.ir_types.specs.declared.names.Name.TheVariants.{Text}
use Rattle.ir_types.specs.declared.ty.Ty.{Ty, Int, Ptr, Array, Struct, Named, Void}
use Rattle.ir_types.specs.declared.sizes.SizeFault.TheVariants.{Unsized, TooLarge}
use Rattle.ir_types.specs.Named.{layout_of, block_of, field_offset}

-- in a module without named types the type has this size and this alignment
abbrev pub Takes : Ty → ℕ → ℕ → Type 0
Takes t size align = layout_of [] t ≡ Some (record { size = size; align = align })

-- an integer takes its bytes, rounded up to 1, 2, 4 or 8 of them
pub record IntegersTake : Type 0 where
  pub one_bit : Takes (Int 1) 1 1
  pub seven_bits : Takes (Int 7) 1 1
  pub eight_bits : Takes (Int 8) 1 1
  pub nine_bits : Takes (Int 9) 2 2
  pub seventeen_bits : Takes (Int 17) 4 4
  pub thirty_three_bits : Takes (Int 33) 8 8
  pub sixty_four_bits : Takes (Int 64) 8 8

-- an array has no gaps, and none of its elements need be there
pub record ArraysTake : Type 0 where
  pub bytes : Takes (Array 3 (Int 8)) 3 1
  pub odd_integers : Takes (Array 3 (Int 17)) 12 4
  pub none : Takes (Array 0 (Int 64)) 0 8
  pub structs : Takes (Array 3 (Struct (Int 8 ∷ Int 32 ∷ []))) 24 4
  pub many : Takes (Array 4294967296 (Array 4294967296 (Int 8))) (2 ^ 64) 1

-- `{i8, i32}` has 3 bytes of padding behind its first field, `{i64, i8}` 7 behind its last
pub record StructsTake : Type 0 where
  pub empty : Takes (Struct []) 0 1
  pub padded : Takes (Struct (Int 8 ∷ Int 32 ∷ [])) 8 4
  pub padded_behind : Takes (Struct (Int 64 ∷ Int 8 ∷ [])) 16 8
  pub nested : Takes (Struct (Int 8 ∷ Struct (Int 64 ∷ Int 8 ∷ []) ∷ Int 16 ∷ [])) 32 8
  pub pointers : Takes (Struct (Int 1 ∷ Ptr Void ∷ [])) 16 8

abbrev pub named : List ℕ → Option (List Ty) → NamedTy
named bytes fields = record { name = Text bytes; fields = fields }

abbrev pub a : Ty
a = Named (Text (codes "a"))

abbrev pub b : Ty
b = Named (Text (codes "b"))

abbrev pub c : Ty
c = Named (Text (codes "c"))

-- `%a = type { %b, i8 }` before `%b = type { i32 }`
abbrev pub forward : List NamedTy
forward = named (codes "a") (Some (b ∷ Int 8 ∷ [])) ∷ named (codes "b") (Some (Int 32 ∷ [])) ∷ []

-- `%a = type { i32, %a* }`
abbrev pub linked : List NamedTy
linked = named (codes "a") (Some (Int 32 ∷ Ptr a ∷ [])) ∷ []

-- `%a = type { [0 x %b] }`, and so `%b` of `%c`, and `%c` of `%a`
abbrev pub in_turn : List NamedTy
in_turn = named (codes "a") (Some (Array 0 b ∷ [])) ∷ named (codes "b") (Some (Array 0 c ∷ [])) ∷ named (codes "c") (Some (Array 0 a ∷ [])) ∷ []

-- `%a = type opaque`
abbrev pub one_opaque : List NamedTy
one_opaque = named (codes "a") None ∷ []

-- A named type has the layout of its struct. None has one that holds itself without a pointer, even by arrays of no elements; that is
-- opaque; that holds an opaque type, or `void`; or that no type has for its name. A pointer to each has one.
pub record NamesTake : Type 0 where
  pub behind : layout_of forward a ≡ Some (record { size = 8; align = 4 })
  pub list : layout_of linked a ≡ Some (record { size = 16; align = 8 })
  pub turns : layout_of in_turn a ≡ None
  pub to_turns : layout_of in_turn (Ptr a) ≡ Some (record { size = 8; align = 8 })
  pub opaque : layout_of one_opaque a ≡ None
  pub of_opaque : layout_of one_opaque (Struct (Int 8 ∷ a ∷ [])) ≡ None
  pub to_opaque : layout_of one_opaque (Struct (Int 8 ∷ Ptr a ∷ [])) ≡ Some (record { size = 16; align = 8 })
  pub void : layout_of [] Void ≡ None
  pub of_void : layout_of [] (Array 0 Void) ≡ None
  pub unknown : layout_of one_opaque b ≡ None

-- `[4294967296 x [4294967296 x i8]]`
abbrev pub huge : Ty
huge = Array 4294967296 (Array 4294967296 (Int 8))

-- a block has 2^31 bytes at most
pub record BlocksFit : Type 0 where
  pub exactly : block_of [] (Int 8) 2147483648 ≡ Ok 2147483648
  pub one_more : block_of [] (Int 8) 2147483649 ≡ Err TooLarge
  pub in_array : block_of [] (Array 2147483649 (Int 8)) 1 ≡ Err TooLarge
  pub too_huge : block_of [] huge 1 ≡ Err TooLarge
  pub none_huge : block_of [] huge 0 ≡ Ok 0
  pub opaque : block_of one_opaque a 0 ≡ Err Unsized
  pub to_opaque : block_of one_opaque (Ptr a) 2 ≡ Ok 16

-- `{i8, {i64, i8}, i16}`, and the second field of `%a = type { i32, %a* }`
pub record FieldsBegin : Type 0 where
  pub first : field_offset [] (Struct (Int 8 ∷ Struct (Int 64 ∷ Int 8 ∷ []) ∷ Int 16 ∷ [])) 0 ≡ 0
  pub second : field_offset [] (Struct (Int 8 ∷ Struct (Int 64 ∷ Int 8 ∷ []) ∷ Int 16 ∷ [])) 1 ≡ 8
  pub third : field_offset [] (Struct (Int 8 ∷ Struct (Int 64 ∷ Int 8 ∷ []) ∷ Int 16 ∷ [])) 2 ≡ 24
  pub of_named : field_offset linked a 1 ≡ 8
