-- What holds of every layout.
use Rattle.std.specs.Prelude.{◌≡◌, ◌↔◌, ◌+◌, ◌*◌, ◌%◌, ◌<◌, ◌≤◌, ℕ, zero, suc, List, [], ◌∷◌, None, Some, Ok}
use Rattle.std.specs.Int.{IsPowerOfTwo}
use Rattle.ir_types.specs.declared.layout.Layout.{Layout}
use Rattle.ir_types.specs.declared.named.NamedTy.{NamedTy}
use Rattle.ir_types.specs.declared.names.Name.{Name}
use Rattle.ir_types.specs.declared.ty.Ty.{Ty, Array, Ptr, Struct, Named}
use Rattle.ir_types.specs.Layout.{of_ptr}
use Rattle.ir_types.specs.Named.{fields_of, fields_in, field_offset, HasLayout, layout_of, size_of, block_of}

-- the layout that is computed is the one that the type has, and it is computed where there is one
abbrev pub LayoutsAreComputed : Type 0
LayoutsAreComputed = (types : List NamedTy) (t : Ty) (layout : Layout) → HasLayout types t layout ↔ (layout_of types t ≡ Some layout)

abbrev pub LayoutsAreOne : Type 0
LayoutsAreOne = (types : List NamedTy) (t : Ty) (one other : Layout) → HasLayout types t one → HasLayout types t other → one ≡ other

-- a named type has the layout of its struct, and none where it has no struct
abbrev pub NamesAreStructs : Type 0
NamesAreStructs =
    (types : List NamedTy) (x : Name)
    → ((fields : List Ty) → fields_of types x ≡ Some fields → layout_of types (Named x) ≡ layout_of types (Struct fields))
    × (fields_of types x ≡ None → layout_of types (Named x) ≡ None)

-- a pointer has a layout, whatever it points to
abbrev pub PointersHaveLayouts : Type 0
PointersHaveLayouts = (types : List NamedTy) (t : Ty) → HasLayout types (Ptr t) of_ptr

-- ---- sizes

-- the size is a multiple of the alignment
abbrev pub SizesAreMultiples : Type 0
SizesAreMultiples = (types : List NamedTy) (t : Ty) (l : Layout) → layout_of types t ≡ Some l → l.size % l.align ≡ 0

abbrev pub AlignsArePowers : Type 0
AlignsArePowers = (types : List NamedTy) (t : Ty) (l : Layout) → layout_of types t ≡ Some l → IsPowerOfTwo l.align

-- ---- parts

-- it stands at that place of the list
abbrev pub IsAt : {A : Type 0} → List A → ℕ → A → Type 0
IsAt [] k part = ⊥
IsAt (x ∷ xs) zero part = x ≡ part
IsAt (x ∷ xs) (suc k) part = IsAt xs k part

-- the part has this layout, and lies inside of `whole` where it begins at `offset`
pub record LiesInside (types : List NamedTy) (whole : Layout) (part : Ty) (offset : ℕ) : Type 0 where
  pub layout : Layout
  pub has : layout_of types part ≡ Some layout
  pub inside : offset + layout.size ≤ whole.size
  pub aligned : offset % layout.align ≡ 0

-- a field lies inside of its struct, at a multiple of its alignment
abbrev pub FieldsLieInside : Type 0
FieldsLieInside =
    (types : List NamedTy) (t : Ty) (l : Layout) (k : ℕ) (part : Ty)
    → layout_of types t ≡ Some l → IsAt (fields_in types t) k part → LiesInside types l part (field_offset types t k)

-- a field ends where a later one begins, or before
abbrev pub FieldsAreApart : Type 0
FieldsAreApart =
    (types : List NamedTy) (t : Ty) (l : Layout) (j k : ℕ) (part other : Ty)
    → layout_of types t ≡ Some l → j < k → IsAt (fields_in types t) j part → IsAt (fields_in types t) k other
    → field_offset types t j + size_of types part ≤ field_offset types t k

-- an element lies inside of its array, at a multiple of its alignment, behind those before it
abbrev pub ElementsLieInside : Type 0
ElementsLieInside =
    (types : List NamedTy) (count : ℕ) (part : Ty) (l : Layout) (k : ℕ)
    → layout_of types (Array count part) ≡ Some l → k < count → LiesInside types l part (k * size_of types part)

-- a field of what makes a block makes one that is no larger, and so does an element
abbrev pub PartsFit : Type 0
PartsFit =
    (types : List NamedTy) (t : Ty) (l : Layout) (part : Ty) (offset size : ℕ)
    → layout_of types t ≡ Some l → LiesInside types l part offset → block_of types t 1 ≡ Ok size
    → (smaller : ℕ) × (block_of types part 1 ≡ Ok smaller) × (smaller ≤ size)
