-- Words of private functions: the types of names as they are kept.
use Rattle.std.specs.Prelude.{ℕ, List, map, Option, slice_get}
use Rattle.std.specs.Borrow.{Bor}
use Rattle.std.specs.Map.{lookup}
use Rattle.std.specs.Option.{option_copied, option_map}
use Rattle.ir_types.specs.declared.names.Name.{Name}
use Rattle.ir_types.specs.declared.ty.Ty.{Ty}
use Rattle.ir_types.specs.Same.{same_name}
use Rattle.ir_typing.specs.declared.shape_kinds.held_types.HeldTypes.{HeldTypes}
use Rattle.ir_typing.specs.declared.shape_kinds.held_types.HeldTypes.TheVariants.{Few, Many}
use Rattle.ir_typing.specs.declared.shape_kinds.held_types.Told.{Told}
use Rattle.ir_typing.specs.declared.shape_kinds.lent_types.LentTypes.{LentTypes}
use Rattle.ir_typing.specs.ShapeKinds.Typed as meaning

-- a name with what is told of it
abbrev pub Entry : Type 0
Entry = Bor Name × Option (Bor Ty)

abbrev pub entries_told : List Told → List Entry
entries_told = map (λ (t : Told). (t.marked.name, t.ty))

-- what is told at a place, if there is one
abbrev pub told_at : List Told → ℕ → Option (Option (Bor Ty))
told_at row place = option_map (λ (t : Told). t.ty) (slice_get row place)

abbrev pub entries_held : HeldTypes → List Entry
entries_held (Few row) = entries_told row.items
entries_held (Many types) = types.entries

abbrev pub found_among : List Entry → Name → Option (Option (Bor Ty))
found_among entries name = lookup (λ (key : Bor Name). same_name name key.now) entries

abbrev pub found_in : LentTypes → Name → Option (Option (Bor Ty))
found_in types name = found_among (entries_held types.held) name

-- what is lent of a name
abbrev pub lent : Option (Option (Bor Ty)) → Option (Option Ty)
lent found = option_map option_copied found

abbrev pub types_among : List Entry → meaning.Types
types_among entries name = lent (found_among entries name)

unfoldable pub type_in : LentTypes → meaning.Types
type_in types name = lent (found_in types name)
