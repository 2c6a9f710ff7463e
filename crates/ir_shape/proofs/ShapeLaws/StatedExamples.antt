-- The examples of types that are stated.
use Rattle.std.proofs.Common.{refl}
use Rattle.ir_types.specs.declared.ty.Ty.TheViews.{outs-Ptr}
use Rattle.ir_types.proofs.Monotone as layout
use Rattle.ir_core.proofs.TypeNames.{at_array, at_int, at_named, at_ptr}
use Rattle.ir_shape.proofs.ShapeLaws.Levels.{in_cast, in_null, of_cast, of_null}
use Rattle.ir_shape.proofs.ShapeLaws.SameTypes.{integers, names, pointer_and_integer, pointers}
use Rattle.ir_typing.specs.ShapeKinds.Typed.{with_type}
use Rattle.ir_shape.specs.ShapeLaws.Laws.{StatedTypes}

-- the names in types, and the types that are named
ruleset stated = (at_int, at_array, at_named, at_ptr)

ruleset sizes = (layout.at_int, layout.at_ptr, layout.at_array, layout.at_struct, layout.at_named)

ruleset same = (pointers, names, integers, pointer_and_integer)

ruleset constants = (in_null, of_null, in_cast, of_cast)

pub stated_types : StatedTypes
unfolding with_type
stated_types = (
  (simp (stated, sizes, outs-Ptr, same) refl, simp (stated, sizes, outs-Ptr, same) refl),
  (simp (stated, constants, outs-Ptr, same) refl, simp (stated, constants, outs-Ptr, same) refl),
  (simp (stated, constants, outs-Ptr, same) refl, simp (stated, constants, outs-Ptr, same) refl),
  (simp (stated, constants, outs-Ptr, same) refl, simp (stated, constants, outs-Ptr, same) refl),
  (simp (stated, constants, outs-Ptr, same) refl, simp (stated, constants, outs-Ptr, same) refl),
  (simp (stated, constants, outs-Ptr, same) refl, simp (stated, constants, outs-Ptr, same) refl),
  (simp (stated, same) refl, simp (stated, same) refl),
)
