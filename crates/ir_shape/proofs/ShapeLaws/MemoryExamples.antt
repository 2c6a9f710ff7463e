-- The examples of faults in globals, declarations, lines of memory and calls.
use Rattle.std.proofs.Common.{refl}
use Rattle.ir_types.specs.declared.ty.Ty.TheViews.{outs-Ptr, outs-Array, outs-Named, outs-Void, outs-Int}
use Rattle.ir_types.proofs.Monotone as layout
use Rattle.ir_core.proofs.TypeNames.{at_array, at_int, at_named, at_ptr, at_void}
use Rattle.ir_core.proofs.Typing.{in_number}
use Rattle.ir_shape.proofs.ShapeLaws.Levels.{in_global, in_null, of_const, of_global, of_null, of_number, of_zero, start_of_const, start_of_zero}
use Rattle.ir_shape.proofs.ShapeLaws.SameTypes.{integers, name_and_integer, names, pointer_and_integer, pointers}
use Rattle.ir_typing.specs.ShapeKinds.Typed.{with_type}
use Rattle.ir_shape.specs.ShapeLaws.Laws.{Accesses, Addresses, Calls, Declarations, DeclarationsComeInOrder, Globals, RecursiveCalls, UsesOfAddresses}

-- the names in types, sizes, and the test of types
ruleset stated = (at_int, at_array, at_named, at_ptr, at_void)

ruleset sizes = (layout.at_int, layout.at_ptr, layout.at_array, layout.at_struct, layout.at_named)

ruleset same = (pointers, names, integers, name_and_integer)

-- ---- globals and declarations

pub globals : Globals
globals = (
  simp (stated, sizes) refl,
  simp (stated, sizes, start_of_const, in_null, of_const, of_null, outs-Int) refl,
  simp (stated, sizes, start_of_zero, of_zero) refl,
  simp (stated, sizes, start_of_const, in_global, of_const, of_global) refl,
  simp (stated, sizes, start_of_const, in_global, of_const, of_global, same) refl,
)

pub declarations : Declarations
declarations = (
  simp (stated) refl,
  simp (stated, outs-Void) refl,
  simp (stated, outs-Ptr) refl,
  simp (stated, outs-Ptr) refl,
  simp (stated, sizes) refl,
)

pub declarations_come_in_order : DeclarationsComeInOrder
unfolding with_type
declarations_come_in_order = (simp (stated) refl, simp (stated) refl, simp (stated, outs-Void) refl, simp (stated, sizes) refl)

-- ---- lines

pub accesses : Accesses
unfolding with_type
accesses = (
  simp (stated, sizes, outs-Ptr, same) refl,
  simp (stated, sizes, outs-Ptr, same) refl,
  simp (stated, outs-Ptr, outs-Named, same) refl,
  simp (stated, outs-Ptr, same) refl,
  simp (stated, in_number, of_number, outs-Ptr, same) refl,
  simp (stated, sizes, outs-Ptr, same) refl,
)

pub addresses : Addresses
unfolding with_type
addresses = (
  simp (stated, sizes, in_number, of_number, outs-Ptr, outs-Named, same) refl,
  simp (stated, sizes, in_number, of_number, outs-Ptr, outs-Named, same) refl,
  simp (stated, sizes, in_number, of_number, outs-Ptr, outs-Named, outs-Int, same) refl,
  simp (stated, sizes, in_number, of_number, outs-Ptr, same) refl,
  simp (stated, sizes, in_number, of_number, outs-Ptr, outs-Named, outs-Array, same) refl,
)

pub uses_of_addresses : UsesOfAddresses
unfolding with_type
uses_of_addresses = (
  simp (stated, sizes, in_number, of_number, outs-Ptr, outs-Named, pointer_and_integer, same) refl,
  simp (stated, sizes, in_number, of_number, outs-Ptr, outs-Named, same) refl,
  simp (stated, outs-Ptr, outs-Named, of_number, same) refl,
  simp (stated, sizes, in_number, of_number, outs-Ptr, outs-Named, same) refl,
)

pub calls : Calls
unfolding with_type
calls = (simp (stated, outs-Ptr) refl, simp (stated, outs-Ptr) refl, simp (stated, outs-Ptr) refl, simp (stated, outs-Ptr) refl)

pub recursion : RecursiveCalls
unfolding with_type
recursion = (simp (stated, in_number, of_number) refl, simp (stated) refl)
