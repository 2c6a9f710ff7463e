-- The type that is built, at each kind of type.
use Rattle.std.proofs.Common.{◌≡◌, ℕ, List, map}
use Rattle.ir_lexer.specs.declared.token.Number.{Number}
use Rattle.ir_types.specs.declared.names.Name.{Name}
use Rattle.ir_types.specs.declared.ty.Ty as ty
use Rattle.ir_types.specs.declared.ty.Ty.{Ty}
use Rattle.module_grammar.specs.declared.places.Placed.{Placed}
use Rattle.module_grammar.specs.declared.types.TypeText.{TypeText, Int, Named, Ptr, Array, Struct}
use Rattle.named_modules.specs.Types.{count_built, type_at_level, type_of}
use Rattle.named_modules.proofs.TypeKinds as kind

pub of_int : (width : Placed ℕ) → type_of (Int width) ≡ ty.Int width.what
of_int = kind.at_int Ty type_at_level

pub of_named : (name : Placed Name) → type_of (Named name) ≡ ty.Named name.what
of_named = kind.at_named Ty type_at_level

pub of_ptr : (at : ℕ) (t : TypeText) → type_of (Ptr at t) ≡ ty.Ptr (type_of t)
of_ptr = kind.at_ptr Ty type_at_level

pub of_array : (at : ℕ) (c : Placed Number × TypeText) → type_of (Array at c) ≡ ty.Array (count_built c.0.what) (type_of c.1)
of_array at c = kind.at_array Ty type_at_level at c.0 c.1

pub of_struct : (at : ℕ) (ts : List TypeText) → type_of (Struct at ts) ≡ ty.Struct (map type_of ts)
of_struct = kind.at_struct Ty type_at_level
