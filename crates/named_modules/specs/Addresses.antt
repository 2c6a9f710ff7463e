-- The types of addresses (LangRef 3.7, getelementptr).
use Rattle.std.specs.Prelude.{List, [], ◌∷◌, Option, Some}
use Rattle.ir_core.specs.Typing.{Index, element_type}
use Rattle.ir_types.specs.declared.named.NamedTy.{NamedTy}
use Rattle.ir_types.specs.declared.ty.Ty.{Ty}

-- The type of an address, from that of its base: without index it is the base's, else the one to which the indices lead.
-- `getelementptr i8, i16* %p` is an `i16*`.
abbrev pub address_type : List NamedTy → Ty → Ty → List Index → Option Ty
address_type types base of [] = Some base
address_type types base of (i ∷ is) = element_type types of (i ∷ is)
