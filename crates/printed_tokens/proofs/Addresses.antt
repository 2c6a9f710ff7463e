-- Where its base points to the first type, an address is of the type to which its indices lead.
use Rattle.std.proofs.Common.{◌≡◌, List, [], ◌∷◌, refl}
use Rattle.ir_core.specs.Typing.{Index, element_type}
use Rattle.ir_types.specs.declared.named.NamedTy.{NamedTy}
use Rattle.ir_types.specs.declared.ty.Ty.{Ty, Ptr}
use Rattle.named_modules.specs.Addresses.{address_type}

pub from_pointer : (types : List NamedTy) (of : Ty) (is : List Index) → address_type types (Ptr of) of is ≡ element_type types of is
from_pointer types of [] = refl
from_pointer types of (i ∷ is) = refl
