-- Further indices lead on behind a first one, which is an integer.
use Rattle.std.proofs.Common.{◌≡◌, ◌∙◌, Bool, true, cond, List, [], ◌∷◌, map, Option, None, refl, ap, sym}
use Rattle.std.specs.Option.{option_map}
use Rattle.ir_core.specs.declared.operands.Operand.{Operand}
use Rattle.ir_core.specs.Types.{is_integer}
use Rattle.ir_core.specs.Typing.{element_type, index_of, led_to}
use Rattle.ir_types.specs.declared.named.NamedTy.{NamedTy}
use Rattle.ir_types.specs.declared.ty.Ty.{Ty, Ptr}
use Rattle.named_modules.specs.Addresses.{address_type}

pub led_behind : {R : Type 0} (types : List NamedTy) (of : Ty) (first : Operand R) (further indices : List (Operand R)) (integer : Bool) (led : Option Ty)
    → indices ≡ first ∷ further → integer ≡ is_integer first.ty → integer ≡ true → led ≡ led_to types of (map index_of further)
    → option_map Ptr led ≡ element_type types of (map index_of indices)
led_behind types of first further indices integer led are is holds leads =
    ap (option_map Ptr) leads
    ∙ ap (λ b. cond b (option_map Ptr (led_to types of (map index_of further))) None) (sym holds ∙ is)
    ∙ ap (λ os. element_type types of (map index_of os)) (sym are)

-- where there is an index
pub address_behind : {R : Type 0} (types : List NamedTy) (base of : Ty) (indices further : List (Operand R)) (first : Operand R)
    → indices ≡ first ∷ further → element_type types of (map index_of indices) ≡ address_type types base of (map index_of indices)
address_behind types base of [] further first are = cc
address_behind types base of (i ∷ is) further first are = refl
