-- What makes a block, or has no size, isn't large.
use Rattle.std.proofs.Common.{◌≡◌, ◌∙◌, ◌&&◌, ◌||◌, ℕ, Bool, true, false, not, List, [], ◌∷◌, Result, Ok, Err, refl, ap}
use Rattle.std.specs.List.{list_any}
use Rattle.ir_core.specs.Sizes.{one_of_each, stepped}
use Rattle.ir_core.specs.Typing.{Index}
use Rattle.ir_types.specs.Named.{block_of}
use Rattle.ir_types.specs.declared.named.NamedTy.{NamedTy}
use Rattle.ir_types.specs.declared.sizes.SizeFault.{SizeFault}
use Rattle.ir_types.specs.declared.sizes.SizeFault.TheVariants.{TooLarge, Unsized}
use Rattle.ir_types.specs.declared.ty.Ty.{Ty}
use Rattle.ir_typing.specs.ModuleLimits.Small.{are_small, is_none_larger, is_small, stepped_small}
use Rattle.module_spelling.specs.Blocks.{is_too_large}
use Rattle.fault_walk.specs.Told.{is_large_block, is_one_large, is_stepped_large}

turned_result : (r : Result ℕ SizeFault) → not (is_none_larger r) ≡ is_too_large r
turned_result (Ok n) = refl
turned_result (Err Unsized) = refl
turned_result (Err TooLarge) = refl

pub turned : (types : List NamedTy) (t : Ty) (n : ℕ) → not (is_small types (t, n)) ≡ is_large_block types t n
turned types t n = turned_result (block_of types t n)

each : (r : Result ℕ SizeFault) (rest : Bool) → (is_none_larger r && rest) ≡ true → (is_too_large r ≡ false) × (rest ≡ true)
each (Ok n) rest e = (refl, e)
each (Err Unsized) rest e = (refl, e)
each (Err TooLarge) rest e = cc

none_large : (types : List NamedTy) (ts : List Ty) → are_small types (one_of_each ts) ≡ true → list_any (is_one_large types) ts ≡ false
none_large types [] e = refl
none_large types (t ∷ ts) e =
    let both = each (block_of types t 1) (are_small types (one_of_each ts)) e in
    ap (λ b. b || list_any (is_one_large types) ts) both.0 ∙ none_large types ts both.1

pub none_stepped : (types : List NamedTy) (t : Ty) (is : List Index) → stepped_small types t is ≡ true → is_stepped_large types t is ≡ false
none_stepped types t is e = none_large types (stepped types t is) e
