-- The tests of depths and blocks say what it is to be within the limits.
use Rattle.std.proofs.Common.{◌≡◌, ◌≤◌, ◌↔◌, ℕ, true, false, List, Result, Ok, Err, refl}
use Rattle.std.proofs.lemmas.Bool.{le-leb, leb-true}
use Rattle.ir_types.specs.declared.named.NamedTy.{NamedTy}
use Rattle.ir_types.specs.declared.sizes.SizeFault.{SizeFault}
use Rattle.ir_types.specs.declared.sizes.SizeFault.TheVariants.{TooLarge, Unsized}
use Rattle.ir_types.specs.Named.{block_of}
use Rattle.ir_core.specs.Depths.{AreShallow}
use Rattle.ir_core.specs.Limits.{depth_limit}
use Rattle.ir_core.specs.Sizes.{AreSmall, Blocks}
use Rattle.ir_typing.specs.ModuleLimits.Small.{are_small, is_none_larger, is_small}
use Rattle.ir_typing.specs.ModuleLimits.Within.{are_shallow, is_shallow}
use Rattle.ir_typing.proofs.OperandTests.Tests.{all_tested}

shallow_where : (ds : List ℕ) → (are_shallow ds ≡ true) ↔ AreShallow ds
shallow_where = all_tested is_shallow (λ d. d ≤ depth_limit) (λ d. (leb-true d depth_limit, le-leb d depth_limit))

pub shallow_by : (ds : List ℕ) → are_shallow ds ≡ true → AreShallow ds
shallow_by ds = (shallow_where ds).0

pub shallow_not : (ds : List ℕ) → are_shallow ds ≡ false → AreShallow ds → ⊥
shallow_not ds e all = let yes : are_shallow ds ≡ true = (shallow_where ds).1 all in cc

one_by : (r : Result ℕ SizeFault) → is_none_larger r ≡ true → r ≡ Err TooLarge → ⊥
one_by (Ok n) e is = cc
one_by (Err Unsized) e is = cc
one_by (Err TooLarge) e is = cc

one_is : (r : Result ℕ SizeFault) → (r ≡ Err TooLarge → ⊥) → is_none_larger r ≡ true
one_is (Ok n) not = refl
one_is (Err Unsized) not = refl
one_is (Err TooLarge) not = absurd (not refl)

small_where : (types : List NamedTy) (bs : Blocks) → (are_small types bs ≡ true) ↔ AreSmall types bs
small_where types =
    all_tested (is_small types) (λ b. block_of types b.0 b.1 ≡ Err TooLarge → ⊥) (λ b. (one_by (block_of types b.0 b.1), one_is (block_of types b.0 b.1)))

pub small_by : (types : List NamedTy) (bs : Blocks) → are_small types bs ≡ true → AreSmall types bs
small_by types bs = (small_where types bs).0

pub small_not : (types : List NamedTy) (bs : Blocks) → are_small types bs ≡ false → AreSmall types bs → ⊥
small_not types bs e all = let yes : are_small types bs ≡ true = (small_where types bs).1 all in cc
