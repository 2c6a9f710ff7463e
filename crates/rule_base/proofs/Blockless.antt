-- In a memory without blocks nothing is loaded.
use Rattle.std.proofs.Common.{◌≡◌, ℕ, [], refl}
use Rattle.std.specs.Prelude.{pos, negsuc, Some}
use Rattle.ir_core.specs.declared.values.Value.{Value}
use Rattle.ir_core.specs.declared.values.Value.TheVariants.{Num, Ptr, Bare, Undef, Poison}
use Rattle.ir_core.specs.declared.values.Kind.{Kind}
use Rattle.ir_values.specs.declared.operations.Outcome.TheVariants.{Trap}
use Rattle.block_memory.specs.Memory.{loaded_of}

pub nothing_is_loaded : (k : Kind) (v : Value) (align : ℕ) → loaded_of [] (Some k) v align ≡ Trap
nothing_is_loaded k (Ptr block (pos offset)) align = refl
nothing_is_loaded k (Ptr block (negsuc offset)) align = refl
nothing_is_loaded k (Num n) align = refl
nothing_is_loaded k (Bare address) align = refl
nothing_is_loaded k Undef align = refl
nothing_is_loaded k Poison align = refl
