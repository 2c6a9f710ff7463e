use Rattle.std.proofs.Common.{◌≡◌, drop}
use Rattle.std.specs.List.{list_all}
use Rattle.ir_types.specs.Named.{is_sized}
use Rattle.ir_typing.proofs.operand_tests.sized.+sized.Given as goal

-- the types that are left decide
abbrev pub invariant-have_sizes-loop-ty : goal.invariant-have_sizes-loop-ty
invariant-have_sizes-loop-ty l = list_all (is_sized l.«module».types) (drop l.ty-index l.types) ≡ list_all (is_sized l.«module».types) l.types
