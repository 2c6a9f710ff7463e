use Rattle.std.proofs.Common.{◌≡◌, drop, map}
use Rattle.std.specs.List.{list_all}
use Rattle.ir_core.specs.Sizes.{entered_along}
use Rattle.ir_core.specs.Typing.{index_of}
use Rattle.ir_values.specs.Addresses.{is_small}
use Rattle.rule_base.proofs.typed.enter_small.Given as goal

-- the types that the indices that are left enter decide
abbrev pub invariant-loop-index : goal.invariant-loop-index
invariant-loop-index l =
    list_all (is_small l.types) (entered_along l.types l.ty (map index_of (drop l.index-index l.indices)))
    ≡ list_all (is_small l.types) (entered_along l.types l.of (map index_of l.indices))
