use Rattle.std.proofs.Common.{◌≡◌, drop}
use Rattle.std.specs.List.{list_all}
use Rattle.erhl_assert.specs.Typed.{is_known}
use Rattle.rule_base.proofs.typed.+types.Given as goal

-- the types that are left decide
abbrev pub invariant-are_known-loop-ty : goal.invariant-are_known-loop-ty
invariant-are_known-loop-ty l = list_all (is_known l.types) (drop l.ty-index l.fields) ≡ list_all (is_known l.types) l.fields
