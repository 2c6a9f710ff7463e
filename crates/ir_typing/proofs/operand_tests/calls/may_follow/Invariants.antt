use Rattle.std.proofs.Common.{◌≡◌, ◌&&◌, drop, map}
use Rattle.std.specs.List.{list_all}
use Rattle.ir_core.specs.declared.functions.Argument.{Argument}
use Rattle.ir_core.specs.Types.{is_first_class}
use Rattle.ir_typing.proofs.operand_tests.calls.may_follow.Given as goal

-- the arguments that are left decide
abbrev pub invariant-loop-argument : goal.invariant-loop-argument
invariant-loop-argument l = list_all (λ t. l.variadic && is_first_class t) (map (λ (a : Argument). a.operand.ty) (drop l.argument-index l.further))
    ≡ list_all (λ t. l.variadic && is_first_class t) (map (λ (a : Argument). a.operand.ty) l.further)
