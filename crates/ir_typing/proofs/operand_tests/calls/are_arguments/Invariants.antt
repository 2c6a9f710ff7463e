use Rattle.std.proofs.Common.{◌≡◌, drop, map}
use Rattle.ir_core.specs.declared.functions.Argument.{Argument}
use Rattle.ir_core.specs.Typing.{are_arguments}
use Rattle.ir_typing.proofs.operand_tests.calls.are_arguments.Given as goal

-- the parameters and arguments that are left decide
abbrev pub invariant-loop-at : goal.invariant-loop-at
invariant-loop-at g l =
    are_arguments l.variadic (map g.P.Typed.type_of (drop l.at l.params)) (map (λ (a : Argument). a.operand.ty) (drop l.at l.arguments))
    ≡ are_arguments l.variadic (map g.P.Typed.type_of l.params) (map (λ (a : Argument). a.operand.ty) l.arguments)
