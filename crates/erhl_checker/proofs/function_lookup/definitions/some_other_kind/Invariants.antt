use Rattle.std.proofs.Common.{◌≡◌, map, drop}
use Rattle.erhl_checker.specs.FunctionLookup.Defining.{some_other_kind}
use Rattle.erhl_checker.proofs.function_lookup.definitions.some_other_kind.Given as goal

abbrev pub invariant-loop-definition : goal.invariant-loop-definition
invariant-loop-definition l = some_other_kind l.expr (map (λ d. d.now) (drop l.definition-index l.definitions)) ≡ some_other_kind l.expr (map (λ d. d.now) l.definitions)
