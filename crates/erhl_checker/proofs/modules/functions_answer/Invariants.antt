use Rattle.std.proofs.Common.{◌≡◌, drop}
use Rattle.ir_machine.specs.State.{scope_of}
use Rattle.erhl_assert.specs.Acceptance.{functions_answer}
use Rattle.rule_base.specs.Book.{rules_of}
use Rattle.erhl_checker.proofs.modules.functions_answer.Given as goal

-- the functions before were valid, so those that are left decide
abbrev pub invariant-loop-f : goal.invariant-loop-f
invariant-loop-f g l =
    let rules = rules_of (λ x. (goal.InferRule-dyn g x).called x.1) (λ x. (goal.InferRule-dyn g x).takes x.1) l.book in
    functions_answer rules (scope_of l.«module») (record { functions = l.hints }) (drop l.f-index l.source) l.rest
    ≡ functions_answer rules (scope_of l.«module») (record { functions = l.hints }) l.source l.target
