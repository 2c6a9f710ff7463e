use Rattle.std.proofs.Common.{◌≡◌, drop}
use Rattle.ir_machine.specs.State.{scope_of}
use Rattle.erhl_assert.specs.Steps.{rule_named}
use Rattle.rule_base.specs.Book.{meanings_of, answer_of}
use Rattle.rule_base.proofs.rule_book.RuleBook.ask.Given as goal

-- the boxes that are left answer as the whole book
abbrev pub invariant-loop-rule : goal.invariant-loop-rule
invariant-loop-rule g l =
    answer_of (rule_named (meanings_of (λ b. (goal.InferRule-dyn g (b.vtable, b.value)).called b.value) (λ b. (goal.InferRule-dyn g (b.vtable, b.value)).takes b.value) (drop l.rule-index l.rule-items)) l.name) (scope_of l.module) l.schema
    ≡ answer_of (rule_named (meanings_of (λ b. (goal.InferRule-dyn g (b.vtable, b.value)).called b.value) (λ b. (goal.InferRule-dyn g (b.vtable, b.value)).takes b.value) l.self.rules.items) l.name) (scope_of l.module) l.schema
