-- A book of boxed rules, as definitions see it: the meanings of its rules in their order.
use Rattle.std.specs.Prelude.{ℕ, Bool, cond, List, map, Option, None, Some}
use Rattle.ir_values.specs.Constants.{Scope}
use Rattle.erhl_assert.specs.declared.facts.Schema.{Schema}
use Rattle.erhl_assert.specs.Steps.{Meaning, Rules}
use Rattle.rule_base.specs.declared.rule_book.RuleBook.{RuleBook}
use Rattle.rule_base.specs.declared.rule_book.Fitness.{Fitness}
use Rattle.rule_base.specs.declared.rule_book.Fitness.TheVariants.{Unknown, Unfit, Fits}

-- the meanings of boxes, by what a box is called and what it takes
abbrev pub meanings_of : {B : Type 0} → (B → List ℕ) → (B → Scope → Schema → Bool) → List B → Rules
meanings_of called takes boxes = map (λ b. record { name = called b; takes = takes b }) boxes

-- the meanings of a book's rules, by what a rule is called and what it takes
abbrev pub rules_of : {V : Type 0} {D : V → Type 0} → ((v : V) × D v → List ℕ) → ((v : V) × D v → Scope → Schema → Bool) → RuleBook V D → Rules
rules_of called takes book = meanings_of (λ b. called (b.vtable, b.value)) (λ b. takes (b.vtable, b.value)) book.rules.items

-- what a book says of a schema, by the rule that it has of the name
abbrev pub answer_of : Option Meaning → Scope → Schema → Fitness
answer_of None scope schema = Unknown
answer_of (Some r) scope schema = cond (r.takes scope schema) Fits Unfit
