use Rattle.std.proofs.Common.{ap, sym, ◌∙◌}
use Rattle.token_context.proofs.Classes.{plain_class}
use Rattle.token_context.specs.Brackets.{moved}
use Rattle.token_context.proofs.brackets.Brackets.step.Goals as goal

pub returns-then-is_plain : goal.returns-then-is_plain
returns-then-is_plain c =
    c.pass.ensures c.args.place ∙ ap (λ class. moved class c.args.self.now c.args.place c.args.kind) (sym (plain_class c.args.kind (sym c.if-is_plain.ensures)))
