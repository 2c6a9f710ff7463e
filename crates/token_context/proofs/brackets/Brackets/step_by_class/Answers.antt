use Rattle.std.proofs.Common.{ap, ◌∙◌}
use Rattle.token_context.specs.Brackets.{moved}
use Rattle.token_context.proofs.brackets.Brackets.step_by_class.Goals as goal

pub returns-in-Plain : goal.returns-in-Plain
returns-in-Plain c =
    c.pass.ensures c.args.place ∙ ap (λ class. moved class c.args.self.now c.args.place c.args.kind) c.in-Plain.ensures
