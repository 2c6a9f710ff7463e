use Rattle.std.proofs.Common.{◌≡◌, ℕ, List, rules, subst}
use Rattle.json_forms.specs.Answers.{Answers}
use Rattle.hint_format.specs.Form.{register_of_text}
use Rattle.hint_format.specs.Reading.{read_leaves}
use Rattle.hint_format.proofs.texts.RegisterTextTextForm.read_text.Goals as goal

pub returns : goal.returns
returns c =
    let same : c.as_bytes.result.now ≡ c.args.text.now = search rules in
    subst (λ (bytes : List ℕ). Answers c.register.result (register_of_text read_leaves c.args.self.now.may_be_old bytes)) same c.register.ensures
