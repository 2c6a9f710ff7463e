use Rattle.std.proofs.Common.{◌≡◌, ℕ, List, rules, subst}
use Rattle.json_forms.specs.Answers.{Answers}
use Rattle.hint_format.specs.Form.{now_of_text}
use Rattle.hint_format.specs.Reading.{read_leaves}
use Rattle.hint_format.proofs.texts.NowTextTextForm.read_text.Goals as goal

pub returns : goal.returns
returns c =
    let same : c.as_bytes.result.now ≡ c.args.text.now = search rules in
    subst (λ (bytes : List ℕ). Answers c.now_register.result (now_of_text read_leaves bytes)) same c.now_register.ensures
