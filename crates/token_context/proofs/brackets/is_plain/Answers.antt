use Rattle.std.proofs.Common.{◌≡◌, ◌+◌, ap, ◌∙◌, arith}
use Rattle.module_grammar.specs.Balanced.{is_plain_kind}
use Rattle.token_context.proofs.ByNumber.{told_at}
use Rattle.token_context.proofs.brackets.is_plain.Goals as goal

pub returns : goal.returns
returns c =
    let is : 0 + c.from.result ≡ c.args.kind = omega arith in
    told_at is_plain_kind 0 256 c.from.result (omega arith) ∙ ap is_plain_kind is
