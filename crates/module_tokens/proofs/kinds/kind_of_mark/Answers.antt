use Rattle.std.proofs.Common.{◌≡◌, ◌+◌, ap, ◌∙◌, arith}
use Rattle.module_grammar.specs.Spelled.{mark_symbol}
use Rattle.module_grammar.specs.Symbols.{kind_of}
use Rattle.module_tokens.proofs.ByNumber.{told_at}
use Rattle.module_tokens.proofs.kinds.kind_of_mark.Goals as goal

pub returns : goal.returns
unfolding mark_symbol
returns c = λ start.
    let is : 0 + c.from.result ≡ c.args.mark = omega arith in
    told_at (λ mark. kind_of (mark_symbol mark start)) 0 256 c.from.result (omega arith)
    ∙ ap (λ mark. kind_of (mark_symbol mark start)) is
