use Rattle.std.proofs.Common.{◌≡◌, ◌+◌, ap, ◌∙◌, arith}
use Rattle.ir_lexer.specs.Bytes.{class_of}
use Rattle.ir_lexer.specs.declared.bytes.Class.TheVariants as class
use Rattle.ir_lexer.proofs.ByNumber.{told_at}
use Rattle.ir_lexer.proofs.bytes.class_of.Goals as goal

pub returns : goal.returns
unfolding class_of
returns c =
    let is : 0 + c.from.result ≡ c.args.byte = omega arith in
    told_at class.Blank class_of 0 256 c.from.result (omega arith) ∙ ap class_of is
