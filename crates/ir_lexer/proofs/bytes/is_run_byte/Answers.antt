use Rattle.std.proofs.Common.{◌≡◌, ◌+◌, false, ap, ◌∙◌, arith}
use Rattle.ir_core.specs.Names.{is_name_byte}
use Rattle.ir_lexer.proofs.ByNumber.{told_at}
use Rattle.ir_lexer.proofs.bytes.is_run_byte.Goals as goal

pub returns : goal.returns
returns c =
    let is : 0 + c.from.result ≡ c.args.byte = omega arith in
    told_at false is_name_byte 0 256 c.from.result (omega arith) ∙ ap is_name_byte is
