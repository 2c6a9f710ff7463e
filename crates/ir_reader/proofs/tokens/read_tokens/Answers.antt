-- What the lexer answers, of the text.
use Rattle.std.proofs.Common.{subst, sym}
use Rattle.module_texts.specs.Texts.{IsTextFault}
use Rattle.ir_reader.proofs.Lexed.{fault_told, tokens_by}
use Rattle.ir_reader.proofs.tokens.read_tokens.Goals as goal

pub returns-in-Ok-clause-tokens : goal.returns-in-Ok-clause-tokens
returns-in-Ok-clause-tokens c = tokens_by c.args.text.now c.in-Ok.tokens.items c.in-Ok.ensures.tokens

pub returns-in-Err-clause-fault : goal.returns-in-Err-clause-fault
returns-in-Err-clause-fault c =
    subst (IsTextFault c.args.text.now) (sym c.of_lexer.ensures) (fault_told c.args.text.now c.in-Err.fault c.in-Err.ensures.fault)
