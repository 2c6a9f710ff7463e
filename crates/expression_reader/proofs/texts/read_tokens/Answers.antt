-- What the lexer answers, of the text.
use Rattle.std.proofs.Common.{subst, sym}
use Rattle.expression_reader.proofs.Lexed as expressions
use Rattle.expression_reader.proofs.NameTexts as names
use Rattle.expression_reader.proofs.TypeLexed as types
use Rattle.expression_reader.proofs.texts.read_tokens.Goals as goal
use Rattle.expression_reader.specs.Expressions.{IsExpressionFault}
use Rattle.expression_reader.specs.Names.{IsNameFault}
use Rattle.expression_reader.specs.Types.{IsTypeFault}

pub returns-in-Ok-clause-tokens : goal.returns-in-Ok-clause-tokens
returns-in-Ok-clause-tokens c = types.tokens_by c.args.text.now c.in-Ok.tokens.items c.in-Ok.ensures.tokens

pub returns-in-Err-clause-of_type : goal.returns-in-Err-clause-of_type
returns-in-Err-clause-of_type c =
    subst (IsTypeFault c.args.text.now) (sym c.of_lexer.ensures) (types.fault_told c.args.text.now c.in-Err.fault c.in-Err.ensures.fault)

pub returns-in-Err-clause-of_expression : goal.returns-in-Err-clause-of_expression
returns-in-Err-clause-of_expression c =
    subst (IsExpressionFault c.args.text.now) (sym c.of_lexer.ensures) (expressions.fault_told c.args.text.now c.in-Err.fault c.in-Err.ensures.fault)

pub returns-in-Err-clause-of_name : goal.returns-in-Err-clause-of_name
returns-in-Err-clause-of_name c sigil =
    subst (IsNameFault sigil c.args.text.now) (sym c.of_lexer.ensures) (names.fault_told sigil c.args.text.now c.in-Err.fault c.in-Err.ensures.fault)
