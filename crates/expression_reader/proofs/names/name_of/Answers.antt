-- What is read of the tokens is said of their text.
use Rattle.std.proofs.Common.{rules}
use Rattle.expression_reader.proofs.NameTexts.{told_fault, told_name}
use Rattle.expression_reader.proofs.names.name_of.Goals as goal

pub returns-clause-spelled : goal.returns-clause-spelled
returns-clause-spelled c =
    told_name c.args.sigil c.args.text.now c.in_ok-tokens.tokens.items c.as_slice.result.now c.as_slice.ensures.value c.in_ok-tokens.ensures.tokens
    c.name_in.result c.name_in.ensures.name

pub returns-clause-fault : goal.returns-clause-fault
returns-clause-fault c =
    told_fault c.args.sigil c.args.text.now c.in_ok-tokens.tokens.items c.as_slice.result.now c.as_slice.ensures.value c.in_ok-tokens.ensures.tokens
    c.name_in.result c.name_in.ensures.fault

pub returns-in_err-tokens-clause-fault : goal.returns-in_err-tokens-clause-fault
returns-in_err-tokens-clause-fault c = let told = c.in_err-tokens.ensures.of_name c.args.sigil in search rules
