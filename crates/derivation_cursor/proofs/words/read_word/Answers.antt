use Rattle.derivation_cursor.proofs.Said.{as_word}
use Rattle.derivation_cursor.proofs.words.read_word.Goals as goal

pub returns-in-Some-clause-said : goal.returns-in-Some-clause-said
returns-in-Some-clause-said c = as_word c.args.c.now c.token.new.self c.in-Some.token c.word_in.result c.in-Some.ensures c.word_in.ensures
