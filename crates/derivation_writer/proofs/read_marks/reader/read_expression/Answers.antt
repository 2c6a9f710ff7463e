use Rattle.std.proofs.lemmas.Result.{IfOk-weaker}
use Rattle.module_derivations.proofs.Derivations.{derivations_mean}
use Rattle.module_grammar.specs.Sorts as sort
use Rattle.derivation_writer.proofs.ReadMarks.Whole.{marked, expression_starts}
use Rattle.derivation_writer.proofs.read_marks.reader.read_expression.Goals as goal

pub run-requires : goal.run-requires
run-requires c = expression_starts

pub returns : goal.returns
returns c = IfOk-weaker c.run.result _ _ (λ it h. marked 74 sort.Expr c.args.kinds.now derivations_mean.expressions it h) c.run.ensures
