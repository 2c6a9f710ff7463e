use Rattle.std.proofs.lemmas.Result.{IfOk-weaker}
use Rattle.module_derivations.proofs.Derivations.{derivations_mean}
use Rattle.module_grammar.specs.Sorts as sort
use Rattle.derivation_writer.proofs.ReadMarks.Whole.{marked, type_starts}
use Rattle.derivation_writer.proofs.read_marks.reader.read_type.Goals as goal

pub run-requires : goal.run-requires
run-requires c = type_starts

pub returns : goal.returns
returns c = IfOk-weaker c.run.result _ _ (λ it h. marked 33 sort.AnyType c.args.kinds.now derivations_mean.types it h) c.run.ensures
