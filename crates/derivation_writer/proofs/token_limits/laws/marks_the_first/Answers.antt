use Rattle.derivation_writer.proofs.TokenLimits.Marks.{inside, marked, marked_all}
use Rattle.derivation_writer.proofs.token_limits.laws.marks_the_first.Goals as goal

pub returns : goal.returns
returns c = record {
  before = λ n f is. marked n f is.formed is.other;
  whole = λ n f is. marked_all n f is.formed is.other;
  inside = λ n f is. inside n f is.formed is.other;
}
