-- what is read and what the rest means make up the whole
use Rattle.std.proofs.Common.{◌≡◌, ◌++◌, length}
use Rattle.ir_lexer.specs.Strings.{unescaped}
use Rattle.ir_lexer.proofs.strings.unescaped.Given as goal

abbrev pub invariant-loop-first : goal.invariant-loop-first
invariant-loop-first l = l.bytes.items ++ unescaped l.rest ≡ unescaped l.raw

abbrev pub decreases-loop-first : goal.decreases-loop-first
decreases-loop-first l = length l.rest
