-- By which step a fault of a text of one expression is found.
use Rattle.std.proofs.Common.{◌≡◌, ℕ, List, length, refl, ap}
use Rattle.std.specs.Prelude.{slice_get}
use Rattle.ir_core.specs.declared.limits.Limit.TheVariants as limit
use Rattle.ir_lexer.specs.declared.fault.TextFault.{TextFault}
use Rattle.ir_lexer.specs.declared.fault.TextFault.TheVariants as fault
use Rattle.ir_lexer.specs.declared.token.LexFault.TheVariants as lexer
use Rattle.module_grammar.specs.Laws.{WritesOneTree}
use Rattle.module_grammar.specs.Sorts.{Expr}
use Rattle.derivation_writer.proofs.ReadMarks.Whole.{expression_starts}
use Rattle.expression_reader.proofs.OneFault.{Deep, Form, Found, Lexed, Long, Out, Stuck, expected, left_out, one_told}
use Rattle.expression_reader.specs.Expressions.{IsExpressionFault, expression_number, logic_symbols}
use Rattle.expression_reader.specs.Laws.{ExpressionFaultsAreOne}
use Rattle.expression_reader.specs.Ranges.{range_faults}

abbrev expression_form : Form
expression_form = record { sort = Expr; number = expression_number; symbols = logic_symbols; faults = range_faults }

found : (bytes : List ℕ) (f : TextFault) → IsExpressionFault bytes f → (f ≡ fault.Memory → ⊥) → Found expression_form bytes f
found bytes (fault.Limit limit.Text) is some = Long is refl
found bytes (fault.Limit limit.Depth) is some = Deep is refl
found bytes (fault.Limit limit.Lines) is some = absurd is
found bytes (fault.Limit limit.Block) is some = absurd is
found bytes (fault.Limit limit.Json) is some = absurd is
found bytes (fault.Limit limit.Facts) is some = absurd is
found bytes (fault.BadByte place) is some = Lexed (lexer.BadByte place) is refl
found bytes (fault.BadString place) is some = Lexed (lexer.BadString place) is refl
found bytes (fault.BadNumber place) is some = Lexed (lexer.BadNumber place) is refl
found bytes (fault.Expected place) (tokens, has, (k, is, other, at)) some = Stuck (tokens, has, (k, is, expected (length bytes) tokens k place other at))
found bytes (fault.LeftOut place size) (tokens, has, (k, t, is, there, left, at, sized)) some =
    Stuck (tokens, has, (k, is, left_out (length bytes) (slice_get tokens k) t place size there left at sized))
found bytes (fault.Unknown place size) is some = absurd is
found bytes (fault.Twice place size) is some = absurd is
found bytes (fault.WrongNumber place due) is some = absurd is
found bytes (fault.WrongType place) (f, is, at) some = Out f is (ap fault.WrongType at)
found bytes fault.Memory is some = absurd (some refl)

pub faults_are_one : WritesOneTree Expr → ExpressionFaultsAreOne
faults_are_one once bytes f g is other =
    one_told expression_form once expression_starts bytes f g (found bytes f is.0 is.1) (found bytes g other.0 other.1)
