-- Words of private functions: the tree of a text, and the fault of one step as the fault of a text.
use Rattle.std.specs.Prelude.{ℕ, ◌-◌, cond, List, Option, None, Some, slice_get}
use Rattle.ir_lexer.specs.Cut.{Placed}
use Rattle.ir_lexer.specs.declared.token.LexFault.{LexFault}
use Rattle.ir_lexer.specs.declared.token.LexFault.TheVariants as lexer
use Rattle.module_grammar.specs.declared.types.TypeText.{TypeText}
use Rattle.ir_lexer.specs.LeftOut.{is_left_out}
use Rattle.derivation_writer.specs.declared.read_marks.unread.Unread.{Unread}
use Rattle.derivation_writer.specs.declared.read_marks.unread.Unread.TheVariants as unread
use Rattle.ir_lexer.specs.declared.fault.TextFault.{TextFault}
use Rattle.ir_lexer.specs.declared.fault.TextFault.TheVariants as fault
use Rattle.expression_reader.specs.Types.{AreOfType, OfTokens}

-- the tokens of the text are written of this type
abbrev pub IsTreeOf : List ℕ → TypeText → Type 0
IsTreeOf bytes tree = OfTokens bytes (λ tokens. AreOfType bytes tokens tree)

abbrev pub of_lexer : LexFault → TextFault
of_lexer (lexer.BadByte place) = fault.BadByte place
of_lexer (lexer.BadString place) = fault.BadString place
of_lexer (lexer.BadNumber place) = fault.BadNumber place
of_lexer lexer.Memory = fault.Memory
of_lexer (lexer.Limit l) = fault.Limit l

-- a token that isn't expected
abbrev pub of_token : Placed → TextFault
of_token t = cond (is_left_out t.kind) (fault.LeftOut t.start (t.end - t.start)) (fault.Expected t.start)

-- the same, or the end of the text
abbrev pub of_place : ℕ → Option Placed → TextFault
of_place end None = fault.Expected end
of_place end (Some t) = of_token t

-- why tokens are no type
abbrev pub of_unread : List Placed → ℕ → Unread → TextFault
of_unread tokens end (unread.Stuck k) = of_place end (slice_get tokens k)
of_unread tokens end (unread.Limit l) = fault.Limit l
