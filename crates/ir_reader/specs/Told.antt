-- Words of private functions: the fault of one step, as the fault of a text.
use Rattle.std.specs.Prelude.{ℕ, ◌-◌, ◌==◌, Bool, cond, List, Option, None, Some, slice_get}
use Rattle.std.specs.List.{list_any}
use Rattle.ir_core.specs.declared.limits.Limit.TheVariants as limit
use Rattle.ir_lexer.specs.Cut.{Placed}
use Rattle.ir_lexer.specs.declared.token.LexFault.{LexFault}
use Rattle.ir_lexer.specs.declared.token.LexFault.TheVariants as lexer
use Rattle.ir_lexer.specs.LeftOut.{is_left_out}
use Rattle.derivation_writer.specs.declared.read_marks.unread.Unread.{Unread}
use Rattle.derivation_writer.specs.declared.read_marks.unread.Unread.TheVariants as unread
use Rattle.name_claims.specs.declared.claims.Fault.{Fault}
use Rattle.name_claims.specs.declared.claims.Reason.{Reason}
use Rattle.name_claims.specs.declared.claims.Reason.TheVariants as reason
use Rattle.ir_lexer.specs.declared.fault.TextFault.{TextFault}
use Rattle.ir_lexer.specs.declared.fault.TextFault.TheVariants as fault
use Rattle.ir_reader.specs.declared.misnamed.Misnamed.{Misnamed}
use Rattle.ir_reader.specs.declared.misnamed.Misnamed.TheVariants as misnamed

abbrev pub of_lexer : LexFault → TextFault
of_lexer (lexer.BadByte place) = fault.BadByte place
of_lexer (lexer.BadString place) = fault.BadString place
of_lexer (lexer.BadNumber place) = fault.BadNumber place
of_lexer lexer.Memory = fault.Memory
of_lexer (lexer.Limit l) = fault.Limit l

-- a token that isn't expected
abbrev pub of_token : Placed → TextFault
of_token t = cond (is_left_out t.kind) (fault.LeftOut t.start (t.end - t.start)) (fault.Expected t.start)

-- the same, or the end of the text
abbrev pub of_place : ℕ → Option Placed → TextFault
of_place end None = fault.Expected end
of_place end (Some t) = of_token t

-- the token of this index isn't expected
abbrev pub of_grammar : List Placed → ℕ → ℕ → TextFault
of_grammar tokens end k = of_place end (slice_get tokens k)

-- one of these indices
abbrev pub is_deep : List ℕ → ℕ → Bool
is_deep deep k = list_any (λ index. index == k) deep

-- why tokens are no tree, where those of these indices would be expected if what stands before them weren't too deep
abbrev pub of_unread : List Placed → ℕ → List ℕ → Unread → TextFault
of_unread tokens end deep (unread.Stuck k) = cond (is_deep deep k) (fault.Limit limit.Depth) (of_grammar tokens end k)
of_unread tokens end deep (unread.Limit l) = fault.Limit l

-- what is wrong from a place on, over so many bytes
abbrev pub of_sized : ℕ → ℕ → Reason → TextFault
of_sized place size reason.Twice = fault.Twice place size
of_sized place size (reason.WrongNumber due) = fault.WrongNumber place due
of_sized place size reason.Unknown = fault.Unknown place size
of_sized place size reason.LeftOut = fault.LeftOut place size
of_sized place size reason.WrongType = fault.WrongType place

abbrev pub of_fault : Fault → TextFault
of_fault f = of_sized f.start (f.end - f.start) f.reason

abbrev pub of_names : Misnamed → TextFault
of_names (misnamed.Fault f) = of_fault f
of_names misnamed.Block = fault.Limit limit.Block
