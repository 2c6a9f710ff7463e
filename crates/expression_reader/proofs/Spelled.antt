-- What is noted of the tree of a text, of the text.
use Rattle.std.proofs.Common.{◌≡◌, ◌∙◌, ℕ, List, Option, None, Some, refl, sym}
use Rattle.module_walk.specs.LogicExpressions.{expression_of}
use Rattle.expression_reader.specs.Expressions.{IsExpressionFault, SpellsExpression}
use Rattle.expression_reader.specs.Ranges.{range_faults}
use Rattle.expression_reader.specs.Told.{IsTreeOf}
use Rattle.expression_reader.specs.ToldTypes as types
use Rattle.expression_reader.specs.Types.{IsTypeFault, count_faults}
use Rattle.ir_core.specs.Expressions.{Expr0}
use Rattle.module_grammar.specs.declared.lines.ExprText.{ExprText}
use Rattle.module_grammar.specs.declared.types.TypeText.{TypeText}
use Rattle.name_claims.specs.declared.claims.Fault.{Fault}
use Rattle.fault_walk.specs.First.{NoneIsNotedOfNone, NotedComeFirst}
use Rattle.ir_lexer.specs.declared.fault.TextFault.TheVariants as fault
use Rattle.fault_walk.specs.Told.{noted}

-- where nothing is noted the text spells what is built of its tree
pub spelled_by :
    NoneIsNotedOfNone → (bytes : List ℕ) (tree : ExprText) (told : Option Fault) (e : Expr0) → IsTreeOf bytes tree → told ≡ noted (range_faults tree) None → told ≡ None
    → e ≡ expression_of tree → SpellsExpression bytes e
spelled_by law bytes tree told e (tokens, has, read) is none same = record {
  tokens = tokens;
  cut = has.1;
  tree = tree;
  read = read;
  ranges = (law (range_faults tree)).0 (sym is ∙ none);
  same = same;
}

-- what is noted is the text's first fault
pub fault_by :
    NotedComeFirst → (bytes : List ℕ) (tree : ExprText) (told : Option Fault) (f : Fault) → IsTreeOf bytes tree → told ≡ noted (range_faults tree) None → told ≡ Some f
    → IsExpressionFault bytes (fault.WrongType f.start)
fault_by law bytes tree told f (tokens, has, read) is some = (f, (tokens, has, (tree, read, law (range_faults tree) f (sym is ∙ some))), refl)

-- the same of a type and its counts
pub count_fault_by :
    NotedComeFirst → (bytes : List ℕ) (tree : TypeText) (told : Option Fault) (f : Fault) → types.IsTreeOf bytes tree → told ≡ noted (count_faults tree) None
    → told ≡ Some f → IsTypeFault bytes (fault.WrongType f.start)
count_fault_by law bytes tree told f (tokens, has, read) is some = (f, (tokens, has, (tree, read, law (count_faults tree) f (sym is ∙ some))), refl)
