-- What a word is in the grammar: a type, a word of a group that stand at the same places, or a word that stands alone.
use Rattle.std.specs.Prelude.{ℕ, Bool, true, false, ◌==◌, ◌&&◌, not, List, [], ◌∷◌, ◌++◌, codes, map, Option, Some, None, option_map, unwrap_or, if◌then◌else◌}
use Rattle.std.specs.Str.{bytes_eq}
use Rattle.ir_core.specs.declared.operands.CastOp.TheVariants.{BitCast as BitCastOp}
use Rattle.ir_core.specs.declared.operands.Pred.TheVariants as pred
use Rattle.ir_core.specs.Types.{is_width}
use Rattle.ir_core.specs.Words as text
use Rattle.ir_lexer.specs.Bytes.{are_digits}
use Rattle.ir_lexer.specs.Numbers.{begins_with_zero, value_of}
use Rattle.module_grammar.specs.declared.items.HoldingWord.TheVariants as holding
use Rattle.module_grammar.specs.declared.operators.ExactOp.TheVariants as exact
use Rattle.module_grammar.specs.declared.operators.ExtensionWord.TheVariants as extension
use Rattle.module_grammar.specs.declared.operators.FlagWord.TheVariants as flag
use Rattle.module_grammar.specs.declared.operators.LinkageWord.TheVariants as linkage
use Rattle.module_grammar.specs.declared.operators.OverflowOp.TheVariants as overflow
use Rattle.module_grammar.specs.declared.operators.PlainOp.TheVariants as plain
use Rattle.module_grammar.specs.declared.operators.ResizeOp.TheVariants as resize
use Rattle.module_grammar.specs.declared.words.KeyWord.{KeyWord}
use Rattle.module_grammar.specs.declared.words.KeyWord.TheVariants as key
use Rattle.module_grammar.specs.declared.words.Language.{Language}
use Rattle.module_grammar.specs.declared.words.Language.TheVariants.{Ir, Logic}
use Rattle.module_grammar.specs.declared.words.Word.{Word}
use Rattle.module_grammar.specs.declared.words.Word.TheVariants as word
use Rattle.module_grammar.specs.Operators.{exact_op, linkage_of, overflow_op, plain_op, resize_op}

-- ---- types

-- digits without a leading zero that write the width of an integer type, 1 to 64
abbrev pub are_width : List ℕ → Bool
are_width digits = are_digits digits && (is_width (value_of digits) && not (begins_with_zero digits))

abbrev pub width_in : List ℕ → Option ℕ
width_in digits = if are_width digits then Some (value_of digits) else None

-- `i8` has the width 8; `i08`, `i0`, `i65` and `I8` have none
abbrev pub width_of : List ℕ → Option ℕ
width_of [] = None
width_of (letter ∷ digits) = if letter == 105 then width_in digits else None

-- ---- the words, each with what it is

abbrev pub Entry : Type 0
Entry = List ℕ × Word

-- true, false; nuw, nsw; signext, zeroext; global, constant
abbrev pub paired_words : List Entry
paired_words =
    (text.true_word, word.Truth true) ∷ (text.false_word, word.Truth false)
    ∷ (text.nuw_word, word.Flag flag.Nuw) ∷ (text.nsw_word, word.Flag flag.Nsw)
    ∷ (text.signext_word, word.Extension extension.Signed) ∷ (text.zeroext_word, word.Extension extension.Zero)
    ∷ (codes "global", word.Holding holding.Global) ∷ (codes "constant", word.Holding holding.Constant) ∷ []

abbrev pub operator_words : List Entry
operator_words =
    map (λ op. (text.op_word (overflow_op op), word.Overflow op)) (overflow.Add ∷ overflow.Sub ∷ overflow.Mul ∷ overflow.Shl ∷ [])
    ++ (map (λ op. (text.op_word (exact_op op), word.Exact op)) (exact.UDiv ∷ exact.SDiv ∷ exact.LShr ∷ exact.AShr ∷ [])
    ++ (map (λ op. (text.op_word (plain_op op), word.Plain op)) (plain.URem ∷ plain.SRem ∷ plain.And ∷ plain.Or ∷ plain.Xor ∷ [])
    ++ map (λ op. (text.cast_word (resize_op op), word.Resize op)) (resize.ZExt ∷ resize.SExt ∷ resize.Trunc ∷ [])))

abbrev pub pred_words : List Entry
pred_words =
    map (λ p. (text.pred_word p, word.Pred p))
    (pred.Eq ∷ pred.Ne ∷ pred.Ugt ∷ pred.Uge ∷ pred.Ult ∷ pred.Ule ∷ pred.Sgt ∷ pred.Sge ∷ pred.Slt ∷ pred.Sle ∷ [])

abbrev pub linkage_words : List Entry
linkage_words =
    map (λ l. (text.linkage_word (linkage_of l), word.Linkage l))
    (linkage.Private ∷ linkage.Internal ∷ linkage.Common ∷ linkage.AvailableExternally ∷ linkage.LinkonceOdr ∷ linkage.WeakOdr ∷ [])

-- words whose places are kept
abbrev pub placed_words : List Entry
placed_words = (text.null_word, word.Null) ∷ (text.getelementptr_word, word.Element) ∷ (text.cast_word BitCastOp, word.BitCast) ∷ []

abbrev pub named : KeyWord → List ℕ → Entry
named k bytes = (bytes, word.Key k)

-- of lines and blocks
abbrev pub line_words : List Entry
line_words =
    named key.Ret text.ret_word ∷ named key.Exact text.exact_word ∷ named key.Icmp text.icmp_word ∷ named key.Select text.select_word
    ∷ named key.To text.to_word ∷ named key.Undef text.undef_word ∷ named key.Inbounds text.inbounds_word ∷ named key.Load text.load_word
    ∷ named key.Align text.align_word ∷ named key.Void text.void_word ∷ named key.Phi (codes "phi") ∷ named key.Br (codes "br")
    ∷ named key.Label (codes "label") ∷ named key.Switch (codes "switch") ∷ named key.Unreachable (codes "unreachable")
    ∷ named key.Alloca (codes "alloca") ∷ named key.Store (codes "store") ∷ named key.Call (codes "call") ∷ named key.Tail (codes "tail") ∷ []

-- of items and heads
abbrev pub item_words : List Entry
item_words =
    named key.Define text.define_word ∷ named key.Declare (codes "declare") ∷ named key.TypeKey (codes "type") ∷ named key.Opaque (codes "opaque")
    ∷ named key.Ccc (codes "ccc") ∷ named key.AlignStack (codes "alignstack") ∷ named key.UnnamedAddr (codes "unnamed_addr")
    ∷ named key.External (codes "external") ∷ named key.Target (codes "target") ∷ named key.Property (codes "datalayout")
    ∷ named key.Property (codes "triple") ∷ named key.Attributes (codes "attributes") ∷ named key.Distinct (codes "distinct")
    ∷ named key.Times (codes "x") ∷ named key.Bytes (codes "c") ∷ named key.ZeroInitializer (codes "zeroinitializer") ∷ []

-- attributes of parameters and of both (Parameter Attributes)
abbrev pub param_words : List Entry
param_words =
    map (named key.ParamWord) (codes "noalias" ∷ codes "nocapture" ∷ codes "nonnull" ∷ codes "returned" ∷ [])
    ++ (map (named key.AccessWord) (codes "readonly" ∷ codes "readnone" ∷ [])
    ++ map (named key.SizedWord) (codes "dereferenceable" ∷ codes "dereferenceable_or_null" ∷ []))

-- attributes of functions alone (Function Attributes)
abbrev pub function_words : List Entry
function_words =
    map (named key.FunctionWord)
    (codes "alwaysinline" ∷ codes "argmemonly" ∷ codes "builtin" ∷ codes "cold" ∷ codes "convergent" ∷ codes "inlinehint" ∷ codes "jumptable"
    ∷ codes "minsize" ∷ codes "naked" ∷ codes "nobuiltin" ∷ codes "noduplicate" ∷ codes "noimplicitfloat" ∷ codes "noinline"
    ∷ codes "nonlazybind" ∷ codes "noredzone" ∷ codes "noreturn" ∷ codes "nounwind" ∷ codes "optnone" ∷ codes "optsize"
    ∷ codes "returns_twice" ∷ codes "safestack" ∷ codes "sanitize_address" ∷ codes "sanitize_memory" ∷ codes "sanitize_thread" ∷ codes "ssp"
    ∷ codes "sspreq" ∷ codes "sspstrong" ∷ codes "uwtable" ∷ [])

-- those of textual IR
abbrev pub words : List Entry
words =
    paired_words
    ++ (operator_words ++ (pred_words ++ (linkage_words ++ (placed_words ++ (line_words ++ (item_words ++ (param_words ++ function_words)))))))

-- those that the logic's expressions have besides
abbrev pub logic_words : List Entry
logic_words = named key.Old (codes "old") ∷ named key.Ghost (codes "ghost") ∷ []

-- what a word is by a list, the first entry of it; or this
abbrev pub found_in : List Entry → Word → List ℕ → Word
found_in [] other w = other
found_in (e ∷ es) other w = if bytes_eq w e.0 then e.1 else found_in es other w

-- What a word is in textual IR. `i8` is `Width 8`, `mul` is `Overflow Mul`, `ret` is `Key Ret`, `readnone` is `Key AccessWord`, `fence` is
-- `Foreign`, and so is `old`.
unfoldable pub word_said : List ℕ → Word
word_said w = unwrap_or (option_map word.Width (width_of w)) (found_in words word.Foreign w)

-- What a word is in a text of the language. In the logic's `old` is `Key Old`.
abbrev pub word_of : Language → List ℕ → Word
word_of Ir w = word_said w
word_of Logic w = found_in logic_words (word_said w) w
