-- Each word that is printed is a word of a text, and the symbol that the grammar has for it.
use Rattle.std.proofs.Common.{◌≡◌, ℕ, List, ◌∷◌, Bool, true, false, codes, refl, ap, ◌∙◌}
use Rattle.ir_core.specs.declared.operands.BinOp.{BinOp}
use Rattle.ir_core.specs.declared.operands.BinOp.TheVariants.{Add, Sub, Mul, Shl, UDiv, SDiv, LShr, AShr, URem, SRem, And, Or, Xor}
use Rattle.ir_core.specs.declared.operands.CastOp.{CastOp}
use Rattle.ir_core.specs.declared.operands.CastOp.TheVariants.{ZExt, SExt, Trunc, BitCast}
use Rattle.ir_core.specs.declared.operands.Pred.{Pred}
use Rattle.ir_core.specs.declared.operands.Pred.TheVariants.{Eq, Ne, Ugt, Uge, Ult, Ule, Sgt, Sge, Slt, Sle}
use Rattle.ir_core.specs.Words as words
use Rattle.ir_lexer.specs.Pieces.{plain}
use Rattle.module_grammar.specs.declared.constants.Tag.{Tag}
use Rattle.module_grammar.specs.declared.constants.Tag.TheVariants as tags
use Rattle.module_grammar.specs.declared.items.HoldingWord.{HoldingWord}
use Rattle.module_grammar.specs.declared.items.HoldingWord.TheVariants as holding
use Rattle.module_grammar.specs.declared.operators.ExactOp.{ExactOp}
use Rattle.module_grammar.specs.declared.operators.ExactOp.TheVariants as exact
use Rattle.module_grammar.specs.declared.operators.ExtensionWord.{ExtensionWord}
use Rattle.module_grammar.specs.declared.operators.ExtensionWord.TheVariants.{Signed, Zero}
use Rattle.module_grammar.specs.declared.operators.FlagWord.{FlagWord}
use Rattle.module_grammar.specs.declared.operators.FlagWord.TheVariants.{Nuw, Nsw}
use Rattle.module_grammar.specs.declared.operators.LinkageWord.{LinkageWord}
use Rattle.module_grammar.specs.declared.operators.LinkageWord.TheVariants as linkage
use Rattle.module_grammar.specs.declared.operators.OverflowOp.{OverflowOp}
use Rattle.module_grammar.specs.declared.operators.OverflowOp.TheVariants as overflow
use Rattle.module_grammar.specs.declared.operators.PlainOp.{PlainOp}
use Rattle.module_grammar.specs.declared.operators.PlainOp.TheVariants as flagless
use Rattle.module_grammar.specs.declared.operators.ResizeOp.{ResizeOp}
use Rattle.module_grammar.specs.declared.operators.ResizeOp.TheVariants as resize
use Rattle.module_grammar.specs.declared.words.KeyWord.{KeyWord}
use Rattle.module_grammar.specs.declared.words.KeyWord.TheVariants as key
use Rattle.module_grammar.specs.declared.words.Language.{Language}
use Rattle.module_grammar.specs.declared.words.Language.TheVariants.{Ir, Logic}
use Rattle.module_grammar.specs.declared.words.Word.{Word}
use Rattle.module_grammar.specs.declared.words.Word.TheVariants as word
use Rattle.module_grammar.specs.Operators.{exact_op, linkage_of, overflow_op, plain_op, resize_op}
use Rattle.module_grammar.specs.Spelled.{word_symbol}
use Rattle.module_grammar.specs.Words.{found_in, logic_words, word_of, word_said}
use Rattle.printed_tokens.proofs.Places.{symbol_at}
use Rattle.printed_tokens.proofs.ReadTexts.{IsWord}
use Rattle.printed_tokens.proofs.TokenWords as kinds

-- ---- texts of words

-- the word; of several that are one symbol, one
abbrev pub key_text : KeyWord → List ℕ
key_text key.Define = codes "define"
key_text key.Void = codes "void"
key_text key.Ret = codes "ret"
key_text key.Exact = codes "exact"
key_text key.Icmp = codes "icmp"
key_text key.Select = codes "select"
key_text key.To = codes "to"
key_text key.Undef = codes "undef"
key_text key.Phi = codes "phi"
key_text key.Br = codes "br"
key_text key.Label = codes "label"
key_text key.Switch = codes "switch"
key_text key.Unreachable = codes "unreachable"
key_text key.Old = codes "old"
key_text key.Ghost = codes "ghost"
key_text key.Declare = codes "declare"
key_text key.TypeKey = codes "type"
key_text key.Opaque = codes "opaque"
key_text key.Inbounds = codes "inbounds"
key_text key.Alloca = codes "alloca"
key_text key.Load = codes "load"
key_text key.Store = codes "store"
key_text key.Call = codes "call"
key_text key.Tail = codes "tail"
key_text key.Ccc = codes "ccc"
key_text key.Align = codes "align"
key_text key.AlignStack = codes "alignstack"
key_text key.UnnamedAddr = codes "unnamed_addr"
key_text key.External = codes "external"
key_text key.Target = codes "target"
key_text key.Property = codes "datalayout"
key_text key.Attributes = codes "attributes"
key_text key.Distinct = codes "distinct"
key_text key.Times = codes "x"
key_text key.Bytes = codes "c"
key_text key.ZeroInitializer = codes "zeroinitializer"
key_text key.ParamWord = codes "noalias"
key_text key.AccessWord = codes "readonly"
key_text key.SizedWord = codes "dereferenceable"
key_text key.FunctionWord = codes "nounwind"

abbrev pub flag_text : FlagWord → List ℕ
flag_text Nuw = words.nuw_word
flag_text Nsw = words.nsw_word

abbrev pub truth_text : Bool → List ℕ
truth_text true = words.true_word
truth_text false = words.false_word

abbrev pub extension_text : ExtensionWord → List ℕ
extension_text Signed = words.signext_word
extension_text Zero = words.zeroext_word

abbrev pub holding_text : HoldingWord → List ℕ
holding_text holding.Global = codes "global"
holding_text holding.Constant = codes "constant"

-- ---- words of a text

pub op_is : (op : BinOp) → IsWord (words.op_word op)
unfolding plain
op_is Add = record { all = refl; is = refl }
op_is Sub = record { all = refl; is = refl }
op_is Mul = record { all = refl; is = refl }
op_is Shl = record { all = refl; is = refl }
op_is UDiv = record { all = refl; is = refl }
op_is SDiv = record { all = refl; is = refl }
op_is LShr = record { all = refl; is = refl }
op_is AShr = record { all = refl; is = refl }
op_is URem = record { all = refl; is = refl }
op_is SRem = record { all = refl; is = refl }
op_is And = record { all = refl; is = refl }
op_is Or = record { all = refl; is = refl }
op_is Xor = record { all = refl; is = refl }

pub pred_is : (p : Pred) → IsWord (words.pred_word p)
unfolding plain
pred_is Eq = record { all = refl; is = refl }
pred_is Ne = record { all = refl; is = refl }
pred_is Ugt = record { all = refl; is = refl }
pred_is Uge = record { all = refl; is = refl }
pred_is Ult = record { all = refl; is = refl }
pred_is Ule = record { all = refl; is = refl }
pred_is Sgt = record { all = refl; is = refl }
pred_is Sge = record { all = refl; is = refl }
pred_is Slt = record { all = refl; is = refl }
pred_is Sle = record { all = refl; is = refl }

pub cast_is : (op : CastOp) → IsWord (words.cast_word op)
unfolding plain
cast_is ZExt = record { all = refl; is = refl }
cast_is SExt = record { all = refl; is = refl }
cast_is Trunc = record { all = refl; is = refl }
cast_is BitCast = record { all = refl; is = refl }

pub truth_is : (b : Bool) → IsWord (truth_text b)
unfolding plain
truth_is true = record { all = refl; is = refl }
truth_is false = record { all = refl; is = refl }

pub key_is : (k : KeyWord) → IsWord (key_text k)
unfolding plain
key_is key.Define = record { all = refl; is = refl }
key_is key.Void = record { all = refl; is = refl }
key_is key.Ret = record { all = refl; is = refl }
key_is key.Exact = record { all = refl; is = refl }
key_is key.Icmp = record { all = refl; is = refl }
key_is key.Select = record { all = refl; is = refl }
key_is key.To = record { all = refl; is = refl }
key_is key.Undef = record { all = refl; is = refl }
key_is key.Phi = record { all = refl; is = refl }
key_is key.Br = record { all = refl; is = refl }
key_is key.Label = record { all = refl; is = refl }
key_is key.Switch = record { all = refl; is = refl }
key_is key.Unreachable = record { all = refl; is = refl }
key_is key.Old = record { all = refl; is = refl }
key_is key.Ghost = record { all = refl; is = refl }
key_is key.Declare = record { all = refl; is = refl }
key_is key.TypeKey = record { all = refl; is = refl }
key_is key.Opaque = record { all = refl; is = refl }
key_is key.Inbounds = record { all = refl; is = refl }
key_is key.Alloca = record { all = refl; is = refl }
key_is key.Load = record { all = refl; is = refl }
key_is key.Store = record { all = refl; is = refl }
key_is key.Call = record { all = refl; is = refl }
key_is key.Tail = record { all = refl; is = refl }
key_is key.Ccc = record { all = refl; is = refl }
key_is key.Align = record { all = refl; is = refl }
key_is key.AlignStack = record { all = refl; is = refl }
key_is key.UnnamedAddr = record { all = refl; is = refl }
key_is key.External = record { all = refl; is = refl }
key_is key.Target = record { all = refl; is = refl }
key_is key.Property = record { all = refl; is = refl }
key_is key.Attributes = record { all = refl; is = refl }
key_is key.Distinct = record { all = refl; is = refl }
key_is key.Times = record { all = refl; is = refl }
key_is key.Bytes = record { all = refl; is = refl }
key_is key.ZeroInitializer = record { all = refl; is = refl }
key_is key.ParamWord = record { all = refl; is = refl }
key_is key.AccessWord = record { all = refl; is = refl }
key_is key.SizedWord = record { all = refl; is = refl }
key_is key.FunctionWord = record { all = refl; is = refl }

pub flag_is : (f : FlagWord) → IsWord (flag_text f)
unfolding plain
flag_is Nuw = record { all = refl; is = refl }
flag_is Nsw = record { all = refl; is = refl }

pub linkage_is : (l : LinkageWord) → IsWord (words.linkage_word (linkage_of l))
unfolding plain
linkage_is linkage.Private = record { all = refl; is = refl }
linkage_is linkage.Internal = record { all = refl; is = refl }
linkage_is linkage.Common = record { all = refl; is = refl }
linkage_is linkage.AvailableExternally = record { all = refl; is = refl }
linkage_is linkage.LinkonceOdr = record { all = refl; is = refl }
linkage_is linkage.WeakOdr = record { all = refl; is = refl }

pub extension_is : (e : ExtensionWord) → IsWord (extension_text e)
unfolding plain
extension_is Signed = record { all = refl; is = refl }
extension_is Zero = record { all = refl; is = refl }

pub holding_is : (h : HoldingWord) → IsWord (holding_text h)
unfolding plain
holding_is holding.Global = record { all = refl; is = refl }
holding_is holding.Constant = record { all = refl; is = refl }

pub null_is : IsWord words.null_word
unfolding plain
null_is = record { all = refl; is = refl }

pub element_is : IsWord words.getelementptr_word
unfolding plain
element_is = record { all = refl; is = refl }

-- the word of a tag
abbrev pub tag_key : Tag → KeyWord
tag_key tags.Old = key.Old
tag_key tags.Ghost = key.Ghost

-- ---- words of the grammar

-- the symbol of a word, wherever it stands
pub at_any : (language : Language) (w : List ℕ) (said : Word) → word_of language w ≡ said → (start end : ℕ) → symbol_at language (kinds.word w) start end ≡ word_symbol said start end
at_any language w said is start end = ap (λ x. word_symbol x start end) is

-- a word of textual IR that is none of the logic's own is the same in both languages
in_both : (l : Language) (w : List ℕ) (said : Word) → found_in logic_words said w ≡ said → word_said w ≡ said → word_of l w ≡ said
in_both Ir w said none is = is
in_both Logic w said none is = ap (λ other. found_in logic_words other w) is ∙ none

pub overflow_said : (l : Language) (op : OverflowOp) → word_of l (words.op_word (overflow_op op)) ≡ word.Overflow op
unfolding word_said
overflow_said l overflow.Add = in_both l _ _ refl refl
overflow_said l overflow.Sub = in_both l _ _ refl refl
overflow_said l overflow.Mul = in_both l _ _ refl refl
overflow_said l overflow.Shl = in_both l _ _ refl refl

pub exact_said : (l : Language) (op : ExactOp) → word_of l (words.op_word (exact_op op)) ≡ word.Exact op
unfolding word_said
exact_said l exact.UDiv = in_both l _ _ refl refl
exact_said l exact.SDiv = in_both l _ _ refl refl
exact_said l exact.LShr = in_both l _ _ refl refl
exact_said l exact.AShr = in_both l _ _ refl refl

pub plain_said : (l : Language) (op : PlainOp) → word_of l (words.op_word (plain_op op)) ≡ word.Plain op
unfolding word_said
plain_said l flagless.URem = in_both l _ _ refl refl
plain_said l flagless.SRem = in_both l _ _ refl refl
plain_said l flagless.And = in_both l _ _ refl refl
plain_said l flagless.Or = in_both l _ _ refl refl
plain_said l flagless.Xor = in_both l _ _ refl refl

pub resize_said : (l : Language) (op : ResizeOp) → word_of l (words.cast_word (resize_op op)) ≡ word.Resize op
unfolding word_said
resize_said l resize.ZExt = in_both l _ _ refl refl
resize_said l resize.SExt = in_both l _ _ refl refl
resize_said l resize.Trunc = in_both l _ _ refl refl

pub pred_said : (l : Language) (p : Pred) → word_of l (words.pred_word p) ≡ word.Pred p
unfolding word_said
pred_said l Eq = in_both l _ _ refl refl
pred_said l Ne = in_both l _ _ refl refl
pred_said l Ugt = in_both l _ _ refl refl
pred_said l Uge = in_both l _ _ refl refl
pred_said l Ult = in_both l _ _ refl refl
pred_said l Ule = in_both l _ _ refl refl
pred_said l Sgt = in_both l _ _ refl refl
pred_said l Sge = in_both l _ _ refl refl
pred_said l Slt = in_both l _ _ refl refl
pred_said l Sle = in_both l _ _ refl refl

pub flag_said : (l : Language) (f : FlagWord) → word_of l (flag_text f) ≡ word.Flag f
unfolding word_said
flag_said l Nuw = in_both l _ _ refl refl
flag_said l Nsw = in_both l _ _ refl refl

pub truth_said : (l : Language) (b : Bool) → word_of l (truth_text b) ≡ word.Truth b
unfolding word_said
truth_said l true = in_both l _ _ refl refl
truth_said l false = in_both l _ _ refl refl

pub linkage_said : (l : Language) (k : LinkageWord) → word_of l (words.linkage_word (linkage_of k)) ≡ word.Linkage k
unfolding word_said
linkage_said l linkage.Private = in_both l _ _ refl refl
linkage_said l linkage.Internal = in_both l _ _ refl refl
linkage_said l linkage.Common = in_both l _ _ refl refl
linkage_said l linkage.AvailableExternally = in_both l _ _ refl refl
linkage_said l linkage.LinkonceOdr = in_both l _ _ refl refl
linkage_said l linkage.WeakOdr = in_both l _ _ refl refl

pub extension_said : (l : Language) (e : ExtensionWord) → word_of l (extension_text e) ≡ word.Extension e
unfolding word_said
extension_said l Signed = in_both l _ _ refl refl
extension_said l Zero = in_both l _ _ refl refl

pub holding_said : (l : Language) (h : HoldingWord) → word_of l (holding_text h) ≡ word.Holding h
unfolding word_said
holding_said l holding.Global = in_both l _ _ refl refl
holding_said l holding.Constant = in_both l _ _ refl refl

pub null_said : (l : Language) → word_of l words.null_word ≡ word.Null
unfolding word_said
null_said l = in_both l _ _ refl refl

pub element_said : (l : Language) → word_of l words.getelementptr_word ≡ word.Element
unfolding word_said
element_said l = in_both l _ _ refl refl

pub bitcast_said : (l : Language) → word_of l (words.cast_word BitCast) ≡ word.BitCast
unfolding word_said
bitcast_said l = in_both l _ _ refl refl

-- a type
pub width_said : (l : Language) (digits : List ℕ) (w : ℕ) → word_said (105 ∷ digits) ≡ word.Width w → word_of l (105 ∷ digits) ≡ word.Width w
width_said l digits w is = in_both l (105 ∷ digits) (word.Width w) refl is

-- ---- words that stand alone

-- the words that textual IR has too
abbrev pub IsOfBoth : KeyWord → Type 0
IsOfBoth key.Old = ⊥
IsOfBoth key.Ghost = ⊥
IsOfBoth k = Unit {0}

pub key_said : (l : Language) (k : KeyWord) → IsOfBoth k → word_of l (key_text k) ≡ word.Key k
unfolding word_said
key_said l key.Define of_both = in_both l _ _ refl refl
key_said l key.Void of_both = in_both l _ _ refl refl
key_said l key.Ret of_both = in_both l _ _ refl refl
key_said l key.Exact of_both = in_both l _ _ refl refl
key_said l key.Icmp of_both = in_both l _ _ refl refl
key_said l key.Select of_both = in_both l _ _ refl refl
key_said l key.To of_both = in_both l _ _ refl refl
key_said l key.Undef of_both = in_both l _ _ refl refl
key_said l key.Phi of_both = in_both l _ _ refl refl
key_said l key.Br of_both = in_both l _ _ refl refl
key_said l key.Label of_both = in_both l _ _ refl refl
key_said l key.Switch of_both = in_both l _ _ refl refl
key_said l key.Unreachable of_both = in_both l _ _ refl refl
key_said l key.Old none = absurd none
key_said l key.Ghost none = absurd none
key_said l key.Declare of_both = in_both l _ _ refl refl
key_said l key.TypeKey of_both = in_both l _ _ refl refl
key_said l key.Opaque of_both = in_both l _ _ refl refl
key_said l key.Inbounds of_both = in_both l _ _ refl refl
key_said l key.Alloca of_both = in_both l _ _ refl refl
key_said l key.Load of_both = in_both l _ _ refl refl
key_said l key.Store of_both = in_both l _ _ refl refl
key_said l key.Call of_both = in_both l _ _ refl refl
key_said l key.Tail of_both = in_both l _ _ refl refl
key_said l key.Ccc of_both = in_both l _ _ refl refl
key_said l key.Align of_both = in_both l _ _ refl refl
key_said l key.AlignStack of_both = in_both l _ _ refl refl
key_said l key.UnnamedAddr of_both = in_both l _ _ refl refl
key_said l key.External of_both = in_both l _ _ refl refl
key_said l key.Target of_both = in_both l _ _ refl refl
key_said l key.Property of_both = in_both l _ _ refl refl
key_said l key.Attributes of_both = in_both l _ _ refl refl
key_said l key.Distinct of_both = in_both l _ _ refl refl
key_said l key.Times of_both = in_both l _ _ refl refl
key_said l key.Bytes of_both = in_both l _ _ refl refl
key_said l key.ZeroInitializer of_both = in_both l _ _ refl refl
key_said l key.ParamWord of_both = in_both l _ _ refl refl
key_said l key.AccessWord of_both = in_both l _ _ refl refl
key_said l key.SizedWord of_both = in_both l _ _ refl refl
key_said l key.FunctionWord of_both = in_both l _ _ refl refl

pub tag_said : (t : Tag) → word_of Logic (key_text (tag_key t)) ≡ word.Key (tag_key t)
unfolding word_said
tag_said tags.Old = refl
tag_said tags.Ghost = refl
