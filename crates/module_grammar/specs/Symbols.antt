-- Symbols: what a tree is written as.
use Rattle.std.specs.Prelude.{ℕ, suc, Bool, List}
use Rattle.ir_core.specs.declared.operands.Pred.{Pred as Predicate}
use Rattle.ir_lexer.specs.declared.token.Number.{Number}
use Rattle.ir_types.specs.declared.names.Name.{Name}
use Rattle.module_grammar.specs.declared.items.HoldingWord.{HoldingWord}
use Rattle.module_grammar.specs.declared.operators.ExactOp.{ExactOp}
use Rattle.module_grammar.specs.declared.operators.ExtensionWord.{ExtensionWord}
use Rattle.module_grammar.specs.declared.operators.FlagWord.{FlagWord}
use Rattle.module_grammar.specs.declared.operators.LinkageWord.{LinkageWord}
use Rattle.module_grammar.specs.declared.operators.OverflowOp.{OverflowOp}
use Rattle.module_grammar.specs.declared.operators.PlainOp.{PlainOp}
use Rattle.module_grammar.specs.declared.operators.ResizeOp.{ResizeOp}
use Rattle.module_grammar.specs.declared.places.Placed.{Placed}
use Rattle.module_grammar.specs.declared.words.KeyWord.TheVariants as key
use Rattle.module_grammar.specs.declared.words.KeyWord.{KeyWord}

-- A name, a number, a type `iN` by its width, `true` or `false`, or bytes behind `c`, with its place; an operator, a predicate, a flag or another
-- word of a group; `*`, `[`, `{`, `null`, `getelementptr` or `bitcast` with the place where it begins; or a word or mark that says nothing but
-- itself, wherever it stands: of these each has a number of its own.
--
-- `ret` is `Fixed 3` at each place, `mul` is `Overflow Mul`, `[` at byte 7 is `Bracket 7`, and `%x` that stands from byte 3 up to byte 5 is
-- `Local (record { what = Text (codes "x"); start = 3; end = 5 })`. `@llvm.dbg.value` is a `Debug`, any other global name a `Global`.
pub data Symbol : Type 0 where
  Local : Placed Name → Symbol
  Global : Placed Name → Symbol
  Debug : Placed Name → Symbol
  Label : Placed Name → Symbol
  Numeral : Placed Number → Symbol
  Width : Placed ℕ → Symbol
  Truth : Placed Bool → Symbol
  Bytes : Placed (List ℕ) → Symbol
  Overflow : OverflowOp → Symbol
  Exact : ExactOp → Symbol
  Plain : PlainOp → Symbol
  Resize : ResizeOp → Symbol
  Pred : Predicate → Symbol
  Flag : FlagWord → Symbol
  Linkage : LinkageWord → Symbol
  Extension : ExtensionWord → Symbol
  Holding : HoldingWord → Symbol
  Star : ℕ → Symbol
  Bracket : ℕ → Symbol
  Brace : ℕ → Symbol
  Null : ℕ → Symbol
  Element : ℕ → Symbol
  BitCast : ℕ → Symbol
  Fixed : ℕ → Symbol

-- all tokens that the language lacks: nothing is written with them, but what plays no part
abbrev pub foreign : Symbol
foreign = Fixed 0

-- the words that stand alone
abbrev pub key_number : KeyWord → ℕ
key_number key.Define = 1
key_number key.Void = 2
key_number key.Ret = 3
key_number key.Exact = 4
key_number key.Icmp = 5
key_number key.Select = 6
key_number key.To = 7
key_number key.Undef = 8
key_number key.Phi = 9
key_number key.Br = 10
key_number key.Label = 11
key_number key.Switch = 12
key_number key.Unreachable = 13
key_number key.Old = 14
key_number key.Ghost = 15
key_number key.Declare = 16
key_number key.TypeKey = 17
key_number key.Opaque = 18
key_number key.Inbounds = 19
key_number key.Alloca = 20
key_number key.Load = 21
key_number key.Store = 22
key_number key.Call = 23
key_number key.Tail = 24
key_number key.Ccc = 25
key_number key.Align = 26
key_number key.AlignStack = 27
key_number key.UnnamedAddr = 28
key_number key.External = 29
key_number key.Target = 30
key_number key.Property = 31
key_number key.Attributes = 32
key_number key.Distinct = 33
key_number key.Times = 34
key_number key.Bytes = 35
key_number key.ZeroInitializer = 36
key_number key.ParamWord = 37
key_number key.AccessWord = 38
key_number key.SizedWord = 39
key_number key.FunctionWord = 40

abbrev pub define : Symbol
define = Fixed (key_number key.Define)

abbrev pub void : Symbol
void = Fixed (key_number key.Void)

abbrev pub ret : Symbol
ret = Fixed (key_number key.Ret)

abbrev pub exact : Symbol
exact = Fixed (key_number key.Exact)

abbrev pub icmp : Symbol
icmp = Fixed (key_number key.Icmp)

abbrev pub select : Symbol
select = Fixed (key_number key.Select)

abbrev pub to : Symbol
to = Fixed (key_number key.To)

abbrev pub undef : Symbol
undef = Fixed (key_number key.Undef)

abbrev pub phi : Symbol
phi = Fixed (key_number key.Phi)

abbrev pub br : Symbol
br = Fixed (key_number key.Br)

abbrev pub label : Symbol
label = Fixed (key_number key.Label)

abbrev pub switch : Symbol
switch = Fixed (key_number key.Switch)

abbrev pub unreachable : Symbol
unreachable = Fixed (key_number key.Unreachable)

abbrev pub old : Symbol
old = Fixed (key_number key.Old)

abbrev pub ghost : Symbol
ghost = Fixed (key_number key.Ghost)

abbrev pub declare : Symbol
declare = Fixed (key_number key.Declare)

abbrev pub type : Symbol
type = Fixed (key_number key.TypeKey)

abbrev pub opaque : Symbol
opaque = Fixed (key_number key.Opaque)

abbrev pub inbounds : Symbol
inbounds = Fixed (key_number key.Inbounds)

abbrev pub alloca : Symbol
alloca = Fixed (key_number key.Alloca)

abbrev pub load : Symbol
load = Fixed (key_number key.Load)

abbrev pub store : Symbol
store = Fixed (key_number key.Store)

abbrev pub call : Symbol
call = Fixed (key_number key.Call)

abbrev pub tail : Symbol
tail = Fixed (key_number key.Tail)

abbrev pub ccc : Symbol
ccc = Fixed (key_number key.Ccc)

abbrev pub align : Symbol
align = Fixed (key_number key.Align)

abbrev pub alignstack : Symbol
alignstack = Fixed (key_number key.AlignStack)

abbrev pub unnamed_addr : Symbol
unnamed_addr = Fixed (key_number key.UnnamedAddr)

abbrev pub external : Symbol
external = Fixed (key_number key.External)

abbrev pub target : Symbol
target = Fixed (key_number key.Target)

abbrev pub property : Symbol
property = Fixed (key_number key.Property)

abbrev pub attributes : Symbol
attributes = Fixed (key_number key.Attributes)

abbrev pub distinct : Symbol
distinct = Fixed (key_number key.Distinct)

abbrev pub times : Symbol
times = Fixed (key_number key.Times)

abbrev pub c : Symbol
c = Fixed (key_number key.Bytes)

abbrev pub zeroinitializer : Symbol
zeroinitializer = Fixed (key_number key.ZeroInitializer)

abbrev pub param_word : Symbol
param_word = Fixed (key_number key.ParamWord)

abbrev pub access_word : Symbol
access_word = Fixed (key_number key.AccessWord)

abbrev pub sized_word : Symbol
sized_word = Fixed (key_number key.SizedWord)

abbrev pub function_word : Symbol
function_word = Fixed (key_number key.FunctionWord)

abbrev pub comma : Symbol
comma = Fixed 41

abbrev pub equals : Symbol
equals = Fixed 42

abbrev pub open_paren : Symbol
open_paren = Fixed 43

abbrev pub close_paren : Symbol
close_paren = Fixed 44

abbrev pub close_brace : Symbol
close_brace = Fixed 45

abbrev pub close_bracket : Symbol
close_bracket = Fixed 46

abbrev pub dots : Symbol
dots = Fixed 47

abbrev pub bang : Symbol
bang = Fixed 48

-- `!` and a run, whatever it says
abbrev pub metadata : Symbol
metadata = Fixed 49

-- `#` and a number, whatever it is
abbrev pub group : Symbol
group = Fixed 50

-- a string, whatever it says, but for one that stands directly behind `c`
abbrev pub string : Symbol
string = Fixed 51

-- Not a token, but any tokens in which ( ) [ ] { } pair off, wherever they stand.
abbrev pub balanced : Symbol
balanced = Fixed 52

-- a number of a word or mark as a kind, behind the kinds of the other symbols
abbrev pub behind_others : ℕ → ℕ
behind_others k = suc (suc (suc (suc (suc (suc (suc (suc (suc (suc (suc (suc (suc (suc (suc (suc (suc (suc (suc (suc (suc (suc (suc (k)))))))))))))))))))))))

-- the kinds of symbols, which are what a parser sees of them
abbrev pub kind_of : Symbol → ℕ
kind_of (Local x) = 0
kind_of (Global x) = 1
kind_of (Debug x) = 2
kind_of (Label x) = 3
kind_of (Numeral x) = 4
kind_of (Width x) = 5
kind_of (Truth x) = 6
kind_of (Bytes x) = 7
kind_of (Overflow x) = 8
kind_of (Exact x) = 9
kind_of (Plain x) = 10
kind_of (Resize x) = 11
kind_of (Pred x) = 12
kind_of (Flag x) = 13
kind_of (Linkage x) = 14
kind_of (Extension x) = 15
kind_of (Holding x) = 16
kind_of (Star x) = 17
kind_of (Bracket x) = 18
kind_of (Brace x) = 19
kind_of (Null x) = 20
kind_of (Element x) = 21
kind_of (BitCast x) = 22
kind_of (Fixed k) = behind_others k
