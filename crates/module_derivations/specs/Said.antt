-- What a symbol says, as whatever kind it is wanted.
use Rattle.std.specs.Prelude.{ℕ, Bool, false, List, []}
use Rattle.ir_core.specs.declared.operands.Pred.{Pred as Predicate}
use Rattle.ir_lexer.specs.declared.token.Number.{Number}
use Rattle.ir_types.specs.declared.names.Name.{Name}
use Rattle.module_grammar.specs.declared.items.HoldingWord.{HoldingWord}
use Rattle.module_grammar.specs.declared.operators.ExactOp.{ExactOp}
use Rattle.module_grammar.specs.declared.operators.ExtensionWord.{ExtensionWord}
use Rattle.module_grammar.specs.declared.operators.FlagWord.{FlagWord}
use Rattle.module_grammar.specs.declared.operators.LinkageWord.{LinkageWord}
use Rattle.module_grammar.specs.declared.operators.OverflowOp.{OverflowOp}
use Rattle.module_grammar.specs.declared.operators.PlainOp.{PlainOp}
use Rattle.module_grammar.specs.declared.operators.ResizeOp.{ResizeOp}
use Rattle.module_grammar.specs.declared.places.Placed.{Placed}
use Rattle.ir_core.specs.declared.operands.Pred.TheVariants.{Eq}
use Rattle.module_grammar.specs.declared.items.HoldingWord.TheVariants.{Constant}
use Rattle.module_grammar.specs.declared.operators.ExactOp.TheVariants.{LShr}
use Rattle.module_grammar.specs.declared.operators.ExtensionWord.TheVariants.{Signed}
use Rattle.module_grammar.specs.declared.operators.FlagWord.TheVariants.{Nuw}
use Rattle.module_grammar.specs.declared.operators.LinkageWord.TheVariants.{Private}
use Rattle.module_grammar.specs.declared.operators.OverflowOp.TheVariants.{Add}
use Rattle.module_grammar.specs.declared.operators.PlainOp.TheVariants.{And}
use Rattle.module_grammar.specs.declared.operators.ResizeOp.TheVariants.{Trunc}
use Rattle.module_grammar.specs.Symbols as symbol
use Rattle.module_grammar.specs.Symbols.{Symbol}
use Rattle.module_grammar.specs.Kinds as by_kind
use Rattle.module_grammar.specs.Kinds.{Kind, Says}
use Rattle.module_derivations.specs.Empty.{no_name, no_number}

abbrev pub name_of : Symbol → Placed Name
name_of (symbol.Local x) = x
name_of (symbol.Global x) = x
name_of (symbol.Debug x) = x
name_of (symbol.Label x) = x
name_of _ = no_name

abbrev pub number_of : Symbol → Placed Number
number_of (symbol.Numeral x) = x
number_of _ = no_number

abbrev pub width_of : Symbol → Placed ℕ
width_of (symbol.Width x) = x
width_of _ = record { what = 1; start = 0; end = 0 }

abbrev pub truth_of : Symbol → Placed Bool
truth_of (symbol.Truth x) = x
truth_of _ = record { what = false; start = 0; end = 0 }

abbrev pub bytes_of : Symbol → Placed (List ℕ)
bytes_of (symbol.Bytes x) = x
bytes_of _ = record { what = []; start = 0; end = 0 }

abbrev pub overflow_of : Symbol → OverflowOp
overflow_of (symbol.Overflow x) = x
overflow_of _ = Add

abbrev pub exact_of : Symbol → ExactOp
exact_of (symbol.Exact x) = x
exact_of _ = LShr

abbrev pub plain_of : Symbol → PlainOp
plain_of (symbol.Plain x) = x
plain_of _ = And

abbrev pub resize_of : Symbol → ResizeOp
resize_of (symbol.Resize x) = x
resize_of _ = Trunc

abbrev pub pred_of : Symbol → Predicate
pred_of (symbol.Pred x) = x
pred_of _ = Eq

abbrev pub flag_of : Symbol → FlagWord
flag_of (symbol.Flag x) = x
flag_of _ = Nuw

abbrev pub linkage_of : Symbol → LinkageWord
linkage_of (symbol.Linkage x) = x
linkage_of _ = Private

abbrev pub extension_of : Symbol → ExtensionWord
extension_of (symbol.Extension x) = x
extension_of _ = Signed

abbrev pub holding_of : Symbol → HoldingWord
holding_of (symbol.Holding x) = x
holding_of _ = Constant

abbrev pub place_of : Symbol → ℕ
place_of (symbol.Star x) = x
place_of (symbol.Bracket x) = x
place_of (symbol.Brace x) = x
place_of (symbol.Null x) = x
place_of (symbol.Element x) = x
place_of (symbol.BitCast x) = x
place_of _ = 0

-- as the kind wants it
abbrev pub said_as : (x : Kind) → Symbol → Says x
said_as by_kind.Local s = name_of s
said_as by_kind.Global s = name_of s
said_as by_kind.Debug s = name_of s
said_as by_kind.Label s = name_of s
said_as by_kind.Number s = number_of s
said_as by_kind.Width s = width_of s
said_as by_kind.Truth s = truth_of s
said_as by_kind.Bytes s = bytes_of s
said_as by_kind.Overflow s = overflow_of s
said_as by_kind.Exact s = exact_of s
said_as by_kind.Plain s = plain_of s
said_as by_kind.Resize s = resize_of s
said_as by_kind.Pred s = pred_of s
said_as by_kind.Flag s = flag_of s
said_as by_kind.Linkage s = linkage_of s
said_as by_kind.Extension s = extension_of s
said_as by_kind.Holding s = holding_of s
said_as by_kind.Star s = place_of s
said_as by_kind.Bracket s = place_of s
said_as by_kind.Brace s = place_of s
said_as by_kind.Null s = place_of s
said_as by_kind.Element s = place_of s
said_as by_kind.BitCast s = place_of s
said_as by_kind.Alone s = tt
