-- The binary operators, by the flags that may stand behind them (LangRef 3.7, Binary Operations and Bitwise Binary Operations), and the
-- conversions between integers (Conversion Operations).
use Rattle.ir_core.specs.declared.operands.BinOp.{BinOp}
use Rattle.ir_core.specs.declared.operands.BinOp.TheVariants as op
use Rattle.ir_core.specs.declared.operands.CastOp.{CastOp}
use Rattle.ir_core.specs.declared.operands.CastOp.TheVariants as cast
use Rattle.ir_core.specs.declared.modules.Linkage.{Linkage}
use Rattle.ir_core.specs.declared.modules.Linkage.TheVariants as linkage
use Rattle.module_grammar.specs.declared.lines.OperatorText.{OperatorText}
use Rattle.module_grammar.specs.declared.lines.OperatorText.TheVariants as text
use Rattle.module_grammar.specs.declared.operators.ExactOp.{ExactOp}
use Rattle.module_grammar.specs.declared.operators.ExactOp.TheVariants as exact
use Rattle.module_grammar.specs.declared.operators.LinkageWord.{LinkageWord}
use Rattle.module_grammar.specs.declared.operators.LinkageWord.TheVariants as word
use Rattle.module_grammar.specs.declared.operators.OverflowOp.{OverflowOp}
use Rattle.module_grammar.specs.declared.operators.OverflowOp.TheVariants as overflow
use Rattle.module_grammar.specs.declared.operators.PlainOp.{PlainOp}
use Rattle.module_grammar.specs.declared.operators.PlainOp.TheVariants as plain
use Rattle.module_grammar.specs.declared.operators.ResizeOp.{ResizeOp}
use Rattle.module_grammar.specs.declared.operators.ResizeOp.TheVariants as resize

-- with `nuw` and `nsw`
abbrev pub overflow_op : OverflowOp → BinOp
overflow_op overflow.Add = op.Add
overflow_op overflow.Sub = op.Sub
overflow_op overflow.Mul = op.Mul
overflow_op overflow.Shl = op.Shl

-- with `exact`
abbrev pub exact_op : ExactOp → BinOp
exact_op exact.UDiv = op.UDiv
exact_op exact.SDiv = op.SDiv
exact_op exact.LShr = op.LShr
exact_op exact.AShr = op.AShr

-- without flags
abbrev pub plain_op : PlainOp → BinOp
plain_op plain.URem = op.URem
plain_op plain.SRem = op.SRem
plain_op plain.And = op.And
plain_op plain.Or = op.Or
plain_op plain.Xor = op.Xor

-- the operator of `add nsw`, of `udiv exact` and of `and`
abbrev pub operator_op : OperatorText → BinOp
operator_op (text.Overflow op flags) = overflow_op op
operator_op (text.Exact op exact) = exact_op op
operator_op (text.Plain op) = plain_op op

abbrev pub resize_op : ResizeOp → CastOp
resize_op resize.ZExt = cast.ZExt
resize_op resize.SExt = cast.SExt
resize_op resize.Trunc = cast.Trunc

-- every linkage but `external` (Linkage Types)
abbrev pub linkage_of : LinkageWord → Linkage
linkage_of word.Private = linkage.Private
linkage_of word.Internal = linkage.Internal
linkage_of word.Common = linkage.Common
linkage_of word.AvailableExternally = linkage.AvailableExternally
linkage_of word.LinkonceOdr = linkage.LinkonceOdr
linkage_of word.WeakOdr = linkage.WeakOdr
