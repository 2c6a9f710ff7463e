-- The words of the language, which the grammar and printing share (LangRef 3.7).
use Rattle.std.specs.Prelude.{ℕ, List, codes}
use Rattle.ir_core.specs.declared.modules.Linkage.{Linkage}
use Rattle.ir_core.specs.declared.modules.Linkage.TheVariants.{External, Private, Internal, Common, AvailableExternally, LinkonceOdr, WeakOdr}
use Rattle.ir_core.specs.declared.operands.BinOp.{BinOp}
use Rattle.ir_core.specs.declared.operands.BinOp.TheVariants.{Add, Sub, Mul, Shl, UDiv, SDiv, LShr, AShr, URem, SRem, And, Or, Xor}
use Rattle.ir_core.specs.declared.operands.CastOp.{CastOp}
use Rattle.ir_core.specs.declared.operands.CastOp.TheVariants.{ZExt, SExt, Trunc, BitCast}
use Rattle.ir_core.specs.declared.operands.Pred.{Pred}
use Rattle.ir_core.specs.declared.operands.Pred.TheVariants.{Eq, Ne, Ugt, Uge, Ult, Ule, Sgt, Sge, Slt, Sle}

-- ---- module structure (Functions)

abbrev pub define_word : List ℕ
define_word = codes "define"

-- the word of a linkage; the one that a definition has without a word is that of a global which another module defines (Linkage Types)
abbrev pub linkage_word : Linkage → List ℕ
linkage_word External = codes "external"
linkage_word Private = codes "private"
linkage_word Internal = codes "internal"
linkage_word Common = codes "common"
linkage_word AvailableExternally = codes "available_externally"
linkage_word LinkonceOdr = codes "linkonce_odr"
linkage_word WeakOdr = codes "weak_odr"

-- how parameters and results are made wider (Parameter Attributes)
abbrev pub signext_word : List ℕ
signext_word = codes "signext"

abbrev pub zeroext_word : List ℕ
zeroext_word = codes "zeroext"

-- ---- types (Type System)

abbrev pub void_word : List ℕ
void_word = codes "void"

abbrev pub i32_word : List ℕ
i32_word = codes "i32"

-- ---- constants (Simple Constants, Undefined Values)

abbrev pub false_word : List ℕ
false_word = codes "false"

abbrev pub true_word : List ℕ
true_word = codes "true"

abbrev pub undef_word : List ℕ
undef_word = codes "undef"

abbrev pub null_word : List ℕ
null_word = codes "null"

-- ---- instructions (Binary Operations, Bitwise Binary Operations, Conversion Operations, Other Operations, Terminator Instructions)

-- the word of an operator
abbrev pub op_word : BinOp → List ℕ
op_word Add = codes "add"
op_word Sub = codes "sub"
op_word Mul = codes "mul"
op_word Shl = codes "shl"
op_word UDiv = codes "udiv"
op_word SDiv = codes "sdiv"
op_word LShr = codes "lshr"
op_word AShr = codes "ashr"
op_word URem = codes "urem"
op_word SRem = codes "srem"
op_word And = codes "and"
op_word Or = codes "or"
op_word Xor = codes "xor"

-- no unsigned wrap
abbrev pub nuw_word : List ℕ
nuw_word = codes "nuw"

-- no signed wrap
abbrev pub nsw_word : List ℕ
nsw_word = codes "nsw"

-- nothing left over
abbrev pub exact_word : List ℕ
exact_word = codes "exact"

-- the word of a conversion
abbrev pub cast_word : CastOp → List ℕ
cast_word ZExt = codes "zext"
cast_word SExt = codes "sext"
cast_word Trunc = codes "trunc"
cast_word BitCast = codes "bitcast"

-- before the type to which a conversion leads
abbrev pub to_word : List ℕ
to_word = codes "to"

abbrev pub icmp_word : List ℕ
icmp_word = codes "icmp"

-- the word of a predicate
abbrev pub pred_word : Pred → List ℕ
pred_word Eq = codes "eq"
pred_word Ne = codes "ne"
pred_word Ugt = codes "ugt"
pred_word Uge = codes "uge"
pred_word Ult = codes "ult"
pred_word Ule = codes "ule"
pred_word Sgt = codes "sgt"
pred_word Sge = codes "sge"
pred_word Slt = codes "slt"
pred_word Sle = codes "sle"

abbrev pub select_word : List ℕ
select_word = codes "select"

-- ---- memory (Memory Access and Addressing Operations)

abbrev pub getelementptr_word : List ℕ
getelementptr_word = codes "getelementptr"

-- no address outside of what is pointed into
abbrev pub inbounds_word : List ℕ
inbounds_word = codes "inbounds"

abbrev pub load_word : List ℕ
load_word = codes "load"

-- before the bytes of an alignment
abbrev pub align_word : List ℕ
align_word = codes "align"

abbrev pub ret_word : List ℕ
ret_word = codes "ret"
