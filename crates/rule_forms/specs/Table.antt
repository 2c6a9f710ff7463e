-- The rows of the table as forms: a row for several operators or predicates is a form for each of them. F is the flags of the left side, G
-- those of the premise, H those of the right side.
use Rattle.std.specs.Prelude.{None, Some}
use Rattle.ir_core.specs.declared.operands.BinOp.{BinOp}
use Rattle.ir_core.specs.declared.operands.BinOp.TheVariants as op
use Rattle.ir_core.specs.declared.operands.CastOp.{CastOp}
use Rattle.ir_core.specs.declared.operands.CastOp.TheVariants as cast
use Rattle.ir_core.specs.declared.operands.Pred.{Pred}
use Rattle.rule_forms.specs.declared.forms.Place.{Place}
use Rattle.rule_forms.specs.declared.forms.Place.TheVariants.{X, Y, Z, C, D, E, Zero, One, Ones}
use Rattle.rule_forms.specs.declared.forms.TypePlace.TheVariants.{S, M, T, Bit}
use Rattle.rule_forms.specs.declared.forms.FlagPlace.TheVariants.{F, G, H, Free}
use Rattle.rule_forms.specs.declared.forms.Pattern.{Pattern}
use Rattle.rule_forms.specs.declared.forms.Pattern.TheVariants.{Plain, Binary, Icmp, Cast, Select}
use Rattle.rule_forms.specs.declared.forms.Condition.{Condition}
use Rattle.rule_forms.specs.declared.forms.Condition.TheVariants as condition
use Rattle.rule_forms.specs.declared.forms.Form.{Form}

-- a form without a premise that asks nothing
abbrev pub always : Pattern → Pattern → Form
always left right = record { premise = None; left = left; right = right; condition = condition.Always }

-- one that asks something
abbrev pub asking : Condition → Pattern → Pattern → Form
asking c left right = record { premise = None; left = left; right = right; condition = c }

-- one with the premise `z >= p`
abbrev pub after : Pattern → Pattern → Pattern → Form
after p left right = record { premise = Some p; left = left; right = right; condition = condition.Always }

-- one with that premise that asks something
abbrev pub after_asking : Condition → Pattern → Pattern → Pattern → Form
after_asking c p left right = record { premise = Some p; left = left; right = right; condition = c }

abbrev pub just_x : Pattern
just_x = Plain T X

-- ---- arithmetic

-- `op F x y >= op F y x`
abbrev pub comm : BinOp → Form
comm o = always (Binary o F T X Y) (Binary o F T Y X)

-- `op F x 0 >= x`
abbrev pub zero_right : BinOp → Form
zero_right o = always (Binary o F T X Zero) just_x

-- `op F x 1 >= x`
abbrev pub one_right : BinOp → Form
one_right o = always (Binary o F T X One) just_x

-- `op x 1 >= 0`
abbrev pub rem_one : BinOp → Form
rem_one o = always (Binary o F T X One) (Plain T Zero)

-- `op F x x >= 0`
abbrev pub self_zero : BinOp → Form
self_zero o = always (Binary o F T X X) (Plain T Zero)

-- `op x x >= x`
abbrev pub self_same : BinOp → Form
self_same o = always (Binary o F T X X) just_x

-- `op F x 0 >= 0`
abbrev pub zero_absorb : BinOp → Form
zero_absorb o = always (Binary o F T X Zero) (Plain T Zero)

-- `and x -1 >= x`
abbrev pub ones_right : Form
ones_right = always (Binary op.And F T X Ones) just_x

-- `or x -1 >= -1`
abbrev pub or_ones : Form
or_ones = always (Binary op.Or F T X Ones) (Plain T Ones)

-- `op F 0 x >= 0`
abbrev pub zero_shift : BinOp → Form
zero_shift o = always (Binary o F T Zero X) (Plain T Zero)

-- `sub F x C >= add x -C`, C not 0
abbrev pub sub_to_add : Form
sub_to_add = asking condition.Negated (Binary op.Sub F T X C) (Binary op.Add Free T X E)

-- `z >= sub G 0 x` to `sub F 0 z >= x`
abbrev pub neg_neg : Form
neg_neg = after (Binary op.Sub G T Zero X) (Binary op.Sub F T Zero Z) just_x

-- `z >= add G x C` to `add F z D >= add x (C + D)`
abbrev pub add_const : Form
add_const = after_asking condition.Sum (Binary op.Add G T X C) (Binary op.Add F T Z D) (Binary op.Add Free T X E)

-- `z >= add G x y` to `sub F z y >= x`
abbrev pub sub_add : Form
sub_add = after (Binary op.Add G T X Y) (Binary op.Sub F T Z Y) just_x

-- `z >= sub G x y` to `add F z y >= x`
abbrev pub add_sub : Form
add_sub = after (Binary op.Sub G T X Y) (Binary op.Add F T Z Y) just_x

-- `mul F x 2^k >= shl H x k`, H among F, and without `nsw` where k is the width less 1
abbrev pub mul_pow : Form
mul_pow = asking condition.Factor (Binary op.Mul F T X C) (Binary op.Shl H T X E)

-- `udiv F x 2^k >= lshr H x k`, H among F
abbrev pub udiv_pow : Form
udiv_pow = asking condition.Divisor (Binary op.UDiv F T X C) (Binary op.LShr H T X E)

-- `urem x 2^k >= and x (2^k - 1)`
abbrev pub urem_pow : Form
urem_pow = asking condition.Mask (Binary op.URem F T X C) (Binary op.And Free T X E)

-- `z >= op G x j` to `op F z k >= op x (j + k)`, j + k below the width
abbrev pub shift_shift : BinOp → Form
shift_shift o = after_asking condition.Places (Binary o G T X C) (Binary o F T Z D) (Binary o Free T X E)

-- `z >= op x C` to `op z D >= op x (C op D)`
abbrev pub bit_bit : BinOp → Condition → Form
bit_bit o c = after_asking c (Binary o G T X C) (Binary o F T Z D) (Binary o Free T X E)

-- `sub F -1 x >= xor x -1`
abbrev pub sub_ones : Form
sub_ones = always (Binary op.Sub F T Ones X) (Binary op.Xor Free T X Ones)

-- `z >= or x y` to `and z x >= x`
abbrev pub and_or : Form
and_or = after (Binary op.Or G T X Y) (Binary op.And F T Z X) just_x

-- `z >= and x y` to `or z x >= x`
abbrev pub or_and : Form
or_and = after (Binary op.And G T X Y) (Binary op.Or F T Z X) just_x

-- `add F x x >= shl H x 1`, H among F, of two bits or more
abbrev pub add_self : Form
add_self = asking condition.Twice (Binary op.Add F T X X) (Binary op.Shl H T X One)

-- ---- casts, comparisons, selections

-- `z >= first x` to `second z >= both x`, each of them a conversion
abbrev pub cast_cast : CastOp → CastOp → CastOp → Form
cast_cast first second both = after (Cast first S X M) (Cast second M Z T) (Cast both S X T)

-- `z >= zext x` or `z >= sext x` to `trunc z >= x`, back at the type of x
abbrev pub trunc_ext : CastOp → Form
trunc_ext a = after (Cast a S X M) (Cast cast.Trunc M Z S) (Plain S X)

-- `icmp p x y >= icmp q y x`, q being p turned round
abbrev pub icmp_swap : Pred → Pred → Form
icmp_swap p q = always (Icmp p T X Y) (Icmp q T Y X)

-- `icmp p x x >= 1`, or `>= 0`
abbrev pub icmp_self : Pred → Place → Form
icmp_self p result = always (Icmp p T X X) (Plain Bit result)

-- `z >= sub G x y`, or `z >= xor x y`, to `icmp p z 0 >= icmp p x y`
abbrev pub icmp_diff : BinOp → Pred → Form
icmp_diff o p = after (Binary o G T X Y) (Icmp p T Z Zero) (Icmp p T X Y)

-- `icmp p x n >= 1`, or `>= 0`, n the least or the greatest number
abbrev pub icmp_edge : Pred → Place → Place → Form
icmp_edge p at result = always (Icmp p T X at) (Plain Bit result)

-- `icmp ult x 1 >= icmp eq x 0`, `icmp ugt x 0 >= icmp ne x 0`
abbrev pub icmp_one : Pred → Place → Pred → Form
icmp_one p at q = always (Icmp p T X at) (Icmp q T X Zero)

-- `select 1 x y >= x`, `select 0 x y >= y`
abbrev pub select_known : Place → Place → Form
select_known c chosen = always (Select c T X Y) (Plain T chosen)

-- `select z x x >= x`
abbrev pub select_same : Form
select_same = always (Select Z T X X) just_x

-- `select z 1 0 >= z`, of i1
abbrev pub select_bool : Form
select_bool = always (Select Z Bit One Zero) (Plain Bit Z)

-- `select z 0 1 >= xor z 1`, of i1
abbrev pub select_not : Form
select_not = always (Select Z Bit Zero One) (Binary op.Xor Free Bit Z One)

-- `bitcast x >= x`, to the type of x
abbrev pub bitcast_same : Form
bitcast_same = always (Cast cast.BitCast S X S) (Plain S X)
