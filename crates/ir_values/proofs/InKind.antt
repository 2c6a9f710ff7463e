-- Outcomes are of their kind.
use Rattle.std.proofs.Common.{ℕ, ◌<◌, ◌^◌, Bool, true, false, ◌||◌, cond, arith}
use Rattle.std.specs.Prelude.{ℤ, pos, negsuc, nat_eq, Option, None, Some}
use Rattle.std.proofs.lemmas.Nat.{pow_pos, mod_below}
use Rattle.ir_core.specs.declared.values.Value.{Value}
use Rattle.ir_core.specs.declared.values.Value.TheVariants.{Num, Ptr, Bare, Undef, Poison}
use Rattle.ir_core.specs.declared.values.Kind.{Kind}
use Rattle.ir_core.specs.declared.values.Kind.TheVariants as kind
use Rattle.ir_core.specs.declared.operands.BinOp.{BinOp}
use Rattle.ir_core.specs.declared.operands.Flags.{Flags}
use Rattle.ir_values.proofs.KindLaws.{poison_in_kind, undef_in_kind}
use Rattle.ir_values.specs.declared.operations.Outcome.TheVariants.{Gives, Trap}
use Rattle.ir_values.specs.Comparisons.{bit, bit_if_known, compared, holds}
use Rattle.ir_values.specs.Numbers.{modulo}
use Rattle.ir_values.specs.Operations.{GivesInKind, binary_value, number_value, traps, undef_under}
use Rattle.ir_values.specs.Results.{breaks_flag, exact, is_past_width, result}
use Rattle.ir_values.specs.Values.{IsInKind, as_number, both_numbers, is_poison, on_numbers}
use Rattle.ir_values.specs.ValueLaws.{ComparisonsGiveBits, ConversionsGiveTheirKind, OperationsStayInKind, SelectionsStayInKind}

pub modulo_below : (width : ℕ) (z : ℤ) → modulo width z < 2 ^ width
modulo_below width (pos n) = mod_below n (2 ^ width) (pow_pos width)
modulo_below width (negsuc n) = omega (arith, pow_pos width)

-- a value of the kind, whichever of two it is
pub choice_in_kind : (k : Kind) (first : Bool) (a b : Value) → IsInKind k a → IsInKind k b → IsInKind k (cond first a b)
choice_in_kind k true a b p q = p
choice_in_kind k false a b p q = q

undef_under_in_kind : (flags : Flags) (k : Kind) → IsInKind k (undef_under flags)
undef_under_in_kind flags k = choice_in_kind k (flags.nuw || flags.nsw || flags.exact) Poison Undef (poison_in_kind k) (undef_in_kind k)

number_in_kind : (op : BinOp) (flags : Flags) (width m n : ℕ) → IsInKind (kind.Int width) (number_value op flags width m n)
number_in_kind op flags width m n =
    choice_in_kind (kind.Int width) (is_past_width op width n) (undef_under flags) (cond (breaks_flag op flags width m n) Poison (Num (result op width m n)))
    (undef_under_in_kind flags (kind.Int width))
    (choice_in_kind (kind.Int width) (breaks_flag op flags width m n) Poison (Num (result op width m n)) tt (modulo_below width (exact op width m n)))

-- where two numbers give a value of the kind, and so does what there is for others
on_numbers_in_kind : (k : Kind) (undef : Value) (f : ℕ → ℕ → Value) → IsInKind k undef → ((m n : ℕ) → IsInKind k (f m n)) → (a b : Value) → IsInKind k (on_numbers undef f a b)
on_numbers_in_kind k undef f p q a b =
    choice_in_kind k (is_poison a || is_poison b) Poison (both_numbers undef f (as_number a) (as_number b)) (poison_in_kind k) (both (as_number a) (as_number b))
  where
    both : (x y : Option ℕ) → IsInKind k (both_numbers undef f x y)
    both None y = p
    both (Some m) None = p
    both (Some m) (Some n) = q m n

value_in_kind : (op : BinOp) (flags : Flags) (width : ℕ) (a b : Value) → IsInKind (kind.Int width) (binary_value op flags width a b)
value_in_kind op flags width a b =
    on_numbers_in_kind (kind.Int width) (undef_under flags) (number_value op flags width) (undef_under_in_kind flags (kind.Int width)) (number_in_kind op flags width) a b

unless_trapped : (k : Kind) (trapped : Bool) (v : Value) → IsInKind k v → GivesInKind (Some k) (cond trapped Trap (Gives v))
unless_trapped k true v h = tt
unless_trapped k false v h = h

pub binary_in_kind : OperationsStayInKind
binary_in_kind op flags width a b = unless_trapped (kind.Int width) (traps op width a b) (binary_value op flags width a b) (value_in_kind op flags width a b)

bit_in_kind : (b : Bool) → IsInKind (kind.Int 1) (bit b)
bit_in_kind true = omega arith
bit_in_kind false = omega arith

known_in_kind : (x : Option Bool) → IsInKind (kind.Int 1) (bit_if_known x)
known_in_kind None = tt
known_in_kind (Some x) = bit_in_kind x

pub icmp_in_kind : ComparisonsGiveBits
icmp_in_kind pred (kind.Int width) a b size other =
    on_numbers_in_kind (kind.Int 1) Undef (λ m n. bit (holds pred width m n)) tt (λ m n. bit_in_kind (holds pred width m n)) a b
icmp_in_kind pred kind.Ptr a b size other =
    choice_in_kind (kind.Int 1) (is_poison a || is_poison b) Poison (bit_if_known (compared pred a size b other)) tt (known_in_kind (compared pred a size b other))

pub cast_in_kind : ConversionsGiveTheirKind
cast_in_kind op (kind.Int from) (kind.Int to) Poison h = tt
cast_in_kind op (kind.Int from) (kind.Int to) Undef h = tt
cast_in_kind op (kind.Int from) (kind.Int to) (Ptr b o) h = tt
cast_in_kind op (kind.Int from) (kind.Int to) (Bare n) h = tt
cast_in_kind op (kind.Int from) (kind.Int to) (Num n) h = modulo_below to _
cast_in_kind op (kind.Int from) kind.Ptr a h = tt
cast_in_kind op kind.Ptr (kind.Int to) a h = tt
cast_in_kind op kind.Ptr kind.Ptr Poison h = tt
cast_in_kind op kind.Ptr kind.Ptr Undef h = tt
cast_in_kind op kind.Ptr kind.Ptr (Num n) h = tt
cast_in_kind op kind.Ptr kind.Ptr (Ptr b o) h = h
cast_in_kind op kind.Ptr kind.Ptr (Bare n) h = h

arms_in_kind : (k : Kind) (a b : Value) → IsInKind k (cond (is_poison a || is_poison b) Poison Undef)
arms_in_kind k a b = choice_in_kind k (is_poison a || is_poison b) Poison Undef (poison_in_kind k) (undef_in_kind k)

pub select_in_kind : SelectionsStayInKind
select_in_kind k Poison a b p q = poison_in_kind k
select_in_kind k Undef a b p q = arms_in_kind k a b
select_in_kind k (Ptr x o) a b p q = arms_in_kind k a b
select_in_kind k (Bare n) a b p q = arms_in_kind k a b
select_in_kind k (Num n) a b p q = choice_in_kind k (nat_eq n 1) a b p q
