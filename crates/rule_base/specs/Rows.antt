-- What the shipped rules take, as tests that compute. A fact `a >= b` says that a is less defined than b.
use Rattle.std.specs.Prelude.{ℕ, Bool, true, false, ◌&&◌, ◌||◌, not, cond, nat_eq, List, [], ◌∷◌, codes, Option, None, Some}
use Rattle.std.specs.List.{list_any, list_all}
use Rattle.ir_core.specs.declared.values.Value.{Value}
use Rattle.ir_core.specs.declared.values.Value.TheVariants.{Num, Ptr, Bare, Undef, Poison}
use Rattle.ir_core.specs.declared.values.Kind.{Kind}
use Rattle.ir_core.specs.declared.values.Kind.TheVariants as kind
use Rattle.ir_core.specs.declared.operands.Const.TheVariants as constant
use Rattle.ir_core.specs.declared.operands.Atom.{Atom}
use Rattle.ir_core.specs.declared.operands.Atom.TheVariants as atom
use Rattle.ir_core.specs.declared.operands.Operand.{Operand}
use Rattle.ir_core.specs.declared.expressions.Element.{Element as ElementOf}
use Rattle.ir_core.specs.declared.expressions.Reg.{Reg}
use Rattle.ir_core.specs.declared.expressions.Binary.{Binary}
use Rattle.ir_core.specs.declared.expressions.Expr.TheVariants as expr
use Rattle.ir_core.specs.Expressions.{Expr0, type_of, operands_in}
use Rattle.ir_core.specs.Types.{fits}
use Rattle.ir_types.specs.declared.named.NamedTy.{NamedTy}
use Rattle.ir_types.specs.declared.ty.Ty.{Ty, out-Ty}
use Rattle.ir_types.specs.declared.ty.Ty.TheOpen.{Ty-F}
use Rattle.ir_types.specs.declared.ty.Ty.TheOpen as level
use Rattle.ir_types.specs.Same.{same_list, same_ty}
use Rattle.ir_core.specs.Typing.{entered, index_of}
use Rattle.ir_core.specs.Same.{same_align, same_atom, same_bool, same_operand, same_op, same_flags, same_cast, same_pred, same_reg, same_expr}
use Rattle.ir_values.specs.declared.operations.Outcome.{Outcome}
use Rattle.ir_values.specs.declared.operations.Outcome.TheVariants.{Gives, Trap}
use Rattle.ir_values.specs.Constants.{Scope}
use Rattle.ir_values.specs.Laws.{flags_among}
use Rattle.ir_machine.specs.Registers.{outcome}
use Rattle.ir_machine.specs.State.{no_scope}
use Rattle.erhl_assert.specs.declared.facts.Fact.{Fact}
use Rattle.erhl_assert.specs.declared.facts.Fact.TheVariants.{LessDef}
use Rattle.erhl_assert.specs.declared.facts.Schema.{Schema}
use Rattle.erhl_assert.specs.Typed.{has_type, fits_constants}
use Rattle.rule_base.specs.declared.shipped.Rule.{Rule}
use Rattle.rule_base.specs.declared.shipped.Rule.TheVariants.{Refl, Trans, UndefConst, Subst, DropFlags, Fold}

-- the expression has a type, and its constants fit their stated types
abbrev pub is_typed : Scope → Expr0 → Bool
is_typed scope e = has_type scope e && fits_constants scope e

-- both expressions are so, and have one type
abbrev pub have_one_type : Scope → Expr0 → Expr0 → Bool
have_one_type scope a b = is_typed scope a && is_typed scope b && same_ty (type_of a) (type_of b)

-- `e >= e`
abbrev pub is_refl : Scope → List Fact → Fact → Bool
is_refl scope [] (LessDef a b) = have_one_type scope a b && same_expr same_reg a b
is_refl scope from to = false

-- `a >= b, b >= c` to `a >= c`
abbrev pub is_trans : Scope → List Fact → Fact → Bool
is_trans scope (LessDef a b ∷ LessDef c d ∷ []) (LessDef e f) =
    have_one_type scope a b && have_one_type scope c d && same_expr same_reg b c && same_expr same_reg e a && same_expr same_reg f d
is_trans scope from to = false

abbrev pub is_undef : Atom Reg → Bool
is_undef (atom.Constant constant.Undef) = true
is_undef (atom.Constant c) = false
is_undef (atom.Register r) = false

-- A constant that isn't poison where it is one of its type: a number, null, undef or the address of a global, and none that is worked out.
abbrev pub is_simple : Atom Reg → Bool
is_simple (atom.Constant (constant.Number n)) = true
is_simple (atom.Constant constant.Undef) = true
is_simple (atom.Constant constant.Null) = true
is_simple (atom.Constant (constant.Global x)) = true
is_simple (atom.Constant c) = false
is_simple (atom.Register r) = false

-- `undef >= C`, C a number, null, undef or a global
abbrev pub is_undef_const : Scope → List Fact → Fact → Bool
is_undef_const scope [] (LessDef (expr.Plain a) (expr.Plain b)) =
    have_one_type scope (expr.Plain a) (expr.Plain b) && is_undef a.atom && is_simple b.atom
is_undef_const scope from to = false

-- the two differ at most in operands: `add nuw i8 %x, 1` and `add nuw i8 2, %y`
abbrev pub are_alike : Expr0 → Expr0 → Bool
are_alike (expr.Plain x) (expr.Plain y) = true
are_alike (expr.Binary x) (expr.Binary y) = same_op x.op y.op && same_flags x.flags y.flags
are_alike (expr.Icmp x) (expr.Icmp y) = same_pred x.pred y.pred
are_alike (expr.Cast x) (expr.Cast y) = same_cast x.op y.op && same_ty x.to y.to
are_alike (expr.Select x) (expr.Select y) = true
are_alike (expr.Element x) (expr.Element y) = same_bool x.inbounds y.inbounds && same_ty x.of y.of && same_ty x.to y.to
are_alike (expr.Load x) (expr.Load y) = same_ty x.of y.of && same_align x.align y.align
are_alike x y = false

-- ---- the fields that an address enters stay

abbrev pub is_array : Ty-F Ty → Bool
is_array (level.Array count element) = true
is_array t = false

abbrev pub where_entered : Option Ty → (Ty → Bool) → Bool
where_entered None test = true
where_entered (Some t) test = test t

-- An index into an array may be made another; a field is told by its number, which stays.
abbrev pub keep_fields : List NamedTy → Ty → List (Operand Reg) → List (Operand Reg) → Bool
keep_fields types t [] ys = true
keep_fields types t (x ∷ xs) [] = true
keep_fields types t (x ∷ xs) (y ∷ ys) =
    (is_array (out-Ty t) || same_operand same_reg x y) && where_entered (entered types t (index_of x)) (λ u. keep_fields types u xs ys)

-- the first index enters nothing
abbrev pub keep_further_fields : List NamedTy → Ty → List (Operand Reg) → List (Operand Reg) → Bool
keep_further_fields types of [] ys = true
keep_further_fields types of (x ∷ xs) [] = true
keep_further_fields types of (x ∷ xs) (y ∷ ys) = keep_fields types of xs ys

abbrev pub keeps_fields : List NamedTy → Expr0 → Expr0 → Bool
keeps_fields types (expr.Element x) (expr.Element y) = keep_further_fields types x.of x.indices y.indices
keeps_fields types x y = true

-- The second list is the first with one operand, which is a, made b: with `%x` made 5, of `%x, %x` come `5, %x` and `%x, 5`, and not `5, 5`.
abbrev pub one_made : Operand Reg → Operand Reg → List (Operand Reg) → List (Operand Reg) → Bool
one_made a b (x ∷ xs) (y ∷ ys) =
    (same_operand same_reg x a && same_operand same_reg y b && same_list (same_operand same_reg) xs ys)
    || (same_operand same_reg x y && one_made a b xs ys)
one_made a b [] ys = false
one_made a b (x ∷ xs) [] = false

-- the second is the first with one operand that is a made b
abbrev pub makes_one : List NamedTy → Operand Reg → Operand Reg → Expr0 → Expr0 → Bool
makes_one types a b e f = are_alike e f && one_made a b (operands_in e) (operands_in f) && keeps_fields types e f

-- `a >= b` to `e >= e'`: a and b are operands, and e' is e with one that is a made b
abbrev pub is_subst : Scope → List Fact → Fact → Bool
is_subst scope (LessDef (expr.Plain a) (expr.Plain b) ∷ []) (LessDef e f) =
    have_one_type scope (expr.Plain a) (expr.Plain b) && have_one_type scope e f && makes_one scope.types a b e f
is_subst scope from to = false

-- one operator over the same operands, the flags of the second among those of the first
abbrev pub drops_flags : Binary Reg → Binary Reg → Bool
drops_flags a b = same_op a.op b.op && same_atom same_reg a.left b.left && same_atom same_reg a.right b.right && flags_among b.flags a.flags

-- one address, `inbounds` on the second only where it stands on the first
abbrev pub drops_inbounds : ElementOf Reg → ElementOf Reg → Bool
drops_inbounds a b =
    same_ty a.of b.of && same_operand same_reg a.base b.base && same_list (same_operand same_reg) a.indices b.indices && (not b.inbounds || a.inbounds)

abbrev pub drops : Expr0 → Expr0 → Bool
drops (expr.Binary a) (expr.Binary b) = drops_flags a b
drops (expr.Element a) (expr.Element b) = drops_inbounds a b
drops a b = false

-- `op F x y >= op G x y`, the flags G among F: `add nuw i8 %x, 1 >= add i8 %x, 1`, and `and i8 %x, 1` to itself; and so of `getelementptr`
abbrev pub is_drop_flags : Scope → List Fact → Fact → Bool
is_drop_flags scope [] (LessDef a b) = have_one_type scope a b && drops a b
is_drop_flags scope from to = false

-- a number, as which no other constant counts and no register
abbrev pub is_number : Atom Reg → Bool
is_number (atom.Constant (constant.Number n)) = true
is_number (atom.Constant c) = false
is_number (atom.Register r) = false

-- all of its operands are numbers, a selection's condition too
abbrev pub is_over_numbers : Expr0 → Bool
is_over_numbers e = list_all (λ o. is_number o.atom) (operands_in e)

-- a number at a kind: poison, where it is none of so many bits
abbrev pub number_of_kind : Option Kind → ℕ → Value
number_of_kind None n = Poison
number_of_kind (Some (kind.Int width)) n = cond (fits n width) (Num n) Poison
number_of_kind (Some kind.Ptr) n = Poison

-- what an expression over numbers comes to, which reads no register, no type or global of a module, and no memory
abbrev pub folded : Expr0 → Outcome
folded e = outcome no_scope (λ k r. Poison) [] e

-- The constants that an outcome may be made: undefined behaviour, poison and undef each number and undef, a number itself alone, an address none.
abbrev pub may_become : Outcome → Atom Reg → Bool
may_become Trap c = is_number c || is_undef c
may_become (Gives Poison) c = is_number c || is_undef c
may_become (Gives Undef) c = is_number c || is_undef c
may_become (Gives (Num m)) (atom.Constant (constant.Number n)) = nat_eq m n
may_become (Gives (Num m)) (atom.Constant c) = false
may_become (Gives (Num m)) (atom.Register r) = false
may_become (Gives (Ptr block offset)) c = false
may_become (Gives (Bare address)) c = false

-- `e >= C`, e over numbers: `add i8 200, 100 >= i8 44`, `udiv i8 5, 0 >= i8 3`
abbrev pub is_fold : Scope → List Fact → Fact → Bool
is_fold scope [] (LessDef e (expr.Plain c)) = have_one_type scope e (expr.Plain c) && is_over_numbers e && may_become (folded e) c.atom
is_fold scope from to = false

abbrev pub rule_name : Rule → List ℕ
rule_name Refl = codes "refl"
rule_name Trans = codes "trans"
rule_name UndefConst = codes "undef_const"
rule_name Subst = codes "subst"
rule_name DropFlags = codes "drop_flags"
rule_name Fold = codes "fold"

-- no name stands twice
abbrev pub stand_apart : List (List ℕ) → Bool
stand_apart [] = true
stand_apart (x ∷ xs) = not (list_any (same_list nat_eq x) xs) && stand_apart xs

abbrev pub takes_row : Rule → Scope → Schema → Bool
takes_row Refl scope schema = is_refl scope schema.from schema.to
takes_row Trans scope schema = is_trans scope schema.from schema.to
takes_row UndefConst scope schema = is_undef_const scope schema.from schema.to
takes_row Subst scope schema = is_subst scope schema.from schema.to
takes_row DropFlags scope schema = is_drop_flags scope schema.from schema.to
takes_row Fold scope schema = is_fold scope schema.from schema.to
