-- Values, operands, labels and alignments are at fault exactly where they name nothing.
use Rattle.std.proofs.Common.{◌≡◌, ◌∙◌, ℕ, suc, zero, ◌<◌, ◌≤◌, ◌^◌, Bool, true, false, ◌&&◌, cond, List, [], Option, Some, None, refl, sym, ap, subst, arith, eqb-true, eq-eqb, ltb-true}
use Rattle.std.specs.Prelude.{◌||◌, not, nat_eq, nat_lt, is_some, unwrap_or}
use Rattle.std.specs.List.{Contains, list_any}
use Rattle.std.proofs.Math.Logic.{⊎_elim}
use Rattle.std.proofs.Math.Nat.{eq-or-lt_of_le}
use Rattle.std.proofs.Math.Pow.{pow-lt, pow_mono}
use Rattle.std.proofs.lemmas.Bool.{and_from, and_parts, lt-ltb, ltb-false, or_cases}
use Rattle.ir_core.specs.declared.modules.Module.{Module}
use Rattle.ir_core.specs.Types.{is_first_class}
use Rattle.ir_lexer.specs.declared.token.Number.{Number}
use Rattle.ir_types.specs.declared.names.Name.{Name}
use Rattle.ir_types.specs.declared.ty.Ty.{Ty}
use Rattle.ir_types.specs.Same.{same_ty}
use Rattle.ir_types.proofs.SameLaws.{same_ty_refl, same_ty_true}
use Rattle.name_claims.specs.declared.claims.Fault.{Fault}
use Rattle.name_claims.specs.declared.claims.Reason.TheVariants as reason
use Rattle.module_grammar.specs.declared.constants.IntText.{IntText}
use Rattle.module_grammar.specs.declared.constants.OperandText.{OperandText}
use Rattle.module_grammar.specs.declared.constants.ValueText.{ValueText}
use Rattle.module_grammar.specs.declared.constants.ValueText.TheVariants as text
use Rattle.module_grammar.specs.declared.places.Placed.{Placed}
use Rattle.module_grammar.specs.declared.types.TypeText.{TypeText}
use Rattle.named_modules.specs.Built.{align_built, align_kept, align_of, operand_of, value_at}
use Rattle.named_modules.specs.Faults.{Block', Register', Thing, Things, align_faults, at, block_faults_of, heads_of, int_fault, int_faults, is_align, label_faults, operand_faults, own_faults, powers_below, register_faults, thing_of, type_faults, unless, value_faults, value_type_faults}
use Rattle.named_modules.specs.Types.{int_of, is_type, type_of}
use Rattle.named_modules.specs.Values.{IsAlign, IsAlignOf, IsLabel, IsOperand, IsRegister, IsType, IsValue, IsValueType, MayBe, Registers}
use Rattle.named_modules.proofs.ConstTies.{const_ties}
use Rattle.named_modules.proofs.Ties.{Ties, fits, in_turn, never, none, through}
use Rattle.named_modules.proofs.TypeTies.{type_ties, value_type_ties}

-- ---- types

pub type_at_ties : (m : Module) (w : TypeText) → Ties (type_faults (heads_of m) w) (IsType m w (type_of w))
type_at_ties m w = through (type_faults (heads_of m) w) (type_ties m w) (λ h. (refl, h)) (λ h. h.1)

pub value_type_at_ties : (m : Module) (w : TypeText) → Ties (value_type_faults (heads_of m) w) (IsValueType m w (type_of w))
value_type_at_ties m w = through (value_type_faults (heads_of m) w) (value_type_ties m w) (λ h. (refl, h)) (λ h. h.1)

pub first_class : (m : Module) (w : TypeText) (t : Ty) → IsValueType m w t → is_first_class (type_of w) ≡ true
first_class m w t is = (and_parts (is_type m w) (is_first_class (type_of w)) is.1).1

-- ---- numbers

is_there : (o : Option ℕ) → is_some o ≡ true → o ≡ Some (unwrap_or o 0)
is_there None e = cc
is_there (Some n) e = refl

pub int_ties : (t : Ty) (i : IntText) → Ties (int_faults t i) (int_of t i ≡ Some (unwrap_or (int_of t i) 0))
int_ties t i =
    let o = int_of t i in
    through (int_faults t i) (fits (is_some o) (int_fault i)) (is_there o) (λ e. ap is_some e)

-- ---- alignments

differ : (k n : ℕ) → nat_eq (2 ^ k) (2 ^ n) ≡ false → k ≡ n → ⊥
differ k n is e = let yes : nat_eq (2 ^ k) (2 ^ n) ≡ true = eq-eqb (2 ^ k) (2 ^ n) (ap (λ j. 2 ^ j) e) in cc

behind : (n k : ℕ) → k < suc n → (k ≡ n → ⊥) → k < n
behind n k less apart = let most : k ≤ n = omega (arith, less) in ⊎_elim (λ e. absurd (apart e)) (λ h. h) (eq-or-lt_of_le most)

power_below : (n k : ℕ) → k < n → list_any (nat_eq (2 ^ k)) (powers_below n) ≡ true
power_below zero k less = absurd (omega (arith, less))
power_below (suc n) k less = by (nat_eq (2 ^ k) (2 ^ n)) refl (λ h. power_below n k h)
  where
    by : (b : Bool) → nat_eq (2 ^ k) (2 ^ n) ≡ b → (k < n → list_any (nat_eq (2 ^ k)) (powers_below n) ≡ true) → (b || list_any (nat_eq (2 ^ k)) (powers_below n)) ≡ true
    by true is more = refl
    by false is more = more (behind n k less (λ e. differ k n is e))

is_power : (a n : ℕ) → list_any (nat_eq a) (powers_below n) ≡ true → (k : ℕ) × (k < n) × (a ≡ 2 ^ k)
is_power a zero e = cc
is_power a (suc n) e =
    ⊎_elim
    (λ h. (n, omega arith, eqb-true a (2 ^ n) h))
    (λ h. let more = is_power a n h in let less = more.1 in (more.0, omega (arith, less), more.2))
    (or_cases (nat_eq a (2 ^ n)) (list_any (nat_eq a) (powers_below n)) e)

not_false : (b : Bool) → not b ≡ true → b ≡ false
not_false true e = cc
not_false false e = refl

little : (k : ℕ) → 2 ^ k ≤ 2 ^ 29 → k < 30
little k most = by (nat_lt k 30) refl
  where
    by : (b : Bool) → nat_lt k 30 ≡ b → k < 30
    by true is = ltb-true k 30 is
    by false is = let large = ltb-false k 30 is in let less : 29 < k = omega (arith, large) in let over : 2 ^ 29 < 2 ^ k = pow-lt less in absurd (omega (arith, most, over))

-- an alignment in range is built as it is
pub align_built_is : (n : Number) → n.magnitude ≤ 2 ^ 29 → align_built n ≡ n.magnitude
align_built_is n most = let few : n.magnitude < 2 ^ 32 = omega (arith, most) in ap (λ b. cond b n.magnitude 0) (lt-ltb n.magnitude (2 ^ 32) few)

align_kept_ties : (n : Number) (f : Fault) → Ties (unless (is_align n) f) (IsAlignOf n (align_kept n))
align_kept_ties n f = by (nat_eq n.magnitude 0) refl
  where
    a : ℕ
    a = n.magnitude

    powers : Bool
    powers = list_any (nat_eq n.magnitude) (powers_below 30)

    by : (b : Bool) → nat_eq n.magnitude 0 ≡ b → Ties (unless (b || (not n.negative && powers)) f) (IsAlignOf n (cond b None (Some (align_built n))))
    by true is = none (eqb-true n.magnitude 0 is)
    by false is =
        let test = not n.negative && powers in
        through (unless test f) (fits test f)
        (λ h.
        let parts = and_parts (not n.negative) powers h in
        let power = is_power n.magnitude 30 parts.1 in
        let less = power.1 in
        let few : power.0 ≤ 29 = omega (arith, less) in
        let most : 2 ^ power.0 ≤ 2 ^ 29 = pow_mono few in
        let bound : n.magnitude ≤ 2 ^ 29 = subst (λ k. k ≤ 2 ^ 29) (sym power.2) most in
        let same : align_built n ≡ n.magnitude = align_built_is n bound in
        (not_false n.negative parts.0, same, ((power.0, same ∙ power.2), subst (λ k. k ≤ 2 ^ 29) (sym same) bound)))
        (λ h.
        let k = h.2.0.0 in
        let e : n.magnitude ≡ 2 ^ k = sym h.1 ∙ h.2.0.1 in
        let most : 2 ^ k ≤ 2 ^ 29 = subst (λ j. j ≤ 2 ^ 29) h.2.0.1 h.2.1 in
        and_from (not n.negative) powers (ap not h.0) (ap (λ j. list_any (nat_eq j) (powers_below 30)) e ∙ power_below 30 k (little k most)))

pub align_ties : (a : Option (Placed Number)) → Ties (align_faults a) (IsAlign a (align_of a))
align_ties None = none refl
align_ties (Some n) = align_kept_ties n.what (at n reason.WrongType)

-- ---- registers and labels

-- The names of a function and what they are: its registers and its labels, and each is found.
pub record Matches (ts : Things) (rs : Registers) (labels : List Name) : Type 0 where
  pub known : (x : Name) (own : Option Ty) → thing_of ts x ≡ Some (Register' own) → Contains rs (x, own)
  pub found : (x : Name) (own : Option Ty) → Contains rs (x, own) → thing_of ts x ≡ Some (Register' own)
  pub label_known : (x : Name) → thing_of ts x ≡ Some Block' → Contains labels x
  pub label_found : (x : Name) → Contains labels x → thing_of ts x ≡ Some Block'

own_ties : (t : Ty) (x : Placed Name) (own : Option Ty) → Ties (own_faults t x own) (MayBe own t)
own_ties t x None = none tt
own_ties t x (Some own) =
    let f = at x reason.WrongType in
    through (unless (same_ty own t) f) (fits (same_ty own t) f) (same_ty_true own t) (λ e. ap (λ u. same_ty u t) e ∙ same_ty_refl t)

register_same : (own other : Option Ty) → Some (Register' own) ≡ Some (Register' other) → own ≡ other
register_same own other e = cc

module _ (m : Module) (ts : Things) (rs : Registers) (labels : List Name) (matches : Matches ts rs labels) where
  register_ties : (t : Ty) (x : Placed Name) → Ties (register_faults t x (thing_of ts x.what)) (IsRegister rs t x.what)
  register_ties t x = by (thing_of ts x.what) refl
    where
      by : (o : Option Thing) → thing_of ts x.what ≡ o → Ties (register_faults t x o) (IsRegister rs t x.what)
      by None is = never (at x reason.Unknown) [] (λ h. let e = matches.found x.what h.0 h.1 in let wrong = sym is ∙ e in cc)
      by (Some Block') is = never (at x reason.WrongType) [] (λ h. let e = matches.found x.what h.0 h.1 in let wrong = sym is ∙ e in cc)
      by (Some (Register' own)) is =
          through (own_faults t x own) (own_ties t x own) (λ h. (own, matches.known x.what own is, h))
          (λ h. subst (λ o. MayBe o t) (register_same h.0 own (sym (matches.found x.what h.0 h.1) ∙ is)) h.2)

  pub label_ties : (x : Placed Name) → Ties (label_faults ts x) (IsLabel labels x x.what)
  label_ties x = by (thing_of ts x.what) refl
    where
      by : (o : Option Thing) → thing_of ts x.what ≡ o → Ties (block_faults_of x o) (IsLabel labels x x.what)
      by None is = never (at x reason.Unknown) [] (λ h. let e = matches.label_found x.what h.0 in let wrong = sym is ∙ e in cc)
      by (Some Block') is = none (matches.label_known x.what is, refl)
      by (Some (Register' own)) is = never (at x reason.WrongType) [] (λ h. let e = matches.label_found x.what h.0 in let wrong = sym is ∙ e in cc)

  pub value_ties : (t : Ty) (v : ValueText) → is_first_class t ≡ true → Ties (value_faults (heads_of m) ts t v) (IsValue m rs t v (value_at t v))
  value_ties t (text.Const c) first = through (value_faults (heads_of m) ts t (text.Const c)) (const_ties m t c first) (λ h. (refl, h)) (λ h. h.1)
  value_ties t (text.Local x) first = through (register_faults t x (thing_of ts x.what)) (register_ties t x) (λ h. (refl, h)) (λ h. h.1)
  value_ties t (text.Tagged tag x) first = never (at x reason.WrongType) [] (λ h. absurd h)

  pub operand_ties : (w : OperandText) → Ties (operand_faults (heads_of m) ts w) (IsOperand m rs w (operand_of w))
  operand_ties w =
      in_turn (value_type_faults (heads_of m) w.ty) (value_faults (heads_of m) ts (type_of w.ty) w.value) (value_type_at_ties m w.ty) (λ is. value_ties (type_of w.ty) w.value (first_class m w.ty (type_of w.ty) is))
