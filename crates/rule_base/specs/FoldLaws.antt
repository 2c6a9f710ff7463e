-- What an expression over numbers comes to is the same in every state, and what it may be made is more defined.
use Rattle.std.proofs.Common.{◌≡◌, ℕ, Bool, true, false, ◌&&◌, ◌||◌, cond, List, [], Option, None, Some, refl, sym, ap, ◌∙◌, subst}
use Rattle.std.specs.List.{list_all}
use Rattle.std.proofs.lemmas.Bool.{eqb-true}
use Rattle.ir_core.specs.declared.values.Value.{Value}
use Rattle.ir_core.specs.declared.values.Value.TheVariants.{Num, Ptr, Bare, Undef, Poison}
use Rattle.ir_core.specs.declared.values.Kind.{Kind}
use Rattle.ir_core.specs.declared.values.Kind.TheVariants as kind
use Rattle.ir_types.specs.declared.ty.Ty.{Ty}
use Rattle.ir_types.specs.declared.ty.Ty.TheVariants as ty
use Rattle.ir_core.specs.declared.operands.Const.TheVariants as constant
use Rattle.ir_core.specs.declared.operands.Atom.{Atom}
use Rattle.ir_core.specs.declared.operands.Atom.TheVariants as atom
use Rattle.ir_core.specs.declared.operands.Operand.{Operand}
use Rattle.ir_core.specs.declared.operands.Pred.{Pred}
use Rattle.ir_core.specs.declared.expressions.Reg.{Reg}
use Rattle.ir_core.specs.declared.expressions.Expr.TheVariants.{Plain, Binary, Icmp, Cast, Select, Element, Load}
use Rattle.ir_core.specs.Expressions.{Expr0}
use Rattle.ir_core.specs.Types.{fits, kind_of}
use Rattle.ir_types.specs.NameLaws.{left_true, right_true}
use Rattle.ir_values.specs.declared.operations.Outcome.{Outcome}
use Rattle.ir_values.specs.declared.operations.Outcome.TheVariants.{Gives, Trap}
use Rattle.ir_values.specs.Operations.{IsOutcomeLessDefined}
use Rattle.ir_values.specs.Values.{IsLessDefined}
use Rattle.block_memory.specs.Memory.{Memory, loaded_of}
use Rattle.ir_machine.specs.Registers.{atom_value, icmp_at, size_at}
use Rattle.ir_machine.specs.State.{no_scope}
use Rattle.erhl_assert.specs.declared.facts.Fact.{Fact}
use Rattle.erhl_assert.specs.declared.facts.Fact.TheVariants.{LessDef}
use Rattle.erhl_assert.specs.Sides.{SideState, read_reg, worth}
use Rattle.erhl_assert.specs.Facts.{Holds}
use Rattle.erhl_assert.specs.Typed.{atom_fits, has_values}
use Rattle.rule_base.specs.Rows.{folded, have_one_type, is_fold, is_number, is_over_numbers, is_undef, may_become, number_of_kind}
use Rattle.rule_base.specs.OneType.{OneType, one_type}
use Rattle.rule_base.specs.SimpleLaws.{undef_below}
use Rattle.rule_base.specs.NumberLaws as constants
use Rattle.rule_base.specs.NumberLaws.{atom_is_worth, no_element, number_is_worth}

-- ---- numbers are no addresses

abbrev IsNoAddress : Value → Type 0
IsNoAddress (Ptr block offset) = ⊥
IsNoAddress (Num n) = Unit {0}
IsNoAddress (Bare address) = Unit {0}
IsNoAddress Undef = Unit {0}
IsNoAddress Poison = Unit {0}

number_or_poison : (fits : Bool) (n : ℕ) → IsNoAddress (cond fits (Num n) Poison)
number_or_poison true n = tt
number_or_poison false n = tt

number_at_kind : (k : Option Kind) (n : ℕ) → IsNoAddress (number_of_kind k n)
number_at_kind None n = tt
number_at_kind (Some (kind.Int width)) n = number_or_poison (fits n width) n
number_at_kind (Some kind.Ptr) n = tt

number_no_address : (t : Ty) (x : Atom Reg) → is_number x ≡ true → IsNoAddress (atom_value no_scope (λ k r. Poison) t x)
number_no_address t (atom.Constant (constant.Number n)) h = subst IsNoAddress (sym (number_is_worth no_scope t n)) (number_at_kind (kind_of t) n)
number_no_address t (atom.Constant c) h = absurd (cc)
number_no_address t (atom.Register r) h = absurd (cc)

-- it lies in no block, whatever memory is
one_size : (m n : Memory) (v : Value) → IsNoAddress v → size_at m v ≡ size_at n v
one_size m n (Ptr block offset) h = absurd h
one_size m n (Num k) h = refl
one_size m n (Bare address) h = refl
one_size m n Undef h = refl
one_size m n Poison h = refl

one_comparison : (m n : Memory) (p : Pred) (k : Option Kind) (a b : Value) → IsNoAddress a → IsNoAddress b → icmp_at m p k a b ≡ icmp_at n p k a b
one_comparison m n p None a b h g = refl
one_comparison m n p (Some k) a b h g = rw (one_size m n a h, one_size m n b g) refl

-- and nothing is loaded through it
one_load : (m n : Memory) (k : Option Kind) (v : Value) (x y : ℕ) → IsNoAddress v → loaded_of m k v x ≡ loaded_of n k v y
one_load m n None v x y h = refl
one_load m n (Some k) (Ptr block offset) x y h = absurd h
one_load m n (Some k) (Num i) x y h = refl
one_load m n (Some k) (Bare address) x y h = refl
one_load m n (Some k) Undef x y h = refl
one_load m n (Some k) Poison x y h = refl

module _ (side : SideState) where
  -- a number is read from no register
  number_worth : (t : Ty) (x : Atom Reg) → is_number x ≡ true → atom_value side.scope (read_reg side) t x ≡ atom_value no_scope (λ k r. Poison) t x
  number_worth t x h = atom_is_worth side.scope (read_reg side) t x h

  folded_worth : (e : Expr0) → is_over_numbers e ≡ true → worth side e ≡ folded e
  folded_worth (Plain o) h = ap Gives (number_worth o.ty o.atom (left_true (is_number o.atom) true h))
  folded_worth (Binary b) h =
      let l = is_number b.left in
      let r = is_number b.right in
      rw (
        number_worth b.ty b.left (left_true l (r && true) h),
        number_worth b.ty b.right (left_true r true (right_true l (r && true) h)),
      ) refl
  folded_worth (Icmp c) h =
      let l = is_number c.left in
      let r = is_number c.right in
      let first = left_true l (r && true) h in
      let second = left_true r true (right_true l (r && true) h) in
      rw (number_worth c.ty c.left first, number_worth c.ty c.right second)
      (one_comparison side.world.memory [] c.pred (kind_of c.ty) _ _ (number_no_address c.ty c.left first) (number_no_address c.ty c.right second))
  folded_worth (Cast c) h = rw (number_worth c.operand.ty c.operand.atom (left_true (is_number c.operand.atom) true h)) refl
  folded_worth (Select s) h =
      let c = is_number s.condition.atom in
      let l = is_number s.left.atom in
      let r = is_number s.right.atom in
      let arms : (l && (r && true)) ≡ true = right_true c (l && (r && true)) h in
      rw (
        number_worth s.condition.ty s.condition.atom (left_true c (l && (r && true)) h),
        number_worth s.left.ty s.left.atom (left_true l (r && true) arms),
        number_worth s.right.ty s.right.atom (left_true r true (right_true l (r && true) arms)),
      ) refl
  folded_worth (Element e) h =
      let base = left_true (is_number e.base.atom) (list_all (λ (o : Operand Reg). is_number o.atom) e.indices) h in
      no_element side.scope (read_reg side) side.world.memory e base ∙ sym (no_element no_scope (λ k r. Poison) [] e base)
  folded_worth (Load l) h =
      let through = left_true (is_number l.pointer.atom) true h in
      rw (number_worth l.pointer.ty l.pointer.atom through)
      (one_load side.world.memory [] (kind_of l.of) _ _ _ (number_no_address l.pointer.ty l.pointer.atom through))

  -- undef is less defined than a number of its type, and than undef
  undef_less : (t : Ty) (c : Atom Reg) → (is_number c || is_undef c) ≡ true → has_values t ≡ true → atom_fits side.scope t c ≡ true
      → IsLessDefined Undef (atom_value side.scope (read_reg side) t c)
  undef_less t (atom.Constant (constant.Number n)) p v r = undef_below side.scope (read_reg side) t (atom.Constant (constant.Number n)) refl v r
  undef_less t (atom.Constant constant.Undef) p v r = undef_below side.scope (read_reg side) t (atom.Constant constant.Undef) refl v r
  undef_less t (atom.Constant c) p v r = absurd (cc)
  undef_less t (atom.Register s) p v r = absurd (cc)

  number_less : (m : ℕ) (t : Ty) (c : Atom Reg) → may_become (Gives (Num m)) c ≡ true → has_values t ≡ true → atom_fits side.scope t c ≡ true
      → IsLessDefined (Num m) (atom_value side.scope (read_reg side) t c)
  number_less m (ty.Int w) (atom.Constant (constant.Number n)) p v r = rw (v, constants.number_worth side.scope w n, r) (ap Num (sym (eqb-true m n p)))
  number_less m t (atom.Constant (constant.Number n)) p v r = absurd (cc)
  number_less m t (atom.Constant c) p v r = absurd (cc)
  number_less m t (atom.Register s) p v r = absurd (cc)

  become_less : (o : Outcome) (t : Ty) (c : Atom Reg) → may_become o c ≡ true → has_values t ≡ true → atom_fits side.scope t c ≡ true
      → IsOutcomeLessDefined o (Gives (atom_value side.scope (read_reg side) t c))
  become_less Trap t c p v r = tt
  become_less (Gives Poison) t c p v r = tt
  become_less (Gives Undef) t c p v r = undef_less t c p v r
  become_less (Gives (Num m)) t c p v r = number_less m t c p v r
  become_less (Gives (Ptr block offset)) t c p v r = absurd (cc)
  become_less (Gives (Bare address)) t c p v r = absurd (cc)

  pub fold_is_sound : (from : List Fact) (to : Fact) → is_fold side.scope from to ≡ true → Holds side to
  fold_is_sound [] (LessDef e (Plain c)) h =
      let both = have_one_type side.scope e (Plain c) in
      let numbers = is_over_numbers e in
      let becomes = may_become (folded e) c.atom in
      let h1 : (both && numbers) ≡ true = left_true (both && numbers) becomes h in
      let one : OneType side.scope e (Plain c) = one_type side.scope e (Plain c) (left_true both numbers h1) in (
        ap kind_of one.type,
        rw (folded_worth e (right_true both numbers h1)) (become_less (folded e) c.ty c.atom (right_true (both && numbers) becomes h) one.target one.right),
      )
  fold_is_sound from to h = absurd (cc)
