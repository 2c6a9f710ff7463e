-- Loads of related memories: through related pointers, at alignments of which one divides the other. And where a fact says that none traps.
use Rattle.std.proofs.Common.{◌≡◌, ℕ, ◌*◌, ◌/◌, ◌%◌, ◌<◌, Bool, true, false, ◌&&◌, not, cond, nat_eq, nat_lt, List, Option, None, Some, refl, sym, ap, ◌∙◌, subst, ⊎_elim, inl, inr, ◌⊎◌, eqb-true, eq-eqb, arith}
use Rattle.std.specs.List.{AllByRecursion}
use Rattle.std.proofs.lemmas.Bool.{and_parts, false≢true, ltb-true}
use Rattle.std.proofs.lemmas.Nat.{div-add-mod'}
use Rattle.std.proofs.Math.Nat.{mul_assoc, mul-mod_left}
use Rattle.ir_types.specs.declared.names.Name.{Name}
use Rattle.ir_core.specs.declared.values.Value.{Value}
use Rattle.ir_core.specs.declared.values.Value.TheVariants.{Poison}
use Rattle.ir_core.specs.declared.values.Kind.{Kind}
use Rattle.ir_core.specs.declared.expressions.Expr.{Expr}
use Rattle.ir_core.specs.declared.expressions.Expr.TheVariants as expr
use Rattle.ir_core.specs.declared.expressions.Reg.TheVariants as reg
use Rattle.ir_core.specs.Types.{kind_of}
use Rattle.ir_values.specs.declared.operations.Outcome.TheVariants.{Gives, Trap}
use Rattle.ir_values.specs.Related.{AreOutcomesRelated, IsRelated, Pairing}
use Rattle.block_memory.specs.Memory.{Memory, can_access, read_at, loaded, loaded_of}
use Rattle.block_memory.specs.Related.{AreMemoriesRelated}
use Rattle.block_memory.proofs.Accesses.{loads_keep_related}
use Rattle.ir_machine.specs.Registers.{align_or, operand_value, read}
use Rattle.erhl_assert.specs.declared.facts.Fact.{Fact}
use Rattle.erhl_assert.specs.declared.facts.Fact.TheVariants.{Ok}
use Rattle.erhl_assert.specs.declared.facts.Assertion.{Assertion}
use Rattle.erhl_assert.specs.Sides.{SideState, read_reg, worth}
use Rattle.erhl_assert.specs.Facts.{Holds}
use Rattle.erhl_assert.specs.Holding.{CanAccess}
use Rattle.erhl_assert.specs.Matched.{now_operand}
use Rattle.erhl_assert.specs.Allowed.{can_trap, divides, is_known_to_load, may_trap}
use Rattle.erhl_soundness.proofs.Facts.{has_fact_holds}
use Rattle.erhl_soundness.proofs.Readings.{outcome_mapped}
use Rattle.erhl_soundness.proofs.Lines.{gives_on}
use Rattle.erhl_soundness.proofs.Operators.{only_trap}
use Rattle.erhl_soundness.proofs.Trapping.{no_trap}

-- ---- alignments

-- what the second divides the first divides
pub divides_on : (few many n : ℕ) → divides few many ≡ true → nat_eq (n % many) 0 ≡ true → nat_eq (n % few) 0 ≡ true
divides_on few many n h e =
    let of_many : many % few ≡ 0 = eqb-true (many % few) 0 (and_parts (nat_lt 0 few) (nat_eq (many % few) 0) h).1 in
    let of_n : n % many ≡ 0 = eqb-true (n % many) 0 e in
    let many_is : many ≡ many / few * few = omega (arith, div-add-mod' many few, of_many) in
    let n_is : n ≡ n / many * many = omega (arith, div-add-mod' n many, of_n) in
    let whole : n ≡ n / many * (many / few) * few = n_is ∙ ap (λ m. n / many * m) many_is ∙ sym (mul_assoc (n / many) (many / few) few) in
    eq-eqb (n % few) 0 (ap (λ m. m % few) whole ∙ mul-mod_left (n / many * (many / few)) few)

by_one : (i : ℕ) → nat_eq (i % 1) 0 ≡ true
by_one i = let none : i % 1 ≡ 0 = omega arith in eq-eqb (i % 1) 0 none

-- ---- loads of two memories

given : (b : Bool) (v w : Value) → cond b (Gives w) Trap ≡ Gives v → w ≡ v
given true v w h = cc
given false v w h = absurd (cc)

module _ (ps : Pairing) (m n : Memory) (memories : AreMemoriesRelated ps m n) where
  -- where a load traps at an alignment that divides another, one through a pointer that it refines traps at that
  pub load_traps : (k : Option Kind) (few many : ℕ) → divides few many ≡ true → (a c : Value) → IsRelated ps a c
      → loaded_of n k c few ≡ Trap → loaded_of m k a many ≡ Trap
  load_traps None few many divided a c p h = absurd (cc)
  load_traps (Some k) few many divided a c p h =
      only_trap ps (loaded m k a many)
      (subst (AreOutcomesRelated ps (loaded m k a many)) h
      (loads_keep_related ps m n memories k many few (ltb-true 0 few (and_parts (nat_lt 0 few) (nat_eq (many % few) 0) divided).0) (λ i e. divides_on few many i divided e) a c p))

  given_related : (b : Bool) (v w : Value) → AreOutcomesRelated ps (Gives v) (cond b (Gives w) Trap) → IsRelated ps v w
  given_related true v w h = h
  given_related false v w h = absurd h

  load_of_kind : (k : Kind) (a c v w : Value) (i j : ℕ) → IsRelated ps a c → loaded m k a i ≡ Gives v → loaded n k c j ≡ Gives w → IsRelated ps v w
  load_of_kind k a c v w i j p h e =
      let positive : 0 < 1 = omega arith in
      subst (IsRelated ps v) (given (can_access n k c j) w (read_at n k c) e)
      (given_related (can_access n k c 1) v (read_at n k c)
      (subst (λ o. AreOutcomesRelated ps o (loaded n k c 1)) h (loads_keep_related ps m n memories k i 1 positive (λ x divided. by_one x) a c p)))

  -- two loads that gave values, at whatever alignments
  pub loads_give : (k : Option Kind) (a c v w : Value) (i j : ℕ) → IsRelated ps a c → loaded_of m k a i ≡ Gives v → loaded_of n k c j ≡ Gives w → IsRelated ps v w
  loads_give None a c v w i j p h e = let poison : Poison ≡ v = cc in subst (λ x. IsRelated ps x w) poison tt
  loads_give (Some k) a c v w i j p h e = load_of_kind k a c v w i j p h e

-- ---- what is known not to trap

can_load : (side : SideState) (k : Option Kind) (p : Value) (align : ℕ) → CanAccess side k (Gives p) align → loaded_of side.world.memory k p align ≡ Trap → ⊥
can_load side None p align h e = h
can_load side (Some k) p align h e =
    let gives : Gives (read_at side.world.memory k p) ≡ Trap = subst (λ b. cond b (Gives (read_at side.world.memory k p)) Trap ≡ Trap) h e in cc

may_not : (a b : Bool) → (a && not b) ≡ false → (a ≡ false) ⊎ (b ≡ true)
may_not false b h = inl refl
may_not true true h = inr refl
may_not true false h = absurd (cc)

module _ (side : SideState) (fs : List Fact) (hold : AllByRecursion (Holds side) fs) where
  known_to_load : (e : Expr Name) → is_known_to_load side.scope.types fs e ≡ true → gives_on side e ≡ Trap → ⊥
  known_to_load (expr.Load l) h traps =
      let p = now_operand l.pointer in
      let align = align_or side.scope.types l.of l.align in
      let fact : CanAccess side (kind_of l.of) (worth side (expr.Plain p)) align = has_fact_holds side (Ok (expr.Plain p) l.of align) fs h hold in
      can_load side (kind_of l.of) (operand_value side.scope (read side.files.now) l.pointer) align
      (subst (λ o. CanAccess side (kind_of l.of) o align) (outcome_mapped side.scope reg.Now (read_reg side) side.world.memory (expr.Plain l.pointer)) fact) traps
  known_to_load e h traps = false≢true h

-- WHAT MAY NOT TRAP by what is known of the target doesn't
pub known_no_trap : (side : SideState) (known : Assertion) → AllByRecursion (Holds side) known.tgt → (e : Expr Name) → may_trap side.scope.types known e ≡ false → gives_on side e ≡ Trap → ⊥
known_no_trap side known hold e safe traps = ⊎_elim
    (λ h. no_trap side.scope (read side.files.now) side.world.memory e h traps)
    (λ h. known_to_load side known.tgt hold e h traps)
    (may_not (can_trap e) (is_known_to_load side.scope.types known.tgt e) safe)
