-- Pointers that aren't into one block, and pointers into blocks of one side alone.
use Rattle.std.proofs.Common.{◌≡◌, ◌+◌, ℕ, true, ◌&&◌, ◌||◌, List, [], ◌∷◌, Option, Some, sym, subst, arith}
use Rattle.std.specs.Prelude.{◌≢◌}
use Rattle.std.specs.List.{AllByRecursion}
use Rattle.ir_types.specs.declared.names.Name.{Name}
use Rattle.ir_types.specs.NameLaws.{left_true, right_true}
use Rattle.ir_core.specs.declared.operands.Operand.{Operand}
use Rattle.ir_core.specs.declared.expressions.Expr.TheVariants.{Plain}
use Rattle.ir_core.specs.declared.expressions.Reg.{Reg}
use Rattle.ir_core.specs.declared.expressions.Reg.TheVariants.{Now}
use Rattle.ir_core.specs.Types.{is_pointer}
use Rattle.ir_core.proofs.SameLaws.{same_reg_operand_true}
use Rattle.ir_machine.specs.Keeps.{IsNameAmong}
use Rattle.ir_machine.proofs.Keeping.{got_all}
use Rattle.erhl_assert.specs.declared.facts.Fact.{Fact}
use Rattle.erhl_assert.specs.declared.facts.Fact.TheVariants.{LessDef, Unique, Private, NoAlias}
use Rattle.erhl_assert.specs.Facts.{Holds}
use Rattle.erhl_assert.specs.Holding.{AreNoAliases, HoldsAlone, IfBlock, IsNot, IsPrivate, block_held, block_of}
use Rattle.erhl_assert.specs.Sides.{SideState, IsFine, worth}
use Rattle.rule_base.specs.Rows.{have_one_type}
use Rattle.rules_memory.specs.Rows.{are_operands, are_two, global_in, is_derived, is_name, is_noalias_derived, is_noalias_globals, is_noalias_swap, is_noalias_unique, is_private_derived, is_there, now_in, same}
use Rattle.rules_memory.specs.OperandLaws.{at_block, block_below, either, for_block, held_other, now_block, now_pointer, other, there, two, value_on}
use Rattle.rules_memory.specs.GlobalLaws.{global_block, global_place, one_place}
use Rattle.rules_memory.specs.AddressLaws.{derived_block}

-- a block isn't the other one
abbrev IsApartFrom : Option ℕ → ℕ → Type 0
IsApartFrom o c = o ≢ Some c

turned : (x y : Option ℕ) → IfBlock x (IsApartFrom y) → IfBlock y (IsApartFrom x)
turned x y h = for_block y (IsApartFrom x) (λ b p q. at_block x (IsApartFrom y) h b q p)

module _ (side : SideState) where
  abbrev block : Operand Reg → Option ℕ
  block o = block_of (value_on side o)

  -- of the same operands
  apart_as : (p q r s : Operand Reg) → p ≡ r → q ≡ s → IfBlock (block p) (IsApartFrom (block q)) → AreNoAliases (worth side (Plain r)) (worth side (Plain s))
  apart_as p q r s e f h =
      subst (λ (o : Operand Reg). IfBlock (block o) (IsApartFrom (block s))) e (subst (λ (o : Operand Reg). IfBlock (block p) (IsApartFrom (block o))) f h)

  pub noalias_swap_is_sound : (from : List Fact) (to : Fact) → is_noalias_swap side.scope from to ≡ true → AllByRecursion (Holds side) from → Holds side to
  noalias_swap_is_sound (NoAlias (Plain p) (Plain q) ∷ []) (NoAlias (Plain r) (Plain s)) h all =
      let typed = are_operands side.scope p q in
      let first = same p s in
      let second = same q r in
      let h1 : (typed && first) ≡ true = left_true (typed && first) second h in
      apart_as q p r s (same_reg_operand_true q r (right_true (typed && first) second h)) (same_reg_operand_true p s (right_true typed first h1))
      (turned (block p) (block q) all.0)
  noalias_swap_is_sound from to h all = absurd (cc)

  pub noalias_derived_is_sound : (from : List Fact) (to : Fact) → is_noalias_derived side.scope from to ≡ true → AllByRecursion (Holds side) from → Holds side to
  noalias_derived_is_sound (NoAlias (Plain p) (Plain q) ∷ LessDef (Plain r) e ∷ []) (NoAlias (Plain s) (Plain t)) h all =
      let a = are_operands side.scope p q in
      let b = a && have_one_type side.scope (Plain r) e in
      let c = b && is_pointer r.ty in
      let d = c && is_derived e (same p) in
      let f = d && same r s in
      let to_f : f ≡ true = left_true f (same q t) h in
      let to_d : d ≡ true = left_true d (same r s) to_f in
      let derived : is_derived e (same p) ≡ true = right_true c (is_derived e (same p)) to_d in
      apart_as r q s t (same_reg_operand_true r s (right_true d (same r s) to_f)) (same_reg_operand_true q t (right_true f (same q t) h))
      (for_block (block r) (IsApartFrom (block q)) (λ c is.
      let into = derived_block side e (same p) c derived (block_below (value_on side r) (worth side e) c all.1.0.1 is) in
      let base : p ≡ into.base = same_reg_operand_true p into.base into.passes in
      let points : block p ≡ Some c = subst (λ (o : Operand Reg). block o ≡ Some c) (sym base) into.block in
      at_block (block p) (IsApartFrom (block q)) all.0 c points))
  noalias_derived_is_sound from to h all = absurd (cc)

  pub noalias_globals_is_sound : (from : List Fact) (to : Fact) → is_noalias_globals side.scope from to ≡ true → Holds side to
  noalias_globals_is_sound [] (NoAlias (Plain p) (Plain q)) h =
      let names = two (global_in p.atom) (global_in q.atom) (right_true (are_operands side.scope p q) (are_two (global_in p.atom) (global_in q.atom)) h) in
      for_block (block p) (IsApartFrom (block q)) (λ b e f.
      one_place 0 side.scope.globals names.first names.second b names.apart (global_block side names.first p b names.first_is e)
      (global_block side names.second q b names.second_is f))
  noalias_globals_is_sound from to h = absurd (cc)

  module _ (fine : IsFine side) where
    -- what a register holds alone is held by no other one of now, and is no global's
    apart_from : (x : Name) (q : Operand Reg) (b : ℕ) → HoldsAlone side x b → (are_two (Some x) (now_in q.atom) || is_there (global_in q.atom)) ≡ true → IsApartFrom (block q) b
    apart_from x q b alone h = either (are_two (Some x) (now_in q.atom)) (is_there (global_in q.atom)) (IsApartFrom (block q) b) from_register from_global h
      where
        from_register : are_two (Some x) (now_in q.atom) ≡ true → IsApartFrom (block q) b
        from_register h = λ e.
            let o = other x (now_in q.atom) h in
            held_other b (side.files.now o.name) (alone.now o.name o.apart) (now_block side o.name q b o.named e)

        from_global : is_there (global_in q.atom) ≡ true → IsApartFrom (block q) b
        from_global h = λ e.
            let g = there (global_in q.atom) h in
            let at = global_place 0 side.scope.globals g.name b (global_block side g.name q b g.is e) in
            let is : at.place ≡ b = let from : b ≡ 0 + at.place = at.is in omega arith in
            let none : IsNameAmong (IsNot b) (Some at.place) = got_all (IsNameAmong (IsNot b)) side.world.names at.place (Some at.place) alone.names (fine.named at.place at.below) in
            none is

    pub noalias_unique_is_sound : (from : List Fact) (to : Fact) → is_noalias_unique side.scope from to ≡ true → AllByRecursion (Holds side) from → Holds side to
    noalias_unique_is_sound (Unique (Now x) ∷ []) (NoAlias (Plain p) (Plain q)) h all =
        let typed = are_operands side.scope p q in
        let own = is_name x (now_in p.atom) in
        let different = are_two (Some x) (now_in q.atom) || is_there (global_in q.atom) in
        let owned : own ≡ true = right_true typed own (left_true (typed && own) different h) in
        for_block (block p) (IsApartFrom (block q)) (λ b e.
        apart_from x q b (at_block (block_held (side.files.now x)) (HoldsAlone side x) all.0 b (now_block side x p b owned e)) (right_true (typed && own) different h))
    noalias_unique_is_sound from to h all = absurd (cc)

    pub private_derived_is_sound : (from : List Fact) (to : Fact) → is_private_derived side.scope from to ≡ true → AllByRecursion (Holds side) from → Holds side to
    private_derived_is_sound (Private (Now x) ∷ LessDef (Plain r) e ∷ []) (Private (Now y)) h all =
        let test = λ (o : Operand Reg). is_name x (now_in o.atom) in
        let a = have_one_type side.scope (Plain r) e in
        let b = a && is_pointer r.ty in
        let c = b && is_derived e test in
        let named = is_name y (now_in r.atom) in
        let to_c : c ≡ true = left_true c named h in
        let derived : is_derived e test ≡ true = right_true b (is_derived e test) to_c in
        let pointer : is_pointer r.ty ≡ true = right_true a (is_pointer r.ty) (left_true b (is_derived e test) to_c) in
        for_block (block_held (side.files.now y)) (IsPrivate side) (λ k is.
        let points : block r ≡ Some k = now_pointer side y r k fine.now pointer (right_true c named h) is in
        let into = derived_block side e test k derived (block_below (value_on side r) (worth side e) k all.1.0.1 points) in
        at_block (block_held (side.files.now x)) (IsPrivate side) all.0 k (now_block side x into.base k into.passes into.block))
    private_derived_is_sound from to h all = absurd (cc)
