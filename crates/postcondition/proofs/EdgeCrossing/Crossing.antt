-- What is added to the facts that stay has the sizes of what is added while all are there, and comes to the same behind the phis.
use Rattle.std.proofs.Common.{◌≡◌, ◌∙◌, ℕ, ◌+◌, Bool, true, false, ◌||◌, cond, not, filter, List, [], ◌∷◌, ◌++◌, ◌&&◌, map, length, None, Some, refl, sym, ap, ap₂, arith, length-append}
use Rattle.std.specs.List.{list_any, list_all, filter_map}
use Rattle.ir_types.specs.declared.names.Name.{Name}
use Rattle.ir_core.specs.declared.functions.Phi.{Phi}
use Rattle.ir_core.specs.declared.operands.Atom.{Atom}
use Rattle.ir_core.specs.declared.operands.Atom.TheVariants as atom
use Rattle.ir_core.specs.declared.operands.Operand.{Operand}
use Rattle.ir_core.specs.declared.expressions.Reg.{Reg}
use Rattle.ir_core.specs.declared.expressions.Reg.TheVariants.{Now, Old, Ghost}
use Rattle.ir_core.specs.declared.expressions.Expr.TheVariants.{Plain, Binary, Icmp, Cast, Select, Element, Load}
use Rattle.ir_core.specs.Expressions.{Expr0, map_atom, map_expr, map_operand, atom_has, expr_has}
use Rattle.erhl_assert.specs.declared.facts.Fact.{Fact}
use Rattle.erhl_assert.specs.declared.facts.Fact.TheVariants.{LessDef, Unique, Private, NoAlias, Ok}
use Rattle.erhl_assert.specs.declared.facts.Assertion.{Assertion}
use Rattle.erhl_assert.specs.declared.facts.Side.{Side}
use Rattle.erhl_assert.specs.declared.facts.Side.TheVariants.{Src, Tgt}
use Rattle.erhl_assert.specs.Facts.{has_fact, with_fact, fact_has, without}
use Rattle.erhl_assert.specs.Edges.{Edge, is_old, old_of, as_old, is_of_phi, without_old, phi_facts, diff_over, after_edge}
use Rattle.erhl_assert.specs.Course.{Course, Ends, Gives, gives, after_ends, and_then, are_too_many, within}
use Rattle.erhl_assert.specs.Growth.{size, with_conclusion, adds_all, without_phis, over_edge}
use Rattle.erhl_assert.proofs.Courses.{then_ends, with_all, adds_all_ends}
use Rattle.erhl_assert.proofs.Edges.{edge_ends}
use Rattle.fact_sets.specs.ErhlSides.Beside.{adds_all_beside}
use Rattle.fact_sets.specs.ErhlSides.Joining.{says_unique}
use Rattle.fact_sets.proofs.ErhlSides.Once.{found_left, left_with}
use Rattle.postcondition.specs.EdgeCrossing.Crossing.{goes, is_shared, is_taken, stays, copies, over_staying}
use Rattle.postcondition.proofs.EdgeCrossing.Staying.{left_in_turn, stay_or_go}
use Rattle.postcondition.proofs.EdgeCrossing.Sharing.{not_shared, taken_out}

-- ---- copies name no register of a phi
both_false : (a b : Bool) → a ≡ false → b ≡ false → (a || b) ≡ false
both_false true b h k = h
both_false false b h k = k

module _ (ps : List Phi) where
  atom_apart : (a : Atom Reg) → atom_has (is_of_phi ps) (map_atom old_of a) ≡ false
  atom_apart (atom.Constant c) = refl
  atom_apart (atom.Register (Now x)) = refl
  atom_apart (atom.Register (Old x)) = refl
  atom_apart (atom.Register (Ghost x)) = refl

  two_apart : (a b : Atom Reg) → (atom_has (is_of_phi ps) (map_atom old_of a) || atom_has (is_of_phi ps) (map_atom old_of b)) ≡ false
  two_apart a b = both_false (atom_has (is_of_phi ps) (map_atom old_of a)) (atom_has (is_of_phi ps) (map_atom old_of b)) (atom_apart a) (atom_apart b)

  operands_apart : (os : List (Operand Reg)) → list_any (λ (o : Operand Reg). atom_has (is_of_phi ps) o.atom) (map (map_operand old_of) os) ≡ false
  operands_apart [] = refl
  operands_apart (o ∷ os) =
      both_false (atom_has (is_of_phi ps) (map_atom old_of o.atom)) (list_any (λ (q : Operand Reg). atom_has (is_of_phi ps) q.atom) (map (map_operand old_of) os))
      (atom_apart o.atom) (operands_apart os)

  expr_apart : (e : Expr0) → expr_has (is_of_phi ps) (map_expr old_of e) ≡ false
  expr_apart (Plain o) = atom_apart o.atom
  expr_apart (Binary b) = two_apart b.left b.right
  expr_apart (Icmp c) = two_apart c.left c.right
  expr_apart (Cast c) = atom_apart c.operand.atom
  expr_apart (Select s) =
      both_false (atom_has (is_of_phi ps) (map_atom old_of s.condition.atom) || atom_has (is_of_phi ps) (map_atom old_of s.left.atom)) (atom_has (is_of_phi ps) (map_atom old_of s.right.atom))
      (two_apart s.condition.atom s.left.atom) (atom_apart s.right.atom)
  expr_apart (Element e) =
      both_false (atom_has (is_of_phi ps) (map_atom old_of e.base.atom)) (list_any (λ (o : Operand Reg). atom_has (is_of_phi ps) o.atom) (map (map_operand old_of) e.indices))
      (atom_apart e.base.atom) (operands_apart e.indices)
  expr_apart (Load l) = atom_apart l.pointer.atom

  pair_apart : (a b : Expr0) → (expr_has (is_of_phi ps) (map_expr old_of a) || expr_has (is_of_phi ps) (map_expr old_of b)) ≡ false
  pair_apart a b = both_false (expr_has (is_of_phi ps) (map_expr old_of a)) (expr_has (is_of_phi ps) (map_expr old_of b)) (expr_apart a) (expr_apart b)

-- the phis leave each of the facts
abbrev AreLeft : Name → List Phi → List Fact → Type 0
AreLeft from ps fs = list_all (λ f. not (is_taken from ps f)) fs ≡ true

all_left : (from : Name) (ps : List Phi) (f : Fact) (fs : List Fact) → fact_has (is_of_phi ps) f ≡ false → says_unique f ≡ false → AreLeft from ps fs → AreLeft from ps (f ∷ fs)
all_left from ps f fs apart other left =
    ap (λ b. not b && list_all (λ g. not (is_taken from ps g)) fs) (both_false (fact_has (is_of_phi ps) f) (is_shared from ps f) apart (not_shared f other from ps)) ∙ left

copies_left : (from : Name) (ps : List Phi) (fs : List Fact) → AreLeft from ps (filter_map as_old fs)
copies_left from ps [] = refl
copies_left from ps (LessDef a b ∷ fs) =
    all_left from ps (LessDef (map_expr old_of a) (map_expr old_of b)) (filter_map as_old fs) (pair_apart ps a b) refl (copies_left from ps fs)
copies_left from ps (NoAlias a b ∷ fs) =
    all_left from ps (NoAlias (map_expr old_of a) (map_expr old_of b)) (filter_map as_old fs) (pair_apart ps a b) refl (copies_left from ps fs)
copies_left from ps (Ok e t align ∷ fs) = all_left from ps (Ok (map_expr old_of e) t align) (filter_map as_old fs) (expr_apart ps e) refl (copies_left from ps fs)
copies_left from ps (Unique r ∷ fs) = copies_left from ps fs
copies_left from ps (Private r ∷ fs) = copies_left from ps fs

first_left : (a b : Bool) → (a && b) ≡ true → (a ≡ true) × (b ≡ true)
first_left true b h = (refl, h)
first_left false b h = absurd (cc)

-- ---- with fewer facts, of which so many are counted beside
pub record IsLess (others : ℕ) (e : Edge) (all few : Assertion) : Type 0 where
  pub source : few.src ≡ filter (λ f. not (is_taken e.from e.source f)) all.src
  pub target : few.tgt ≡ filter (λ f. not (is_taken e.from e.target f)) all.tgt
  pub count : size all ≡ size few + others

abbrev one_or_none : Bool → ℕ
one_or_none b = cond b 0 1

longer : (f : Fact) (fs : List Fact) → length (with_fact f fs) ≡ length fs + one_or_none (has_fact f fs)
longer f fs = elim (has_fact f fs) as (λ b. length (cond b fs (fs ++ f ∷ [])) ≡ length fs + one_or_none b) [
  | true ↦ omega arith
  | false ↦ length-append fs (f ∷ [])
]

then_sizes : {A B : Type 0} (c : Course A) (a : A) (next : A → Course B) → c.ends ≡ Gives a → (and_then c next).sizes ≡ c.sizes ++ (next a).sizes
then_sizes c a next h = ap (λ e. (after_ends c.sizes e next).sizes) h

one_size : (b d : Bool) (m n : ℕ) → b ≡ d → m ≡ n → cond b [] (m ∷ []) ≡ cond d [] (n ∷ [])
one_size b d m n h k = ap₂ (λ (x : Bool) (y : ℕ). cond x [] (y ∷ [])) h k

module _ (others : ℕ) (e : Edge) where
  -- the fact is there where it is there in all
  there_source : (f : Fact) → not (is_taken e.from e.source f) ≡ true → (all few : Assertion) → IsLess others e all few → has_fact f few.src ≡ has_fact f all.src
  there_source f left all few less = ap (has_fact f) less.source ∙ found_left (λ g. not (is_taken e.from e.source g)) f left all.src

  there_target : (f : Fact) → not (is_taken e.from e.target f) ≡ true → (all few : Assertion) → IsLess others e all few → has_fact f few.tgt ≡ has_fact f all.tgt
  there_target f left all few less = ap (has_fact f) less.target ∙ found_left (λ g. not (is_taken e.from e.target g)) f left all.tgt

  more_source : (f : Fact) → not (is_taken e.from e.source f) ≡ true → (all few : Assertion) → IsLess others e all few → IsLess others e (with_conclusion Src f all) (with_conclusion Src f few)
  more_source f left all few less = record {
    source = ap (with_fact f) less.source ∙ sym (left_with (λ g. not (is_taken e.from e.source g)) f all.src left);
    target = less.target;
    count =
        let same : one_or_none (has_fact f few.src) ≡ one_or_none (has_fact f all.src) = ap one_or_none (there_source f left all few less) in
        omega (arith, longer f all.src, longer f few.src, less.count, same);
  }

  more_target : (f : Fact) → not (is_taken e.from e.target f) ≡ true → (all few : Assertion) → IsLess others e all few → IsLess others e (with_conclusion Tgt f all) (with_conclusion Tgt f few)
  more_target f left all few less = record {
    source = less.source;
    target = ap (with_fact f) less.target ∙ sym (left_with (λ g. not (is_taken e.from e.target g)) f all.tgt left);
    count =
        let same : one_or_none (has_fact f few.tgt) ≡ one_or_none (has_fact f all.tgt) = ap one_or_none (there_target f left all few less) in
        omega (arith, longer f all.tgt, longer f few.tgt, less.count, same);
  }

  copied_source : (fs : List Fact) → AreLeft e.from e.source fs → (all few : Assertion) → IsLess others e all few
      → ((adds_all_beside others Src fs few).sizes ≡ (adds_all Src fs all).sizes)
      × IsLess others e (with_all Src fs all) (with_all Src fs few)
  copied_source [] left all few less = (refl, less)
  copied_source (f ∷ fs) left all few less =
      let two = first_left (not (is_taken e.from e.source f)) (list_all (λ g. not (is_taken e.from e.source g)) fs) left in
      let more = more_source f two.0 all few less in
      let rest = copied_source fs two.1 (with_conclusion Src f all) (with_conclusion Src f few) more in (
        ap₂ (λ (xs ys : List ℕ). xs ++ ys)
            (one_size (has_fact f few.src) (has_fact f all.src) (size (with_conclusion Src f few) + others) (size (with_conclusion Src f all)) (there_source f two.0 all few less) (sym more.count))
            rest.0,
        rest.1,
      )

  copied_target : (fs : List Fact) → AreLeft e.from e.target fs → (all few : Assertion) → IsLess others e all few
      → ((adds_all_beside others Tgt fs few).sizes ≡ (adds_all Tgt fs all).sizes)
      × IsLess others e (with_all Tgt fs all) (with_all Tgt fs few)
  copied_target [] left all few less = (refl, less)
  copied_target (f ∷ fs) left all few less =
      let two = first_left (not (is_taken e.from e.target f)) (list_all (λ g. not (is_taken e.from e.target g)) fs) left in
      let more = more_target f two.0 all few less in
      let rest = copied_target fs two.1 (with_conclusion Tgt f all) (with_conclusion Tgt f few) more in (
        ap₂ (λ (xs ys : List ℕ). xs ++ ys)
            (one_size (has_fact f few.tgt) (has_fact f all.tgt) (size (with_conclusion Tgt f few) + others) (size (with_conclusion Tgt f all)) (there_target f two.0 all few less) (sym more.count))
            rest.0,
        rest.1,
      )

beside_ends : (others : ℕ) (side : Side) (fs : List Fact) (known : Assertion) → (adds_all_beside others side fs known).ends ≡ Gives (with_all side fs known)
beside_ends others Src [] known = refl
beside_ends others Tgt [] known = refl
beside_ends others Src (f ∷ fs) known = beside_ends others Src fs (with_conclusion Src f known)
beside_ends others Tgt (f ∷ fs) known = beside_ends others Tgt fs (with_conclusion Tgt f known)

-- ---- the registers that may differ count nothing
record AreSame (a b : Assertion) : Type 0 where
  source : a.src ≡ b.src
  target : a.tgt ≡ b.tgt

size_same : (a b : Assertion) → AreSame a b → size a ≡ size b
size_same a b same = ap₂ (λ (xs ys : List Fact). length xs + length ys) same.source same.target

added_same : (side : Side) (fs : List Fact) (a b : Assertion) → AreSame a b
    → ((adds_all side fs a).sizes ≡ (adds_all side fs b).sizes) × AreSame (with_all side fs a) (with_all side fs b)
added_same Src [] a b same = (refl, same)
added_same Tgt [] a b same = (refl, same)
added_same Src (f ∷ fs) a b same =
    let more : AreSame (with_conclusion Src f a) (with_conclusion Src f b) = record { source = ap (with_fact f) same.source; target = same.target } in
    let rest = added_same Src fs (with_conclusion Src f a) (with_conclusion Src f b) more in (
      ap₂ (λ (xs ys : List ℕ). xs ++ ys)
          (one_size (has_fact f a.src) (has_fact f b.src) (size (with_conclusion Src f a)) (size (with_conclusion Src f b)) (ap (has_fact f) same.source) (size_same (with_conclusion Src f a) (with_conclusion Src f b) more))
          rest.0,
      rest.1,
    )
added_same Tgt (f ∷ fs) a b same =
    let more : AreSame (with_conclusion Tgt f a) (with_conclusion Tgt f b) = record { source = same.source; target = ap (with_fact f) same.target } in
    let rest = added_same Tgt fs (with_conclusion Tgt f a) (with_conclusion Tgt f b) more in (
      ap₂ (λ (xs ys : List ℕ). xs ++ ys)
          (one_size (has_fact f a.tgt) (has_fact f b.tgt) (size (with_conclusion Tgt f a)) (size (with_conclusion Tgt f b)) (ap (has_fact f) same.target) (size_same (with_conclusion Tgt f a) (with_conclusion Tgt f b) more))
          rest.0,
      rest.1,
    )

append_none : (xs : List ℕ) → xs ++ [] ≡ xs
append_none [] = refl
append_none (x ∷ xs) = ap (λ ys. x ∷ ys) (append_none xs)

-- ---- the whole edge
module _ (e : Edge) (known : Assertion) where
  abbrev others : ℕ
  others = length (filter (goes e.from e.source) known.src) + length (filter (goes e.from e.target) known.tgt)

  abbrev kept : Assertion
  kept = without_old known

  abbrev few : Assertion
  few = record { src = filter (stays e.from e.source) known.src; tgt = filter (stays e.from e.target) known.tgt; diff = [] }

  fewer : IsLess others e kept few
  fewer = record {
    source = left_in_turn e.from e.source known.src;
    target = left_in_turn e.from e.target known.tgt;
    count = omega (arith, stay_or_go e.from e.source known.src, stay_or_go e.from e.target known.tgt);
  }

  abbrev all_half : Assertion
  all_half = with_all Src (copies known.src) kept

  abbrev all_copied : Assertion
  all_copied = with_all Tgt (copies known.tgt) all_half

  abbrev few_half : Assertion
  few_half = with_all Src (copies known.src) few

  abbrev few_copied : Assertion
  few_copied = with_all Tgt (copies known.tgt) few_half

  first : ((adds_all_beside others Src (copies known.src) few).sizes ≡ (adds_all Src (copies known.src) kept).sizes) × IsLess others e all_half few_half
  first = copied_source others e (copies known.src) (copies_left e.from e.source (without is_old known.src)) kept few fewer

  second : ((adds_all_beside others Tgt (copies known.tgt) few_half).sizes ≡ (adds_all Tgt (copies known.tgt) all_half).sizes) × IsLess others e all_copied few_copied
  second = copied_target others e (copies known.tgt) (copies_left e.from e.target (without is_old known.tgt)) all_half few_half first.1

  abbrev source_phis : List Fact
  source_phis = phi_facts e.from e.source

  abbrev target_phis : List Fact
  target_phis = phi_facts e.from e.target

  third : ((adds_all Src source_phis few_copied).sizes ≡ (adds_all Src source_phis (without_phis e all_copied)).sizes)
      × AreSame (with_all Src source_phis few_copied) (with_all Src source_phis (without_phis e all_copied))
  third = added_same Src source_phis few_copied (without_phis e all_copied) (record {
    source = second.1.source ∙ sym (taken_out e.from e.source all_copied.src);
    target = second.1.target ∙ sym (taken_out e.from e.target all_copied.tgt);
  })

  abbrev few_more : Assertion
  few_more = with_all Src source_phis few_copied

  abbrev all_more : Assertion
  all_more = with_all Src source_phis (without_phis e all_copied)

  fourth : ((adds_all Tgt target_phis few_more).sizes ≡ (adds_all Tgt target_phis all_more).sizes)
      × AreSame (with_all Tgt target_phis few_more) (with_all Tgt target_phis all_more)
  fourth = added_same Tgt target_phis few_more all_more third.1

  -- the course of the definition, step by step
  abbrev last : Assertion → Course Assertion
  last after = gives (record after { diff = diff_over e known })

  abbrev with_target : Assertion → Course Assertion
  with_target k = and_then (adds_all Tgt target_phis k) last

  abbrev with_source : Assertion → Course Assertion
  with_source k = and_then (adds_all Src source_phis (without_phis e k)) with_target

  abbrev with_copies : Assertion → Course Assertion
  with_copies k = and_then (adds_all Tgt (copies known.tgt) k) with_source

  all_sizes : (over_edge e known).sizes
      ≡ (adds_all Src (copies known.src) kept).sizes ++ ((adds_all Tgt (copies known.tgt) all_half).sizes
      ++ ((adds_all Src source_phis (without_phis e all_copied)).sizes ++ (adds_all Tgt target_phis all_more).sizes))
  all_sizes =
      then_sizes (adds_all Src (copies known.src) kept) all_half with_copies (adds_all_ends Src (copies known.src) kept)
      ∙ ap (λ xs. (adds_all Src (copies known.src) kept).sizes ++ xs) (
      then_sizes (adds_all Tgt (copies known.tgt) all_half) all_copied with_source (adds_all_ends Tgt (copies known.tgt) all_half)
      ∙ ap (λ xs. (adds_all Tgt (copies known.tgt) all_half).sizes ++ xs) (
      then_sizes (adds_all Src source_phis (without_phis e all_copied)) all_more with_target (adds_all_ends Src source_phis (without_phis e all_copied))
      ∙ ap (λ xs. (adds_all Src source_phis (without_phis e all_copied)).sizes ++ xs) (
      then_sizes (adds_all Tgt target_phis all_more) (with_all Tgt target_phis all_more) last (adds_all_ends Tgt target_phis all_more)
      ∙ append_none (adds_all Tgt target_phis all_more).sizes)))

  -- the course of the code
  abbrev few_source : Assertion → Course Assertion
  few_source k = and_then (adds_all Src source_phis k) (adds_all Tgt target_phis)

  abbrev few_copies : Assertion → Course Assertion
  few_copies k = and_then (adds_all_beside others Tgt (copies known.tgt) k) few_source

  few_sizes : (over_staying others e known few).sizes
      ≡ (adds_all_beside others Src (copies known.src) few).sizes ++ ((adds_all_beside others Tgt (copies known.tgt) few_half).sizes
      ++ ((adds_all Src source_phis few_copied).sizes ++ (adds_all Tgt target_phis few_more).sizes))
  few_sizes =
      then_sizes (adds_all_beside others Src (copies known.src) few) few_half few_copies (beside_ends others Src (copies known.src) few)
      ∙ ap (λ xs. (adds_all_beside others Src (copies known.src) few).sizes ++ xs) (
      then_sizes (adds_all_beside others Tgt (copies known.tgt) few_half) few_copied few_source (beside_ends others Tgt (copies known.tgt) few_half)
      ∙ ap (λ xs. (adds_all_beside others Tgt (copies known.tgt) few_half).sizes ++ xs)
      (then_sizes (adds_all Src source_phis few_copied) few_more (adds_all Tgt target_phis) (adds_all_ends Src source_phis few_copied)))

  same_sizes : (over_staying others e known few).sizes ≡ (over_edge e known).sizes
  same_sizes =
      few_sizes
      ∙ ap₂ (λ (xs ys : List ℕ). xs ++ ys) first.0 (ap₂ (λ (xs ys : List ℕ). xs ++ ys) second.0 (ap₂ (λ (xs ys : List ℕ). xs ++ ys) third.0 fourth.0))
      ∙ sym all_sizes

  few_ends : (over_staying others e known few).ends ≡ Gives (with_all Tgt target_phis few_more)
  few_ends =
      then_ends (adds_all_beside others Src (copies known.src) few) few_half few_copies (beside_ends others Src (copies known.src) few)
      ∙ then_ends (adds_all_beside others Tgt (copies known.tgt) few_half) few_copied few_source (beside_ends others Tgt (copies known.tgt) few_half)
      ∙ then_ends (adds_all Src source_phis few_copied) few_more (adds_all Tgt target_phis) (adds_all_ends Src source_phis few_copied)
      ∙ adds_all_ends Tgt target_phis few_more

  same_end : record (with_all Tgt target_phis few_more) { diff = diff_over e known } ≡ after_edge known e
  same_end = ap₂ (λ (xs ys : List Fact). record { src = xs; tgt = ys; diff = diff_over e known }) fourth.1.source fourth.1.target

  parts_at : (b : Bool) (d : Ends Assertion) (after : Assertion) → cond b None (Some d) ≡ Some (Gives after) → (b ≡ false) × (d ≡ Gives after)
  parts_at true d after h = absurd (cc)
  parts_at false d after h = (refl, cc)

  passed_at : (b : Bool) (d : Ends Assertion) → cond b None (Some d) ≡ None → b ≡ true
  passed_at true d h = refl
  passed_at false d h = absurd (cc)

  given : (a b : Assertion) → Gives a ≡ Gives b → a ≡ b
  given a b h = cc

  module _ (n : ℕ) (staying : Assertion) (count : n ≡ others) (stay : staying ≡ few) where
    turned : within (over_staying n e known staying) ≡ within (over_staying others e known few)
    turned = ap₂ (λ (m : ℕ) (k : Assertion). within (over_staying m e known k)) count stay

    pub crossed : (added after : Assertion) (diff : List Reg) → within (over_staying n e known staying) ≡ Some (Gives added) → diff ≡ diff_over e known
        → after ≡ record added { diff = diff } → within (over_edge e known) ≡ Some (Gives after)
    crossed added after diff h d at =
        let parts = parts_at (are_too_many (over_staying others e known few).sizes) (over_staying others e known few).ends added (sym turned ∙ h) in
        let same = given added (with_all Tgt target_phis few_more) (sym parts.1 ∙ few_ends) in
        ap₂ (λ (b : Bool) (c : Ends Assertion). cond b None (Some c)) (ap are_too_many (sym same_sizes) ∙ parts.0) (edge_ends e known)
        ∙ ap (λ k. Some (Gives k)) (sym (at ∙ ap₂ (λ (k : Assertion) (ds : List Reg). record k { diff = ds }) same d ∙ same_end))

    pub not_crossed : within (over_staying n e known staying) ≡ None → within (over_edge e known) ≡ None
    not_crossed h =
        ap (λ b. cond b None (Some (over_edge e known).ends))
        (ap are_too_many (sym same_sizes) ∙ passed_at (are_too_many (over_staying others e known few).sizes) (over_staying others e known few).ends (sym turned ∙ h))

  -- what the course comes to within the limit
  pub known_after : (after : Assertion) → within (over_edge e known) ≡ Some (Gives after) → after ≡ after_edge known e
  known_after after h =
      given after (after_edge known e) (sym (parts_at (are_too_many (over_edge e known).sizes) (over_edge e known).ends after h).1 ∙ edge_ends e known)

  pub few_over : (after : Assertion) → within (over_edge e known) ≡ Some (Gives after) → are_too_many (over_edge e known).sizes ≡ false
  few_over after h = (parts_at (are_too_many (over_edge e known).sizes) (over_edge e known).ends after h).0

  pub too_many_over : within (over_edge e known) ≡ None → are_too_many (over_edge e known).sizes ≡ true
  too_many_over h = passed_at (are_too_many (over_edge e known).sizes) (over_edge e known).ends h
