-- What facts shield stays told as facts are added and taken out, and a kill asks for no other facts.
use Rattle.std.proofs.Common.{◌≡◌, ◌∙◌, Bool, true, false, ◌||◌, ◌&&◌, cond, not, filter, List, [], ◌∷◌, ◌++◌, refl, sym, ap, ap₂}
use Rattle.std.proofs.lemmas.Bool.{false≢true}
use Rattle.std.proofs.lemmas.List.Folds.{list_all-append}
use Rattle.std.specs.List.{list_any, list_all}
use Rattle.indexmap.specs.IndexSet.{remove_key}
use Rattle.ir_core.specs.declared.operands.Atom.{Atom}
use Rattle.ir_core.specs.declared.operands.Atom.TheVariants as atom
use Rattle.ir_core.specs.declared.operands.Operand.{Operand}
use Rattle.ir_core.specs.declared.expressions.Reg.{Reg}
use Rattle.ir_core.specs.declared.expressions.Expr.TheVariants.{Plain, Binary, Icmp, Cast, Select, Element, Load}
use Rattle.ir_core.specs.Expressions.{Expr0}
use Rattle.erhl_assert.specs.declared.facts.Fact.{Fact}
use Rattle.erhl_assert.specs.declared.facts.Fact.TheVariants.{LessDef, Unique, Private, NoAlias, Ok}
use Rattle.erhl_assert.specs.declared.fact_set.Kill.TheVariants as kill
use Rattle.erhl_assert.specs.FactLaws.{same_fact_true}
use Rattle.erhl_assert.specs.Facts.{has_fact, same_fact, with_fact}
use Rattle.erhl_assert.specs.Kills.{are_no_aliases, is_now_or_constant, is_other, is_private, is_unique, is_unique_of, killed, loads_in, loads_of, spares, with_loads}
use Rattle.fact_sets.specs.Shields.{shields, is_load, has_load, parts, spares_by, AreShields}
use Rattle.fact_sets.proofs.Indexing.{filter_none, true_or_false}
use Rattle.fact_sets.proofs.ErhlSides.Once.{found_left, left_without}
use Rattle.fact_sets.proofs.ErhlSides.Joining.{added, filtered, neither}

-- ---- lists
pub filter_turned : {X : Type 0} (p q : X → Bool) (xs : List X) → filter p (filter q xs) ≡ filter q (filter p xs)
filter_turned p q [] = refl
filter_turned p q (x ∷ xs) =
    (elim (q x) as (λ b. q x ≡ b → filter p (cond b (x ∷ filter q xs) (filter q xs)) ≡ filter q (cond (p x) (x ∷ filter p xs) (filter p xs))) [
      | true ↦ λ e. (elim (p x) as (λ b. cond b (x ∷ filter p (filter q xs)) (filter p (filter q xs)) ≡ filter q (cond b (x ∷ filter p xs) (filter p xs))) [
        | true ↦ ap (λ ys. x ∷ ys) (filter_turned p q xs) ∙ ap (λ b. cond b (x ∷ filter q (filter p xs)) (filter q (filter p xs))) (sym e)
        | false ↦ filter_turned p q xs
      ])
      | false ↦ λ e. (elim (p x) as (λ b. filter p (filter q xs) ≡ filter q (cond b (x ∷ filter p xs) (filter p xs))) [
        | true ↦ filter_turned p q xs ∙ ap (λ b. cond b (x ∷ filter q (filter p xs)) (filter q (filter p xs))) (sym e)
        | false ↦ filter_turned p q xs
      ])
    ]) refl

-- all pass
filter_all : {X : Type 0} (q : X → Bool) (none : X → Bool) → ((x : X) → none x ≡ false → q x ≡ true) → (xs : List X) → list_any none xs ≡ false → filter q xs ≡ xs
filter_all q none pass [] h = refl
filter_all q none pass (x ∷ xs) h =
    let two = neither (none x) (list_any none xs) h in
    ap (λ b. cond b (x ∷ filter q xs) (filter q xs)) (pass x two.0) ∙ ap (λ ys. x ∷ ys) (filter_all q none pass xs two.1)

-- what passes the first test passes the second
filter_after : {X : Type 0} (p q : X → Bool) → ((x : X) → p x ≡ true → q x ≡ true) → (xs : List X) → filter p (filter q xs) ≡ filter p xs
filter_after p q less [] = refl
filter_after p q less (x ∷ xs) =
    (elim (q x) as (λ b. q x ≡ b → filter p (cond b (x ∷ filter q xs) (filter q xs)) ≡ cond (p x) (x ∷ filter p xs) (filter p xs)) [
      | true ↦ λ e. ap (λ ys. cond (p x) (x ∷ ys) ys) (filter_after p q less xs)
      | false ↦ λ e. filter_after p q less xs ∙ sym (ap (λ b. cond b (x ∷ filter p xs) (filter p xs)) (true_or_false (p x) (λ k. false≢true (sym e ∙ less x k))))
    ]) refl

-- all pass, by one test
pub all_pass : {X : Type 0} (q : X → Bool) (xs : List X) → list_all q xs ≡ true → filter q xs ≡ xs
all_pass q [] h = refl
all_pass q (x ∷ xs) h =
    (elim (q x) as (λ b. (b && list_all q xs) ≡ true → cond b (x ∷ filter q xs) (filter q xs) ≡ x ∷ xs) [
      | true ↦ λ k. ap (λ ys. x ∷ ys) (all_pass q xs k)
      | false ↦ λ k. absurd (false≢true k)
    ]) h

-- without the first that passes, where none is left that passes
removed : {X : Type 0} (p : X → Bool) (xs : List X) → list_any p (remove_key p xs) ≡ false → remove_key p xs ≡ filter (λ x. not (p x)) xs
removed p [] h = refl
removed p (x ∷ xs) h =
    (elim (p x) as (λ b. p x ≡ b → list_any p (cond b xs (x ∷ remove_key p xs)) ≡ false → cond b xs (x ∷ remove_key p xs) ≡ cond (not b) (x ∷ filter (λ y. not (p y)) xs) (filter (λ y. not (p y)) xs)) [
      | true ↦ λ e k. sym (filter_none p xs k)
      | false ↦ λ e k. ap (λ ys. x ∷ ys) (removed p xs (neither (p x) (list_any p (remove_key p xs)) k).1)
    ]) refl h

pub all_of_two : (p : Operand Reg → Bool) (xs ys : List (Operand Reg)) → list_all p (xs ++ ys) ≡ (list_all p xs && list_all p ys)
all_of_two p xs ys = list_all-append p xs ys

-- ---- facts without loads
no_load : (test : Operand Reg → Bool) (e : Expr0) → is_load e ≡ false → loads_in e ≡ []
no_load test (Load l) h = absurd (false≢true (sym h))
no_load test (Plain o) h = refl
no_load test (Binary b) h = refl
no_load test (Icmp c) h = refl
no_load test (Cast c) h = refl
no_load test (Select s) h = refl
no_load test (Element e) h = refl

no_loads : (test : Operand Reg → Bool) (a b : Expr0) → (is_load a || is_load b) ≡ false → list_all test (loads_in a ++ loads_in b) ≡ true
no_loads test a b h =
    let two = neither (is_load a) (is_load b) h in
    ap (list_all test) (ap₂ (λ (xs ys : List (Operand Reg)). xs ++ ys) (no_load test a two.0) (no_load test b two.1))

left_alone : (test : Operand Reg → Bool) (f : Fact) → has_load f ≡ false → list_all test (loads_of f) ≡ true
left_alone test (LessDef a b) h = no_loads test a b h
left_alone test (NoAlias a b) h = no_loads test a b h
left_alone test (Ok e t align) h = ap (list_all test) (no_load test e h)
left_alone test (Unique r) h = refl
left_alone test (Private r) h = refl

shield_has_none : (f : Fact) → shields f ≡ true → has_load f ≡ false
shield_has_none (Unique r) h = refl
shield_has_none (Private r) h = refl
shield_has_none (NoAlias (Plain p) (Plain q)) h = refl
shield_has_none (NoAlias (Plain p) (Binary q)) h = absurd (false≢true h)
shield_has_none (NoAlias (Plain p) (Icmp q)) h = absurd (false≢true h)
shield_has_none (NoAlias (Plain p) (Cast q)) h = absurd (false≢true h)
shield_has_none (NoAlias (Plain p) (Select q)) h = absurd (false≢true h)
shield_has_none (NoAlias (Plain p) (Element q)) h = absurd (false≢true h)
shield_has_none (NoAlias (Plain p) (Load q)) h = absurd (false≢true h)
shield_has_none (NoAlias (Binary p) q) h = absurd (false≢true h)
shield_has_none (NoAlias (Icmp p) q) h = absurd (false≢true h)
shield_has_none (NoAlias (Cast p) q) h = absurd (false≢true h)
shield_has_none (NoAlias (Select p) q) h = absurd (false≢true h)
shield_has_none (NoAlias (Element p) q) h = absurd (false≢true h)
shield_has_none (NoAlias (Load p) q) h = absurd (false≢true h)
shield_has_none (LessDef a b) h = absurd (false≢true h)
shield_has_none (Ok e t align) h = absurd (false≢true h)

-- ---- a set and its shields
pub no_shields : (some : List Fact) (load part : Bool) (fs : List Fact) → some ≡ [] → fs ≡ [] → AreShields some load part fs
no_shields some load part fs none empty = record {
  all = none ∙ sym (ap (filter shields) empty);
  loads = λ h. ap (list_any has_load) empty;
  apart = λ h. ap (list_any parts) empty;
}

-- none passes a test where none did, though a fact is there more, or isn't
same_none : (test : Fact → Bool) (before may : Bool) (f : Fact) (fs gs : List Fact) → (before ≡ false → list_any test fs ≡ false) → may ≡ (before || test f) → gs ≡ fs → may ≡ false
    → list_any test gs ≡ false
same_none test before may f fs gs none e same h = ap (list_any test) same ∙ none ((neither before (test f) (sym e ∙ h)).0)

more_none : (test : Fact → Bool) (before may : Bool) (f : Fact) (fs gs : List Fact) → (before ≡ false → list_any test fs ≡ false) → may ≡ (before || test f) → gs ≡ with_fact f fs → may ≡ false
    → list_any test gs ≡ false
more_none test before may f fs gs none e is h = let two = neither before (test f) (sym e ∙ h) in ap (list_any test) is ∙ added test f fs (none two.0) two.1

module _ (some : List Fact) (load load' part part' : Bool) (f : Fact) (fs gs : List Fact) (are : AreShields some load part fs) (e : load' ≡ (load || has_load f)) (k : part' ≡ (part || parts f)) where
  -- names alone were added
  pub more_known : gs ≡ fs → AreShields some load' part' gs
  more_known same = record {
    all = are.all ∙ ap (filter shields) (sym same);
    loads = same_none has_load load load' f fs gs are.loads e same;
    apart = same_none parts part part' f fs gs are.apart k same;
  }

  pub with_other : shields f ≡ false → gs ≡ with_fact f fs → AreShields some load' part' gs
  with_other other is = record {
    all = are.all ∙ sym (ap (filter shields) is ∙ left_without shields f fs other);
    loads = more_none has_load load load' f fs gs are.loads e is;
    apart = more_none parts part part' f fs gs are.apart k is;
  }

  pub with_shield : (more : List Fact) → more ≡ filter shields gs → gs ≡ with_fact f fs → AreShields more load' part' gs
  with_shield more all is = record {
    all = all;
    loads = more_none has_load load load' f fs gs are.loads e is;
    apart = more_none parts part part' f fs gs are.apart k is;
  }

  -- nor was the fact added
  pub same_shields : (more : List Fact) → more ≡ filter shields gs → gs ≡ fs → AreShields more load' part' gs
  same_shields more all same = record {
    all = all;
    loads = same_none has_load load load' f fs gs are.loads e same;
    apart = same_none parts part part' f fs gs are.apart k same;
  }

pub shields_left : (q : Fact → Bool) (some left : List Fact) (load part : Bool) (fs gs : List Fact) → AreShields some load part fs → left ≡ filter q some → gs ≡ filter q fs → AreShields left load part gs
shields_left q some left load part fs gs are e e' = record {
  all = e ∙ ap (filter q) are.all ∙ filter_turned q shields fs ∙ ap (filter shields) (sym e');
  loads = λ h. ap (list_any has_load) e' ∙ filtered has_load q fs (are.loads h);
  apart = λ h. ap (list_any parts) e' ∙ filtered parts q fs (are.apart h);
}

pub shields_stay : (test : Operand Reg → Bool) (some : List Fact) (load part : Bool) (fs gs : List Fact) → AreShields some load part fs → gs ≡ with_loads test fs → AreShields some load part gs
shields_stay test some load part fs gs are e = record {
  all = are.all ∙ sym (ap (filter shields) e ∙ filter_after shields (λ f. list_all test (loads_of f)) (λ f h. left_alone test f (shield_has_none f h)) fs);
  loads = λ h. ap (list_any has_load) e ∙ filtered has_load (λ f. list_all test (loads_of f)) fs (are.loads h);
  apart = λ h. ap (list_any parts) e ∙ filtered parts (λ f. list_all test (loads_of f)) fs (are.apart h);
}

pub none_leaves : (test : Operand Reg → Bool) (some : List Fact) (load part : Bool) (fs : List Fact) → AreShields some load part fs → load ≡ false → with_loads test fs ≡ fs
none_leaves test some load part fs are h = filter_all (λ f. list_all test (loads_of f)) has_load (λ f k. left_alone test f k) fs (are.loads h)

-- ---- what is asked
of_unique : (r : Reg) (f : Fact) → same_fact (Unique r) f ≡ is_unique_of r f
of_unique r (Unique s) = refl
of_unique r (Private s) = refl
of_unique r (LessDef a b) = refl
of_unique r (NoAlias a b) = refl
of_unique r (Ok e t align) = refl

-- that a register is unique, taken out where it is the one fact
pub one_shared : (r : Reg) (fs gs : List Fact) → gs ≡ remove_key (same_fact (Unique r)) fs → list_any (same_fact (Unique r)) gs ≡ false → gs ≡ filter (λ f. not (is_unique_of r f)) fs
one_shared r fs gs e h = e ∙ removed (same_fact (Unique r)) fs (ap (list_any (same_fact (Unique r))) (sym e) ∙ h) ∙ (λ i. filter (λ f. not (of_unique r f i)) fs)

-- where no fact parts two operands, none parts these
none_parts : (p q : Operand Reg) (fs : List Fact) → list_any parts fs ≡ false → has_fact (NoAlias (Plain p) (Plain q)) fs ≡ false
none_parts p q [] h = refl
none_parts p q (f ∷ fs) h =
    let two = neither (parts f) (list_any parts fs) h in
    ap₂ (λ (a b : Bool). a || b)
    (true_or_false (same_fact (NoAlias (Plain p) (Plain q)) f) (λ same. false≢true (sym two.0 ∙ sym (ap parts (same_fact_true (NoAlias (Plain p) (Plain q)) f same)))))
    (none_parts p q fs two.1)

-- the tests in the order in which they are made
turned : (unique now may unique' now' apart : Bool) → (may ≡ false → apart ≡ false)
    → ((unique && now') || (now && unique') || (may && apart)) ≡ (apart || (unique' && now) || (unique && now'))
turned unique now may unique' now' apart h =
    ap (λ b. (unique && now') || (now && unique') || b) (asked_if may apart h) ∙ ap (λ b. (unique && now') || b || apart) (and_turned now unique') ∙ or_turned (unique && now') (unique' && now) apart
  where
    asked_if : (may apart : Bool) → (may ≡ false → apart ≡ false) → (may && apart) ≡ apart
    asked_if true apart h = refl
    asked_if false apart h = sym (h refl)

    and_turned : (a b : Bool) → (a && b) ≡ (b && a)
    and_turned true true = refl
    and_turned true false = refl
    and_turned false true = refl
    and_turned false false = refl

    or_turned : (a b c : Bool) → (a || b || c) ≡ (c || b || a)
    or_turned true true true = refl
    or_turned true true false = refl
    or_turned true false true = refl
    or_turned true false false = refl
    or_turned false true true = refl
    or_turned false true false = refl
    or_turned false false true = refl
    or_turned false false false = refl

-- what a store spares is told of its address before any load is looked at
pub spares_is : (unique now may : Bool) (q p : Operand Reg) (fs : List Fact) → unique ≡ is_unique fs q.atom → now ≡ is_now_or_constant q.atom → (may ≡ false → list_any parts fs ≡ false)
    → spares_by unique now may fs q p ≡ spares fs q p
spares_is unique now may q p fs e k none =
    ap₂ (λ (a b : Bool). is_other q.atom p.atom && ((a && is_now_or_constant p.atom) || (b && is_unique fs p.atom) || (may && are_no_aliases fs p q))) e k
    ∙ ap (λ (b : Bool). is_other q.atom p.atom && b) (turned (is_unique fs q.atom) (is_now_or_constant q.atom) may (is_unique fs p.atom) (is_now_or_constant p.atom) (are_no_aliases fs p q)
    (λ h. ap₂ (λ (a b : Bool). a || b) (none_parts p q fs (none h)) (none_parts q p fs (none h))))

module _ (some : List Fact) (load part : Bool) (fs : List Fact) (are : AreShields some load part fs) where
  asked : (f : Fact) → shields f ≡ true → has_fact f some ≡ has_fact f fs
  asked f h = ap (has_fact f) are.all ∙ found_left shields f h fs

  unique_asked : (a : Atom Reg) → is_unique some a ≡ is_unique fs a
  unique_asked (atom.Constant c) = refl
  unique_asked (atom.Register r) = asked (Unique r) refl

  pub private_asked : (a : Atom Reg) → is_private some a ≡ is_private fs a
  private_asked (atom.Constant c) = refl
  private_asked (atom.Register r) = asked (Private r) refl

  aliases_asked : (p q : Operand Reg) → are_no_aliases some p q ≡ are_no_aliases fs p q
  aliases_asked p q = ap₂ (λ (a b : Bool). a || b) (asked (NoAlias (Plain p) (Plain q)) refl) (asked (NoAlias (Plain q) (Plain p)) refl)

  pub spares_asked : (q p : Operand Reg) → spares some q p ≡ spares fs q p
  spares_asked q p =
      ap (λ (b : Bool). is_other q.atom p.atom && (b || (is_unique some p.atom && is_now_or_constant q.atom) || (is_unique some q.atom && is_now_or_constant p.atom))) (aliases_asked p q)
      ∙ ap₂ (λ (a b : Bool). is_other q.atom p.atom && (are_no_aliases fs p q || (a && is_now_or_constant q.atom) || (b && is_now_or_constant p.atom)))
      (unique_asked p.atom) (unique_asked q.atom)

  all_of_unique : (r : Reg) (gs : List Fact) → has_fact (Unique r) gs ≡ list_any (is_unique_of r) gs
  all_of_unique r [] = refl
  all_of_unique r (f ∷ gs) = ap₂ (λ (a b : Bool). a || b) (of_unique r f) (all_of_unique r gs)

  pub not_shared : (r : Reg) → has_fact (Unique r) some ≡ false → killed (kill.Unique r) fs ≡ fs
  not_shared r h = filter_none (is_unique_of r) fs (sym (all_of_unique r fs) ∙ sym (asked (Unique r) refl) ∙ h)

-- two tests that agree leave the same
all_agree : (p q : Operand Reg → Bool) → ((o : Operand Reg) → p o ≡ q o) → (os : List (Operand Reg)) → list_all p os ≡ list_all q os
all_agree p q same [] = refl
all_agree p q same (o ∷ os) = ap₂ (λ (a b : Bool). a && b) (same o) (all_agree p q same os)

pub loads_agree : (p q : Operand Reg → Bool) → ((o : Operand Reg) → p o ≡ q o) → (fs : List Fact) → with_loads p fs ≡ with_loads q fs
loads_agree p q same [] = refl
loads_agree p q same (f ∷ fs) = ap₂ (λ (b : Bool) (gs : List Fact). cond b (f ∷ gs) gs) (all_agree p q same (loads_of f)) (loads_agree p q same fs)

module _ (some : List Fact) (load part : Bool) (fs : List Fact) (are : AreShields some load part fs) where
  pub stored_asks : (unique now : Bool) (q : Operand Reg) → unique ≡ is_unique some q.atom → now ≡ is_now_or_constant q.atom
      → with_loads (spares_by unique now part (filter shields fs) q) fs ≡ with_loads (spares fs q) fs
  stored_asks unique now q e k =
      ap (λ (gs : List Fact). with_loads (spares_by unique now part gs q) fs) (sym are.all)
      ∙ loads_agree (spares_by unique now part some q) (spares fs q)
      (λ p. spares_is unique now part q p some e k (λ h. ap (list_any parts) are.all ∙ filtered parts shields fs (are.apart h)) ∙ spares_asked some load part fs are q p) fs

module _ (fs : List Fact) where
  they : AreShields (filter shields fs) true true fs
  they = record { all = refl; loads = λ h. absurd (false≢true (sym h)); apart = λ h. absurd (false≢true (sym h)) }

  pub called_asks : with_loads (λ (p : Operand Reg). is_private (filter shields fs) p.atom) fs ≡ with_loads (λ (p : Operand Reg). is_private fs p.atom) fs
  called_asks = loads_agree (λ (p : Operand Reg). is_private (filter shields fs) p.atom) (λ (p : Operand Reg). is_private fs p.atom) (λ p. private_asked (filter shields fs) true true fs they p.atom) fs
