-- How often names stand, and what is first for each: as they are kept, and as they are told.
use Rattle.std.proofs.Common.{◌≡◌, ◌∙◌, ◌&&◌, ◌<◌, drop, get_or, length, ℕ, suc, zero, ◌+◌, Bool, true, false, cond, nat_eq, List, [], ◌∷◌, Option, None, Some, refl, sym, ap, subst, arith, if◌then◌else◌}
use Rattle.std.proofs.lemmas.Bool.Decides.{nat_tests}
use Rattle.std.proofs.lemmas.List.{drop_more}
use Rattle.std.specs.Borrow.{Bor}
use Rattle.std.specs.List.{Contains, list_all}
use Rattle.std.specs.Map.{lookup}
use Rattle.ir_core.specs.declared.functions.Entry.{Entry}
use Rattle.ir_types.specs.declared.names.Name.{Name}
use Rattle.ir_core.specs.declared.operands.Atom.{Atom}
use Rattle.ir_types.specs.NameLaws.{same_name_refl, same_name_true}
use Rattle.ir_types.specs.Same.{same_name}
use Rattle.ir_core.specs.Same.{same_atom}
use Rattle.ir_core.proofs.SameLaws.{same_name_atom_refl, same_name_atom_true}
use Rattle.ir_shape.specs.declared.shape_tests.counts.Counts.{Counts}
use Rattle.ir_shape.specs.declared.shape_tests.counts.Firsts.{Firsts}
use Rattle.ir_shape.specs.ShapeTests.Counted.{agree_at, agrees_with, alike_along, count_in, counts_of, first_in, found_count, found_first, lent_atom, none_counted, none_first, number, or_first, with_count, with_counts, with_first}
use Rattle.ir_shape.specs.ShapeTests.Edges.{agrees, named}
use Rattle.ir_shape.specs.ShapeTests.Kinds.{are_alike, count_of, froms_of, same_counts}
use Rattle.ir_shape.proofs.ShapeTests.Edges.{counts_joined}
use Rattle.ir_shape.proofs.ShapeTests.Entries.{alike_by, are_alike_is, count_cons}
use Rattle.ir_shape.proofs.ShapeTests.Tests.{both_hold, both_left, both_right}
use Rattle.ir_typing.proofs.ShapeKinds.Entries.{Puts}

-- ---- counts

none_more : (n : ℕ) → 0 + n ≡ n
none_more n = omega arith

pub none_count : (counts : Counts) → counts.of.entries ≡ [] → count_in counts ≡ none_counted
unfolding count_in
none_count counts none = λ i n. number (lookup (λ (q : Bor Name). same_name n q.now) (none i))

pub one_more : (counts new : Counts) (name : Bor Name) (count : ℕ) → count ≡ count_in counts name.now + 1
    → Puts counts.of.entries new.of.entries name count → count_in new ≡ with_count (count_in counts) name.now
unfolding count_in with_count
one_more counts new name count more put = λ i n. at n i
  where
    at : (n : Name) → number (found_count new n) ≡ (if same_name n name.now then 1 else 0) + number (found_count counts n)
    at n =
        ap number (put n)
        ∙ go (same_name n name.now) refl
      where
        go : (b : Bool) → same_name n name.now ≡ b → number (cond b (Some count) (found_count counts n)) ≡ (if b then 1 else 0) + number (found_count counts n)
        go false e = sym (none_more (number (found_count counts n)))
        go true e =
            let here : number (found_count counts n) ≡ number (found_count counts name.now) = ap (λ x. number (found_count counts x)) (same_name_true n name.now e) in
            omega (arith, here, more)

-- a name that is new
first_count : (counts : Counts) (name : Name) → found_count counts name ≡ None → 1 ≡ count_in counts name + 1
unfolding count_in
first_count counts name none = omega (arith, ap number none)

pub put_first : (counts new : Counts) (name : Bor Name) → found_count counts name.now ≡ None
    → Puts counts.of.entries new.of.entries name 1 → count_in new ≡ with_count (count_in counts) name.now
put_first counts new name none put = one_more counts new name 1 (first_count counts name.now none) put

-- one that is there
pub put_again : (counts other new : Counts) (name : Bor Name) (k : ℕ) → found_count counts name.now ≡ Some k
    → Puts counts.of.entries other.of.entries name 1
    → Puts other.of.entries new.of.entries name (k + 1) → count_in new ≡ with_count (count_in counts) name.now
unfolding count_in with_count
put_again counts other new name k there put again = λ i n. at n i
  where
    at : (n : Name) → number (found_count new n) ≡ (if same_name n name.now then 1 else 0) + number (found_count counts n)
    at n =
        ap number (again n)
        ∙ ap (λ o. number (cond (same_name n name.now) (Some (k + 1)) o)) (put n)
        ∙ go (same_name n name.now) refl
      where
        go : (b : Bool) → same_name n name.now ≡ b → number (cond b (Some (k + 1)) (cond b (Some 1) (found_count counts n))) ≡ (if b then 1 else 0) + number (found_count counts n)
        go false e = sym (none_more (number (found_count counts n)))
        go true e =
            let here : number (found_count counts n) ≡ k = ap number (ap (found_count counts) (same_name_true n name.now e) ∙ there) in
            omega (arith, here)

count_with : (counts : Name → ℕ) (name n : Name) → with_count counts name n ≡ (if same_name n name then 1 else 0) + counts n
unfolding with_count
count_with counts name n = refl

counts_are : (counts : Name → ℕ) (names : List Name) (n : Name) → with_counts counts names n ≡ counts n + count_of n names
counts_are counts [] n = omega arith
counts_are counts (x ∷ xs) n =
    let more = counts_are (with_count counts x) xs n in
    let one = count_with counts x n in
    let all = count_cons n x xs in
    omega (arith, more, one, all)

counts_all : (names : List Name) (n : Name) → counts_of names n ≡ count_of n names
counts_all names n = counts_are none_counted names n ∙ none_more (count_of n names)

agree_is : (names others : List Name) → agree_at (counts_of names) (counts_of others) ≡ agrees names others
agree_is names others = λ i n. nat_eq (counts_all names n i) (counts_all others n i)

pub both_counts : (c d : Name → ℕ) (xs ys : List Name) → c ≡ counts_of xs → d ≡ counts_of ys
    → (list_all (agree_at c d) xs && list_all (agree_at c d) ys) ≡ same_counts xs ys
both_counts c d xs ys this that =
    ap (λ (p : Name → Bool). list_all p xs && list_all p ys) (ap (λ (f : Name → ℕ). agree_at f d) this ∙ ap (agree_at (counts_of xs)) that ∙ agree_is xs ys)
    ∙ sym (counts_joined xs ys)

-- where an entry more is the one for its edge
pub rest_in_order : (edges : List (Bor Name)) (entries : List Entry) (k : ℕ) (x : Bor Name) (e : Entry) (whole : Type 0) → k < length edges → k < length entries → x ≡ get_or edges k x
    → e ≡ get_or entries k e → same_name x.now e.from ≡ true → (froms_of (drop k entries) ≡ named (drop k edges) → whole)
    → froms_of (drop (k + 1) entries) ≡ named (drop (k + 1) edges) → whole
rest_in_order edges entries k x e whole within inside at also same so_far rest =
    let is : e.from ≡ x.now = sym (same_name_true x.now e.from same) in
    so_far
    (ap froms_of (drop_more entries k e inside ∙ ap (λ (d : Entry). d ∷ drop (k + 1) entries) (sym also))
    ∙ (λ i. is i ∷ rest i)
    ∙ sym (ap named (drop_more edges k x within ∙ ap (λ (y : Bor Name). y ∷ drop (k + 1) edges) (sym at))))

-- names are as often among themselves
each_agrees : (xs ys : List Name) → list_all (agrees ys ys) xs ≡ true
each_agrees [] ys = refl
each_agrees (x ∷ xs) ys = both_hold (agrees ys ys x) (list_all (agrees ys ys) xs) (as_many (count_of x ys)) (each_agrees xs ys)
  where
    as_many : (n : ℕ) → nat_eq n n ≡ true
    as_many n = grind (arith, nat_tests)

pub counts_alike : (xs ys : List Name) → ys ≡ xs → same_counts xs ys ≡ true
counts_alike xs ys same =
    ap (same_counts xs) same ∙ counts_joined xs xs ∙ both_hold (list_all (agrees xs xs) xs) (list_all (agrees xs xs) xs) (each_agrees xs xs) (each_agrees xs xs)

-- ---- the first of each name

pub none_put : (firsts : Firsts) → firsts.of.entries ≡ [] → first_in firsts ≡ none_first
unfolding first_in
none_put firsts none = λ i n. lent_atom (lookup (λ (q : Bor Name). same_name n q.now) (none i))

or_none : (o : Option (Atom Name)) → or_first o None ≡ o
or_none None = refl
or_none (Some a) = refl

pub first_again : (firsts new : Firsts) (name : Bor Name) (a v : Bor (Atom Name)) → found_first firsts name.now ≡ Some v → same_atom same_name v.now a.now ≡ true
    → Puts firsts.of.entries new.of.entries name a → first_in new ≡ with_first (first_in firsts) name.now a.now
unfolding first_in with_first
first_again firsts new name a v there same put = λ i n. at n i
  where
    at : (n : Name) → lent_atom (found_first new n) ≡ or_first (lent_atom (found_first firsts n)) (if same_name n name.now then Some a.now else None)
    at n =
        ap lent_atom (put n)
        ∙ go (same_name n name.now) refl
      where
        go : (b : Bool) → same_name n name.now ≡ b → lent_atom (cond b (Some a) (found_first firsts n)) ≡ or_first (lent_atom (found_first firsts n)) (if b then Some a.now else None)
        go false e = sym (or_none (lent_atom (found_first firsts n)))
        go true e =
            let found : found_first firsts n ≡ Some v = ap (found_first firsts) (same_name_true n name.now e) ∙ there in
            let is : v.now ≡ a.now = same_name_atom_true v.now a.now same in
            sym (ap (λ o. or_first (lent_atom o) (Some a.now)) found ∙ ap (λ (x : Atom Name). let some : Option (Atom Name) = Some x in some) is)

pub first_new : (firsts new : Firsts) (name : Bor Name) (a : Bor (Atom Name)) → found_first firsts name.now ≡ None
    → Puts firsts.of.entries new.of.entries name a → first_in new ≡ with_first (first_in firsts) name.now a.now
unfolding first_in with_first
first_new firsts new name a none put = λ i n. at n i
  where
    at : (n : Name) → lent_atom (found_first new n) ≡ or_first (lent_atom (found_first firsts n)) (if same_name n name.now then Some a.now else None)
    at n =
        ap lent_atom (put n)
        ∙ go (same_name n name.now) refl
      where
        go : (b : Bool) → same_name n name.now ≡ b → lent_atom (cond b (Some a) (found_first firsts n)) ≡ or_first (lent_atom (found_first firsts n)) (if b then Some a.now else None)
        go false e = sym (or_none (lent_atom (found_first firsts n)))
        go true e = sym (ap (λ o. or_first (lent_atom o) (Some a.now)) (ap (found_first firsts) (same_name_true n name.now e) ∙ none))

first_with : (firsts : Name → Option (Atom Name)) (name : Name) (a : Atom Name) (n : Name) → with_first firsts name a n ≡ or_first (firsts n) (if same_name n name then Some a else None)
unfolding with_first
first_with firsts name a n = refl

-- what is there stays
stays : (firsts : Name → Option (Atom Name)) (name : Name) (a : Atom Name) (n : Name) (v : Atom Name) → firsts n ≡ Some v → with_first firsts name a n ≡ Some v
stays firsts name a n v is = first_with firsts name a n ∙ ap (λ o. or_first o (if same_name n name then Some a else None)) is

-- an entry that agrees is the first of its name then
is_first : (firsts : Name → Option (Atom Name)) (d : Entry) → agrees_with (firsts d.from) d.value ≡ true → with_first firsts d.from d.value d.from ≡ Some d.value
is_first firsts d e = first_with firsts d.from d.value d.from ∙ go (firsts d.from) e
  where
    go : (o : Option (Atom Name)) → agrees_with o d.value ≡ true → or_first o (if same_name d.from d.from then Some d.value else None) ≡ Some d.value
    go None e = ap (λ b. if b then Some d.value else None) (same_name_refl d.from)
    go (Some v) e = ap (λ (x : Atom Name). let some : Option (Atom Name) = Some x in some) (same_name_atom_true v d.value e)

later_agrees : (firsts : Name → Option (Atom Name)) (es : List Entry) → alike_along firsts es ≡ true → (e : Entry) (v : Atom Name) → Contains es e → firsts e.from ≡ Some v → v ≡ e.value
later_agrees firsts [] all e v there is = absurd (omega (arith, there.1))
later_agrees firsts (d ∷ es) all e v (zero, within, at) is =
    let here : agrees_with (firsts d.from) d.value ≡ true = both_left (agrees_with (firsts d.from) d.value) (alike_along (with_first firsts d.from d.value) es) all in
    let same : agrees_with (firsts e.from) e.value ≡ true = subst (λ (x : Entry). agrees_with (firsts x.from) x.value ≡ true) at here in
    same_name_atom_true v e.value (sym (ap (λ o. agrees_with o e.value) is) ∙ same)
later_agrees firsts (d ∷ es) all e v (suc k, within, at) is =
    later_agrees (with_first firsts d.from d.value) es (both_right (agrees_with (firsts d.from) d.value) (alike_along (with_first firsts d.from d.value) es) all) e v (k, omega arith, at)
    (stays firsts d.from d.value e.from v is)

head_agrees : (firsts : Name → Option (Atom Name)) (d : Entry) (es : List Entry) → alike_along firsts (d ∷ es) ≡ true → (e : Entry) → Contains es e → d.from ≡ e.from → d.value ≡ e.value
head_agrees firsts d es all e there same =
    let here = both_left (agrees_with (firsts d.from) d.value) (alike_along (with_first firsts d.from d.value) es) all in
    later_agrees (with_first firsts d.from d.value) es (both_right (agrees_with (firsts d.from) d.value) (alike_along (with_first firsts d.from d.value) es) all) e d.value there
    (sym (ap (with_first firsts d.from d.value) same) ∙ is_first firsts d here)

values_agree : (firsts : Name → Option (Atom Name)) (es : List Entry) → alike_along firsts es ≡ true → (d e : Entry) → Contains es d → Contains es e → d.from ≡ e.from → d.value ≡ e.value
values_agree firsts [] all d e there also same = absurd (omega (arith, there.1))
values_agree firsts (x ∷ es) all d e (zero, within, at) (zero, inside, is) same = ap (λ (y : Entry). y.value) (sym at ∙ is)
values_agree firsts (x ∷ es) all d e (zero, within, at) (suc k, inside, is) same =
    sym (ap (λ (y : Entry). y.value) at) ∙ head_agrees firsts x es all e (k, omega arith, is) (ap (λ (y : Entry). y.from) at ∙ same)
values_agree firsts (x ∷ es) all d e (suc j, within, at) (zero, inside, is) same =
    sym (head_agrees firsts x es all d (j, omega arith, at) (ap (λ (y : Entry). y.from) is ∙ sym same)) ∙ ap (λ (y : Entry). y.value) is
values_agree firsts (x ∷ es) all d e (suc j, within, at) (suc k, inside, is) same =
    values_agree (with_first firsts x.from x.value) es (both_right (agrees_with (firsts x.from) x.value) (alike_along (with_first firsts x.from x.value) es) all) d e
    (j, omega arith, at) (k, omega arith, is) same

-- the other way round
along_is : (firsts : Name → Option (Atom Name)) (es : List Entry) → ((e : Entry) (v : Atom Name) → Contains es e → firsts e.from ≡ Some v → v ≡ e.value)
    → ((d e : Entry) → Contains es d → Contains es e → d.from ≡ e.from → d ≡ e) → alike_along firsts es ≡ true
along_is firsts [] kept alike = refl
along_is firsts (d ∷ es) kept alike =
    both_hold (agrees_with (firsts d.from) d.value) (alike_along (with_first firsts d.from d.value) es)
    (here (firsts d.from) refl)
    (along_is (with_first firsts d.from d.value) es more (λ x y there also same. alike x y (behind x there) (behind y also) same))
  where
    behind : (x : Entry) → Contains es x → Contains (d ∷ es) x
    behind x there = (suc there.0, omega (arith, there.1), there.2)

    here : (o : Option (Atom Name)) → firsts d.from ≡ o → agrees_with o d.value ≡ true
    here None is = refl
    here (Some v) is =
        subst (λ (a : Atom Name). same_atom same_name v a ≡ true) (kept d v (0, omega arith, refl) is) (same_name_atom_refl v)

    more : (e : Entry) (v : Atom Name) → Contains es e → with_first firsts d.from d.value e.from ≡ Some v → v ≡ e.value
    more e v there is = go (firsts e.from) refl (sym (first_with firsts d.from d.value e.from) ∙ is)
      where
        go : (o : Option (Atom Name)) → firsts e.from ≡ o → or_first o (if same_name e.from d.from then Some d.value else None) ≡ Some v → v ≡ e.value
        go (Some u) at is = kept e v (behind e there) (at ∙ is)
        go None at is = by (same_name e.from d.from) refl is
          where
            by : (b : Bool) → same_name e.from d.from ≡ b → (if b then Some d.value else None) ≡ Some v → v ≡ e.value
            by false differ is = absurd (cc)
            by true same is =
                let value : d.value ≡ v = cc in
                sym value ∙ ap (λ (y : Entry). y.value) (alike d e (0, omega arith, refl) (behind e there) (sym (same_name_true e.from d.from same)))

pub alike_along_none : (es : List Entry) → alike_along none_first es ≡ are_alike es
alike_along_none es = go (alike_along none_first es) (are_alike es) refl refl
  where
    made : (d e : Entry) → d.from ≡ e.from → d.value ≡ e.value → d ≡ e
    made d e from value =
        let entry : Atom Name → Name → Entry = λ v n. record { value = v; from = n } in
        ap (λ v. entry v d.from) value ∙ ap (entry e.value) from

    go : (a b : Bool) → alike_along none_first es ≡ a → are_alike es ≡ b → a ≡ b
    go true true is are = refl
    go false false is are = refl
    go true false is are =
        let yes = are_alike_is es (λ d e there also same. made d e same (values_agree none_first es is d e there also same)) in absurd (cc)
    go false true is are =
        let yes = along_is none_first es (λ e v there none. absurd (cc)) (alike_by es are) in absurd (cc)
