-- A value, level by level, and lists that grow at their end.
use Rattle.std.proofs.Common.{◌≡◌, ℕ, zero, suc, ◌<◌, ◌≤◌, List, [], ◌∷◌, ◌++◌, length, get_or, map, Option, Some, None, Vec, Global, Bor, Bool, true, false, cond, bytes_eq, true≢false, Ordering, Less, Equal, Greater, nat_cmp, refl, sym, ap, ◌∙◌, arith, rules}
use Rattle.std.proofs.lemmas.Slice.Eq.{bytes_eq-Decides}
use Rattle.std.specs.BTreeMap.{insert_entry}
use Rattle.std.specs.Cmp.Lexicographic.{slice_cmp}
use Rattle.std.specs.Ordering.{match_ordering}
use Rattle.json.specs.Json.{parse_map}
use Rattle.json.specs.Token.{Token}
use Rattle.serde_json.specs.Data.{array, object, Items, no_items, item, Members, no_members, put}
use Rattle.serde_json.specs.Find.{get_member, get_item}
use Rattle.serde_json.proofs.Views.{get_member-put, get_member-put_other}
use Rattle.json_forms.specs.JsonValues.View.{view, items_view, members_view, put_all, sorted_view}
use Rattle.json_forms.specs.declared.json_values.value.Value.{Value, Array, Object, the_lemmas}

abbrev pub Entry : Type 0
Entry = Bor (List ℕ) × Value

pub view-Array : (v : Vec Value Global) → view (Array v) ≡ array (items_view v.items)
view-Array v = search (rules, the_lemmas)

pub view-Object : (v : Vec Entry Global) → view (Object v) ≡ object (members_view v.items)
view-Object v = search (rules, the_lemmas)

-- ---- items

abbrev pub items_before : List Value → Items → Items
items_before [] rest = rest
items_before (v ∷ vs) rest = item (view v) (items_before vs rest)

pub items_before-no_items : (vs : List Value) → items_before vs no_items ≡ items_view vs
items_before-no_items [] = refl
items_before-no_items (v ∷ vs) = ap (item (view v)) (items_before-no_items vs)

items_push : (vs : List Value) (v : Value) (rest : Items) → items_before vs (item (view v) rest) ≡ items_before (vs ++ v ∷ []) rest
items_push [] v rest = refl
items_push (w ∷ vs) v rest = ap (item (view w)) (items_push vs v rest)

pub one_more_item : (vs : List Value) (v : Value) (r : Option (Items × List Token)) → parse_map (items_before vs) (parse_map (item (view v)) r) ≡ parse_map (items_before (vs ++ v ∷ [])) r
one_more_item vs v None = refl
one_more_item vs v (Some p) = ap (λ ds. Some (ds, p.1)) (items_push vs v p.0)

pub get_item_within : (vs : List Value) (i : ℕ) (d : Value) → i < length vs → Some (view (get_or vs i d)) ≡ get_item i (items_view vs)
get_item_within [] i d h = absurd (omega arith)
get_item_within (v ∷ vs) zero d h = refl
get_item_within (v ∷ vs) (suc i) d h = get_item_within vs i d (omega arith)

pub get_item_past : (vs : List Value) (i : ℕ) → length vs ≤ i → None ≡ get_item i (items_view vs)
get_item_past [] i h = refl
get_item_past (v ∷ vs) zero h = absurd (omega arith)
get_item_past (v ∷ vs) (suc i) h = get_item_past vs i (omega arith)

-- ---- members

put_all_push : (ms : List Entry) (m : Entry) (found : Members)
    → put_all (map (λ e. (e.0, view e.1)) (ms ++ m ∷ [])) found ≡ put m.0.now (view m.1) (put_all (map (λ e. (e.0, view e.1)) ms) found)
put_all_push [] m found = refl
put_all_push (n ∷ ms) m found = put_all_push ms m (put n.0.now (view n.1) found)

-- one more member is put over those before
pub members_push : (ms : List Entry) (m : Entry) → members_view (ms ++ m ∷ []) ≡ put m.0.now (view m.1) (members_view ms)
members_push ms m = put_all_push ms m no_members

found_at : (key : List ℕ) (ms : List Entry) (m : Entry) (same : Bool) → bytes_eq m.0.now key ≡ same
    → get_member key (put m.0.now (view m.1) (members_view ms)) ≡ cond same (Some (view m.1)) (get_member key (members_view ms))
found_at key ms m true e =
    let is : m.0.now ≡ key = (bytes_eq-Decides m.0.now key).0 e in
    ap (λ k. get_member k (put m.0.now (view m.1) (members_view ms))) (sym is) ∙ get_member-put m.0.now (view m.1) (members_view ms)
found_at key ms m false e =
    get_member-put_other key m.0.now (view m.1) (members_view ms) (λ h. true≢false (sym ((bytes_eq-Decides m.0.now key).1 (sym h)) ∙ e))

-- the last member of a key is found
pub get_member-push : (key : List ℕ) (ms : List Entry) (m : Entry)
    → get_member key (members_view (ms ++ m ∷ [])) ≡ cond (bytes_eq m.0.now key) (Some (view m.1)) (get_member key (members_view ms))
get_member-push key ms m = ap (get_member key) (members_push ms m) ∙ found_at key ms m (bytes_eq m.0.now key) refl

-- ---- members in order

abbrev pub Sorted : Type 0
Sorted = Bor (List ℕ) × Bor Value

-- keys go by their bytes
abbrev pub key_cmp : Bor (List ℕ) → Bor (List ℕ) → Ordering
key_cmp a b = slice_cmp nat_cmp a.now b.now

sorted_view-match_ordering : (o : Ordering) (a b c : List Sorted) → sorted_view (match_ordering o a b c) ≡ match_ordering o (sorted_view a) (sorted_view b) (sorted_view c)
sorted_view-match_ordering Less a b c = refl
sorted_view-match_ordering Equal a b c = refl
sorted_view-match_ordering Greater a b c = refl

-- what is inserted is put there
pub sorted_view_inserted : (es : List Sorted) (k : Bor (List ℕ)) (v : Bor Value) → sorted_view (insert_entry key_cmp es k v) ≡ put k.now (view v.now) (sorted_view es)
sorted_view_inserted [] k v = refl
sorted_view_inserted (e ∷ es) k v = sorted_view-match_ordering (key_cmp k e.0) _ _ _ ∙ rw (sorted_view_inserted es k v)
