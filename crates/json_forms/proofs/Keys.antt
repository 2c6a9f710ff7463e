-- The keys of an object are those of its members, also where one stands twice.
use Rattle.std.proofs.Common.{◌≡◌, ℕ, ◌&&◌, Bool, true, false, List, [], ◌∷◌, map, Bor, Ordering, Less, Equal, Greater, nat_cmp, is_eq, refl, sym, ap, ◌∙◌}
use Rattle.std.proofs.lemmas.Map.Text.{is_eq-slice_cmp}
use Rattle.std.proofs.lemmas.Slice.Eq.{bytes_eq-Decides}
use Rattle.std.specs.Cmp.Lexicographic.{slice_cmp}
use Rattle.std.specs.List.{list_all}
use Rattle.std.specs.Ordering.{match_ordering}
use Rattle.serde_json.specs.Data.{Data, Members, no_members, member, put}
use Rattle.json_forms.specs.JsonValues.View.{view, members_view, put_all}
use Rattle.json_forms.specs.declared.json_values.value.Value.{Value}
use Rattle.json_forms.specs.Forms.{all_keys}

again : (a b : Bool) → a && b ≡ a && (a && b)
again true b = refl
again false b = refl

swapped : (a b c : Bool) → a && (b && c) ≡ b && (a && c)
swapped true b c = refl
swapped false true c = refl
swapped false false c = refl

regrouped : (a b c : Bool) → a && (b && c) ≡ (b && a) && c
regrouped true true c = refl
regrouped true false c = refl
regrouped false true c = refl
regrouped false false c = refl

with_all : (a : Bool) → a ≡ a && true
with_all true = refl
with_all false = refl

module _ (test : List ℕ → Bool) where
  put_at : (o : Ordering) (k l : List ℕ) (d e : Data) (ms : Members) → slice_cmp nat_cmp k l ≡ o → all_keys test (put k d ms) ≡ test k && all_keys test ms
      → all_keys test (match_ordering o (member k d (member l e ms)) (member l d ms) (member l e (put k d ms))) ≡ test k && (test l && all_keys test ms)
  put_at Less k l d e ms is later = refl
  put_at Equal k l d e ms is later =
      let same : k ≡ l = (bytes_eq-Decides k l).0 (sym (is_eq-slice_cmp k l) ∙ ap is_eq is) in
      again (test l) (all_keys test ms) ∙ ap (λ key. test key && (test l && all_keys test ms)) (sym same)
  put_at Greater k l d e ms is later = ap (λ b. test l && b) later ∙ swapped (test l) (test k) (all_keys test ms)

  keys_put : (k : List ℕ) (d : Data) (ms : Members) → all_keys test (put k d ms) ≡ test k && all_keys test ms
  keys_put k d no_members = refl
  keys_put k d (member l e ms) = put_at (slice_cmp nat_cmp k l) k l d e ms refl (keys_put k d ms)

  keys_onto : (ms : List (Bor (List ℕ) × Value)) (found : Members)
      → all_keys test (put_all (map (λ m. (m.0, view m.1)) ms) found) ≡ list_all (λ m. test m.0.now) ms && all_keys test found
  keys_onto [] found = refl
  keys_onto (m ∷ ms) found =
      keys_onto ms (put m.0.now (view m.1) found)
      ∙ ap (λ b. list_all (λ e. test e.0.now) ms && b) (keys_put m.0.now (view m.1) found)
      ∙ regrouped (list_all (λ e. test e.0.now) ms) (test m.0.now) (all_keys test found)

  pub each_key : (ms : List (Bor (List ℕ) × Value)) → list_all (λ m. test m.0.now) ms ≡ all_keys test (members_view ms)
  each_key ms = with_all (list_all (λ m. test m.0.now) ms) ∙ sym (keys_onto ms no_members)
