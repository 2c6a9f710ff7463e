-- Small types that indices enter, and what an address is by them.
use Rattle.std.proofs.Common.{◌≡◌, ◌∙◌, ◌≤◌, ◌^◌, ℕ, ◌+◌, Bool, true, false, ◌&&◌, ◌||◌, cond, List, [], ◌∷◌, drop, length, map, slice_get, Option, None, Some, refl, sym, ap}
use Rattle.std.specs.Prelude.{ℤ, nat_le}
use Rattle.std.specs.List.{AllByRecursion, list_all, list_any}
use Rattle.std.specs.Option.{is_some, option_and_then}
use Rattle.std.proofs.lemmas.Bool.{leb-true}
use Rattle.ir_types.specs.declared.named.NamedTy.{NamedTy}
use Rattle.ir_types.specs.declared.ty.Ty.{Ty}
use Rattle.ir_types.specs.NameLaws.{left_true, right_true}
use Rattle.ir_types.specs.Named.{is_sized, size_of}
use Rattle.ir_core.specs.Sizes.{entered_along, entered_behind, stepped}
use Rattle.ir_core.specs.Typing.{entered, led_to}
use Rattle.ir_core.specs.declared.values.Value.{Value}
use Rattle.ir_core.specs.declared.values.Value.TheVariants.{Poison}
use Rattle.ir_values.specs.Addresses.{GivenIndex, are_entered_small, distances, gep_value, is_small, led_address, moved_address, told_index, undef_inside}
use Rattle.ir_values.specs.Private.{IsSmall, leads_small}
use Rattle.ir_values.specs.Values.{as_number, is_poison}
use Rattle.ir_values.proofs.Entering.{leads_on}
use Rattle.ir_values.proofs.Listed.{drop_next, drop_past}

and_again : (a b c : Bool) → (a && (b && c)) ≡ ((a && b) && c)
and_again true b c = refl
and_again false b c = refl

module _ (types : List NamedTy) where
  small_is : (t : Ty) → is_small types t ≡ true → IsSmall types t
  small_is t h = let sized = is_sized types t in let limit = nat_le (size_of types t) (2 ^ 31) in (left_true sized limit h, leb-true (size_of types t) (2 ^ 31) (right_true sized limit h))

  pub all_small : (ts : List Ty) → list_all (is_small types) ts ≡ true → AllByRecursion (IsSmall types) ts
  all_small [] h = tt
  all_small (t ∷ ts) h = let rest = list_all (is_small types) ts in (small_is t (left_true (is_small types t) rest h), all_small ts (right_true (is_small types t) rest h))

  -- ---- along the indices

  leads_further : (t u : Ty) (i : GivenIndex) (is : List GivenIndex) → entered types t (told_index i) ≡ Some u → leads_small types t (i ∷ is) ≡ (is_small types u && leads_small types u is)
  leads_further t u i is e =
      ap (λ (o : Option Ty). list_all (is_small types) (entered_behind (λ v. entered_along types v (map told_index is)) o) && is_some (option_and_then (λ v. led_to types v (map told_index is)) o)) e
      ∙ sym (and_again (is_small types u) (list_all (is_small types) (entered_along types u (map told_index is))) (is_some (led_to types u (map told_index is))))

  module _ (t : Ty) (is : List GivenIndex) (k : ℕ) (r : Bool) (given : leads_small types t (drop k is) ≡ r) where
    pub walk_over : length is ≤ k → true ≡ r
    walk_over past = sym (ap (leads_small types t) (drop_past is k past)) ∙ given

    module _ (i : GivenIndex) (there : Some i ≡ slice_get is k) where
      pub walk_nowhere : entered types t (told_index i) ≡ None → false ≡ r
      walk_nowhere e =
          sym (ap (λ (o : Option Ty). list_all (is_small types) (entered_behind (λ v. entered_along types v (map told_index (drop (k + 1) is))) o) && is_some (option_and_then (λ v. led_to types v (map told_index (drop (k + 1) is))) o)) e)
          ∙ sym (ap (leads_small types t) (drop_next is k i there)) ∙ given

      pub walk_large : (u : Ty) → entered types t (told_index i) ≡ Some u → is_small types u ≡ false → false ≡ r
      walk_large u e large =
          sym (ap (λ b. b && leads_small types u (drop (k + 1) is)) large) ∙ sym (leads_further t u i (drop (k + 1) is) e) ∙ sym (ap (leads_small types t) (drop_next is k i there)) ∙ given

      pub walk_leads : (u : Ty) → entered types t (told_index i) ≡ Some u → is_small types u ≡ true → leads_small types u (drop (k + 1) is) ≡ r
      walk_leads u e small =
          sym (ap (λ b. b && leads_small types u (drop (k + 1) is)) small) ∙ sym (leads_further t u i (drop (k + 1) is) e) ∙ sym (ap (leads_small types t) (drop_next is k i there)) ∙ given

  module _ (of : Ty) where
    pub leads_whole : (is : List GivenIndex) → (is_small types of && leads_small types of (drop 1 is)) ≡ (are_entered_small types of is && is_some (distances types of is))
    leads_whole [] = and_again (is_small types of) true true
    leads_whole (i ∷ is) =
        and_again (is_small types of) (list_all (is_small types) (entered_along types of (map told_index is))) (is_some (led_to types of (map told_index is)))
        ∙ ap (λ b. are_entered_small types of (i ∷ is) && b) (sym (leads_on types of i is))

    pub leads_by : (is : List GivenIndex) → is_small types of ≡ true → leads_small types of (drop 1 is) ≡ (are_entered_small types of is && is_some (distances types of is))
    leads_by is small = sym (ap (λ b. b && leads_small types of (drop 1 is)) small) ∙ leads_whole is

    pub leads_nowhere : (is : List GivenIndex) → is_small types of ≡ false → false ≡ (are_entered_small types of is && is_some (distances types of is))
    leads_nowhere is large = sym (ap (λ b. b && leads_small types of (drop 1 is)) large) ∙ leads_whole is

    pub first_small : (is : List GivenIndex) → AllByRecursion (IsSmall types) (stepped types of (map told_index is)) → IsSmall types of
    first_small [] h = h.0
    first_small (i ∷ is) h = h.0

    pub later_small : (is : List GivenIndex) → AllByRecursion (IsSmall types) (stepped types of (map told_index is)) → AllByRecursion (IsSmall types) (entered_along types of (map told_index (drop 1 is)))
    later_small [] h = tt
    later_small (i ∷ is) h = h.1

-- ---- what an address is

module _ (inbounds : Bool) (types : List NamedTy) (of : Ty) (base : Value) (size : ℕ) (is : List GivenIndex) where
  abbrev led : Value
  led = led_address inbounds base size is (distances types of is)

  poison_either : (p : Bool) (v : Value) → v ≡ Poison → Poison ≡ cond p Poison v
  poison_either true v e = refl
  poison_either false v e = sym e

  pub by_poison : (is_poison base || list_any (λ (i : GivenIndex). is_poison i.1) is) ≡ true → Poison ≡ gep_value inbounds types of base size is
  by_poison e = sym (ap (λ p. cond p Poison (cond (are_entered_small types of is) led Poison)) e)

  -- nowhere, or into what isn't small
  pub by_nothing : (are_entered_small types of is && is_some (distances types of is)) ≡ false → Poison ≡ gep_value inbounds types of base size is
  by_nothing e =
      poison_either (is_poison base || list_any (λ (i : GivenIndex). is_poison i.1) is) (cond (are_entered_small types of is) led Poison) (at (are_entered_small types of is) (distances types of is) e)
    where
      at : (s : Bool) (o : Option (List ℤ)) → (s && is_some o) ≡ false → cond s (led_address inbounds base size is o) Poison ≡ Poison
      at false o e = refl
      at true None e = refl
      at true (Some ds) e = cc

  pub by_indices : (is_poison base || list_any (λ (i : GivenIndex). is_poison i.1) is) ≡ false → (are_entered_small types of is && is_some (distances types of is)) ≡ true → led ≡ gep_value inbounds types of base size is
  by_indices p e =
      sym (ap (λ s. cond s led Poison) (left_true (are_entered_small types of is) (is_some (distances types of is)) e))
      ∙ sym (ap (λ b. cond b Poison (cond (are_entered_small types of is) led Poison)) p)

  pub by_undef : is_some (distances types of is) ≡ true → list_all (λ (i : GivenIndex). is_some (as_number i.1)) is ≡ false → undef_inside inbounds ≡ led
  by_undef some none = at (distances types of is) some
    where
      at : (o : Option (List ℤ)) → is_some o ≡ true → undef_inside inbounds ≡ led_address inbounds base size is o
      at None e = cc
      at (Some ds) e = sym (ap (λ t. cond t (moved_address inbounds base size ds) (undef_inside inbounds)) none)
