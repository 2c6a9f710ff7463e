-- What indices lead to, one more and one more.
use Rattle.std.proofs.Common.{◌≡◌, ◌∙◌, ◌&&◌, ◌||◌, Bool, true, false, not, cond, List, [], ◌∷◌, ◌++◌, Option, None, Some, refl, sym, ap}
use Rattle.std.specs.List.{list_any}
use Rattle.std.specs.Option.{option_and_then, option_copied, option_map}
use Rattle.ir_core.specs.Sizes.{entered_along, entered_behind}
use Rattle.ir_core.specs.Types.{is_integer}
use Rattle.ir_core.specs.Typing.{Index, element_type, entered, led_to}
use Rattle.ir_types.specs.declared.named.NamedTy.{NamedTy}
use Rattle.ir_types.specs.declared.ty.Ty.{Ty, Ptr}
use Rattle.named_modules.specs.Addresses.{address_type}
use Rattle.fault_walk.specs.Indices.{IsPath, entered_from, is_any_large}
use Rattle.fault_walk.specs.Told.{is_one_large, is_stepped_large}
use Rattle.fault_walk.specs.declared.constants.Path.{Path}

without : (b : Bool) → (b || false) ≡ b
without true = refl
without false = refl

either_way : (a b c : Bool) → (a || (b || c)) ≡ ((a || b) || c)
either_way true b c = refl
either_way false b c = refl

as_it_is : {A : Type 0} (o : Option A) → option_and_then (λ (x : A). Some x) o ≡ o
as_it_is None = refl
as_it_is (Some x) = refl

module _ (types : List NamedTy) where
  led_more : (t : Ty) (is : List Index) (i : Index) → led_to types t (is ++ i ∷ []) ≡ entered_from types (led_to types t is) i
  led_more t [] i = as_it_is (entered types t i)
  led_more t (j ∷ is) i = by (entered types t j) (λ u. led_more u is i)
    where
      by : (o : Option Ty) → ((u : Ty) → led_to types u (is ++ i ∷ []) ≡ entered_from types (led_to types u is) i)
          → option_and_then (λ u. led_to types u (is ++ i ∷ [])) o ≡ entered_from types (option_and_then (λ u. led_to types u is) o) i
      by None more = refl
      by (Some u) more = more u

  abbrev any_entered : Ty → List Index → Bool
  any_entered t is = list_any (is_one_large types) (entered_along types t is)

  entered_more : (t : Ty) (is : List Index) (i : Index) → any_entered t (is ++ i ∷ []) ≡ (any_entered t is || is_any_large types (led_to types t (is ++ i ∷ [])))
  entered_more t [] i = by (entered types t i)
    where
      by : (o : Option Ty) → list_any (is_one_large types) (entered_behind (λ u. []) o) ≡ is_any_large types (option_and_then (λ u. Some u) o)
      by None = refl
      by (Some u) = without (is_one_large types u)
  entered_more t (j ∷ is) i = by (entered types t j) (λ u. entered_more u is i)
    where
      by : (o : Option Ty) → ((u : Ty) → any_entered u (is ++ i ∷ []) ≡ (any_entered u is || is_any_large types (led_to types u (is ++ i ∷ []))))
          → list_any (is_one_large types) (entered_behind (λ u. entered_along types u (is ++ i ∷ [])) o)
          ≡ (list_any (is_one_large types) (entered_behind (λ u. entered_along types u is) o) || is_any_large types (option_and_then (λ u. led_to types u (is ++ i ∷ [])) o))
      by None more = refl
      by (Some u) more =
          ap (λ b. is_one_large types u || b) (more u)
          ∙ either_way (is_one_large types u) (any_entered u is) (is_any_large types (led_to types u (is ++ i ∷ [])))

  -- ---- a first index, and one behind it

  pub begins : (of : Ty) (is : List Index) (i : Index) (p q : Path) → IsPath types of is p → p.begun ≡ false → q.begun ≡ true → q.over ≡ is_integer i.ty
      → q.led ≡ p.led → q.large ≡ p.large → q.clear ≡ p.clear → IsPath types of (is ++ i ∷ []) q
  begins of [] i p q path none begun over led large clear = record {
    begun = begun;
    over = over;
    led = ap option_copied led ∙ path.led;
    large = large ∙ path.large;
    clear = λ e. path.clear (sym clear ∙ e);
  }
  begins of (j ∷ is) i p q path none begun over led large clear = absurd (let there : p.begun ≡ true = path.begun in cc)

  pub enters : (of : Ty) (is : List Index) (i : Index) (p q : Path) → IsPath types of is p → p.begun ≡ true → q.begun ≡ p.begun → q.over ≡ p.over
      → option_copied q.led ≡ entered_from types (option_copied p.led) i → q.large ≡ (p.large || (not p.clear && is_any_large types (option_copied q.led))) → q.clear ≡ p.clear
      → IsPath types of (is ++ i ∷ []) q
  enters of [] i p q path some begun over led large clear = absurd (let none : p.begun ≡ false = path.begun in cc)
  enters of (j ∷ is) i p q path some begun over led large clear = record {
    begun = begun ∙ some;
    over = over ∙ path.over;
    led = leads;
    large = large ∙ by p.clear refl;
    clear = λ e. path.clear (sym clear ∙ e);
  }
    where
      leads : option_copied q.led ≡ led_to types of (is ++ i ∷ [])
      leads = led ∙ ap (λ o. entered_from types o i) path.led ∙ sym (led_more of is i)

      by : (b : Bool) → p.clear ≡ b → (p.large || (not b && is_any_large types (option_copied q.led))) ≡ is_stepped_large types of (j ∷ (is ++ i ∷ []))
      by true e =
          without p.large ∙ path.large ∙ path.clear e (j ∷ is) ∙ sym (path.clear e (j ∷ (is ++ i ∷ [])))
      by false e =
          ap (λ b. b || is_any_large types (option_copied q.led)) path.large
          ∙ ap (λ o. is_stepped_large types of (j ∷ is) || is_any_large types o) leads
          ∙ sym (either_way (is_one_large types of) (any_entered of is) (is_any_large types (led_to types of (is ++ i ∷ []))))
          ∙ sym (ap (λ b. is_one_large types of || b) (entered_more of is i))

  -- ---- the address

  pub led_over : (of : Ty) (is : List Index) (p : Path) → IsPath types of is p → p.over ≡ true → option_map Ptr (option_copied p.led) ≡ element_type types of is
  led_over of [] p path over = ap (option_map Ptr) path.led
  led_over of (i ∷ is) p path over =
      ap (option_map Ptr) path.led ∙ sym (ap (λ b. cond b (option_map Ptr (led_to types of is)) None) (sym path.over ∙ over))

  pub not_over : (of : Ty) (is : List Index) (p : Path) → IsPath types of is p → p.over ≡ false → None ≡ element_type types of is
  not_over of [] p path over = absurd (let yes : p.over ≡ true = path.over in cc)
  not_over of (i ∷ is) p path over = sym (ap (λ b. cond b (option_map Ptr (led_to types of is)) None) (sym path.over ∙ over))

  pub without_index : (of base : Ty) (is : List Index) (p : Path) → IsPath types of is p → p.begun ≡ false → address_type types base of is ≡ Some base
  without_index of base [] p path none = refl
  without_index of base (i ∷ is) p path none = absurd (let some : p.begun ≡ true = path.begun in cc)

  pub with_index : (of base : Ty) (is : List Index) (p : Path) → IsPath types of is p → p.begun ≡ true → address_type types base of is ≡ element_type types of is
  with_index of base [] p path some = absurd (let none : p.begun ≡ false = path.begun in cc)
  with_index of base (i ∷ is) p path some = refl

  -- no index has come
  pub at_first : (of : Ty) (p : Path) → p.begun ≡ false → p.over ≡ true → option_copied p.led ≡ Some of
      → p.large ≡ (not p.clear && is_one_large types of) → (p.clear ≡ true → (all : List Index) → is_stepped_large types of all ≡ false)
      → IsPath types of [] p
  at_first of p begun over led large clear = record {
    begun = begun;
    over = over;
    led = led;
    large = large ∙ by p.clear refl;
    clear = clear;
  }
    where
      by : (b : Bool) → p.clear ≡ b → (not b && is_one_large types of) ≡ is_stepped_large types of []
      by true e = sym (clear e [])
      by false e = sym (without (is_one_large types of))
