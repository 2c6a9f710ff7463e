-- Of two addresses of one operator the second is stated where the first is.
use Rattle.std.proofs.Common.{◌≡◌, ◌⊎◌, inl, inr, ℕ, Bool, true, false, cond, List, [], ◌∷◌, map, Option, None, Some, refl, sym, ap, ◌∙◌, subst₂, eqb-true}
use Rattle.std.specs.List.{AllZip}
use Rattle.std.specs.Option.{option_and_then, option_map}
use Rattle.std.proofs.lemmas.Bool.{false≢true}
use Rattle.ir_types.specs.declared.names.Name.{Name}
use Rattle.ir_types.specs.declared.named.NamedTy.{NamedTy}
use Rattle.ir_types.specs.declared.ty.Ty.{Ty, Int, Ptr, out-Ty}
use Rattle.ir_types.specs.declared.ty.Ty.TheOpen.{Ty-F}
use Rattle.ir_types.specs.declared.ty.Ty.TheOpen as level
use Rattle.ir_types.specs.Same.{same_list, same_ty}
use Rattle.ir_types.specs.NameLaws.{all_true, left_true, right_true}
use Rattle.ir_types.proofs.SameLaws.{same_ty_true}
use Rattle.ir_core.specs.declared.expressions.Element.{Element as ElementOf}
use Rattle.ir_core.specs.declared.operands.Operand.{Operand}
use Rattle.ir_core.specs.Types.{is_integer}
use Rattle.ir_core.specs.Typing.{Index, element_type, entered, entered_at_level, index_of, is_due, led_to, number_in}
use Rattle.ir_core.specs.declared.values.Value.TheVariants.{Poison}
use Rattle.ir_values.specs.declared.operations.Outcome.{Outcome}
use Rattle.ir_values.specs.declared.operations.Outcome.TheVariants.{Gives}
use Rattle.ir_values.specs.Related.{AreOutcomesRelated, Pairing}
use Rattle.ir_machine.specs.Registers.{is_stated}
use Rattle.erhl_assert.specs.Allowed.{keep_numbers, keeps_number, stated_types}

-- an index of the same type, and of the same number where the first is one
abbrev pub IsIndexKept : Index → Index → Type 0
IsIndexKept i j = (j.ty ≡ i.ty) × ((i.number ≡ None) ⊎ (j.number ≡ i.number))

number_kept : (m n : Option ℕ) → keeps_number m n ≡ true → (m ≡ None) ⊎ (n ≡ m)
number_kept None n h = inl refl
number_kept (Some m) None h = absurd (false≢true h)
number_kept (Some m) (Some n) h = inr (ap Some (sym (eqb-true m n h)))

pub indices_kept : (xs ys : List (Operand Name)) → same_list same_ty (stated_types xs) (stated_types ys) ≡ true → keep_numbers xs ys ≡ true
    → AllZip IsIndexKept (map index_of xs) (map index_of ys)
indices_kept [] [] h e = tt
indices_kept (a ∷ xs) (b ∷ ys) h e =
    let type = same_ty a.ty b.ty in
    let types = same_list same_ty (stated_types xs) (stated_types ys) in
    let number = keeps_number (number_in a.atom) (number_in b.atom) in
    let numbers = keep_numbers xs ys in (
      (sym (same_ty_true a.ty b.ty (left_true type types h)), number_kept (number_in a.atom) (number_in b.atom) (left_true number numbers e)),
      indices_kept xs ys (right_true type types h) (right_true number numbers e),
    )
indices_kept [] (b ∷ ys) h e = absurd (false≢true h)
indices_kept (a ∷ xs) [] h e = absurd (false≢true h)

-- ---- what they enter

nothing_in_none : (b : Bool) (o : Option Ty) (u : Ty) → o ≡ None → cond b o None ≡ Some u → ⊥
nothing_in_none true o u e h = cc
nothing_in_none false o u e h = cc

-- what an index enters that is no number each index of its type enters
entered_at : (types : List NamedTy) (t : Ty-F Ty) (i : Ty) (n : Option ℕ) (u : Ty)
    → entered_at_level types t (record { ty = i; number = None }) ≡ Some u → entered_at_level types t (record { ty = i; number = n }) ≡ Some u
entered_at types (level.Array count element) i n u h = h
entered_at types (level.Struct fields) i n u h = absurd (nothing_in_none (same_ty i (Int 32)) None u refl h)
entered_at types (level.Named x) i n u h = absurd (nothing_in_none (same_ty i (Int 32)) None u refl h)
entered_at types (level.Int width) i n u h = h
entered_at types (level.Ptr t) i n u h = h
entered_at types level.Void i n u h = h

entered_on : (types : List NamedTy) (t : Ty) (i j : Index) (u : Ty) → IsIndexKept i j → entered types t i ≡ Some u → entered types t j ≡ Some u
entered_on types t i j u (type, inl e) h =
    ap (λ s. entered types t (record { ty = s; number = j.number })) type
    ∙ entered_at types (out-Ty t) i.ty j.number u (sym (ap (λ n. entered types t (record { ty = i.ty; number = n })) e) ∙ h)
entered_on types t i j u (type, inr e) h =
    ap (λ s. entered types t (record { ty = s; number = j.number })) type ∙ ap (λ n. entered types t (record { ty = i.ty; number = n })) e ∙ h

led_on : (types : List NamedTy) (t : Ty) (is js : List Index) (u : Ty) → AllZip IsIndexKept is js → led_to types t is ≡ Some u → led_to types t js ≡ Some u
led_on types t [] [] u all h = h
led_on types t [] (j ∷ js) u all h = absurd all
led_on types t (i ∷ is) [] u all h = absurd all
led_on types t (i ∷ is) (j ∷ js) u all h = at (λ v. led_on types v is js u all.1) (entered types t i) refl h
  where
    at : ((v : Ty) → led_to types v is ≡ Some u → led_to types v js ≡ Some u) → (o : Option Ty) → entered types t i ≡ o → option_and_then (λ v. led_to types v is) o ≡ Some u
        → option_and_then (λ v. led_to types v js) (entered types t j) ≡ Some u
    at rest None e h = absurd (cc)
    at rest (Some v) e h = ap (option_and_then (λ v. led_to types v js)) (entered_on types t i j v all.0 e) ∙ rest v h

-- ---- what is stated

chosen_on : (b : Bool) (o p : Option Ty) (u : Ty) → ((v : Ty) → o ≡ Some v → p ≡ Some v) → cond b (option_map Ptr o) None ≡ Some u → cond b (option_map Ptr p) None ≡ Some u
chosen_on true None p u rest h = absurd (cc)
chosen_on true (Some v) p u rest h = ap (option_map Ptr) (rest v refl) ∙ h
chosen_on false o p u rest h = h

element_on : (types : List NamedTy) (of : Ty) (is js : List Index) (u : Ty) → AllZip IsIndexKept is js → element_type types of is ≡ Some u → element_type types of js ≡ Some u
element_on types of [] [] u all h = h
element_on types of [] (j ∷ js) u all h = absurd all
element_on types of (i ∷ is) [] u all h = absurd all
element_on types of (i ∷ is) (j ∷ js) u all h =
    ap (λ t. cond (is_integer t) (option_map Ptr (led_to types of js)) None) all.0.0
    ∙ chosen_on (is_integer i.ty) (led_to types of is) (led_to types of js) u (λ v. led_on types of is js v all.1) h

due_on : (o p : Option Ty) (t : Ty) → ((v : Ty) → o ≡ Some v → p ≡ Some v) → is_due o t ≡ true → is_due p t ≡ true
due_on None p t rest h = absurd (false≢true h)
due_on (Some v) p t rest h = ap (λ o. is_due o t) (rest v refl) ∙ h

pub stated_on : (types : List NamedTy) (s t : ElementOf Name) → s.of ≡ t.of → s.to ≡ t.to → s.base.ty ≡ t.base.ty → AllZip IsIndexKept (map index_of s.indices) (map index_of t.indices)
    → is_stated types s ≡ true → is_stated types t ≡ true
stated_on types s t of to base indices h =
    let first = same_ty s.base.ty (Ptr s.of) in
    let due = is_due (element_type types s.of (map index_of s.indices)) s.to in
    all_true (subst₂ (λ b o. same_ty b (Ptr o) ≡ true) base of (left_true first due h))
    (subst₂ (λ o r. is_due (element_type types o (map index_of t.indices)) r ≡ true) of to
    (due_on (element_type types s.of (map index_of s.indices)) (element_type types s.of (map index_of t.indices)) s.to
    (λ v. element_on types s.of (map index_of s.indices) (map index_of t.indices) v indices) (right_true first due h)))

-- of outcomes that are chosen where they are stated
pub stated_related : (ps : Pairing) (b c : Bool) (o p : Outcome) → (b ≡ true → c ≡ true) → AreOutcomesRelated ps o p → AreOutcomesRelated ps (Gives Poison) p
    → AreOutcomesRelated ps (cond b o (Gives Poison)) (cond c p (Gives Poison))
stated_related ps true true o p stated less poison = less
stated_related ps true false o p stated less poison = absurd (false≢true (stated refl))
stated_related ps false true o p stated less poison = poison
stated_related ps false false o p stated less poison = tt
