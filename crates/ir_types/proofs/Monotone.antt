-- Where more names have layouts, more types have, and the same ones.
use Rattle.std.proofs.Common.{◌≡◌, ◌∙◌, ℕ, List, [], ◌∷◌, map, Option, None, Some, refl, sym, ap}
use Rattle.std.specs.List.{AllByRecursion}
use Rattle.std.specs.Option.{option_map}
use Rattle.ir_types.specs.declared.layout.Layout.{Layout}
use Rattle.ir_types.specs.declared.names.Name.{Name}
use Rattle.ir_types.specs.declared.ty.Ty.{Ty, Int, Ptr, Array, Struct, Named, Void}
use Rattle.ir_types.specs.Layout.{of_int, of_ptr, of_array, of_struct, all_of, layout_level, layout_by}
use Rattle.ir_types.proofs.Induction as fold

-- what the one gives, the other gives too
abbrev pub IsBelow : {A : Type 0} → Option A → Option A → Type 0
IsBelow {A} a b = (x : A) → a ≡ Some x → b ≡ Some x

abbrev pub AreBelow : (Name → Option Layout) → (Name → Option Layout) → Type 0
AreBelow f g = (x : Name) → IsBelow (f x) (g x)

map_below : {A B : Type 0} (h : A → B) (a b : Option A) → IsBelow a b → IsBelow (option_map h a) (option_map h b)
map_below h None b law m e = cc
map_below h (Some x) b law m e = ap (option_map h) (law x refl) ∙ e

all_below : (a b : Option Layout) (xs ys : List (Option Layout)) → IsBelow a b → IsBelow (all_of xs) (all_of ys) → IsBelow (all_of (a ∷ xs)) (all_of (b ∷ ys))
all_below None b xs ys law rest m e = cc
all_below (Some x) b xs ys law rest m e =
    ap (λ c. all_of (c ∷ ys)) (law x refl) ∙ map_below (λ more. x ∷ more) (all_of xs) (all_of ys) rest m e

-- ---- at each kind of type

module _ (f : Name → Option Layout) where
  pub at_int : (width : ℕ) → layout_by f (Int width) ≡ Some (of_int width)
  at_int = fold.at_int (Option Layout) (layout_level f)

  pub at_ptr : (t : Ty) → layout_by f (Ptr t) ≡ Some of_ptr
  at_ptr = fold.at_ptr (Option Layout) (layout_level f)

  pub at_array : (n : ℕ) (t : Ty) → layout_by f (Array n t) ≡ option_map (of_array n) (layout_by f t)
  at_array = fold.at_array (Option Layout) (layout_level f)

  pub at_struct : (ts : List Ty) → layout_by f (Struct ts) ≡ option_map of_struct (all_of (map (layout_by f) ts))
  at_struct = fold.at_struct (Option Layout) (layout_level f)

  pub at_named : (x : Name) → layout_by f (Named x) ≡ f x
  at_named = fold.at_named (Option Layout) (layout_level f)

  pub at_void : layout_by f Void ≡ None
  at_void = fold.at_void (Option Layout) (layout_level f)

module _ (f g : Name → Option Layout) (below : AreBelow f g) where
  abbrev Below : Ty → Type 0
  Below t = IsBelow (layout_by f t) (layout_by g t)

  across : (t : Ty) (a b : Option Layout) → layout_by f t ≡ a → layout_by g t ≡ b → IsBelow a b → Below t
  across t a b p q law l e = q ∙ law l (sym p ∙ e)

  fields_below : (ts : List Ty) → AllByRecursion Below ts → IsBelow (all_of (map (layout_by f) ts)) (all_of (map (layout_by g) ts))
  fields_below [] all = λ m e. e
  fields_below (t ∷ ts) all = all_below (layout_by f t) (layout_by g t) (map (layout_by f) ts) (map (layout_by g) ts) all.0 (fields_below ts all.1)

  pub layouts_below : (t : Ty) → IsBelow (layout_by f t) (layout_by g t)
  layouts_below = fold.by_parts Below
      (λ w. across (Int w) (Some (of_int w)) (Some (of_int w)) (at_int f w) (at_int g w) (λ m e. e))
      (λ t law. across (Ptr t) (Some of_ptr) (Some of_ptr) (at_ptr f t) (at_ptr g t) (λ m e. e))
      (λ n t law. across (Array n t) (option_map (of_array n) (layout_by f t)) (option_map (of_array n) (layout_by g t)) (at_array f n t) (at_array g n t)
      (map_below (of_array n) (layout_by f t) (layout_by g t) law))
      (λ ts law. across (Struct ts) (option_map of_struct (all_of (map (layout_by f) ts))) (option_map of_struct (all_of (map (layout_by g) ts)))
      (at_struct f ts) (at_struct g ts)
      (map_below of_struct (all_of (map (layout_by f) ts)) (all_of (map (layout_by g) ts)) (fields_below ts law)))
      (λ x. across (Named x) (f x) (g x) (at_named f x) (at_named g x) (below x))
      (across Void None None (at_void f) (at_void g) (λ m e. e))
