-- Whether each kind of type has a size.
use Rattle.std.proofs.Common.{◌≡◌, ◌∙◌, ◌&&◌, ℕ, true, false, List, [], ◌∷◌, map, Option, None, Some, refl, ap}
use Rattle.std.specs.List.{list_all}
use Rattle.std.specs.Option.{is_some, option_map}
use Rattle.ir_types.specs.declared.layout.Layout.{Layout}
use Rattle.ir_types.specs.declared.named.NamedTy.{NamedTy}
use Rattle.ir_types.specs.declared.ty.Ty.{Ty, Int, Ptr, Array, Struct, Void}
use Rattle.ir_types.specs.Layout.{all_of, layout_level, of_array, of_struct}
use Rattle.ir_types.specs.Named.{found_in, is_sized, layout_of, layout_of_name}
use Rattle.ir_types.proofs.Induction as fold

kept : {A B : Type 0} (f : A → B) (o : Option A) → is_some (option_map f o) ≡ is_some o
kept f None = refl
kept f (Some x) = refl

one_more : (o : Option Layout) (os : List (Option Layout)) → is_some (all_of (o ∷ os)) ≡ (is_some o && is_some (all_of os))
one_more None os = refl
one_more (Some l) os = kept (λ ls. l ∷ ls) (all_of os)

module _ (types : List NamedTy) where
  pub int_sized : (width : ℕ) → is_sized types (Int width) ≡ true
  int_sized width = ap is_some (fold.at_int (Option Layout) (layout_level (layout_of_name (found_in types))) width)

  pub ptr_sized : (t : Ty) → is_sized types (Ptr t) ≡ true
  ptr_sized t = ap is_some (fold.at_ptr (Option Layout) (layout_level (layout_of_name (found_in types))) t)

  pub array_sized : (n : ℕ) (t : Ty) → is_sized types (Array n t) ≡ is_sized types t
  array_sized n t = ap is_some (fold.at_array (Option Layout) (layout_level (layout_of_name (found_in types))) n t) ∙ kept (of_array n) (layout_of types t)

  all_sized : (ts : List Ty) → is_some (all_of (map (layout_of types) ts)) ≡ list_all (is_sized types) ts
  all_sized [] = refl
  all_sized (t ∷ ts) = one_more (layout_of types t) (map (layout_of types) ts) ∙ ap (λ b. is_sized types t && b) (all_sized ts)

  pub struct_sized : (ts : List Ty) → is_sized types (Struct ts) ≡ list_all (is_sized types) ts
  struct_sized ts =
      ap is_some (fold.at_struct (Option Layout) (layout_level (layout_of_name (found_in types))) ts) ∙ kept of_struct (all_of (map (layout_of types) ts)) ∙ all_sized ts

  pub void_sized : is_sized types Void ≡ false
  void_sized = ap is_some (fold.at_void (Option Layout) (layout_level (layout_of_name (found_in types))))
