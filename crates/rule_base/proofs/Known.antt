-- Whether the names that stand in types are a module's.
use Rattle.std.proofs.Common.{◌≡◌, ◌∙◌, ◌&&◌, ℕ, Bool, true, false, List, [], ◌∷◌, refl, sym, ap}
use Rattle.std.proofs.lemmas.List.Folds.{list_all-append}
use Rattle.std.specs.List.{flat_map, list_all}
use Rattle.ir_types.specs.declared.named.NamedTy.{NamedTy}
use Rattle.ir_types.specs.declared.names.Name.{Name}
use Rattle.ir_types.specs.declared.ty.Ty.{Ty, Int, Ptr, Array, Struct, Named, Void}
use Rattle.ir_types.specs.declared.ty.Ty.TheVariants as ty
use Rattle.ir_types.specs.Named.{knows_type}
use Rattle.ir_core.specs.TypeNames.{names_in_type}
use Rattle.ir_core.proofs.TypeNames.{at_array, at_int, at_named, at_ptr, at_struct, at_void}
use Rattle.erhl_assert.specs.Typed.{is_known}

and_true : (b : Bool) → (b && true) ≡ b
and_true true = refl
and_true false = refl

module _ (types : List NamedTy) where
  -- no name stands in an integer
  by_names : (t : Ty) → is_known types t ≡ list_all (knows_type types) (names_in_type t)
  by_names (ty.Int width) = sym (ap (list_all (knows_type types)) (at_int width))
  by_names t = refl

  in_fields : (ts : List Ty) → list_all (knows_type types) (flat_map names_in_type ts) ≡ list_all (is_known types) ts
  in_fields [] = refl
  in_fields (t ∷ ts) =
      list_all-append (knows_type types) (names_in_type t) (flat_map names_in_type ts)
      ∙ ap (λ b. b && list_all (knows_type types) (flat_map names_in_type ts)) (sym (by_names t)) ∙ ap (λ b. is_known types t && b) (in_fields ts)

  pub int_known : (width : ℕ) → is_known types (Int width) ≡ true
  int_known width = refl

  pub ptr_known : (t : Ty) → is_known types (Ptr t) ≡ is_known types t
  ptr_known t = by_names (Ptr t) ∙ ap (list_all (knows_type types)) (at_ptr t) ∙ sym (by_names t)

  pub array_known : (n : ℕ) (t : Ty) → is_known types (Array n t) ≡ is_known types t
  array_known n t = by_names (Array n t) ∙ ap (list_all (knows_type types)) (at_array n t) ∙ sym (by_names t)

  pub struct_known : (ts : List Ty) → is_known types (Struct ts) ≡ list_all (is_known types) ts
  struct_known ts = by_names (Struct ts) ∙ ap (list_all (knows_type types)) (at_struct ts) ∙ in_fields ts

  pub name_known : (x : Name) → is_known types (Named x) ≡ knows_type types x
  name_known x = by_names (Named x) ∙ ap (list_all (knows_type types)) (at_named x) ∙ and_true (knows_type types x)

  pub void_known : is_known types Void ≡ true
  void_known = by_names Void ∙ ap (list_all (knows_type types)) at_void
