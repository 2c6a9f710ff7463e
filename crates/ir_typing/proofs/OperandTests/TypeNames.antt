-- Whether the names that stand in types are a module's.
use Rattle.std.proofs.Common.{◌≡◌, ◌∙◌, ◌&&◌, ℕ, true, List, [], ◌∷◌, refl, ap}
use Rattle.std.proofs.lemmas.List.Folds.{list_all-append}
use Rattle.std.specs.List.{flat_map}
use Rattle.ir_core.specs.declared.modules.Module.{Module}
use Rattle.ir_types.specs.declared.names.Name.{Name}
use Rattle.ir_types.specs.declared.ty.Ty.{Ty, Int, Ptr, Array, Struct, Named, Void}
use Rattle.ir_core.specs.TypeNames.{names_in_type, type_names}
use Rattle.ir_core.proofs.TypeNames.{at_array, at_int, at_named, at_ptr, at_struct, at_void}
use Rattle.ir_core.specs.NameIndexes.Among.{is_among}
use Rattle.ir_typing.specs.OperandTests.Known.{are_among, are_types_known, is_type_known}
use Rattle.ir_typing.proofs.OperandTests.Each.{with_true}

module _ (m : Module) where
  in_fields : (ts : List Ty) → are_among (flat_map names_in_type ts) (type_names m) ≡ are_types_known m ts
  in_fields [] = refl
  in_fields (t ∷ ts) =
      list_all-append (λ x. is_among x (type_names m)) (names_in_type t) (flat_map names_in_type ts) ∙ ap (λ b. is_type_known m t && b) (in_fields ts)

  pub int_known : (width : ℕ) → is_type_known m (Int width) ≡ true
  int_known width = ap (λ (xs : List Name). are_among xs (type_names m)) (at_int width)

  pub ptr_known : (t : Ty) → is_type_known m (Ptr t) ≡ is_type_known m t
  ptr_known t = ap (λ (xs : List Name). are_among xs (type_names m)) (at_ptr t)

  pub array_known : (n : ℕ) (t : Ty) → is_type_known m (Array n t) ≡ is_type_known m t
  array_known n t = ap (λ (xs : List Name). are_among xs (type_names m)) (at_array n t)

  pub struct_known : (ts : List Ty) → is_type_known m (Struct ts) ≡ are_types_known m ts
  struct_known ts = ap (λ (xs : List Name). are_among xs (type_names m)) (at_struct ts) ∙ in_fields ts

  pub name_known : (x : Name) → is_type_known m (Named x) ≡ is_among x (type_names m)
  name_known x = ap (λ (xs : List Name). are_among xs (type_names m)) (at_named x) ∙ with_true (is_among x (type_names m))

  pub void_known : is_type_known m Void ≡ true
  void_known = ap (λ (xs : List Name). are_among xs (type_names m)) at_void
