-- Whether the types that stand in each kind of constant and of initialiser are known.
use Rattle.std.proofs.Common.{◌≡◌, ◌∙◌, ◌&&◌, ℕ, Bool, true, List, [], ◌∷◌, map, refl, sym, ap}
use Rattle.std.proofs.lemmas.List.Folds.{list_all-append}
use Rattle.std.specs.List.{list_all}
use Rattle.ir_core.specs.declared.modules.Init.{Init, Zero, Bytes, fold-Init}
use Rattle.ir_core.specs.declared.modules.Init as init
use Rattle.ir_core.specs.declared.modules.Module.{Module}
use Rattle.ir_core.specs.declared.operands.Const.{Const, Number, Undef, Null, Global, Element, Cast}
use Rattle.ir_core.specs.StatedTypes.{behind_each, stated_at_level, stated_by_init, stated_in}
use Rattle.ir_core.proofs.Constants as constants
use Rattle.ir_core.proofs.Inits as inits
use Rattle.ir_types.specs.declared.names.Name.{Name}
use Rattle.ir_types.specs.declared.ty.Ty.{Ty}
use Rattle.ir_typing.specs.OperandTests.Known.{are_types_known, is_type_known}
use Rattle.ir_typing.specs.OperandTests.Stated.{are_constants_known, are_inits_known, is_init_known}
use Rattle.ir_typing.proofs.OperandTests.Each.{with_true}

module _ (m : Module) where
  -- parts behind their types, each of which states these
  in_parts : {A : Type 0} (stated : A → List Ty) (ps : List (Ty × A))
      → are_types_known m (behind_each (map (λ (p : Ty × A). (p.0, stated p.1)) ps)) ≡ list_all (λ (p : Ty × A). is_type_known m p.0 && are_types_known m (stated p.1)) ps
  in_parts stated [] = refl
  in_parts {A} stated (p ∷ ps) =
      list_all-append (is_type_known m) (p.0 ∷ stated p.1) (behind_each (map (λ (p : Ty × A). (p.0, stated p.1)) ps))
      ∙ ap (λ b. (is_type_known m p.0 && are_types_known m (stated p.1)) && b) (in_parts stated ps)

  pub number_known : (n : ℕ) → are_types_known m (stated_in (Number n)) ≡ true
  number_known n = ap (are_types_known m) (constants.at_number (List Ty) stated_at_level n)

  pub undef_known : are_types_known m (stated_in Undef) ≡ true
  undef_known = ap (are_types_known m) (constants.at_undef (List Ty) stated_at_level)

  pub null_known : are_types_known m (stated_in Null) ≡ true
  null_known = ap (are_types_known m) (constants.at_null (List Ty) stated_at_level)

  pub global_known : (x : Name) → are_types_known m (stated_in (Global x)) ≡ true
  global_known x = ap (are_types_known m) (constants.at_global (List Ty) stated_at_level x)

  pub element_known : (e : Bool × Ty × List (Ty × Const)) → are_types_known m (stated_in (Element e)) ≡ (is_type_known m e.1 && are_constants_known m e.2)
  element_known e = ap (are_types_known m) (constants.at_element (List Ty) stated_at_level e.0 e.1 e.2) ∙ ap (λ b. is_type_known m e.1 && b) (in_parts stated_in e.2)

  pub cast_known : (c : Ty × List (Ty × Const)) → are_types_known m (stated_in (Cast c)) ≡ (are_constants_known m c.1 && is_type_known m c.0)
  cast_known c =
      ap (are_types_known m) (constants.at_cast (List Ty) stated_at_level c.0 c.1)
      ∙ list_all-append (is_type_known m) (behind_each (map (λ (p : Ty × Const). (p.0, stated_in p.1)) c.1)) (c.0 ∷ [])
      ∙ ap (λ b. b && (is_type_known m c.0 && true)) (in_parts stated_in c.1)
      ∙ ap (λ b. are_constants_known m c.1 && b) (with_true (is_type_known m c.0))

  -- the types that an address states, as it is lent
  pub element_is : (c : Const) (e f : Bool × Ty × List (Ty × Const)) → c ≡ Element e → f ≡ e
      → are_types_known m (stated_in c) ≡ (is_type_known m f.1 && are_constants_known m f.2)
  element_is c e f is lent =
      ap (λ (c : Const). are_types_known m (stated_in c)) is
      ∙ element_known e
      ∙ sym (ap (λ (e : Bool × Ty × List (Ty × Const)). is_type_known m e.1 && are_constants_known m e.2) lent)

  -- and those that a conversion states
  pub cast_is : (c : Const) (d e : Ty × List (Ty × Const)) → c ≡ Cast d → e ≡ d
      → are_types_known m (stated_in c) ≡ (are_constants_known m e.1 && is_type_known m e.0)
  cast_is c d e is lent =
      ap (λ (c : Const). are_types_known m (stated_in c)) is
      ∙ cast_known d
      ∙ sym (ap (λ (d : Ty × List (Ty × Const)). are_constants_known m d.1 && is_type_known m d.0) lent)

  pub const_known : (c : Const) → is_init_known m (init.Const c) ≡ are_types_known m (stated_in c)
  const_known c = ap (are_types_known m) (inits.at_const (List Ty) stated_by_init c)

  pub zero_known : is_init_known m Zero ≡ true
  zero_known = ap (are_types_known m) (inits.at_zero (List Ty) stated_by_init)

  pub bytes_known : (bytes : List ℕ) → is_init_known m (Bytes bytes) ≡ true
  bytes_known bytes = ap (are_types_known m) (inits.at_bytes (List Ty) stated_by_init bytes)

  pub elements_known : (parts : List (Ty × Init)) → is_init_known m (init.Array parts) ≡ are_inits_known m parts
  elements_known parts = ap (are_types_known m) (inits.at_array (List Ty) stated_by_init parts) ∙ in_parts (fold-Init (List Ty) stated_by_init) parts

  pub fields_known : (parts : List (Ty × Init)) → is_init_known m (init.Struct parts) ≡ are_inits_known m parts
  fields_known parts = ap (are_types_known m) (inits.at_struct (List Ty) stated_by_init parts) ∙ in_parts (fold-Init (List Ty) stated_by_init) parts
