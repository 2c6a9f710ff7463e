-- What is wrong with each kind of constant.
use Rattle.std.proofs.Common.{◌≡◌, ◌∙◌, ℕ, Bool, List, [], ◌∷◌, map, Option, refl, sym, ap}
use Rattle.ir_core.specs.declared.modules.Module.{Module}
use Rattle.ir_core.specs.declared.operands.Const.{Const, Number, Undef, Null, Global, Element, Cast, fold-Const}
use Rattle.ir_core.specs.Types.{is_first_class, is_integer, is_pointer}
use Rattle.ir_core.specs.Typing.{Index}
use Rattle.ir_core.proofs.Constants as constants
use Rattle.ir_types.specs.declared.names.Name.{Name}
use Rattle.ir_types.specs.declared.ty.Ty.{Ty}
use Rattle.ir_types.specs.Same.{same_ty}
use Rattle.ir_typing.specs.declared.shape_kinds.kind.ShapeKind.{ShapeKind}
use Rattle.ir_typing.specs.declared.shape_kinds.kind.ShapeKind.TheVariants as kind
use Rattle.ir_typing.specs.ShapeKinds.Kinds.{fault_unless, least}
use Rattle.ir_typing.specs.OperandTests.Addresses.{address_told, index_told, number_of}
use Rattle.ir_typing.specs.OperandTests.Constants.{Judged, address_kind, address_of_parts, constant_kind, global_kind, judged_at_level, judged_index}
use Rattle.ir_typing.specs.OperandTests.Constants as meaning
use Rattle.ir_typing.specs.OperandTests.Parts as told

module _ (m : Module) where
  abbrev judged : Const → Judged
  judged = fold-Const Judged (judged_at_level m)

  -- the constants behind their types, judged
  abbrev parts_judged : List (Ty × Const) → List (Ty × Judged)
  parts_judged = constants.folded_parts Judged (judged_at_level m)

  number_is : (c : Const) → (judged c).number ≡ number_of c
  number_is = constants.by_parts (λ c. (judged c).number ≡ number_of c)
      (λ n. ap (λ (j : Judged). j.number) (constants.at_number Judged (judged_at_level m) n))
      (ap (λ (j : Judged). j.number) (constants.at_undef Judged (judged_at_level m)))
      (ap (λ (j : Judged). j.number) (constants.at_null Judged (judged_at_level m)))
      (λ x. ap (λ (j : Judged). j.number) (constants.at_global Judged (judged_at_level m) x))
      (λ inbounds of cs all. ap (λ (j : Judged). j.number) (constants.at_element Judged (judged_at_level m) inbounds of cs))
      (λ to cs all. ap (λ (j : Judged). j.number) (constants.at_cast Judged (judged_at_level m) to cs))

  index_is : (p : Ty × Const) → judged_index (p.0, judged p.1) ≡ index_told p
  index_is p = ap (λ (n : Option ℕ). record { ty = p.0; number = n }) (number_is p.1)

  indices_are : (ps : List (Ty × Const)) → map judged_index (parts_judged ps) ≡ map index_told ps
  indices_are [] = refl
  indices_are (p ∷ ps) = λ i. index_is p i ∷ indices_are ps i

  pub address_is : (of : Ty) (ps : List (Ty × Const)) (t : Ty) → address_of_parts m.types of (parts_judged ps) t ≡ address_told m.types of ps t
  address_is of [] t = refl
  address_is of (base ∷ indices) t = ap (λ (is : List Index). address_kind m.types of base.0 is t) (indices_are indices)

  pub parts_are : (ps : List (Ty × Const)) → meaning.parts_kind (parts_judged ps) ≡ told.parts_kind m ps
  parts_are [] = refl
  parts_are (p ∷ ps) = ap (least (constant_kind m p.0 p.1)) (parts_are ps)

  pub recast_is : (to : Ty) (ps : List (Ty × Const)) → meaning.recast_kind to (parts_judged ps) ≡ told.recast_kind to ps
  recast_is to [] = refl
  recast_is to (from ∷ []) = refl
  recast_is to (from ∷ other ∷ ps) = refl

  pub of_number : (t : Ty) (n : ℕ) → constant_kind m t (Number n) ≡ fault_unless (is_integer t) kind.OperandType
  of_number t n = ap (λ (j : Judged). j.kind_at t) (constants.at_number Judged (judged_at_level m) n)

  pub of_undef : (t : Ty) → constant_kind m t Undef ≡ fault_unless (is_first_class t) kind.OperandType
  of_undef t = ap (λ (j : Judged). j.kind_at t) (constants.at_undef Judged (judged_at_level m))

  pub of_null : (t : Ty) → constant_kind m t Null ≡ fault_unless (is_pointer t) kind.OperandType
  of_null t = ap (λ (j : Judged). j.kind_at t) (constants.at_null Judged (judged_at_level m))

  pub of_global : (t : Ty) (x : Name) → constant_kind m t (Global x) ≡ global_kind m x t
  of_global t x = ap (λ (j : Judged). j.kind_at t) (constants.at_global Judged (judged_at_level m) x)

  pub of_element : (t : Ty) (e : Bool × Ty × List (Ty × Const)) → constant_kind m t (Element e) ≡ least (told.parts_kind m e.2) (address_told m.types e.1 e.2 t)
  of_element t e =
      ap (λ (j : Judged). j.kind_at t) (constants.at_element Judged (judged_at_level m) e.0 e.1 e.2)
      ∙ ap (λ (k : Option ShapeKind). least k (address_of_parts m.types e.1 (parts_judged e.2) t)) (parts_are e.2)
      ∙ ap (least (told.parts_kind m e.2)) (address_is e.1 e.2 t)

  pub of_cast : (t : Ty) (c : Ty × List (Ty × Const))
      → constant_kind m t (Cast c) ≡ least (told.parts_kind m c.1) (least (fault_unless (same_ty c.0 t) kind.OperandType) (told.recast_kind c.0 c.1))
  of_cast t c =
      ap (λ (j : Judged). j.kind_at t) (constants.at_cast Judged (judged_at_level m) c.0 c.1)
      ∙ ap (λ (k : Option ShapeKind). least k (least (fault_unless (same_ty c.0 t) kind.OperandType) (meaning.recast_kind c.0 (parts_judged c.1)))) (parts_are c.1)
      ∙ ap (λ (k : Option ShapeKind). least (told.parts_kind m c.1) (least (fault_unless (same_ty c.0 t) kind.OperandType) k)) (recast_is c.0 c.1)

  -- as it is found of what is lent
  pub element_found : (t : Ty) (e f : Bool × Ty × List (Ty × Const)) (ps : List (Ty × Const)) (inside address kept : Option ShapeKind) → f ≡ e → ps ≡ f.2
      → inside ≡ told.parts_kind m ps → address ≡ address_told m.types f.1 ps t → kept ≡ least inside address → kept ≡ constant_kind m t (Element e)
  element_found t e f ps inside address kept lent parts fault at both =
      let all = parts ∙ ap (λ (g : Bool × Ty × List (Ty × Const)). g.2) lent in
      both ∙ ap (λ (k : Option ShapeKind). least k address) (fault ∙ ap (told.parts_kind m) all)
      ∙ ap (least (told.parts_kind m e.2)) (at ∙ ap (λ (g : Bool × Ty × List (Ty × Const)). address_told m.types g.1 ps t) lent ∙ ap (λ (qs : List (Ty × Const)). address_told m.types e.1 qs t) all)
      ∙ sym (of_element t e)

  pub cast_found : (t : Ty) (c d : Ty × List (Ty × Const)) (ps : List (Ty × Const)) (inside due recast further kept : Option ShapeKind) → d ≡ c → ps ≡ d.1
      → inside ≡ told.parts_kind m ps → due ≡ fault_unless (same_ty d.0 t) kind.OperandType → recast ≡ told.recast_kind d.0 ps → further ≡ least due recast → kept ≡ least inside further
      → kept ≡ constant_kind m t (Cast c)
  cast_found t c d ps inside due recast further kept lent parts fault same by some both =
      let all = parts ∙ ap (λ (g : Ty × List (Ty × Const)). g.1) lent in
      let to = ap (λ (g : Ty × List (Ty × Const)). g.0) lent in
      both ∙ ap (λ (k : Option ShapeKind). least k further) (fault ∙ ap (told.parts_kind m) all)
      ∙ ap (least (told.parts_kind m c.1))
      (some ∙ ap (λ (k : Option ShapeKind). least k recast) (same ∙ ap (λ (s : Ty). fault_unless (same_ty s t) kind.OperandType) to)
      ∙ ap (least (fault_unless (same_ty c.0 t) kind.OperandType)) (by ∙ ap (λ (s : Ty). told.recast_kind s ps) to ∙ ap (told.recast_kind c.0) all))
      ∙ sym (of_cast t c)
