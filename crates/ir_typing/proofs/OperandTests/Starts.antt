-- What is wrong with initialisers that are lists.
use Rattle.std.proofs.Common.{◌≡◌, ◌∙◌, ◌&&◌, Bool, true, false, cond, List, [], ◌∷◌, length, map, replicate, Option, None, Some, refl, sym, ap}
use Rattle.std.specs.Prelude.{nat_eq}
use Rattle.ir_core.specs.declared.modules.Init.{Init, fold-Init}
use Rattle.ir_core.specs.declared.modules.Init as init
use Rattle.ir_core.specs.declared.modules.Module.{Module}
use Rattle.ir_core.specs.Typing.{parts_of_array, parts_of_struct}
use Rattle.ir_core.proofs.Inits as inits
use Rattle.ir_types.specs.declared.named.NamedTy.{NamedTy}
use Rattle.ir_types.specs.declared.ty.Ty.{Ty, out-Ty}
use Rattle.ir_types.specs.declared.ty.Ty.TheOpen.{Ty-F}
use Rattle.ir_types.specs.declared.ty.Ty.TheOpen as level
use Rattle.ir_types.specs.Same.{same_list, same_ty}
use Rattle.ir_typing.specs.declared.shape_kinds.kind.ShapeKind.{ShapeKind}
use Rattle.ir_typing.specs.declared.shape_kinds.kind.ShapeKind.TheVariants as kind
use Rattle.ir_typing.specs.ShapeKinds.Kinds.{fault_unless, least, least_of}
use Rattle.ir_typing.specs.OperandTests.Inits.{Part, are_stated, init_kind, init_kind_at}
use Rattle.ir_typing.specs.OperandTests.Starts.{are_alike, are_elements, are_fields, elements_at_level, parts_kind, stated}

alike : (t : Ty) (ps : List (Ty × Init)) → same_list same_ty (replicate (length ps) t) (map stated ps) ≡ are_alike t ps
alike t [] = refl
alike t (p ∷ ps) = ap (λ b. same_ty t p.0 && b) (alike t ps)

counted : (b : Bool) (types given : List Ty) → are_stated (cond b (Some types) None) given ≡ (b && same_list same_ty types given)
counted true types given = refl
counted false types given = refl

elements : (types : List NamedTy) (l : Ty-F Ty) (ps : List (Ty × Init)) → are_stated (parts_of_array types l (length ps)) (map stated ps) ≡ elements_at_level l ps
elements types (level.Array count element) ps =
    counted (nat_eq count (length ps)) (replicate (length ps) element) (map stated ps) ∙ ap (λ b. nat_eq count (length ps) && b) (alike element ps)
elements types (level.Int width) ps = refl
elements types (level.Ptr t) ps = refl
elements types (level.Struct ts) ps = refl
elements types (level.Named x) ps = refl
elements types level.Void ps = refl

module _ (m : Module) where
  -- the parts behind their types, each with what is wrong with it at each type
  abbrev kinds : List (Ty × Init) → List Part
  kinds = inits.folded_parts (Ty → Option ShapeKind) (init_kind_at m)

  as_long : (ps : List (Ty × Init)) → length (kinds ps) ≡ length ps
  as_long [] = refl
  as_long (p ∷ ps) = cc (as_long ps)

  as_stated : (ps : List (Ty × Init)) → map (λ (p : Part). p.0) (kinds ps) ≡ map stated ps
  as_stated [] = refl
  as_stated (p ∷ ps) = ap (λ (ts : List Ty). p.0 ∷ ts) (as_stated ps)

  inside : (ps : List (Ty × Init)) → least_of (map (λ (p : Part). p.1 p.0) (kinds ps)) ≡ parts_kind m ps
  inside [] = refl
  inside (p ∷ ps) = ap (least (init_kind m p.0 p.1)) (inside ps)

  pub of_array : (t : Ty) (ps : List (Ty × Init)) → init_kind m t (init.Array ps) ≡ least (fault_unless (are_elements t ps) kind.OperandType) (parts_kind m ps)
  of_array t ps =
      let given : Bool → Option ShapeKind → Option ShapeKind = λ b k. least (fault_unless b kind.OperandType) k in
      let tested = ap (λ n. are_stated (parts_of_array m.types (out-Ty t) n) (map (λ (p : Part). p.0) (kinds ps))) (as_long ps)
      ∙ ap (are_stated (parts_of_array m.types (out-Ty t) (length ps))) (as_stated ps) ∙ elements m.types (out-Ty t) ps in
      ap (λ (f : Ty → Option ShapeKind). f t) (inits.at_array (Ty → Option ShapeKind) (init_kind_at m) ps)
      ∙ ap (λ b. given b (least_of (map (λ (p : Part). p.1 p.0) (kinds ps)))) tested ∙ ap (given (are_elements t ps)) (inside ps)

  pub of_struct : (t : Ty) (ps : List (Ty × Init)) → init_kind m t (init.Struct ps) ≡ least (fault_unless (are_fields m.types t ps) kind.OperandType) (parts_kind m ps)
  of_struct t ps =
      let given : Bool → Option ShapeKind → Option ShapeKind = λ b k. least (fault_unless b kind.OperandType) k in
      ap (λ (f : Ty → Option ShapeKind). f t) (inits.at_struct (Ty → Option ShapeKind) (init_kind_at m) ps)
      ∙ ap (λ b. given b (least_of (map (λ (p : Part). p.1 p.0) (kinds ps)))) (ap (are_stated (parts_of_struct m.types (out-Ty t))) (as_stated ps))
      ∙ ap (given (are_fields m.types t ps)) (inside ps)

  -- as it is found of what is lent
  pub list_found : (test : List (Ty × Init) → Bool) (ps qs : List (Ty × Init)) (b : Bool) (within due kept whole : Option ShapeKind) → qs ≡ ps → within ≡ parts_kind m qs → b ≡ test qs
      → due ≡ fault_unless b kind.OperandType → kept ≡ least due within → whole ≡ least (fault_unless (test ps) kind.OperandType) (parts_kind m ps) → kept ≡ whole
  list_found test ps qs b within due kept whole lent fault tested told both all =
      both ∙ ap (λ (k : Option ShapeKind). least k within) (told ∙ ap (λ c. fault_unless c kind.OperandType) (tested ∙ ap test lent))
      ∙ ap (least (fault_unless (test ps) kind.OperandType)) (fault ∙ ap (parts_kind m) lent) ∙ sym all
