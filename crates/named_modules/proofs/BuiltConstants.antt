-- The constant that is built, at each kind of constant.
use Rattle.std.proofs.Common.{◌≡◌, ◌∙◌, ℕ, Bool, List, [], ◌∷◌, map, ap, refl}
use Rattle.ir_core.specs.declared.operands.Const as constant
use Rattle.ir_core.specs.declared.operands.Const.{Const}
use Rattle.ir_types.specs.declared.ty.Ty.{Ty}
use Rattle.module_grammar.specs.declared.constants.ConstText.{ConstText, Int, Null, Undef, Global, Element, Cast}
use Rattle.module_grammar.specs.declared.constants.GlobalNameText.{GlobalNameText}
use Rattle.module_grammar.specs.declared.constants.IntText.{IntText}
use Rattle.module_grammar.specs.declared.types.TypeText.{TypeText}
use Rattle.named_modules.specs.Constants.{built_part, const_at_level, const_of, global_name, number_or_undef}
use Rattle.named_modules.specs.Types.{int_of, type_of}
use Rattle.named_modules.proofs.ConstKinds as kind
use Rattle.named_modules.specs.Parts.{part_of, parts_of}

parts : (ps : List (TypeText × ConstText)) → map built_part (map (λ c. (c.0, const_of c.1)) ps) ≡ parts_of ps
parts [] = refl
parts (p ∷ ps) = ap (λ qs. part_of p ∷ qs) (parts ps)

module _ (t : Ty) where
  pub of_int : (i : IntText) → const_of (Int i) t ≡ number_or_undef (int_of t i)
  of_int i = ap (λ (f : Ty → Const). f t) (kind.at_int (Ty → Const) const_at_level i)

  pub of_null : (at : ℕ) → const_of (Null at) t ≡ constant.Null
  of_null at = ap (λ (f : Ty → Const). f t) (kind.at_null (Ty → Const) const_at_level at)

  pub of_undef : const_of Undef t ≡ constant.Undef
  of_undef = ap (λ (f : Ty → Const). f t) (kind.at_undef (Ty → Const) const_at_level)

  pub of_global : (g : GlobalNameText) → const_of (Global g) t ≡ constant.Global (global_name g).what
  of_global g = ap (λ (f : Ty → Const). f t) (kind.at_global (Ty → Const) const_at_level g)

  pub of_element : (at : ℕ) (inbounds : Bool) (e : TypeText × TypeText × ConstText × List (TypeText × ConstText))
      → const_of (Element at inbounds e) t ≡ constant.Element (inbounds, type_of e.0, part_of (e.1, e.2) ∷ parts_of e.3)
  of_element at inbounds e =
      ap (λ (f : Ty → Const). f t) (kind.at_element (Ty → Const) const_at_level at inbounds e.0 e.1 e.2 e.3)
      ∙ ap (λ ps. constant.Element (inbounds, type_of e.0, part_of (e.1, e.2) ∷ ps)) (parts e.3)

  pub of_cast : (at : ℕ) (c : TypeText × ConstText × TypeText) → const_of (Cast at c) t ≡ constant.Cast (type_of c.2, part_of (c.0, c.1) ∷ [])
  of_cast at c = ap (λ (f : Ty → Const). f t) (kind.at_cast (Ty → Const) const_at_level at c.0 c.1 c.2)
