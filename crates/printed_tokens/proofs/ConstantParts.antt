-- What constants behind their types name, and how what is written of them hangs together.
use Rattle.std.proofs.Common.{◌≡◌, ◌∙◌, ℕ, true, List, [], ◌∷◌, ◌++◌, map, Option, append_assoc, refl, ap, sym}
use Rattle.std.specs.List.{AllZip, list_all}
use Rattle.std.proofs.lemmas.Bool.{and_from}
use Rattle.ir_types.specs.declared.ty.Ty.{Ty}
use Rattle.ir_core.specs.declared.modules.Module.{Module}
use Rattle.ir_core.specs.declared.operands.Const.{Const}
use Rattle.ir_core.specs.Typing.{Index, index_at}
use Rattle.module_grammar.specs.declared.constants.ConstText.{ConstText}
use Rattle.module_grammar.specs.declared.types.TypeText.{TypeText}
use Rattle.module_grammar.specs.Symbols.{Symbol}
use Rattle.named_modules.specs.Constants.{Judged, built_part, const_fits, const_of, index_part, judged, part_fits}
use Rattle.named_modules.specs.Types.{is_value_type, type_of}
use Rattle.named_modules.proofs.ConstKinds.{told_each}
use Rattle.printed_tokens.proofs.ConstantTypes.{fitted, fitted_parts}

-- ---- what is written

pub element_grouped : (i o a c f z : List Symbol) (p q : Symbol) → ((i ++ (p ∷ o)) ++ (q ∷ ((a ++ c) ++ f))) ++ z ≡ i ++ (p ∷ (o ++ (q ∷ (a ++ (c ++ (f ++ z))))))
element_grouped i o a c f z p q =
    append_assoc (i ++ (p ∷ o)) (q ∷ ((a ++ c) ++ f)) z
    ∙ append_assoc i (p ∷ o) (q ∷ (((a ++ c) ++ f) ++ z))
    ∙ ap (λ l. i ++ (p ∷ (o ++ (q ∷ l)))) (append_assoc (a ++ c) f z ∙ append_assoc a c (f ++ z))

pub cast_grouped : (a c t z : List Symbol) (q : Symbol) → (((a ++ c) ++ (q ∷ [])) ++ t) ++ z ≡ a ++ (c ++ (q ∷ (t ++ z)))
cast_grouped a c t z q =
    append_assoc ((a ++ c) ++ (q ∷ [])) t z
    ∙ append_assoc (a ++ c) (q ∷ []) (t ++ z)
    ∙ append_assoc a c (q ∷ (t ++ z))

module _ (m : Module) where
  -- ---- what a constant names, with what is asked of it as an index

  pub record NamesConst (t : Ty) (w : ConstText) (c : Const) : Type 0 where
    pub is : c ≡ const_of w t
    pub fits : const_fits m w t ≡ true
    pub number : (judged m w).number t ≡ (fitted m c).number

  pub record NamesPart (w : TypeText × ConstText) (c : Ty × Const) : Type 0 where
    pub type : type_of w.0 ≡ c.0
    pub value : is_value_type m w.0 ≡ true
    pub constant : NamesConst c.0 w.1 c.1

  abbrev pub judged_parts : List (TypeText × ConstText) → List (TypeText × Judged)
  judged_parts = told_each (judged m)

  built_is : (w : TypeText × ConstText) (c : Ty × Const) → NamesPart w c → built_part (w.0, const_of w.1) ≡ c
  built_is w c named = ap (λ t. (t, const_of w.1 t)) named.type ∙ ap (λ d. (c.0, d)) (sym named.constant.is)

  part_is : (w : TypeText × ConstText) (c : Ty × Const) → NamesPart w c → part_fits m (w.0, judged m w.1) ≡ true
  part_is w c named = and_from (is_value_type m w.0) _ named.value (ap (λ t. const_fits m w.1 t) named.type ∙ named.constant.fits)

  index_is : (w : TypeText × ConstText) (c : Ty × Const) → NamesPart w c → index_part (w.0, judged m w.1) ≡ index_at (c.0, fitted m c.1)
  index_is w c named =
      let index : Ty → Option ℕ → Index = λ t n. record { ty = t; number = n } in
      ap (λ t. index t ((judged m w.1).number t)) named.type ∙ ap (index c.0) named.constant.number

  pub parts_built : (ws : List (TypeText × ConstText)) (cs : List (Ty × Const)) → AllZip NamesPart ws cs → map built_part (told_each const_of ws) ≡ cs
  parts_built [] [] zip = refl
  parts_built [] (c ∷ cs) zip = absurd zip
  parts_built (w ∷ ws) [] zip = absurd zip
  parts_built (w ∷ ws) (c ∷ cs) zip =
      ap (λ d. d ∷ map built_part (told_each const_of ws)) (built_is w c zip.0) ∙ ap (λ ds. c ∷ ds) (parts_built ws cs zip.1)

  pub parts_fit : (ws : List (TypeText × ConstText)) (cs : List (Ty × Const)) → AllZip NamesPart ws cs → list_all (part_fits m) (judged_parts ws) ≡ true
  parts_fit [] [] zip = refl
  parts_fit [] (c ∷ cs) zip = absurd zip
  parts_fit (w ∷ ws) [] zip = absurd zip
  parts_fit (w ∷ ws) (c ∷ cs) zip = and_from (part_fits m (w.0, judged m w.1)) (list_all (part_fits m) (judged_parts ws)) (part_is w c zip.0) (parts_fit ws cs zip.1)

  pub same_indices : (ws : List (TypeText × ConstText)) (cs : List (Ty × Const)) → AllZip NamesPart ws cs → map index_part (judged_parts ws) ≡ map index_at (fitted_parts m cs)
  same_indices [] [] zip = refl
  same_indices [] (c ∷ cs) zip = absurd zip
  same_indices (w ∷ ws) [] zip = absurd zip
  same_indices (w ∷ ws) (c ∷ cs) zip =
      ap (λ i. i ∷ map index_part (judged_parts ws)) (index_is w c zip.0) ∙ ap (λ is. index_at (c.0, fitted m c.1) ∷ is) (same_indices ws cs zip.1)
