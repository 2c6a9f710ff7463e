-- What initialisers behind their types name, and which parts they are of a whole.
use Rattle.std.proofs.Common.{◌≡◌, ◌∙◌, suc, Bool, true, List, [], ◌∷◌, map, length, Option, Some, None, refl, ap, sym}
use Rattle.std.specs.List.{AllZip, list_all}
use Rattle.std.proofs.lemmas.Bool.{and_from, and_parts}
use Rattle.ir_types.specs.declared.ty.Ty.{Ty}
use Rattle.ir_types.specs.Same.{same_list, same_ty}
use Rattle.ir_core.specs.declared.modules.Init.{Init}
use Rattle.ir_core.specs.declared.modules.Module.{Module}
use Rattle.ir_core.specs.Typing.{are_parts, init_at_level}
use Rattle.ir_core.proofs.Inits as fold
use Rattle.module_grammar.specs.declared.constants.InitText.{InitText}
use Rattle.module_grammar.specs.declared.types.TypeText.{TypeText}
use Rattle.named_modules.specs.Constants.{IsInit, are_types, built_init_part, fitting_part, init_fits, init_of}
use Rattle.named_modules.specs.Types.{is_type, type_of}
use Rattle.named_modules.proofs.ConstKinds.{told_each}

module _ (m : Module) where
  pub record NamesInitPart (w : TypeText × InitText) (p : Ty × Init) : Type 0 where
    pub type : type_of w.0 ≡ p.0
    pub known : is_type m w.0 ≡ true
    pub init : IsInit m p.0 w.1 p.1

  -- what is asked of parts at their types, and what is written for them
  abbrev pub typed_parts : List (Ty × Init) → List (Ty × (Ty → Bool))
  typed_parts = fold.folded_parts (Ty → Bool) (init_at_level m)

  abbrev pub fitting_parts : List (TypeText × InitText) → List (TypeText × (Ty → Bool))
  fitting_parts = told_each (init_fits m)

  built_is : (w : TypeText × InitText) (p : Ty × Init) → NamesInitPart w p → built_init_part (w.0, init_of w.1) ≡ p
  built_is w p named = ap (λ t. (t, init_of w.1 t)) named.type ∙ ap (λ i. (p.0, i)) (sym named.init.0)

  pub inits_built : (ws : List (TypeText × InitText)) (ps : List (Ty × Init)) → AllZip NamesInitPart ws ps → map built_init_part (told_each init_of ws) ≡ ps
  inits_built [] [] zip = refl
  inits_built [] (p ∷ ps) zip = absurd zip
  inits_built (w ∷ ws) [] zip = absurd zip
  inits_built (w ∷ ws) (p ∷ ps) zip =
      ap (λ q. q ∷ map built_init_part (told_each init_of ws)) (built_is w p zip.0) ∙ ap (λ qs. p ∷ qs) (inits_built ws ps zip.1)

  pub inits_known : (ws : List (TypeText × InitText)) (ps : List (Ty × Init)) → AllZip NamesInitPart ws ps → are_types m (fitting_parts ws) ≡ true
  inits_known [] [] zip = refl
  inits_known [] (p ∷ ps) zip = absurd zip
  inits_known (w ∷ ws) [] zip = absurd zip
  inits_known (w ∷ ws) (p ∷ ps) zip = and_from (is_type m w.0) (are_types m (fitting_parts ws)) zip.0.known (inits_known ws ps zip.1)

  pub same_count : (ws : List (TypeText × InitText)) (ps : List (Ty × Init)) → AllZip NamesInitPart ws ps → length (fitting_parts ws) ≡ length (typed_parts ps)
  same_count [] [] zip = refl
  same_count [] (p ∷ ps) zip = absurd zip
  same_count (w ∷ ws) [] zip = absurd zip
  same_count (w ∷ ws) (p ∷ ps) zip = ap suc (same_count ws ps zip.1)

  same_types : (ws : List (TypeText × InitText)) (ps : List (Ty × Init)) → AllZip NamesInitPart ws ps → map (λ q. q.0) (map fitting_part (fitting_parts ws)) ≡ map (λ q. q.0) (typed_parts ps)
  same_types [] [] zip = refl
  same_types [] (p ∷ ps) zip = absurd zip
  same_types (w ∷ ws) [] zip = absurd zip
  same_types (w ∷ ws) (p ∷ ps) zip =
      ap (λ t. t ∷ map (λ q. q.0) (map fitting_part (fitting_parts ws))) zip.0.type ∙ ap (λ ts. p.0 ∷ ts) (same_types ws ps zip.1)

  each_fits : (ws : List (TypeText × InitText)) (ps : List (Ty × Init)) → AllZip NamesInitPart ws ps → list_all (λ q. q.1 q.0) (map fitting_part (fitting_parts ws)) ≡ true
  each_fits [] [] zip = refl
  each_fits [] (p ∷ ps) zip = absurd zip
  each_fits (w ∷ ws) [] zip = absurd zip
  each_fits (w ∷ ws) (p ∷ ps) zip =
      and_from (init_fits m w.1 (type_of w.0)) (list_all (λ q. q.1 q.0) (map fitting_part (fitting_parts ws))) (ap (init_fits m w.1) zip.0.type ∙ zip.0.init.1) (each_fits ws ps zip.1)

  pub parts_are : (o : Option (List Ty)) (ws : List (TypeText × InitText)) (ps : List (Ty × Init)) → AllZip NamesInitPart ws ps → are_parts o (typed_parts ps) ≡ true
      → are_parts o (map fitting_part (fitting_parts ws)) ≡ true
  parts_are None ws ps zip are = absurd (cc)
  parts_are (Some types) ws ps zip are =
      and_from (same_list same_ty types (map (λ q. q.0) (map fitting_part (fitting_parts ws)))) (list_all (λ q. q.1 q.0) (map fitting_part (fitting_parts ws)))
      (ap (same_list same_ty types) (same_types ws ps zip) ∙ (and_parts (same_list same_ty types (map (λ q. q.0) (typed_parts ps))) _ are).0) (each_fits ws ps zip)
