-- Lines that are kept, and name those that were printed.
use Rattle.std.proofs.Common.{◌≡◌, ◌∙◌, Bool, true, false, not, List, [], ◌∷◌, Option, refl, ap, subst, sym}
use Rattle.std.specs.List.{AllByRecursion, AllZip, filter}
use Rattle.std.proofs.lemmas.Bool.{cond-true}
use Rattle.ir_core.specs.declared.functions.Instr.{Instr}
use Rattle.ir_core.specs.declared.modules.Module.{Module}
use Rattle.ir_types.specs.declared.names.Name.{Name}
use Rattle.module_grammar.specs.declared.lines.LineText.{LineText}
use Rattle.module_grammar.specs.declared.places.Placed.{Placed}
use Rattle.named_modules.specs.Lines.{AreLines, HasNone, IsBare, IsLine, Stated, is_dropped, is_kept}
use Rattle.named_modules.specs.Values.{Registers}
use Rattle.printed_modules.proofs.Tidy.{IsTidyLine}

-- the line names that one, and isn't dropped
pub record NamesLine (m : Module) (rs : Registers) (stated : Stated) (w : LineText) (i : Instr) : Type 0 where
  pub is : IsLine m rs stated w i
  pub kept : is_dropped w.attached.instruction ≡ false
  pub tidy : IsTidyLine w

bare : (dropped : Bool) (register : Option (Placed Name)) → dropped ≡ false → HasNone dropped register
bare true register kept = cc
bare false register kept = tt

module _ (m : Module) (rs : Registers) (stated : Stated) where
  all_bare : (ws : List LineText) (is : List Instr) → AllZip (NamesLine m rs stated) ws is → AllByRecursion IsBare ws
  all_bare [] is zip = tt
  all_bare (w ∷ ws) [] zip = absurd zip
  all_bare (w ∷ ws) (i ∷ is) zip = (bare (is_dropped w.attached.instruction) w.register zip.0.kept, all_bare ws is zip.1)

  all_kept : (ws : List LineText) (is : List Instr) → AllZip (NamesLine m rs stated) ws is → ws ≡ filter is_kept ws
  all_kept [] is zip = refl
  all_kept (w ∷ ws) [] zip = absurd zip
  all_kept (w ∷ ws) (i ∷ is) zip =
      ap (λ more. w ∷ more) (all_kept ws is zip.1) ∙ sym (cond-true (is_kept w) (w ∷ filter is_kept ws) (filter is_kept ws) (ap not zip.0.kept))

  all_named : (ws : List LineText) (is : List Instr) → AllZip (NamesLine m rs stated) ws is → AllZip (IsLine m rs stated) ws is
  all_named [] [] zip = tt
  all_named [] (i ∷ is) zip = absurd zip
  all_named (w ∷ ws) [] zip = absurd zip
  all_named (w ∷ ws) (i ∷ is) zip = (zip.0.is, all_named ws is zip.1)

  pub are_lines : (ws : List LineText) (is : List Instr) → AllZip (NamesLine m rs stated) ws is → AreLines m rs stated ws is
  are_lines ws is zip =
      (all_bare ws is zip, subst (λ kept. AllZip (IsLine m rs stated) kept is) (all_kept ws is zip) (all_named ws is zip))

  pub all_tidy : (ws : List LineText) (is : List Instr) → AllZip (NamesLine m rs stated) ws is → AllByRecursion IsTidyLine ws
  all_tidy [] is zip = tt
  all_tidy (w ∷ ws) [] zip = absurd zip
  all_tidy (w ∷ ws) (i ∷ is) zip = (zip.0.tidy, all_tidy ws is zip.1)
