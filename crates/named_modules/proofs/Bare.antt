-- What names something has no name where it defines none.
use Rattle.std.proofs.Common.{◌≡◌, ℕ, Bool, true, false, List, [], ◌∷◌, map, Option, Some, None, refl, sym, subst, ◌&&◌}
use Rattle.std.specs.Prelude.{not, is_some}
use Rattle.std.specs.List.{AllByRecursion, AllZip, filter, flat_map}
use Rattle.ir_core.specs.declared.modules.Module.{Module}
use Rattle.ir_core.specs.Functions.{name_set}
use Rattle.ir_types.specs.declared.names.Name.{Name}
use Rattle.module_grammar.specs.declared.flow.BlockText.{BlockText}
use Rattle.module_grammar.specs.declared.flow.PhiText.{PhiText}
use Rattle.module_grammar.specs.declared.lines.CallBodyText.{CallBodyText}
use Rattle.module_grammar.specs.declared.lines.CallBodyText.TheVariants as body
use Rattle.module_grammar.specs.declared.lines.InstructionText.{InstructionText}
use Rattle.module_grammar.specs.declared.lines.InstructionText.TheVariants as instruction
use Rattle.module_grammar.specs.declared.lines.LineText.{LineText}
use Rattle.module_grammar.specs.declared.lines.VoidCallText.{VoidCallText}
use Rattle.module_grammar.specs.declared.lines.VoidCallText.TheVariants as of_void
use Rattle.module_grammar.specs.declared.places.Placed.{Placed}
use Rattle.module_grammar.specs.declared.types.TypeText.{TypeText}
use Rattle.named_modules.specs.Built.{blocks_from, due_behind_line, due_behind_lines, due_behind_phis, kept_lines, line_at, lines_from, result_name, result_of}
use Rattle.named_modules.specs.Faults.{block_written, defined, line_written, sets}
use Rattle.named_modules.specs.Flow.{NamesBlock}
use Rattle.named_modules.specs.Lines.{AreLines, HasNone, IsBare, IsInstruction, IsLine, IsResultNamed, Stated, is_dropped, is_kept}
use Rattle.named_modules.specs.Values.{Registers}
use Rattle.named_modules.proofs.Lists.{all_append}
use Rattle.named_modules.proofs.NamesAre.{kept_behind}
use Rattle.named_modules.proofs.Ordered.{IsBareName}

pub all_defined : {A : Type 0} (name : A → Option (Placed Name)) (xs : List A) → AllByRecursion IsBareName (map (λ x. defined (name x)) xs)
all_defined name [] = tt
all_defined name (x ∷ xs) = (tt, all_defined name xs)

result_bare : (due : ℕ) (register : Option (Placed Name)) (of : Option TypeText) → IsResultNamed register (result_of of) (result_name due register of) → HasNone (not (is_some (result_name 0 None of))) register
result_bare due register None is = is.0
result_bare due register (Some w) is = tt

module _ (m : Module) (rs : Registers) (stated : Stated) where
  abbrev call : Bool → CallBodyText → InstructionText
  call tail b = instruction.Call (record { tail = tail; body = b })

  void_bare : (due : ℕ) (register : Option (Placed Name)) (tail is_stated : Bool) (v : VoidCallText) → IsInstruction m rs stated register (call tail (body.Void (record { is_stated = is_stated; call = v }))) (line_at m.types due register (call tail (body.Void (record { is_stated = is_stated; call = v })))) → is_dropped (call tail (body.Void (record { is_stated = is_stated; call = v }))) ≡ false → HasNone (not (sets (call tail (body.Void (record { is_stated = is_stated; call = v }))))) register
  void_bare due register tail is_stated (of_void.Call x end) is kept = is.0.0
  void_bare due register tail is_stated (of_void.Debug x attributes) is kept = cc

  call_bare : (due : ℕ) (register : Option (Placed Name)) (tail : Bool) (b : CallBodyText) → IsInstruction m rs stated register (call tail b) (line_at m.types due register (call tail b)) → is_dropped (call tail b) ≡ false → HasNone (not (sets (call tail b))) register
  call_bare due register tail (body.Convention attributes c end) is kept = result_bare due register c.result is.0
  call_bare due register tail (body.Attributes first others c end) is kept = result_bare due register c.result is.0
  call_bare due register tail (body.Typed t c x end) is kept = tt
  call_bare due register tail (body.Void v) is kept = void_bare due register tail v.is_stated v.call is kept

  instruction_bare : (due : ℕ) (register : Option (Placed Name)) (i : InstructionText) → IsInstruction m rs stated register i (line_at m.types due register i) → is_dropped i ≡ false → HasNone (not (sets i)) register
  instruction_bare due register (instruction.Operation w) is kept = tt
  instruction_bare due register (instruction.Element w) is kept = tt
  instruction_bare due register (instruction.Alloca w) is kept = tt
  instruction_bare due register (instruction.Load w) is kept = tt
  instruction_bare due register (instruction.Store w) is kept = is.0
  instruction_bare due register (instruction.Call w) is kept = call_bare due register w.tail w.body is kept

  lines_bare : (due : ℕ) (ws : List LineText) → AreLines m rs stated ws (lines_from m.types due (filter is_kept ws)) → AllByRecursion IsBareName (map line_written ws)
  lines_bare due [] are = tt
  lines_bare due (w ∷ ws) are = by (is_dropped w.attached.instruction) refl are.0 are.1 (λ next more. lines_bare next ws more)
    where
      by : (b : Bool) → is_dropped w.attached.instruction ≡ b → HasNone b w.register × AllByRecursion IsBare ws → AllZip (IsLine m rs stated) (kept_behind b w (filter is_kept ws)) (lines_from m.types due (kept_behind b w (filter is_kept ws))) → ((next : ℕ) → AreLines m rs stated ws (lines_from m.types next (filter is_kept ws)) → AllByRecursion IsBareName (map line_written ws)) → IsBareName (line_written w) × AllByRecursion IsBareName (map line_written ws)
      by true is bare zip more =
          (subst (λ d. HasNone (not (not d && is_some (name_set (line_at [] 0 None w.attached.instruction)))) w.register) (sym is) bare.0, more due (bare.1, zip))
      by false is bare zip more =
          (instruction_bare due w.register w.attached.instruction zip.0 is, more (due_behind_line m.types due w) (bare.1, zip.1))

  pub blocks_bare : (labels : List Name) (due : ℕ) (ws : List BlockText) → AllZip (NamesBlock m rs stated labels) ws (blocks_from m.types due ws) → AllByRecursion IsBareName (flat_map block_written ws)
  blocks_bare labels due [] zip = tt
  blocks_bare labels due (w ∷ ws) zip =
      let phis = all_defined (λ (p : PhiText). p.register) w.body.phis in
      let lines = lines_bare (due_behind_phis due w) w.body.lines zip.0.lines in
      let more = blocks_bare labels (due_behind_lines m.types (due_behind_phis due w) (kept_lines w)) ws zip.1 in
      let inside = all_append IsBareName (map (λ (p : PhiText). defined p.register) w.body.phis) (map line_written w.body.lines) phis lines in
      all_append IsBareName (block_written w) (flat_map block_written ws) (tt, inside) more
