-- The lines of a block behind its phis.
use Rattle.std.proofs.Common.{◌≡◌, ℕ, false, List, [], ◌∷◌, ◌++◌, Some, None, append-nil, refl, ap, sym}
use Rattle.ir_core.specs.declared.expressions.Expr.{Expr}
use Rattle.ir_core.specs.declared.functions.Calm.{Calm}
use Rattle.ir_core.specs.declared.functions.Alloca.{Alloca}
use Rattle.ir_core.specs.declared.functions.Store.{Store}
use Rattle.ir_core.specs.declared.functions.Instr.{Instr}
use Rattle.ir_core.specs.declared.functions.Instr.TheVariants as instr
use Rattle.ir_core.specs.declared.modules.Module.{Module}
use Rattle.ir_core.specs.Ranges.{IsNameInRange}
use Rattle.ir_types.specs.declared.names.Name.{Name}
use Rattle.ir_printer.specs.Printed.{indented, instr_text, set_text}
use Rattle.module_grammar.specs.declared.lines.InstructionText.{InstructionText}
use Rattle.module_grammar.specs.declared.lines.InstructionText.TheVariants as instruction
use Rattle.module_grammar.specs.declared.lines.LineText.{LineText}
use Rattle.module_grammar.specs.declared.places.Placed.{Placed}
use Rattle.module_grammar.specs.declared.words.Language.TheVariants.{Ir}
use Rattle.module_grammar.specs.Lines as lines
use Rattle.module_grammar.specs.Symbols.{Local, Symbol}
use Rattle.module_grammar.specs.Symbols as symbols
use Rattle.named_modules.specs.Lines.{IsRight, Stated, is_dropped}
use Rattle.named_modules.specs.Values.{Registers}
use Rattle.printed_modules.proofs.Calls.{CalledAreWhole, call}
use Rattle.printed_modules.proofs.Calm.{IsNoCall, calm_instruction}
use Rattle.printed_modules.proofs.Fit.{FitsAlloca, FitsLine, FitsRight, FitsStore}
use Rattle.printed_modules.proofs.Lays.{Lays, of_calm}
use Rattle.printed_modules.proofs.Memory.{NamesAlloca, alloca, store}
use Rattle.printed_modules.proofs.NamedLines.{NamesLine}
use Rattle.printed_modules.proofs.Operations.{right}
use Rattle.printed_modules.proofs.Phis.{on_line, set}
use Rattle.printed_modules.proofs.Tidy.{IsTidyInstruction}
use Rattle.printed_tokens.proofs.ModuleTypes.{HasNames}
use Rattle.printed_tokens.proofs.Prints.{Prints, both, read_as}
use Rattle.printed_tokens.proofs.ReadTexts.{Any, Stops}

not_dropped : (w : InstructionText) → IsNoCall w → is_dropped w ≡ false
not_dropped (instruction.Call c) other = absurd other
not_dropped (instruction.Operation o) other = refl
not_dropped (instruction.Element e) other = refl
not_dropped (instruction.Alloca a) other = refl
not_dropped (instruction.Load l) other = refl
not_dropped (instruction.Store s) other = refl

module _ (m : Module) (names : HasNames m) (rs : Registers) (labels : List Name) where
  no_call : (w : InstructionText) (e : Expr Name) → IsRight m rs w e → IsNoCall w
  no_call (instruction.Call c) e is = absurd is
  no_call (instruction.Operation o) e is = tt
  no_call (instruction.Element x) e is = tt
  no_call (instruction.Alloca a) e is = tt
  no_call (instruction.Load l) e is = tt
  no_call (instruction.Store s) e is = tt

  right_tidy : (w : InstructionText) (e : Expr Name) → IsRight m rs w e → IsTidyInstruction w
  right_tidy (instruction.Alloca a) e is = absurd is
  right_tidy (instruction.Call c) e is = tt
  right_tidy (instruction.Operation o) e is = tt
  right_tidy (instruction.Element x) e is = tt
  right_tidy (instruction.Load l) e is = tt
  right_tidy (instruction.Store s) e is = tt

  -- ---- lines that set a register, but by a call

  abbrev set_row : Placed Name × InstructionText → List Symbol
  set_row w = Local w.0 ∷ symbols.equals ∷ lines.instruction w.1

  abbrev set_line : Placed Name × InstructionText → LineText
  set_line w = record { register = Some w.0; attached = record { instruction = w.1; attachments = [] } }

  sets :
      {N : InstructionText → Type 0} {text : List ℕ} (i : Instr) (x : Name) → IsNameInRange x → ((w : InstructionText) → N w → IsNoCall w)
      → ((stated : Stated) (r : Placed Name) (w : InstructionText) → x ≡ r.what → N w → NamesLine m rs stated (set_line (r, w)) i)
      → Prints Ir Stops lines.instruction N text
      → Lays Any lines.line (λ stated (w : LineText). NamesLine m rs stated w i) (indented (set_text x ++ text))
  sets {N} i x range other named p =
      of_calm lines.line (λ stated (w : LineText). NamesLine m rs stated w i) set_line
      (λ t is. ap (λ l. Local t.0 ∷ symbols.equals ∷ l) (sym (append-nil (lines.instruction t.1)))) (λ stated t is. named stated t.0 t.1 is.0 is.1)
      (λ t is. λ e. cc) (λ t is. calm_instruction t.1 (other t.1 is.1))
      (read_as Ir set_row (λ (w : Placed Name × InstructionText). (x ≡ w.0.what) × N w.1) (λ t. t) (λ t is. refl) (λ t is. is)
      (on_line (both Ir (set x range) p (λ rest end. tt))))

  calm : (c : Calm) → IsNameInRange c.name → FitsRight m rs labels c.right
      → Lays Any lines.line (λ stated (w : LineText). NamesLine m rs stated w (instr.Calm c)) (indented (instr_text m.declarations (instr.Calm c)))
  calm c range fits =
      sets (instr.Calm c) c.name range (λ w is. no_call w c.right is)
      (λ stated r w at is. record { is = (at, is); kept = not_dropped w (no_call w c.right is); tidy = right_tidy w c.right is })
      (right m names rs labels c.right fits)

  abbrev IsAllocaOf : Alloca → InstructionText → Type 0
  IsAllocaOf a (instruction.Alloca w) = NamesAlloca m names rs labels a w
  IsAllocaOf a w = ⊥

  alloca_other : (a : Alloca) (w : InstructionText) → IsAllocaOf a w → IsNoCall w
  alloca_other a (instruction.Alloca w) is = tt
  alloca_other a (instruction.Call w) is = absurd is
  alloca_other a (instruction.Operation w) is = absurd is
  alloca_other a (instruction.Element w) is = absurd is
  alloca_other a (instruction.Load w) is = absurd is
  alloca_other a (instruction.Store w) is = absurd is

  alloca_named : (a : Alloca) (stated : Stated) (r : Placed Name) (w : InstructionText) → a.name ≡ r.what → IsAllocaOf a w → NamesLine m rs stated (set_line (r, w)) (instr.Alloca a)
  alloca_named a stated r (instruction.Alloca w) at is = record { is = (at, is.0); kept = refl; tidy = is.1 }
  alloca_named a stated r (instruction.Call w) at is = absurd is
  alloca_named a stated r (instruction.Operation w) at is = absurd is
  alloca_named a stated r (instruction.Element w) at is = absurd is
  alloca_named a stated r (instruction.Load w) at is = absurd is
  alloca_named a stated r (instruction.Store w) at is = absurd is

  alloca_line : (a : Alloca) → FitsAlloca m rs labels a
      → Lays Any lines.line (λ stated (w : LineText). NamesLine m rs stated w (instr.Alloca a)) (indented (instr_text m.declarations (instr.Alloca a)))
  alloca_line a fits =
      sets (instr.Alloca a) a.name fits.name (alloca_other a) (alloca_named a)
      (read_as Ir lines.instruction (IsAllocaOf a) instruction.Alloca (λ t is. refl) (λ t is. is) (alloca m names rs labels a fits))

  -- ---- lines without register

  store_line : (s : Store) → FitsStore m rs labels s
      → Lays Any lines.line (λ stated (w : LineText). NamesLine m rs stated w (instr.Store s)) (indented (instr_text m.declarations (instr.Store s)))
  store_line s fits =
      of_calm lines.line (λ stated (w : LineText). NamesLine m rs stated w (instr.Store s))
      (λ w. record { register = None; attached = record { instruction = instruction.Store w; attachments = [] } })
      (λ w is. sym (append-nil (lines.store w))) (λ stated w is. record { is = (refl, is); kept = refl; tidy = tt })
      (λ w is. λ e. cc) (λ w is. calm_instruction (instruction.Store w) tt)
      (on_line (store m names rs labels s fits))

  pub line : CalledAreWhole → (i : Instr) → FitsLine m rs labels i
      → Lays Any lines.line (λ stated (w : LineText). NamesLine m rs stated w i) (indented (instr_text m.declarations i))
  line whole (instr.Calm c) fits = calm c fits.0 fits.1
  line whole (instr.Alloca a) fits = alloca_line a fits
  line whole (instr.Store s) fits = store_line s fits
  line whole (instr.Call c) fits = call whole m names rs labels c fits
