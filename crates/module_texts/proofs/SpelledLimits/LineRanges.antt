-- A line that is named is in range where what is written of it is: the register that it sets, its operands, and what it states beside them.
use Rattle.std.proofs.Common.{◌∙◌, List, [], ◌∷◌, ◌++◌, Option, Some, None, sym, subst}
use Rattle.std.specs.List.{AllByRecursion, cons_option, filter, flat_map}
use Rattle.ir_core.proofs.Ranges as ranges
use Rattle.ir_core.specs.Functions.{named_register, operands_of, register_of, set_by}
use Rattle.ir_core.specs.Ranges.{IsLineInRange, IsNameInRange, IsOperandInRange, IsResultInRange, IsTypeInRange}
use Rattle.ir_core.specs.declared.functions.Alloca.{Alloca}
use Rattle.ir_core.specs.declared.functions.Call.{Call}
use Rattle.ir_core.specs.declared.functions.Instr.{Instr}
use Rattle.ir_core.specs.declared.functions.Instr.TheVariants as instr
use Rattle.ir_core.specs.declared.functions.Store.{Store}
use Rattle.ir_core.specs.declared.modules.Module.{Module}
use Rattle.ir_types.specs.declared.names.Name.{Name}
use Rattle.ir_types.specs.declared.ty.Ty as type
use Rattle.ir_types.specs.declared.ty.Ty.{Ty}
use Rattle.module_grammar.specs.Attributes.{attachments}
use Rattle.module_grammar.specs.Constants.{operand}
use Rattle.module_grammar.specs.Lines as lines
use Rattle.module_grammar.specs.Symbols as symbol
use Rattle.module_grammar.specs.Symbols.{Symbol, comma}
use Rattle.module_grammar.specs.Types.{ty}
use Rattle.module_grammar.specs.declared.lines.AllocaText.{AllocaText}
use Rattle.module_grammar.specs.declared.lines.CallText.{CallText}
use Rattle.module_grammar.specs.declared.lines.CountText.{CountText}
use Rattle.module_grammar.specs.declared.lines.InstructionText.{InstructionText}
use Rattle.module_grammar.specs.declared.lines.InstructionText.TheVariants as instruction
use Rattle.module_grammar.specs.declared.lines.LineText.{LineText}
use Rattle.module_grammar.specs.declared.lines.StoreText.{StoreText}
use Rattle.module_grammar.specs.declared.places.Placed.{Placed}
use Rattle.named_modules.proofs.Lists.{all_left, all_right}
use Rattle.named_modules.specs.Lines.{AreLines, IsAlloca, IsCall, IsInstruction, IsLine, IsResultNamed, IsStore, Stated, is_kept}
use Rattle.named_modules.specs.Values.{IsNamed, Registers}
use Rattle.module_texts.proofs.SpelledLimits.CallRanges.{body_range}
use Rattle.module_texts.proofs.SpelledLimits.Lists.{all_kept, all_lists, all_zipped}
use Rattle.module_texts.proofs.SpelledLimits.RightRanges.{right_range}
use Rattle.module_texts.proofs.SpelledLimits.SymbolRanges.{AllInRange, IsSymbolInRange}
use Rattle.module_texts.proofs.SpelledLimits.TypeRanges.{AreNamedWritten, type_in_range, values_in_range, written_in_range}
use Rattle.module_texts.proofs.SpelledLimits.ValueRanges.{IsCountWritten, IsOptionInRange, align_range, count_range, named_range, operand_range, type_there}

-- ---- what is asked of a line

abbrev pub IsRegisterInRange : Name × Ty → Type 0
IsRegisterInRange r = IsNameInRange r.0 × IsTypeInRange r.1

abbrev pub IsSetInRange : Option (Name × Ty) → Type 0
IsSetInRange None = Unit {0}
IsSetInRange (Some r) = IsRegisterInRange r

pub record IsWholeLine (l : Instr) : Type 0 where
  pub set : IsSetInRange (register_of l)
  pub operands : AllByRecursion IsOperandInRange (operands_of l)
  pub line : IsLineInRange l

one_more : (o : Option (Name × Ty)) (rs : List (Name × Ty)) → IsSetInRange o → AllByRecursion IsRegisterInRange rs → AllByRecursion IsRegisterInRange (cons_option o rs)
one_more None rs set more = more
one_more (Some r) rs set more = (set, more)

-- all that lines set
pub sets_range : (ls : List Instr) → AllByRecursion IsWholeLine ls → AllByRecursion IsRegisterInRange (set_by ls)
sets_range [] all = tt
sets_range (l ∷ ls) all = one_more (register_of l) (set_by ls) all.0.set (sets_range ls all.1)

-- ---- lines of each kind

pub register_range : (name : Option (Placed Name)) → AllInRange (lines.register name) → IsOptionInRange name
register_range None all = tt
register_range (Some name) all = all.0

count_written : (w : Option CountText) → AllInRange (lines.count w) → IsCountWritten w
count_written None all = tt
count_written (Some w) all = all_left IsSymbolInRange (ty w.ty) _ all.1

module _ (m : Module) (rs : Registers) (stated : Stated) (named : AreNamedWritten m.types) where
  alloca_range : (register : Option (Placed Name)) (w : AllocaText) (a : Alloca) → IsOptionInRange register → AllInRange (lines.alloca w) → IsNamed register a.name → IsAlloca m w a → IsWholeLine (instr.Alloca a)
  alloca_range register w a range all names is =
      let row : List Symbol = lines.count w.count ++ lines.align w.align in
      let of = type_there w.ty a.of (all_left IsSymbolInRange (ty w.ty) row all.1) is.0.0 in
      let counted = all_left IsSymbolInRange (lines.count w.count) (lines.align w.align) (all_right IsSymbolInRange (ty w.ty) row all.1) in
      let to = type_in_range (type.Ptr a.of) (ranges.at_ptr a.of ∙ written_in_range a.of of) in
      record {
        set = (named_range register a.name range names, subst IsTypeInRange (sym is.1) to);
        operands = tt;
        line = (of, count_range m w.count a.count (count_written w.count counted) is.2, align_range w.align a.align is.3);
      }

  store_range : (w : StoreText) (s : Store) → AllInRange (lines.store w) → IsStore m rs w s → IsWholeLine (instr.Store s)
  store_range w s all is =
      let row : List Symbol = comma ∷ (operand w.address ++ lines.align w.align) in
      let rest = (all_right IsSymbolInRange (operand w.value) row all.1).1 in
      let value = operand_range m rs w.value s.value (all_left IsSymbolInRange (operand w.value) row all.1) is.0 in
      let pointer = operand_range m rs w.address s.pointer (all_left IsSymbolInRange (operand w.address) (lines.align w.align) rest) is.1 in
      record { set = tt; operands = (value, (pointer, tt)); line = align_range w.align s.align is.2 }

  -- a call of `void` sets nothing
  call_range : (register : Option (Placed Name)) (w : CallText) (c : Call) → IsOptionInRange register → AllInRange (lines.call w) → IsResultNamed register c.result c.name → IsCall m rs stated w.body c → IsWholeLine (instr.Call c)
  call_range register w c range all names is =
      let whole = body_range m rs stated w.body c (all_right IsSymbolInRange (lines.tail w.tail) (symbol.call ∷ lines.call_body w.body) all).1 is in
      record { set = by c.name names whole.0; operands = whole.1; line = whole.0 }
    where
      by : (name : Option Name) → IsResultNamed register c.result name → IsResultInRange c.result → IsSetInRange (named_register c.result name)
      by None names result = tt
      by (Some x) names result = (named_range register x range names.0, values_in_range c.result result names.1)

  instruction_range : (register : Option (Placed Name)) (w : InstructionText) (l : Instr) → IsOptionInRange register → AllInRange (lines.instruction w) → IsInstruction m rs stated register w l → IsWholeLine l
  instruction_range register w (instr.Calm c) range all is =
      let right = right_range m rs named w c.right all is.1 in
      record { set = (named_range register c.name range is.0, right.0); operands = right.1; line = right.2 }
  instruction_range register (instruction.Alloca w) (instr.Alloca a) range all is = alloca_range register w a range all is.0 is.1
  instruction_range register (instruction.Store w) (instr.Store s) range all is = store_range w s all is.1
  instruction_range register (instruction.Call w) (instr.Call c) range all is = call_range register w c range all is.0 is.1
  instruction_range register w l range all is = absurd is

  line_range : (w : LineText) (l : Instr) → AllInRange (lines.line w) → IsLine m rs stated w l → IsWholeLine l
  line_range w l all is =
      let attached = all_right IsSymbolInRange (lines.register w.register) (lines.attached w.attached) all in
      let told = all_left IsSymbolInRange (lines.instruction w.attached.instruction) (attachments w.attached.attachments) attached in
      instruction_range w.register w.attached.instruction l
      (register_range w.register (all_left IsSymbolInRange (lines.register w.register) (lines.attached w.attached) all)) told is

  -- the lines of a block, but those that are dropped
  pub lines_range : (ws : List LineText) (ls : List Instr) → AllInRange (flat_map lines.line ws) → AreLines m rs stated ws ls → AllByRecursion IsWholeLine ls
  lines_range ws ls all is =
      let Written : LineText → Type 0 = λ w. AllInRange (lines.line w) in
      all_zipped Written (IsLine m rs stated) IsWholeLine line_range (filter is_kept ws) ls
      (all_kept Written is_kept ws (all_lists IsSymbolInRange Written lines.line ws (λ w there. there) all)) is.1
