-- A block that is named is in range where what is written of it is.
use Rattle.std.proofs.Common.{List, [], ◌∷◌, ◌++◌, map, Option, Some, None}
use Rattle.std.specs.List.{AllByRecursion, AllZip, flat_map}
use Rattle.ir_core.specs.Functions.{cases_of, operands_at_end, operands_in_block, operands_of, operands_of_phi, phi_registers, registers_of, set_by}
use Rattle.ir_core.specs.Ranges.{IsCaseInRange, IsLineInRange, IsNameInRange, IsOperandInRange, IsTypeInRange}
use Rattle.ir_core.specs.declared.functions.Block.{Block}
use Rattle.ir_core.specs.declared.functions.Case.{Case}
use Rattle.ir_core.specs.declared.functions.Entry.{Entry}
use Rattle.ir_core.specs.declared.functions.Phi.{Phi}
use Rattle.ir_core.specs.declared.functions.Term.{Term}
use Rattle.ir_core.specs.declared.functions.Term.TheVariants as term
use Rattle.ir_core.specs.declared.modules.Module.{Module}
use Rattle.ir_core.proofs.Narrow.{all_so}
use Rattle.ir_types.specs.declared.names.Name.{Name}
use Rattle.ir_types.specs.declared.ty.Ty.{Ty}
use Rattle.module_grammar.specs.Attributes.{attachments}
use Rattle.module_grammar.specs.Constants.{operand, value}
use Rattle.module_grammar.specs.Flow as flow
use Rattle.module_grammar.specs.Lines as lines
use Rattle.module_grammar.specs.Listed.{further}
use Rattle.module_grammar.specs.Symbols.{Symbol, Bracket, close_bracket, comma}
use Rattle.module_grammar.specs.Types.{ty}
use Rattle.module_grammar.specs.declared.constants.OperandText.{OperandText}
use Rattle.module_grammar.specs.declared.flow.BlockText.{BlockText}
use Rattle.module_grammar.specs.declared.flow.BranchText.{BranchText}
use Rattle.module_grammar.specs.declared.flow.BranchText.TheVariants as branch
use Rattle.module_grammar.specs.declared.flow.CaseText.{CaseText}
use Rattle.module_grammar.specs.declared.flow.EntryText.{EntryText}
use Rattle.module_grammar.specs.declared.flow.PhiText.{PhiText}
use Rattle.module_grammar.specs.declared.flow.TermText.{TermText}
use Rattle.module_grammar.specs.declared.flow.TermText.TheVariants as written
use Rattle.module_grammar.specs.declared.places.Placed.{Placed}
use Rattle.named_modules.proofs.Lists.{all_append, all_left, all_right}
use Rattle.named_modules.specs.Flow.{IsBranch, IsCase, IsEntry, IsPhi, IsReturn, IsTerm, NamesBlock, entries_in}
use Rattle.named_modules.specs.Lines.{Stated}
use Rattle.named_modules.specs.Values.{Registers}
use Rattle.module_texts.proofs.SpelledLimits.LineRanges.{IsRegisterInRange, IsWholeLine, lines_range, register_range, sets_range}
use Rattle.module_texts.proofs.SpelledLimits.Lists.{all_flat, all_lists, all_mapped, all_zipped, further_each}
use Rattle.module_texts.proofs.SpelledLimits.NumberRanges.{int_fits}
use Rattle.module_texts.proofs.SpelledLimits.SymbolRanges.{AllInRange, IsSymbolInRange}
use Rattle.module_texts.proofs.SpelledLimits.TypeRanges.{AreNamedWritten}
use Rattle.module_texts.proofs.SpelledLimits.ValueRanges.{IsOptionInRange, named_range, operand_range, type_there, value_range}

-- ---- what is asked of a phi, a terminator and a block

pub record IsWholePhi (p : Phi) : Type 0 where
  pub set : IsRegisterInRange (p.name, p.ty)
  pub operands : AllByRecursion IsOperandInRange (operands_of_phi p)

abbrev pub IsWholeEnd : Term → Type 0
IsWholeEnd t = AllByRecursion IsOperandInRange (operands_at_end t) × AllByRecursion IsCaseInRange (cases_of t)

pub record IsWholeBlock (b : Block) : Type 0 where
  pub name : IsNameInRange b.name
  pub registers : AllByRecursion IsRegisterInRange (registers_of b)
  pub operands : AllByRecursion IsOperandInRange (operands_in_block b)
  pub lines : AllByRecursion IsLineInRange b.body
  pub cases : AllByRecursion IsCaseInRange (cases_of b.term)

label_range : (name : Option (Placed Name)) → AllInRange (flow.label name) → IsOptionInRange name
label_range None all = tt
label_range (Some name) all = all.0

module _ (m : Module) (rs : Registers) (stated : Stated) (labels : List Name) (named : AreNamedWritten m.types) where
  -- ---- phis

  entry_range : (t : Ty) → IsTypeInRange t → (w : EntryText) (e : Entry) → AllInRange (flow.entry w) → IsEntry m rs labels t w e → IsOperandInRange (record { ty = t; atom = e.value })
  entry_range t typed w e all is = (typed, value_range m rs t w.value e.value (all_left IsSymbolInRange (value w.value) _ all.1) is.0)

  phi_range : (w : PhiText) (p : Phi) → AllInRange (flow.phi_node w) → IsPhi m rs labels w p → IsWholePhi p
  phi_range w p all is =
      let attached : List Symbol = attachments w.node.attachments in
      let others : List Symbol = further (map flow.entry w.node.others) ++ attached in
      let node = (all_right IsSymbolInRange (lines.register w.register) (flow.node w.node) all).1 in
      let typed = type_there w.node.ty p.ty (all_left IsSymbolInRange (ty w.node.ty) (flow.entry w.node.first ++ others) node) is.1.0 in
      let entries = all_right IsSymbolInRange (ty w.node.ty) (flow.entry w.node.first ++ others) node in
      let more = all_left IsSymbolInRange (further (map flow.entry w.node.others)) attached (all_right IsSymbolInRange (flow.entry w.node.first) others entries) in
      let each : AllByRecursion (λ (e : EntryText). AllInRange (flow.entry e)) (entries_in w.node) = (all_left IsSymbolInRange (flow.entry w.node.first) others entries, further_each IsSymbolInRange flow.entry w.node.others more) in
      let Kept : Entry → Type 0 = λ e. IsOperandInRange (record { ty = p.ty; atom = e.value }) in
      record {
        set = (named_range w.register p.name (register_range w.register (all_left IsSymbolInRange (lines.register w.register) (flow.node w.node) all)) is.0, typed);
        operands =
            all_mapped Kept IsOperandInRange (λ (e : Entry). record { ty = p.ty; atom = e.value }) (λ e there. there) p.entries
            (all_zipped (λ (e : EntryText). AllInRange (flow.entry e)) (IsEntry m rs labels p.ty) Kept (entry_range p.ty typed) (entries_in w.node) p.entries each is.2);
      }

  -- ---- terminators

  case_range : (w : CaseText) (c : Case) → AllInRange (flow.case w) → IsCase m labels w c → IsCaseInRange c
  case_range w c all is = (type_there w.ty c.ty (all_left IsSymbolInRange (ty w.ty) _ all) is.0.0, int_fits w.number c.ty c.number is.1)

  return_range : (w : Option OperandText) (t : Term) → AllInRange (flow.returned w) → IsReturn m rs w t → IsWholeEnd t
  return_range (Some w) (term.Ret o) all is = ((operand_range m rs w o all is, tt), tt)
  return_range None term.RetVoid all is = (tt, tt)
  return_range w t all is = absurd is

  branch_range : (w : BranchText) (t : Term) → AllInRange (flow.branch w) → IsBranch m rs labels w t → IsWholeEnd t
  branch_range (branch.Always w) (term.Br label) all is = (tt, tt)
  branch_range (branch.Condition w) (term.CondBr c) all is =
      ((operand_range m rs w.condition c.condition (all_left IsSymbolInRange (operand w.condition) _ all) is.0, tt), tt)
  branch_range w t all is = absurd is

  term_range : (w : TermText) (t : Term) → AllInRange (flow.term w) → IsTerm m rs labels w t → IsWholeEnd t
  term_range (written.Ret w) t all is = return_range w t all.1 is
  term_range (written.Br w) t all is = branch_range w t all.1 is
  term_range (written.Switch w) (term.Switch s) all is =
      let cases : List Symbol = flat_map flow.case w.cases ++ (close_bracket ∷ []) in
      let row : List Symbol = comma ∷ (flow.target w.default ++ (Bracket w.at ∷ cases)) in
      let rest = (all_right IsSymbolInRange (operand w.value) row all.1).1.1.1.1 in
      let Written : CaseText → Type 0 = λ c. AllInRange (flow.case c) in
      let each = all_lists IsSymbolInRange Written flow.case w.cases (λ c there. there) (all_left IsSymbolInRange (flat_map flow.case w.cases) (close_bracket ∷ []) rest) in (
        (operand_range m rs w.value s.value (all_left IsSymbolInRange (operand w.value) row all.1) is.0, tt),
        all_zipped Written (IsCase m labels) IsCaseInRange case_range w.cases s.cases each is.2,
      )
  term_range written.Unreachable term.Unreachable all is = (tt, tt)
  term_range w t all is = absurd is

  -- ---- blocks

  block_range : (w : BlockText) (b : Block) → AllInRange (flow.block w) → NamesBlock m rs stated labels w b → IsWholeBlock b
  block_range w b all is =
      let nodes : List Symbol = flat_map flow.phi_node w.body.phis in
      let bodies : List Symbol = flat_map lines.line w.body.lines in
      let behind = all_right IsSymbolInRange (flow.label w.label) (flow.body w.body ++ flow.end w.end) all in
      let body = all_left IsSymbolInRange (flow.body w.body) (flow.end w.end) behind in
      let end = all_right IsSymbolInRange (flow.body w.body) (flow.end w.end) behind in
      let Written : PhiText → Type 0 = λ p. AllInRange (flow.phi_node p) in
      let each = all_lists IsSymbolInRange Written flow.phi_node w.body.phis (λ p there. there) (all_left IsSymbolInRange nodes bodies body) in
      let phis = all_zipped Written (IsPhi m rs labels) IsWholePhi phi_range w.body.phis b.phis each is.phis in
      let whole = lines_range m rs stated named w.body.lines b.body (all_right IsSymbolInRange nodes bodies body) is.lines in
      let ends = term_range w.end.term b.term (all_left IsSymbolInRange (flow.term w.end.term) (attachments w.end.attachments) end) is.ends in
      let told = flat_map operands_of b.body in
      record {
        name = named_range w.label b.name (label_range w.label (all_left IsSymbolInRange (flow.label w.label) (flow.body w.body ++ flow.end w.end) all)) is.label;
        registers =
            all_append IsRegisterInRange (phi_registers b.phis) (set_by b.body)
            (all_mapped IsWholePhi IsRegisterInRange (λ (p : Phi). (p.name, p.ty)) (λ p one. one.set) b.phis phis) (sets_range b.body whole);
        operands =
            all_append IsOperandInRange (flat_map operands_of_phi b.phis) (told ++ operands_at_end b.term)
            (all_flat IsWholePhi IsOperandInRange operands_of_phi (λ p one. one.operands) b.phis phis)
            (all_append IsOperandInRange told (operands_at_end b.term) (all_flat IsWholeLine IsOperandInRange operands_of (λ l one. one.operands) b.body whole) ends.0);
        lines = all_so IsWholeLine IsLineInRange (λ l one. one.line) b.body whole;
        cases = ends.1;
      }

  pub blocks_range : (ws : List BlockText) (bs : List Block) → AllByRecursion (λ (w : BlockText). AllInRange (flow.block w)) ws → AllZip (NamesBlock m rs stated labels) ws bs → AllByRecursion IsWholeBlock bs
  blocks_range ws bs all zip = all_zipped (λ (w : BlockText). AllInRange (flow.block w)) (NamesBlock m rs stated labels) IsWholeBlock block_range ws bs all zip
