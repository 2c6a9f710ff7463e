-- Phi nodes, terminators and blocks are at fault exactly where they name nothing.
use Rattle.std.proofs.Common.{◌≡◌, ℕ, true, List, [], ◌∷◌, ◌++◌, map, Option, Some, None}
use Rattle.std.specs.List.{AllByRecursion, AllZip, flat_map}
use Rattle.ir_core.specs.declared.modules.Module.{Module}
use Rattle.ir_core.specs.Typing.{signatures_of}
use Rattle.ir_core.specs.Types.{is_first_class}
use Rattle.ir_types.specs.declared.names.Name.{Name}
use Rattle.ir_types.specs.declared.ty.Ty.{Ty}
use Rattle.module_grammar.specs.declared.constants.OperandText.{OperandText}
use Rattle.module_grammar.specs.declared.flow.BlockText.{BlockText}
use Rattle.module_grammar.specs.declared.flow.BranchText.{BranchText}
use Rattle.module_grammar.specs.declared.flow.BranchText.TheVariants as branch
use Rattle.module_grammar.specs.declared.flow.CaseText.{CaseText}
use Rattle.module_grammar.specs.declared.flow.EntryText.{EntryText}
use Rattle.module_grammar.specs.declared.flow.PhiText.{PhiText}
use Rattle.module_grammar.specs.declared.flow.TermText.{TermText}
use Rattle.module_grammar.specs.declared.flow.TermText.TheVariants as written
use Rattle.module_grammar.specs.declared.places.Placed.{Placed}
use Rattle.module_grammar.specs.declared.types.CalledText.{CalledText}
use Rattle.named_modules.specs.Built.{block_from, blocks_from, branch_of, case_of, due_behind, due_behind_lines, due_behind_phis, due_in, entry_of, kept_lines, operand_of, phis_from, return_of, term_of}
use Rattle.named_modules.specs.Faults.{Things, block_faults, block_written, branch_faults, case_faults, defined, entry_faults, heads_of, int_faults, label_faults, line_faults, line_written, operand_faults, phi_faults, returned_faults, term_faults, type_faults, value_faults, value_type_faults}
use Rattle.named_modules.specs.Flow.{IsBranch, IsCase, IsEntry, IsPhi, IsReturn, IsTerm, NamesBlock, entries_in}
use Rattle.named_modules.specs.Laws.{Is}
use Rattle.named_modules.specs.Types.{type_of}
use Rattle.named_modules.specs.Values.{IsOperand, Registers}
use Rattle.named_modules.proofs.LineTies.{lines_ties}
use Rattle.named_modules.proofs.Lists.{AreDistinct, all_left, all_right, names_of_pairs}
use Rattle.named_modules.proofs.Named.{label_named, name_named}
use Rattle.named_modules.proofs.Ordered.{IsBareName}
use Rattle.named_modules.proofs.Ties.{Ties, both, each_built, in_turn, none, through}
use Rattle.named_modules.proofs.ValueTies.{Matches, first_class, int_ties, label_ties, operand_ties, type_at_ties, value_ties, value_type_at_ties}

module _ (m : Module) (ts : Things) (rs : Registers) (labels : List Name) (matches : Matches ts rs labels) where
  at_operand : (w : OperandText) → Ties (operand_faults (heads_of m) ts w) (IsOperand m rs w (operand_of w))
  at_operand = operand_ties m ts rs labels matches

  entry_ties : (t : Ty) → is_first_class t ≡ true → (w : EntryText) → Ties (entry_faults (heads_of m) ts t w) (IsEntry m rs labels t w (entry_of t w))
  entry_ties t first w =
      both (value_faults (heads_of m) ts t w.value) (label_faults ts w.from) (value_ties m ts rs labels matches t w.value first) (label_ties m ts rs labels matches w.from)

  phis_ties : (due : ℕ) (ws : List PhiText) → Ties (flat_map (phi_faults (heads_of m) ts) ws) (AllZip (IsPhi m rs labels) ws (phis_from due ws))
  phis_ties due [] = none tt
  phis_ties due (w ∷ ws) =
      let t = type_of w.node.ty in
      let fs = value_type_faults (heads_of m) w.node.ty in
      let gs = flat_map (entry_faults (heads_of m) ts t) (entries_in w.node) in
      let here = in_turn fs gs (value_type_at_ties m w.node.ty) (λ is. each_built (entry_faults (heads_of m) ts t) (IsEntry m rs labels t) (entry_of t) (entry_ties t (first_class m w.node.ty t is)) (entries_in w.node)) in
      let more = flat_map (phi_faults (heads_of m) ts) ws in
      through ((fs ++ gs) ++ more) (both (fs ++ gs) more here (phis_ties (due_behind due w.register) ws)) (λ h. ((name_named due w.register, h.0.0, h.0.1), h.1)) (λ h. ((h.0.1, h.0.2), h.1))

  return_ties : (w : Option OperandText) → Ties (returned_faults (heads_of m) ts w) (IsReturn m rs w (return_of w))
  return_ties None = none tt
  return_ties (Some w) = at_operand w

  branch_ties : (w : BranchText) → Ties (branch_faults (heads_of m) ts w) (IsBranch m rs labels w (branch_of w))
  branch_ties (branch.Always x) = label_ties m ts rs labels matches x
  branch_ties (branch.Condition w) =
      let fs = operand_faults (heads_of m) ts w.condition in
      let gs = label_faults ts w.on_true in
      let hs = label_faults ts w.on_false in
      through (fs ++ (gs ++ hs)) (both fs (gs ++ hs) (at_operand w.condition) (both gs hs (label_ties m ts rs labels matches w.on_true) (label_ties m ts rs labels matches w.on_false)))
      (λ h. (h.0, h.1.0, h.1.1)) (λ h. (h.0, (h.1, h.2)))

  case_ties : (w : CaseText) → Ties (case_faults (heads_of m) ts w) (IsCase m labels w (case_of w))
  case_ties w =
      let t = type_of w.ty in
      let fs = type_faults (heads_of m) w.ty in
      let gs = int_faults t w.number in
      let hs = label_faults ts w.label in
      through (fs ++ (gs ++ hs)) (both fs (gs ++ hs) (type_at_ties m w.ty) (both gs hs (int_ties t w.number) (label_ties m ts rs labels matches w.label)))
      (λ h. (h.0, h.1.0, h.1.1)) (λ h. (h.0, (h.1, h.2)))

  pub term_ties : (w : TermText) → Ties (term_faults (heads_of m) ts w) (IsTerm m rs labels w (term_of w))
  term_ties (written.Ret w) = return_ties w
  term_ties (written.Br w) = branch_ties w
  term_ties (written.Switch w) =
      let fs = operand_faults (heads_of m) ts w.value in
      let gs = label_faults ts w.default in
      let hs = flat_map (case_faults (heads_of m) ts) w.cases in
      through (fs ++ (gs ++ hs)) (both fs (gs ++ hs) (at_operand w.value) (both gs hs (label_ties m ts rs labels matches w.default) (each_built (case_faults (heads_of m) ts) (IsCase m labels) case_of case_ties w.cases)))
      (λ h. (h.0, h.1.0, h.1.1)) (λ h. (h.0, (h.1, h.2)))
  term_ties written.Unreachable = none tt

  module _ (stated : Placed Name → CalledText) (distinct : AreDistinct (names_of_pairs (signatures_of m))) where
    block_ties : (due : ℕ) (w : BlockText) → AllByRecursion IsBareName (block_written w) → Ties (block_faults (heads_of m) stated ts w) (NamesBlock m rs (Is stated) labels w (block_from m.types due w))
    block_ties due w bare =
        let fs = flat_map (phi_faults (heads_of m) ts) w.body.phis in
        let gs = flat_map (line_faults (heads_of m) stated ts) w.body.lines in
        let hs = term_faults (heads_of m) ts w.end.term in
        let lines = all_right IsBareName (map (λ (p : PhiText). defined p.register) w.body.phis) (map line_written w.body.lines) bare.1 in
        through (fs ++ (gs ++ hs))
        (both fs (gs ++ hs) (phis_ties (due_in due w) w.body.phis) (both gs hs (lines_ties m ts rs labels matches stated distinct (due_behind_phis due w) w.body.lines lines) (term_ties w.end.term)))
        (λ h. record { label = label_named due w.label; phis = h.0; lines = h.1.0; ends = h.1.1 }) (λ n. (n.phis, (n.lines, n.ends)))

    pub blocks_ties : (due : ℕ) (ws : List BlockText) → AllByRecursion IsBareName (flat_map block_written ws) → Ties (flat_map (block_faults (heads_of m) stated ts) ws) (AllZip (NamesBlock m rs (Is stated) labels) ws (blocks_from m.types due ws))
    blocks_ties due [] bare = none tt
    blocks_ties due (w ∷ ws) bare =
        both (block_faults (heads_of m) stated ts w) (flat_map (block_faults (heads_of m) stated ts) ws)
        (block_ties due w (all_left IsBareName (block_written w) (flat_map block_written ws) bare))
        (blocks_ties (due_behind_lines m.types (due_behind_phis due w) (kept_lines w)) ws (all_right IsBareName (block_written w) (flat_map block_written ws) bare))
