-- Printed terminators are texts that name them.
use Rattle.std.proofs.Common.{◌≡◌, List, [], ◌∷◌, ◌++◌, Some, None, refl, sym, ◌∙◌}
use Rattle.std.specs.Prelude.{codes}
use Rattle.std.specs.List.{flat_map}
use Rattle.std.proofs.lemmas.List.{append-nil}
use Rattle.ir_core.specs.declared.functions.Case.{Case}
use Rattle.ir_core.specs.declared.functions.CondBr.{CondBr}
use Rattle.ir_core.specs.declared.functions.Switch.{Switch}
use Rattle.ir_core.specs.declared.functions.Term.{Term}
use Rattle.ir_core.specs.declared.functions.Term.TheVariants as term
use Rattle.ir_core.specs.declared.modules.Module.{Module}
use Rattle.ir_core.specs.declared.operands.Operand.{Operand}
use Rattle.ir_types.specs.declared.names.Name.{Name}
use Rattle.ir_printer.specs.Printed.{case_text, cond_br_text, indented, label_text, switch_text, term_text}
use Rattle.module_grammar.specs.declared.flow.BranchText.TheVariants as branch
use Rattle.module_grammar.specs.declared.flow.CaseText.{CaseText}
use Rattle.module_grammar.specs.declared.flow.ConditionText.{ConditionText}
use Rattle.module_grammar.specs.declared.flow.EndText.{EndText}
use Rattle.module_grammar.specs.declared.flow.SwitchText.{SwitchText}
use Rattle.module_grammar.specs.declared.flow.TermText.{TermText}
use Rattle.module_grammar.specs.declared.flow.TermText.TheVariants as written
use Rattle.module_grammar.specs.declared.places.Placed.{Placed}
use Rattle.module_grammar.specs.declared.words.KeyWord.TheVariants as key
use Rattle.module_grammar.specs.declared.words.Language.TheVariants.{Ir}
use Rattle.module_grammar.specs.Constants as constants
use Rattle.module_grammar.specs.Flow as flow
use Rattle.module_grammar.specs.Symbols.{Symbol}
use Rattle.module_grammar.specs.Symbols as symbols
use Rattle.named_modules.specs.Flow.{IsCase, IsCondition, IsSwitch, IsTerm}
use Rattle.named_modules.specs.Values.{IsLabel, Registers}
use Rattle.printed_modules.proofs.Calm.{calm_case, calm_operand, calm_rows}
use Rattle.printed_modules.proofs.Fit.{FitsCase, FitsCondition, FitsLabel, FitsOperand, FitsSwitch, FitsTerm}
use Rattle.printed_modules.proofs.Fitted.{label, operand}
use Rattle.printed_modules.proofs.Fitted as fitted
use Rattle.printed_modules.proofs.Laid.{AreCalm, IsShut, IsSound, both_calm, filled_one}
use Rattle.printed_modules.proofs.Lays.{Lays, of_calm, of_prints}
use Rattle.printed_modules.proofs.Phis.{on_line}
use Rattle.printed_tokens.proofs.Marks.{close_bracket, comma, key_alone, line_end, open_bracket, space}
use Rattle.printed_tokens.proofs.Marks as marks
use Rattle.printed_tokens.proofs.ModuleTypes.{HasNames}
use Rattle.printed_tokens.proofs.Numbers.{int}
use Rattle.printed_tokens.proofs.Prints.{IsFixed, Prints, before, behind, both, each, gap_behind, read_as, wherever}
use Rattle.printed_tokens.proofs.ReadTexts.{Any, Stops}

spaces : IsFixed Ir Any (codes "  ") []
spaces = before Ir (space Ir) (space Ir)

-- ---- `ret void`

abbrev end_of : TermText → EndText
end_of w = record { term = w; attachments = [] }

no_ret : symbols.ret ≡ symbols.void → ⊥
no_ret is = cc

ret_void_sound : IsSound (symbols.ret ∷ symbols.void ∷ [])
ret_void_sound = record {
  shut = λ is. cc;
  guarded = (λ is. absurd (no_ret is), (λ is inside more. cc, tt));
  no_addr = (λ is. cc, (λ is. cc, tt));
}

module _ (m : Module) (names : HasNames m) (rs : Registers) (labels : List Name) where
  target : (n : Name) → FitsLabel m rs labels n → Prints Ir Stops flow.target (λ (w : Placed Name). IsLabel labels w n) (label_text n)
  target n fits = before Ir (marks.key Ir key.Label tt) (label m names rs labels n fits)

  condition : (c : CondBr) → FitsCondition m rs labels c → Prints Ir Stops (λ w. symbols.br ∷ flow.condition w) (λ (w : ConditionText). IsCondition m rs labels w c) (cond_br_text c)
  condition c fits =
      read_as Ir (λ w. symbols.br ∷ flow.condition w) (λ (w : ConditionText). IsCondition m rs labels w c)
      (λ t. record { condition = t.0; on_true = t.1.0; on_false = t.1.1 }) (λ t named. refl) (λ t named. (named.0, named.1.0, named.1.1))
      (before Ir (marks.key Ir key.Br tt)
      (both Ir (operand m names rs labels c.condition fits.0)
      (before Ir (comma Ir) (both Ir (target c.on_true fits.1) (before Ir (comma Ir) (target c.on_false fits.2)) (λ rest end. refl))) (λ rest end. refl)))

  case : (c : Case) → FitsCase m rs labels c → Prints Ir Any flow.case (λ (w : CaseText). IsCase m labels w c) (case_text c)
  case c fits =
      read_as Ir flow.case (λ (w : CaseText). IsCase m labels w c) (λ t. record { ty = t.0; number = t.1.0; label = t.1.1 }) (λ t named. refl)
      (λ t named. (named.0, named.1.0, named.1.1))
      (before Ir (before Ir spaces spaces)
      (both Ir (fitted.type m names c.ty fits.0)
      (before Ir (space Ir)
      (both Ir (int Ir c.ty c.number fits.0.0 fits.1)
      (before Ir (comma Ir) (gap_behind Ir (target c.label fits.2) (line_end Ir) (λ rest end. refl))) (λ rest end. refl))) (λ rest end. refl)))

  switch : (s : Switch) → FitsSwitch m rs labels s → Prints Ir Stops flow.switch (λ (w : SwitchText). IsSwitch m rs labels w s) (switch_text s)
  switch s fits =
      read_as Ir flow.switch (λ (w : SwitchText). IsSwitch m rs labels w s) (λ t. record { value = t.0; default = t.1.0; at = t.1.1.0; cases = t.1.1.1 }) (λ t named. refl)
      (λ t named. (named.0, named.1.0, named.1.1.1))
      (before Ir (marks.key Ir key.Switch tt)
      (both Ir (operand m names rs labels s.value fits.0)
      (before Ir (comma Ir)
      (both Ir (target s.default fits.1)
      (before Ir (space Ir)
      (both Ir (open_bracket Ir)
      (before Ir (line_end Ir)
      (behind Ir (each Ir (FitsCase m rs labels) flow.case (IsCase m labels) case_text case s.cases fits.2) (wherever Ir Stops (before Ir spaces (close_bracket Ir))) (λ rest end. tt)))
      (λ rest end. tt))) (λ rest end. refl))) (λ rest end. refl)))

  -- ---- as a tree of these forms

  abbrev LaysEnd : Term → Type 1
  LaysEnd t = Lays Any flow.end (λ stated (w : EndText). IsTerm m rs labels w.term t) (indented (term_text t))

  of_form :
      {A : Type 0} {v : A → List Symbol} {M : A → Type 0} (t : Term) (f : A → TermText) → ((w : A) → v w ≡ flow.term (f w)) → ((w : A) → M w → IsTerm m rs labels (f w) t)
      → ((w : A) → IsShut (v w)) → ((w : A) → AreCalm (v w)) → Prints Ir Stops v M (term_text t) → LaysEnd t
  of_form {v = v} t f alike named shut calm p =
      of_calm flow.end (λ stated (w : EndText). IsTerm m rs labels w.term t) (λ w. end_of (f w)) (λ w is. alike w ∙ sym (append-nil (flow.term (f w))))
      (λ stated w is. named w is) (λ w is. shut w) (λ w is. calm w) (on_line p)

  calm_condition : (w : ConditionText) → AreCalm (flow.condition w)
  calm_condition w = both_calm (constants.operand w.condition) (symbols.comma ∷ (flow.target w.on_true ++ (symbols.comma ∷ flow.target w.on_false))) (calm_operand w.condition) refl

  calm_switch : (w : SwitchText) → AreCalm (flow.switch w)
  calm_switch w =
      both_calm (constants.operand w.value) (symbols.comma ∷ (flow.target w.default ++ (symbols.Bracket w.at ∷ (flat_map flow.case w.cases ++ (symbols.close_bracket ∷ []))))) (calm_operand w.value)
      (both_calm (flat_map flow.case w.cases) (symbols.close_bracket ∷ []) (calm_rows flow.case calm_case w.cases) refl)

  returned : (o : Operand Name) → FitsOperand m rs labels o → LaysEnd (term.Ret o)
  returned o fits =
      of_form (term.Ret o) (λ w. written.Ret (Some w)) (λ w. refl) (λ w named. named) (λ w is. cc) calm_operand (before Ir (marks.key Ir key.Ret tt) (operand m names rs labels o fits))

  returned_void : LaysEnd term.RetVoid
  returned_void =
      of_prints flow.end (λ stated (w : EndText). IsTerm m rs labels w.term term.RetVoid) (λ t. end_of (written.Ret None))
      (λ t named. filled_one symbols.ret (symbols.void ∷ []) (symbols.void ∷ []) refl (filled_one symbols.void [] [] refl refl)) (λ stated t named all. tt) (λ t named. ret_void_sound)
      (on_line (before Ir (marks.key Ir key.Ret tt) (key_alone Ir key.Void tt)))

  branch_always : (n : Name) → FitsLabel m rs labels n → LaysEnd (term.Br n)
  branch_always n fits =
      of_form (term.Br n) (λ w. written.Br (branch.Always w)) (λ w. refl) (λ w named. named) (λ w is. cc) (λ w. refl) (before Ir (marks.key Ir key.Br tt) (target n fits))

  branch_by : (c : CondBr) → FitsCondition m rs labels c → LaysEnd (term.CondBr c)
  branch_by c fits = of_form (term.CondBr c) (λ w. written.Br (branch.Condition w)) (λ w. refl) (λ w named. named) (λ w is. cc) calm_condition (condition c fits)

  switched : (s : Switch) → FitsSwitch m rs labels s → LaysEnd (term.Switch s)
  switched s fits = of_form (term.Switch s) written.Switch (λ w. refl) (λ w named. named) (λ w is. cc) calm_switch (switch s fits)

  never : LaysEnd term.Unreachable
  never = of_form term.Unreachable (λ w. written.Unreachable) (λ w. refl) (λ w named. tt) (λ w is. cc) (λ w. refl) (key_alone Ir key.Unreachable tt)

  pub terminator : (t : Term) → FitsTerm m rs labels t → LaysEnd t
  terminator (term.Ret o) fits = returned o fits
  terminator term.RetVoid fits = returned_void
  terminator (term.Br n) fits = branch_always n fits
  terminator (term.CondBr c) fits = branch_by c fits
  terminator (term.Switch s) fits = switched s fits
  terminator term.Unreachable fits = never
