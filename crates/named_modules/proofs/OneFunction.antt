-- A definition names one function alone, the one that is built.
use Rattle.std.proofs.Common.{◌≡◌, ◌∙◌, ℕ, List, [], ◌∷◌, ◌++◌, map, Option, Some, None, refl, sym, ap, subst, append_assoc}
use Rattle.std.specs.Prelude.{unwrap_or}
use Rattle.std.specs.List.{AllZip, flat_map}
use Rattle.std.proofs.lemmas.List.{map-append}
use Rattle.ir_core.specs.declared.functions.Block.{Block}
use Rattle.ir_core.specs.declared.functions.Case.{Case}
use Rattle.ir_core.specs.declared.functions.CondBr.{CondBr as Condition}
use Rattle.ir_core.specs.declared.functions.Entry.{Entry}
use Rattle.ir_core.specs.declared.functions.Function.{Function}
use Rattle.ir_core.specs.declared.functions.Param.{Param}
use Rattle.ir_core.specs.declared.functions.Phi.{Phi}
use Rattle.ir_core.specs.declared.functions.Switch.{Switch as Cases}
use Rattle.ir_core.specs.declared.functions.Term.{Term}
use Rattle.ir_core.specs.declared.functions.Term.TheVariants as term
use Rattle.ir_core.specs.declared.modules.Module.{Module}
use Rattle.ir_core.specs.Functions.{block_names, names_in, phi_registers, set_by}
use Rattle.ir_core.specs.Order.{AreCounted}
use Rattle.ir_types.specs.declared.names.Name.{Name}
use Rattle.ir_types.specs.declared.ty.Ty.{Ty}
use Rattle.module_grammar.specs.declared.constants.OperandText.{OperandText}
use Rattle.module_grammar.specs.declared.flow.BlockText.{BlockText}
use Rattle.module_grammar.specs.declared.flow.BranchText.{BranchText}
use Rattle.module_grammar.specs.declared.flow.BranchText.TheVariants as branch
use Rattle.module_grammar.specs.declared.flow.CaseText.{CaseText}
use Rattle.module_grammar.specs.declared.flow.ConditionText.{ConditionText}
use Rattle.module_grammar.specs.declared.flow.EntryText.{EntryText}
use Rattle.module_grammar.specs.declared.flow.PhiText.{PhiText}
use Rattle.module_grammar.specs.declared.flow.SwitchText.{SwitchText}
use Rattle.module_grammar.specs.declared.flow.TermText.{TermText}
use Rattle.module_grammar.specs.declared.flow.TermText.TheVariants as written
use Rattle.module_grammar.specs.declared.functions.DefinitionText.{DefinitionText}
use Rattle.module_grammar.specs.declared.functions.ParamText.{ParamText}
use Rattle.module_grammar.specs.declared.places.Placed.{Placed}
use Rattle.module_grammar.specs.declared.types.CalledText.{CalledText}
use Rattle.named_modules.specs.Built.{block_from, blocks_from, branch_of, case_of, due_behind, due_behind_lines, due_behind_phis, due_from, due_in, entry_of, function_of, kept_lines, label_name, lines_from, name_due, operand_of, params_from, phi_at, phis_from, result_of, return_of, term_of, value_at}
use Rattle.named_modules.specs.Constants.{global_name}
use Rattle.named_modules.specs.Flow.{IsBranch, IsCase, IsCondition, IsEntry, IsPhi, IsReturn, IsSwitch, IsTerm, NamesBlock, entries_in}
use Rattle.named_modules.specs.Functions.{IsParam, NamesFunction, blocks_in, labels_of, linkage_said, registers_of}
use Rattle.named_modules.specs.Laws.{Is}
use Rattle.named_modules.specs.Types.{int_of, type_of}
use Rattle.named_modules.specs.Values.{Registers, extensions_of}
use Rattle.named_modules.proofs.OneLine.{operand_is, result_is, value_is}
use Rattle.named_modules.proofs.OneName.{behind_is, label_is, lines_are, name_is}
use Rattle.named_modules.proofs.Ties.{zip_is}

-- ---- parameters

abbrev param_names : List Param → List Name
param_names ps = names_in (map (λ (p : Param). (p.name, p.ty)) ps)

abbrev param_at : ℕ → ParamText → Param
param_at due w = record { name = name_due due w.name; ty = type_of w.ty; extensions = extensions_of w.attributes }

record ParamsAre (ws : List ParamText) (ps : List Param) (due : ℕ) (more : List Name) (count : ℕ) : Type 0 where
  same : ps ≡ params_from due ws
  counted : AreCounted (due_from due (map (λ (p : ParamText). p.name) ws)) more count

params_are : (m : Module) (ws : List ParamText) (ps : List Param) (due : ℕ) (more : List Name) (count : ℕ) → AllZip (IsParam m) ws ps → AreCounted due (param_names ps ++ more) count → ParamsAre ws ps due more count
params_are m [] [] due more count zip counted = record { same = refl; counted = counted }
params_are m [] (p ∷ ps) due more count zip counted = absurd zip
params_are m (w ∷ ws) [] due more count zip counted = absurd zip
params_are m (w ∷ ws) (p ∷ ps) due more count zip counted =
    let next = due_behind due w.name in
    let at : counted.0 ≡ next = behind_is due w.name p.name counted.0 zip.0.0 counted.1 in
    let rest = params_are m ws ps next more count zip.1 (subst (λ n. AreCounted n (param_names ps ++ more) count) at counted.2) in
    let same : p ≡ param_at due w =
    ap (λ x. record p { name = x }) (name_is due w.name p.name counted.0 zip.0.0 counted.1)
    ∙ ap (λ t. record p { name = name_due due w.name; ty = t }) zip.0.1.0
    ∙ ap (λ e. record p { name = name_due due w.name; ty = type_of w.ty; extensions = e }) zip.0.2 in
    record { same = ap (λ q. q ∷ ps) same ∙ ap (λ qs. param_at due w ∷ qs) rest.same; counted = rest.counted }

-- ---- phis and terminators

module _ (m : Module) (rs : Registers) (labels : List Name) where
  entry_is : (t : Ty) (w : EntryText) (e : Entry) → IsEntry m rs labels t w e → e ≡ entry_of t w
  entry_is t w e is = ap (λ v. record e { value = v }) (value_is m rs t w.value e.value is.0) ∙ ap (λ l. record e { value = value_at t w.value; from = l }) is.1.1

  phi_is : (due : ℕ) (w : PhiText) (p : Phi) → p.name ≡ name_due due w.register → IsPhi m rs labels w p → p ≡ phi_at due w
  phi_is due w p named is =
      let t = type_of w.node.ty in
      let entries : p.entries ≡ map (entry_of t) (entries_in w.node) =
      zip_is (IsEntry m rs labels p.ty) (entry_of p.ty) (entry_is p.ty) (entries_in w.node) p.entries is.2 ∙ ap (λ u. map (entry_of u) (entries_in w.node)) is.1.0 in
      ap (λ x. record p { name = x }) named
      ∙ ap (λ u. record p { name = name_due due w.register; ty = u }) is.1.0
      ∙ ap (λ es. record p { name = name_due due w.register; ty = t; entries = es }) entries

  record PhisAre (ws : List PhiText) (ps : List Phi) (due : ℕ) (more : List Name) (count : ℕ) : Type 0 where
    same : ps ≡ phis_from due ws
    counted : AreCounted (due_from due (map (λ (p : PhiText). p.register) ws)) more count

  phis_are : (ws : List PhiText) (ps : List Phi) (due : ℕ) (more : List Name) (count : ℕ) → AllZip (IsPhi m rs labels) ws ps → AreCounted due (names_in (phi_registers ps) ++ more) count → PhisAre ws ps due more count
  phis_are [] [] due more count zip counted = record { same = refl; counted = counted }
  phis_are [] (p ∷ ps) due more count zip counted = absurd zip
  phis_are (w ∷ ws) [] due more count zip counted = absurd zip
  phis_are (w ∷ ws) (p ∷ ps) due more count zip counted =
      let next = due_behind due w.register in
      let at : counted.0 ≡ next = behind_is due w.register p.name counted.0 zip.0.0 counted.1 in
      let rest = phis_are ws ps next more count zip.1 (subst (λ n. AreCounted n (names_in (phi_registers ps) ++ more) count) at counted.2) in
      let same = phi_is due w p (name_is due w.register p.name counted.0 zip.0.0 counted.1) zip.0 in
      record { same = ap (λ q. q ∷ ps) same ∙ ap (λ qs. phi_at due w ∷ qs) rest.same; counted = rest.counted }

  return_is : (w : Option OperandText) (t : Term) → IsReturn m rs w t → t ≡ return_of w
  return_is (Some w) (term.Ret o) is = ap term.Ret (operand_is m rs w o is)
  return_is None term.RetVoid is = refl
  return_is w t is = absurd is

  condition_is : (w : ConditionText) (c : Condition) → IsCondition m rs labels w c → term.CondBr c ≡ branch_of (branch.Condition w)
  condition_is w c is =
      ap term.CondBr
      (ap (λ o. record c { condition = o }) (operand_is m rs w.condition c.condition is.0)
      ∙ ap (λ l. record c { condition = operand_of w.condition; on_true = l }) is.1.1
      ∙ ap (λ l. record c { condition = operand_of w.condition; on_true = w.on_true.what; on_false = l }) is.2.1)

  branch_is : (w : BranchText) (t : Term) → IsBranch m rs labels w t → t ≡ branch_of w
  branch_is (branch.Always x) (term.Br l) is = ap term.Br is.1
  branch_is (branch.Condition w) (term.CondBr c) is = condition_is w c is
  branch_is w t is = absurd is

  case_is : (w : CaseText) (c : Case) → IsCase m labels w c → c ≡ case_of w
  case_is w c is =
      let number : c.number ≡ unwrap_or (int_of (type_of w.ty) w.number) 0 =
      sym (ap (λ o. unwrap_or o 0) is.1) ∙ ap (λ t. unwrap_or (int_of t w.number) 0) is.0.0 in
      ap (λ t. record c { ty = t }) is.0.0
      ∙ ap (λ n. record c { ty = type_of w.ty; number = n }) number
      ∙ ap (λ l. record c { ty = type_of w.ty; number = unwrap_or (int_of (type_of w.ty) w.number) 0; label = l }) is.2.1

  switch_is : (w : SwitchText) (s : Cases) → IsSwitch m rs labels w s → term.Switch s ≡ term_of (written.Switch w)
  switch_is w s is =
      ap term.Switch
      (ap (λ o. record s { value = o }) (operand_is m rs w.value s.value is.0)
      ∙ ap (λ l. record s { value = operand_of w.value; default = l }) is.1.1
      ∙ ap (λ cs. record s { value = operand_of w.value; default = w.default.what; cases = cs }) (zip_is (IsCase m labels) case_of case_is w.cases s.cases is.2))

  term_is : (w : TermText) (t : Term) → IsTerm m rs labels w t → t ≡ term_of w
  term_is (written.Ret w) t is = return_is w t is
  term_is (written.Br w) t is = branch_is w t is
  term_is (written.Switch w) (term.Switch s) is = switch_is w s is
  term_is written.Unreachable term.Unreachable is = refl
  term_is w t is = absurd is

  -- ---- blocks

  -- the names of phis, of lines and of what stands behind them, one after another
  names_apart : (b : Block) (more : List Name) → names_in (phi_registers b.phis ++ set_by b.body) ++ more ≡ names_in (phi_registers b.phis) ++ (names_in (set_by b.body) ++ more)
  names_apart b more =
      ap (λ ns. ns ++ more) (map-append (λ (r : Name × Ty). r.0) (phi_registers b.phis) (set_by b.body))
      ∙ append_assoc (names_in (phi_registers b.phis)) (names_in (set_by b.body)) more

  module _ (told : Placed Name → CalledText) where
    record BlockIs (w : BlockText) (b : Block) (due : ℕ) (more : List Name) (count : ℕ) : Type 0 where
      same : b ≡ block_from m.types due w
      counted : AreCounted (due_behind_lines m.types (due_behind_phis due w) (kept_lines w)) more count

    block_is : (w : BlockText) (b : Block) (due : ℕ) (more : List Name) (count : ℕ) → NamesBlock m rs (Is told) labels w b → AreCounted due (block_names b ++ more) count → BlockIs w b due more count
    block_is w b due more count n counted =
        let label = label_name w.label in
        let is = label_is w.label b.name n.label in
        let next = due_in due w in
        let at : counted.0 ≡ next = behind_is due label b.name counted.0 is counted.1 in
        let behind = names_in (set_by b.body) ++ more in
        let inside : AreCounted next (names_in (phi_registers b.phis) ++ behind) count =
        subst (λ ns. AreCounted next ns count) (names_apart b more) (subst (λ k. AreCounted k (names_in (phi_registers b.phis ++ set_by b.body) ++ more) count) at counted.2) in
        let phis = phis_are w.body.phis b.phis next behind count n.phis inside in
        let lines = lines_are m rs told (kept_lines w) b.body (due_behind_phis due w) more count n.lines.1 phis.counted in
        let name = name_due due label in
        let body = lines_from m.types (due_behind_phis due w) (kept_lines w) in
        record {
          same = ap (λ x. record b { name = x }) (name_is due label b.name counted.0 is counted.1)
              ∙ ap (λ ps. record b { name = name; phis = ps }) phis.same
              ∙ ap (λ ls. record b { name = name; phis = phis_from next w.body.phis; body = ls }) lines.same
              ∙ ap (λ t. record b { name = name; phis = phis_from next w.body.phis; body = body; term = t }) (term_is w.end.term b.term n.ends);
          counted = lines.counted;
        }

    blocks_are : (ws : List BlockText) (bs : List Block) (due count : ℕ) → AllZip (NamesBlock m rs (Is told) labels) ws bs → AreCounted due (flat_map block_names bs) count → bs ≡ blocks_from m.types due ws
    blocks_are [] [] due count zip counted = refl
    blocks_are [] (b ∷ bs) due count zip counted = absurd zip
    blocks_are (w ∷ ws) [] due count zip counted = absurd zip
    blocks_are (w ∷ ws) (b ∷ bs) due count zip counted =
        let first = block_is w b due (flat_map block_names bs) count zip.0 counted in
        let rest = blocks_are ws bs (due_behind_lines m.types (due_behind_phis due w) (kept_lines w)) count zip.1 first.counted in
        ap (λ c. c ∷ bs) first.same ∙ ap (λ cs. block_from m.types due w ∷ cs) rest

-- ---- a function

pub function_is : (m : Module) (told : Placed Name → CalledText) (w : DefinitionText) (f : Function) → NamesFunction m (Is told) w f → f ≡ function_of m.types w
function_is m told w f n =
    let count = n.order.1 in
    let due = due_from 0 (map (λ (p : ParamText). p.name) w.head.params) in
    let params = params_are m w.head.params f.params 0 (flat_map block_names f.blocks) count n.params n.order.2 in
    let blocks = blocks_are m (registers_of m f) (labels_of f) told (blocks_in w) f.blocks due count n.blocks params.counted in
    let linkage = linkage_said w.linkage in
    let extensions = extensions_of w.head.result.attributes in
    let result = result_of w.head.result.ty in
    let name = (global_name w.head.name).what in
    ap (λ l. record f { linkage = l }) n.linkage
    ∙ ap (λ e. record f { linkage = linkage; result_extensions = e }) n.extensions
    ∙ ap (λ t. record f { linkage = linkage; result_extensions = extensions; result = t }) (result_is m w.head.result.ty f.result n.result)
    ∙ ap (λ x. record f { linkage = linkage; result_extensions = extensions; result = result; name = x }) n.name
    ∙ ap (λ ps. record f { linkage = linkage; result_extensions = extensions; result = result; name = name; params = ps }) params.same
    ∙ ap (λ bs. record f { linkage = linkage; result_extensions = extensions; result = result; name = name; params = params_from 0 w.head.params; blocks = bs }) blocks
