-- The module of a derivation is spelled, and what is at fault in it is the text's.
use Rattle.std.proofs.Common.{ℕ, List, map, subst, sym}
use Rattle.module_derivations.specs.FlatMarks.Flat.{mark_of}
use Rattle.module_derivations.specs.Ahead.{ahead}
use Rattle.module_derivations.specs.Empty.{made}
use Rattle.module_grammar.specs.declared.items.ModuleText.{ModuleText}
use Rattle.token_context.specs.NameSurroundings.Told as around
use Rattle.module_texts.specs.Texts.{IsTextFault}
use Rattle.ir_reader.specs.Naming.{IsNaming}
use Rattle.ir_reader.proofs.Read.{own}
use Rattle.ir_reader.proofs.Whole.{fault_by, spelled_by}
use Rattle.ir_reader.proofs.modules.module_of.Goals as goal

pub returns-in-Ok-clause-spelled : goal.returns-in-Ok-clause-spelled
returns-in-Ok-clause-spelled c =
    let called = around.called c.in_ok-marks.around in
    let declared = around.declared c.in_ok-marks.around in
    let whole : List ℕ → ModuleText = λ ns. (made (ahead (own c.args.text.now c.args.tokens.now) (map mark_of ns))).whole in
    let named = subst (IsNaming called declared (whole c.in_ok-marks.marks)) c.in-Ok.is
    (subst (λ ns. IsNaming called declared (whole ns) c.in_ok-module.field-0) c.as_slice.ensures c.in_ok-module.ensures) in
    spelled_by c.args.text.now (whole c.in_ok-marks.marks) called declared c.in_ok-marks.ensures.tree (record {
      short = c.within_trees_are_short.ensures;
      named = c.faultless_trees_name_what_is_built.ensures;
      called = c.called_names_stand.ensures;
      declared = c.declared_names_stand.ensures;
      rest = c.names_rest_on_these_alone.ensures;
    }) named.1 c.in-Ok.module named.0

pub returns-clause-fault : goal.returns-clause-fault
returns-clause-fault c =
    let called = around.called c.in_ok-marks.around in
    let declared = around.declared c.in_ok-marks.around in
    let whole : List ℕ → ModuleText = λ ns. (made (ahead (own c.args.text.now c.args.tokens.now) (map mark_of ns))).whole in
    let named = subst (IsNaming called declared (whole c.in_ok-marks.marks)) c.in-Err.is
    (subst (λ ns. IsNaming called declared (whole ns) c.in_ok-module.field-0) c.as_slice.ensures c.in_ok-module.ensures) in
    subst (IsTextFault c.args.text.now) (sym c.of_names.ensures)
    (fault_by c.args.text.now (whole c.in_ok-marks.marks) called declared c.in_ok-marks.ensures.tree c.in-Err.misnamed named)
