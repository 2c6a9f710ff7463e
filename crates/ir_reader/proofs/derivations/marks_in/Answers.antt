-- The marks of tokens with what stands around their names, or why they have none.
use Rattle.std.proofs.Common.{ap, subst, sym}
use Rattle.std.specs.List.{Contains}
use Rattle.module_grammar.specs.Sorts.{Module}
use Rattle.module_spelling.specs.Context.{AreKinds}
use Rattle.token_context.specs.NameSurroundings.Told as around
use Rattle.module_texts.specs.Texts.{IsTextFault}
use Rattle.derivation_writer.specs.ReadMarks.Reading.{read_off}
use Rattle.ir_reader.proofs.Read.{fault_by, own, tree_by}
use Rattle.ir_reader.proofs.derivations.marks_in.Goals as goal

pub returns-in-Ok-clause-tree : goal.returns-in-Ok-clause-tree
returns-in-Ok-clause-tree c =
    let symbols = own c.args.text.now c.args.tokens.now in
    tree_by c.args.text.now c.args.tokens.now c.requires.tokens c.in_ok-context.context.kinds.items c.as_slice-kinds.result.now c.as_slice-kinds.ensures.value
    c.in_ok-context.ensures.kinds.0 (read_off Module symbols c.in_ok-marks.field-0)
    (c.in_ok-marks.ensures symbols (subst (AreKinds symbols) (sym c.as_slice-kinds.ensures.value) c.in_ok-context.ensures.kinds.1)) _
    (around.called c.in_ok-around-in-Ok.around) (around.declared c.in_ok-around-in-Ok.around) (ap (read_off Module symbols) c.in-Ok.is) (record {
      types = c.in_ok-around-in-Ok.ensures.types;
      declared = c.in_ok-around-in-Ok.ensures.params;
      stated_so = c.in_ok-around-in-Ok.ensures.stated;
      declared_so = c.in_ok-around-in-Ok.ensures.declares;
    })

pub returns-clause-fault : goal.returns-clause-fault
returns-clause-fault c =
    let symbols = own c.args.text.now c.args.tokens.now in
    subst (IsTextFault c.args.text.now) (sym c.of_unread.ensures)
    (fault_by c.args.text.now c.args.tokens.now c.requires.tokens c.in_ok-context.context.kinds.items c.as_slice-kinds.result.now c.as_slice-kinds.ensures.value
    c.in_ok-context.ensures.kinds.0 (read_off Module symbols c.in_ok-marks.field-0)
    (c.in_ok-marks.ensures symbols (subst (AreKinds symbols) (sym c.as_slice-kinds.ensures.value) c.in_ok-context.ensures.kinds.1)) c.as_slice.result.now
    (λ k. (λ among. (c.in_ok-context.ensures.deep k).0 (subst (λ ds. Contains ds k) c.as_slice.ensures.value among), λ at. subst (λ ds. Contains ds k) (sym c.as_slice.ensures.value) ((c.in_ok-context.ensures.deep k).1 at)))
    c.in-Err.why (ap (read_off Module symbols) c.in-Err.is))
