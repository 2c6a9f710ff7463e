use Rattle.std.proofs.Common.{ℕ, List, ap, sym, ◌∙◌}
use Rattle.json_forms.specs.declared.failure.Fault.TheVariants.{At, Past}
use Rattle.hint_format.specs.declared.fault.HintFault.TheVariants.{Unfit}
use Rattle.crell_program.specs.CommandLine.Words.{shown_names}
use Rattle.crell_program.proofs.Inner.{unfit_source, unfit_target, unfit_hints, texts_judged, texts_refined, fault_refined}
use Rattle.crell_program.proofs.judging.judge_pair.Goals as goal

pub returns-in-Err-Unfit-clause-due : goal.returns-in-Err-Unfit-clause-due
returns-in-Err-Unfit-clause-due g c =
    let fault = c.in-Err-Unfit.ensures.fault (At c.as_slice.result.now)
    (c.in-Err-Unfit.field-0-is ∙ ap (λ (path : List ℕ). Unfit path) (sym c.as_slice.ensures)) in
    unfit_hints _ (shown_names c.args.names.now) c.args.source.now c.args.target.now c.args.hints.now
    c.in-Ok.module (c.in-Ok.ensures.spelled, c.in-Ok.ensures.only) c.in-Ok-read_well_formed.module (c.in-Ok-read_well_formed.ensures.spelled, c.in-Ok-read_well_formed.ensures.only)
    (At c.as_slice.result.now) fault _ c.unfit.ensures

pub returns-in-Err-Limit-clause-due : goal.returns-in-Err-Limit-clause-due
returns-in-Err-Limit-clause-due g c =
    let fault = c.in-Err-Limit.ensures.fault (Past c.in-Err-Limit.limit) c.in-Err-Limit.field-0-is in
    unfit_hints _ (shown_names c.args.names.now) c.args.source.now c.args.target.now c.args.hints.now
    c.in-Ok.module (c.in-Ok.ensures.spelled, c.in-Ok.ensures.only) c.in-Ok-read_well_formed.module (c.in-Ok-read_well_formed.ensures.spelled, c.in-Ok-read_well_formed.ensures.only)
    (Past c.in-Err-Limit.limit) fault _ c.past_limit.ensures

pub returns-clause-due : goal.returns-clause-due
returns-clause-due g c =
    texts_judged _ (shown_names c.args.names.now) c.args.source.now c.args.target.now c.args.hints.now
    c.in-Ok.module (c.in-Ok.ensures.spelled, c.in-Ok.ensures.only) c.in-Ok-read_well_formed.module (c.in-Ok-read_well_formed.ensures.spelled, c.in-Ok-read_well_formed.ensures.only)
    c.in-Ok-read_hints.hints c.in-Ok-read_hints.ensures.ok _ c.judge.ensures.verdict

pub returns-clause-refines : goal.returns-clause-refines
returns-clause-refines g c =
    texts_refined c.args.source.now c.args.target.now c.in-Ok.module c.in-Ok-read_well_formed.module
    (c.in-Ok.ensures.spelled, c.in-Ok.ensures.only) (c.in-Ok-read_well_formed.ensures.spelled, c.in-Ok-read_well_formed.ensures.only)
    _ c.judge.ensures.refines

pub returns-in-Err : goal.returns-in-Err
returns-in-Err g c = record {
  due =
      unfit_source _ (shown_names c.args.names.now) c.args.source.now c.args.target.now c.args.hints.now
      c.in-Err.fault c.in-Err.ensures.fault c.module_fault.result c.module_fault.ensures.said c.module_fault.ensures.answer;
  refines = fault_refined c.args.source.now c.args.target.now c.in-Err.fault c.args.source.now (shown_names c.args.names.now).source c.module_fault.result c.module_fault.ensures.answer;
}

pub returns-in-Err-read_well_formed : goal.returns-in-Err-read_well_formed
returns-in-Err-read_well_formed g c = record {
  due =
      unfit_target _ (shown_names c.args.names.now) c.args.source.now c.args.target.now c.args.hints.now
      c.in-Ok.module (c.in-Ok.ensures.spelled, c.in-Ok.ensures.only)
      c.in-Err-read_well_formed.fault c.in-Err-read_well_formed.ensures.fault c.module_fault-in-Err-read_well_formed.result c.module_fault-in-Err-read_well_formed.ensures.said
      c.module_fault-in-Err-read_well_formed.ensures.answer;
  refines =
      fault_refined c.args.source.now c.args.target.now c.in-Err-read_well_formed.fault c.args.target.now (shown_names c.args.names.now).target
      c.module_fault-in-Err-read_well_formed.result c.module_fault-in-Err-read_well_formed.ensures.answer;
}
