use Rattle.std.proofs.Common.{rules, arith, ◌≡◌, Some, sym}
use Rattle.std.proofs.lemmas.Grind.{common_steps}
use Rattle.ir_types.specs.declared.ty.Ty.TheFolds.{the_lemmas}
use Rattle.ir_types.specs.Kept.{capped_by, capped_fields, value_of}
use Rattle.ir_types.proofs.Capping.{field_kept}
use Rattle.ir_types.proofs.kept.+kept.Goals as goal

pub kept_struct-loop-field-preserved : goal.kept_struct-loop-field-preserved
kept_struct-loop-field-preserved t c =
    let f = value_of c.args.names.now in
    let is : capped_by f c.field-item.result ≡ Some c.in_ok-field.field = sym c.in_ok-field.ensures.value in (
      omega (arith, c.greater_align-align.ensures),
      field_kept f c.args.fields.now c.loop-field.field-index c.field-item.result c.in_ok-field.field c.loop-field.end c.loop-field.align
          c.end_behind-end.result c.greater_align-align.result (capped_fields f c.args.fields.now)
          (omega arith) c.field-item.is is c.end_behind-end.ensures c.greater_align-align.ensures c.loop-field.invariant.1,
    )

pub kept_layout-returns-in-Ptr-clause-value : goal.kept_layout-returns-in-Ptr-clause-value
kept_layout-returns-in-Ptr-clause-value t c = search (rules, the_lemmas)

pub kept_struct-returns-clause-value : goal.kept_struct-returns-clause-value
kept_struct-returns-clause-value t c = grind (arith, common_steps)
