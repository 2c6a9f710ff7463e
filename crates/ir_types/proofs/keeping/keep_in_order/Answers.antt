use Rattle.std.proofs.Common.{ap, subst, sym}
use Rattle.ir_types.specs.declared.layout.Layout.{Layout}
use Rattle.ir_types.specs.declared.name_map.NameMap.{NameMap}
use Rattle.ir_types.specs.Kept.{AlignsArePositive, ArePartlyKept, value_of, fields_at}
use Rattle.ir_types.proofs.KeptNames.{partly_after}
use Rattle.ir_types.proofs.keeping.keep_in_order.Goals as goal
use Rattle.ir_types.proofs.keeping.keep_in_order.Goals.{in-Some+in_ok-keep_name, in_default}

pub loop-place-preserved : goal.loop-place-preserved
loop-place-preserved c =
    let Keeps : NameMap Layout → Type 0 = λ m. AlignsArePositive (value_of m) × ArePartlyKept c.args.types.now (value_of m) in
    elim (c.match-get.branch) [
      | in-Some+in_ok-keep_name w ↦ subst Keeps (sym w.layouts-is) (
        w.in_ok-keep_name.ensures.positive,
        partly_after c.args.types.now (fields_at c.args.fields.now) c.requires.indexed (value_of c.loop-place.layouts) (value_of w.keep_name.new.layouts)
            w.in-Some.named.now.name c.loop-place.invariant.1 w.in_ok-keep_name.field-0 w.in_ok-keep_name.ensures.more
            (λ e. ap value_of (sym (w.in_ok-keep_name.ensures.none e))),
      )
      | in_default w ↦ subst Keeps (sym w.layouts-is) c.loop-place.invariant
    ]
