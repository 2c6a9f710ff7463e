use Rattle.std.proofs.Common.{ap, sym, arith}
use Rattle.ir_types.specs.Kept.{value_of, fields_at}
use Rattle.ir_types.proofs.KeptNames.{round_step}
use Rattle.ir_types.proofs.keeping.keep_round.Goals as goal

pub loop-named-preserved : goal.loop-named-preserved
loop-named-preserved c =
    round_step c.args.types.now (fields_at c.args.fields.now) c.requires.indexed (value_of c.args.layouts.now) (value_of c.loop-named.layouts)
    (value_of c.keep_name.new.layouts) c.loop-named.more c.loop-named.named-index c.named-item.result (omega arith) c.named-item.is c.loop-named.invariant
    c.in_ok-more.field-0 c.in_ok-more.ensures.positive c.in_ok-more.ensures.more
    (λ e. ap value_of (sym (c.in_ok-more.ensures.none e))) c.in_ok-more.ensures.closed
