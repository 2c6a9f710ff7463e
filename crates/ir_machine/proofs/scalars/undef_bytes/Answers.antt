use Rattle.std.proofs.Common.{◌∙◌, [], ◌∷◌, ◌++◌, ap, sym}
use Rattle.ir_core.specs.declared.values.Byte.TheVariants.{Undef}
use Rattle.ir_machine.proofs.Laying.{undef_more}
use Rattle.ir_machine.proofs.scalars.undef_bytes.Goals as goal

pub loop-preserved : goal.loop-preserved
loop-preserved c = c.in_ok-push.ensures.items ∙ ap (λ l. l ++ (Undef ∷ [])) c.loop.invariant ∙ sym (undef_more c.loop.counter)
