use Rattle.std.proofs.Common.{◌∙◌, ap}
use Rattle.derivation_cursor.specs.At.{ahead_of}
use Rattle.module_derivations.specs.FlatMarks.Flat.{behind}
use Rattle.module_derivations.specs.Empty.{made}
use Rattle.named_modules.specs.Functions.{is_dropped_name}
use Rattle.fault_walk.proofs.items.is_dropped_ahead.Goals as goal

pub returns : goal.returns
returns c =
    c.read_is_dropped.ensures
    ∙ ap (λ s. is_dropped_name (made s).declared_name)
    (c.skip_part-3.ensures.behind ∙ ap behind (c.skip_part-2.ensures.behind ∙ ap behind (c.skip_part.ensures.behind ∙ ap behind (ap ahead_of c.fork-ahead.ensures))))
