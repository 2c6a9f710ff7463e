use Rattle.std.proofs.Common.{◌∙◌, ap}
use Rattle.std.specs.Option.{option_map}
use Rattle.ir_types.specs.Kept.{capped, value_of}
use Rattle.ir_types.specs.Named.{found_in, layout_of, layout_of_name}
use Rattle.ir_types.proofs.Capping.{is_kept}
use Rattle.ir_types.proofs.named_types.NamedTypes.layout.Goals as goal

pub returns-clause-value : goal.returns-clause-value
returns-clause-value c =
    c.kept_layout.ensures.value
    ∙ is_kept (value_of c.self.inside.layouts) (layout_of_name (found_in c.self.inside.types)) c.self.invariant.2 c.args.ty.now
    ∙ ap (λ types. option_map capped (layout_of types c.args.ty.now)) c.self.view_is
