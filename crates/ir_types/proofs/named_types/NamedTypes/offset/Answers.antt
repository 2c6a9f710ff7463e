use Rattle.std.proofs.Common.{◌∙◌, ap, sym, subst, map, true, ◌≡◌, List}
use Rattle.std.specs.Option.{is_some}
use Rattle.ir_types.specs.declared.named.NamedTy.{NamedTy}
use Rattle.ir_types.specs.Kept.{capped_size, value_of}
use Rattle.ir_types.specs.Layout.{all_of}
use Rattle.ir_types.specs.Named.{found_in, layout_of, layout_of_name, offset_in}
use Rattle.ir_types.proofs.Offsets.{offset_is_kept}
use Rattle.ir_types.proofs.named_types.NamedTypes.offset.Goals as goal

pub returns : goal.returns
returns c =
    c.kept_offset.ensures
    ∙ offset_is_kept (value_of c.self.inside.layouts) (layout_of_name (found_in c.self.inside.types)) c.self.invariant.2 c.args.fields.now c.args.index
    (subst (λ (types : List NamedTy). is_some (all_of (map (layout_of types) c.args.fields.now)) ≡ true) (sym c.self.view_is) c.requires.sized)
    ∙ ap (λ types. capped_size (offset_in (all_of (map (layout_of types) c.args.fields.now)) c.args.index)) c.self.view_is
