use Rattle.std.proofs.Common.{◌≡◌, ◌∙◌, ap, arith, map, subst, sym, true, List}
use Rattle.std.specs.Option.{is_some}
use Rattle.ir_types.specs.declared.ty.Ty.{Ty}
use Rattle.ir_types.specs.Kept.{capped_size}
use Rattle.ir_types.specs.Layout.{all_of}
use Rattle.ir_types.specs.Named.{layout_of, offset_in}
use Rattle.ir_types.proofs.Offsets.{fields_are_sized, offset_is_exact}
use Rattle.ir_types.proofs.sizes.field_offset.Goals as goal

pub offset-requires-clause-sized : goal.offset-requires-clause-sized
offset-requires-clause-sized c =
    subst (λ (fields : List Ty). is_some (all_of (map (layout_of c.args.types.now) fields)) ≡ true) (sym c.fields_in.ensures)
    (fields_are_sized c.args.types.now c.args.ty.now (omega (arith, c.requires.there)) c.requires.sized)

pub returns : goal.returns
returns c =
    c.from.ensures ∙ c.offset.ensures
    ∙ ap (λ fields. capped_size (offset_in (all_of (map (layout_of c.args.types.now) fields)) c.args.field)) c.fields_in.ensures
    ∙ offset_is_exact c.args.types.now c.args.ty.now c.args.field c.requires.there c.requires.fits
