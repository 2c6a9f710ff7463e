use Rattle.std.proofs.Common.{◌∙◌, sym}
use Rattle.std.specs.Option.{is_some}
use Rattle.ir_types.specs.NameLaws.{left_true}
use Rattle.ir_core.specs.Sizes.{stepped}
use Rattle.std.proofs.Common.{map}
use Rattle.ir_values.specs.Addresses.{are_entered_small, distances, told_index}
use Rattle.ir_values.proofs.LedSmall.{all_small}
use Rattle.ir_values.proofs.addresses.address_of.Goals as goal

pub moved-requires-clause-types : goal.moved-requires-clause-types
moved-requires-clause-types g c =
    let types = c.args.types.now in
    let is = g.I.Indices.listed c.args.indices.now in
    all_small types (stepped types c.args.ty.now (map told_index is))
    (left_true (are_entered_small types c.args.ty.now is) (is_some (distances types c.args.ty.now is)) (sym c.leads.ensures ∙ c.if-not-leads.false))
