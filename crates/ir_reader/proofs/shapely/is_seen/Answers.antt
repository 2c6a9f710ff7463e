use Rattle.std.proofs.Common.{◌≡◌, [], rules}
use Rattle.ir_reader.proofs.Seen.{definitions_decide}
use Rattle.ir_reader.proofs.shapely.is_seen.Goals as goal

pub returns-clause-faultless : goal.returns-clause-faultless
returns-clause-faultless c =
    let m = c.args.module.now in
    let same : c.as_slice.result.now ≡ m.functions = search rules in
    let alone : (m.types ≡ []) × (m.globals ≡ []) × (m.declarations ≡ []) = search rules in
    definitions_decide m c.as_slice.result.now same alone.0 alone.1 alone.2 c.are_seen.result c.are_seen.ensures.names c.are_seen.ensures.shape
