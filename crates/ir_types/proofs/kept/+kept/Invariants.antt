use Rattle.std.proofs.Common.{◌≡◌, ◌<◌, drop, map}
use Rattle.std.specs.Option.{option_map}
use Rattle.ir_types.specs.Layout.{all_of, struct_from}
use Rattle.ir_types.specs.Kept.{capped, capped_by, capped_fields, value_of}
use Rattle.ir_types.proofs.kept.+kept.Given as goal

abbrev pub invariant-kept_struct-loop-field : goal.invariant-kept_struct-loop-field
invariant-kept_struct-loop-field l =
    (0 < l.align)
    × (option_map (λ layouts. capped (struct_from l.end l.align layouts)) (all_of (map (capped_by (value_of l.names)) (drop l.field-index l.fields)))
    ≡ capped_fields (value_of l.names) l.fields)
