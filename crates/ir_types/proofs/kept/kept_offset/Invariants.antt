use Rattle.std.proofs.Common.{◌≡◌, drop}
use Rattle.ir_types.specs.Kept.{kept_offset, value_of}
use Rattle.ir_types.proofs.kept.kept_offset.Given as goal

abbrev pub invariant-loop-field : goal.invariant-loop-field
invariant-loop-field l = kept_offset (value_of l.names) l.end (drop l.field-index l.fields) l.left ≡ kept_offset (value_of l.names) 0 l.fields l.fn.index
