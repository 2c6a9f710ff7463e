use Rattle.std.proofs.Common.{arith, refl, ◌-◌}
use Rattle.ir_types.specs.Kept.{value_of}
use Rattle.ir_types.proofs.KeptNames.{fields_put, name_put}
use Rattle.ir_types.proofs.keeping.index_fields.Goals as goal

pub loop-left-preserved : goal.loop-left-preserved
loop-left-preserved c = (
  omega arith,
  fields_put c.args.types.now c.loop-left.left (c.loop-left.left - 1) c.index-types-left.result c.in_ok-copy.field-0 c.in_ok-shared_fields.field-0
      (value_of c.loop-left.fields) (value_of c.put.new.self) (omega arith) refl (omega arith) c.index-types-left.is c.in_ok-copy.ensures
      c.in_ok-shared_fields.ensures c.loop-left.invariant.1 c.in_ok-put.ensures,
  name_put c.args.types.now c.loop-left.left (c.loop-left.left - 1) c.index-types-left.result c.in_ok-copy.field-0 c.in_ok-shared_fields.field-0
      (value_of c.loop-left.fields) (value_of c.put.new.self) (omega arith) refl (omega arith) c.index-types-left.is c.in_ok-copy.ensures
      c.loop-left.invariant.2 c.in_ok-put.ensures,
)
