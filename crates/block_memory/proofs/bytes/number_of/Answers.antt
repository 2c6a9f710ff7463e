use Rattle.std.proofs.Common.{◌<◌, ◌^◌, ◌-◌, length, arith, sym}
use Rattle.block_memory.proofs.Steps.{number_step, below_step, room_left, not_number}
use Rattle.block_memory.proofs.bytes.number_of.Goals as goal

pub overflow_mul-number : goal.overflow_mul-number
overflow_mul-number c =
    let h : c.loop-place.number < 2 ^ 56 = room_left c.loop-place.number (length c.args.bytes.now - c.loop-place.place) c.loop-place.invariant.below (omega arith) in
    omega arith

pub overflow_add-number : goal.overflow_add-number
overflow_add-number c =
    let h : c.loop-place.number < 2 ^ 56 = room_left c.loop-place.number (length c.args.bytes.now - c.loop-place.place) c.loop-place.invariant.below (omega arith) in
    omega arith

pub loop-place-preserved : goal.loop-place-preserved
loop-place-preserved c = record {
  inside = omega arith;
  number = number_step c.args.bytes.now (c.loop-place.place - 1) c.loop-place.place c.in-Num.low c.loop-place.number _ (omega arith) (omega arith) c.in-Num.is c.loop-place.invariant.number;
  below = below_step c.loop-place.number c.in-Num.low _ (length c.args.bytes.now - c.loop-place.place) c.loop-place.invariant.below (omega arith) (omega arith);
}

pub returns-in_default : goal.returns-in_default
returns-in_default c = sym (not_number c.args.bytes.now (c.loop-place.place - 1) _ (omega arith) c.in_default.not-Num)
