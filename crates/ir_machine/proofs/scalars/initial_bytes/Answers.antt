use Rattle.std.proofs.Common.{◌∙◌, subst, sym}
use Rattle.std.specs.List.{AllByRecursion}
use Rattle.ir_machine.specs.Walks.{IsWide}
use Rattle.ir_machine.proofs.ScalarKinds.{scalars_are_wide}
use Rattle.ir_machine.proofs.scalars.initial_bytes.Goals as goal

pub laid-requires : goal.laid-requires
laid-requires c = record {
  wide = subst (AllByRecursion IsWide) (sym (c.deref.ensures.value ∙ c.in_ok-scalars.ensures)) (scalars_are_wide c.args.«module».now.types c.args.ty.now);
}
