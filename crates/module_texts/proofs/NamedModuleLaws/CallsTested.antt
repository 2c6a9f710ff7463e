-- The examples are computed.
use Rattle.std.proofs.Common.{refl}
use Rattle.module_texts.proofs.NamedModuleLaws.Folds.{trees}
use Rattle.module_texts.specs.NamedModuleLaws.CallsAtFault.{CallsAreTested}

pub calls_are_tested : CallsAreTested
calls_are_tested = record {
  global_called = simp trees refl;
  unknown = refl;
  debugging_by_convention = refl;
  itself = refl;
  dropped = refl;
  debugging_of_no_void = simp trees refl;
  unstated = simp trees refl;
  stated = simp trees refl;
  stated_without_dots = simp trees refl;
  stated_too_few = simp trees refl;
  stated_with_dots = simp trees refl;
  stated_another = simp trees refl;
  stated_empty = simp trees refl;
  stated_needlessly = simp trees refl;
  unknown_stated = simp trees refl;
  void_stated = simp trees refl;
  void_stated_another = simp trees refl;
  void_unstated = simp trees refl;
  other_arguments = simp trees refl;
  an_argument = simp trees refl;
  dropped_align = simp trees refl;
  attributes = simp trees refl;
  convention = simp trees refl;
}
