-- The examples are computed.
use Rattle.std.proofs.Common.{refl}
use Rattle.module_texts.proofs.NamedModuleLaws.Builds.{built_constants}
use Rattle.module_texts.proofs.NamedModuleLaws.Folds.{constants_told, inits_started, pointed, trees}
use Rattle.module_texts.specs.NamedModuleLaws.BuiltModules.{ItemsAreBuilt, LinesAreBuilt}

pub items_are_built : ItemsAreBuilt
items_are_built = record {
  types = (simp trees refl, simp trees refl);
  numbers = (simp (built_constants, trees) refl, simp trees refl);
  initials = (simp (built_constants, trees) refl, simp trees refl);
  addresses = (simp built_constants (simp trees refl), simp (inits_started, constants_told) (simp pointed (simp trees refl)));
  linkages_of_globals = (simp (built_constants, trees) refl, simp trees refl);
  dropped = (refl, refl);
  declared = (simp trees refl, simp trees refl);
  defined = (simp trees refl, simp trees refl);
  kept_debugging = simp trees refl;
}

pub lines_are_built : LinesAreBuilt
lines_are_built = record {
  flagged_operators = (simp trees refl, simp trees refl);
  further_operators = (simp trees refl, simp trees refl);
  widths = (simp trees refl, simp trees refl);
  conversions = (simp trees refl, simp trees refl);
  memory = (simp pointed (simp trees refl), simp pointed (simp trees refl));
  calls = (simp trees refl, simp trees refl);
  blocks = (simp trees refl, simp trees refl);
}
