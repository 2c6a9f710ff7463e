-- Types that are read.
use Rattle.named_modules.specs.Faults.{Heads, first_of, type_faults}
use Rattle.named_modules.specs.Types.{type_of}
use Rattle.module_grammar.specs.declared.types.TypeText.{TypeText}
use Rattle.fault_walk.specs.Told.{is_faultless}
use Rattle.fault_walk.specs.declared.constants.Stated.{Stated}

-- the type that is written, where its first token stands, and whether nothing is at fault in it
abbrev pub stated : Heads → TypeText → Stated
stated h w = record { ty = type_of w; place = first_of w; is_faultless = is_faultless (type_faults h w) }
