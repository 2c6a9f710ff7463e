-- Words of private functions: extensions that are found one by one.
use Rattle.std.specs.Prelude.{◌||◌, List, Option, None, Some}
use Rattle.std.specs.List.{list_any}
use Rattle.ir_core.specs.declared.functions.Extensions.{Extensions}
use Rattle.module_grammar.specs.declared.attributes.ParamAttributeText.{ParamAttributeText}
use Rattle.named_modules.specs.Values.{is_signed, is_zeroed}

abbrev pub with_attribute : Extensions → Option ParamAttributeText → Extensions
with_attribute found None = found
with_attribute found (Some a) = record { signed = found.signed || is_signed a; zero = found.zero || is_zeroed a }

abbrev pub with_attributes : Extensions → List ParamAttributeText → Extensions
with_attributes found xs = record { signed = found.signed || list_any is_signed xs; zero = found.zero || list_any is_zeroed xs }
