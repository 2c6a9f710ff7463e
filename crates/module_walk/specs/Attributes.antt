-- Extensions that are found one by one.
use Rattle.std.specs.Prelude.{◌||◌, true, false, List, [], ◌∷◌}
use Rattle.ir_core.specs.declared.functions.Extensions.{Extensions}
use Rattle.module_grammar.specs.declared.attributes.ParamAttributeText.{ParamAttributeText}
use Rattle.module_grammar.specs.declared.operators.ExtensionWord.{ExtensionWord}
use Rattle.module_grammar.specs.declared.operators.ExtensionWord.TheVariants.{Signed, Zero}
use Rattle.named_modules.specs.Values.{is_signed, is_zeroed}

abbrev pub extension_by : ExtensionWord → Extensions
extension_by Signed = record { signed = true; zero = false }
extension_by Zero = record { signed = false; zero = true }

-- which extension an attribute is
abbrev pub extensions_in : ParamAttributeText → Extensions
extensions_in a = record { signed = is_signed a; zero = is_zeroed a }

abbrev pub either_extension : Extensions → Extensions → Extensions
either_extension a b = record { signed = a.signed || b.signed; zero = a.zero || b.zero }

-- those that were found, and those among these
abbrev pub extensions_from : Extensions → List ParamAttributeText → Extensions
extensions_from found [] = found
extensions_from found (a ∷ more) = extensions_from (either_extension found (extensions_in a)) more
