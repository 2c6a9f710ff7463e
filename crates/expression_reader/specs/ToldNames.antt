-- Words of private functions: what the tokens of a text of one name are read as.
use Rattle.std.specs.Prelude.{ℕ, List, [], ◌∷◌, Option, None, Some, Result, Ok, Err}
use Rattle.ir_lexer.specs.Cut.{Cut, Placed}
use Rattle.ir_lexer.specs.declared.fault.TextFault.{TextFault}
use Rattle.ir_lexer.specs.declared.fault.TextFault.TheVariants as fault
use Rattle.ir_types.specs.declared.names.Name.{Name}
use Rattle.ir_types.specs.declared.names.Sigil.{Sigil}
use Rattle.expression_reader.specs.Names.{said_name}
use Rattle.expression_reader.specs.ToldTypes.{of_lexer, of_token}

-- a name, and what stands behind it
abbrev pub alone : Name → List Placed → Result Name TextFault
alone name [] = Ok name
alone name (t ∷ more) = Err (of_token t)

abbrev pub named : Placed → List Placed → Option Name → Result Name TextFault
named t more None = Err (of_token t)
named t more (Some name) = alone name more

-- the name that these tokens of a text that ends there are, or the fault
abbrev pub name_in : Sigil → ℕ → List Placed → Result Name TextFault
name_in sigil end [] = Err (fault.Expected end)
name_in sigil end (t ∷ more) = named t more (said_name sigil t.kind)

abbrev pub name_cut : Sigil → ℕ → Cut → Result Name TextFault
name_cut sigil end (Ok tokens) = name_in sigil end tokens
name_cut sigil end (Err f) = Err (of_lexer f)
