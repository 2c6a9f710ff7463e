-- What is told of a name.
use Rattle.std.specs.Prelude.{ℕ, nat_eq, List, [], map, Option, None, Some}
use Rattle.std.specs.HashMap.{get}
use Rattle.std.specs.Option.{option_map}
use Rattle.module_derivations.specs.FlatMarks.Flat.{mark_of}
use Rattle.ir_types.specs.declared.names.Name.{Name}
use Rattle.module_derivations.specs.Ahead.{ahead}
use Rattle.module_derivations.specs.Empty.{made}
use Rattle.module_derivations.specs.Parts.{Part}
use Rattle.module_grammar.specs.Spelled.{symbol_in}
use Rattle.module_grammar.specs.declared.functions.DeclaredText.{DeclaredText}
use Rattle.module_grammar.specs.declared.places.Placed.{Placed}
use Rattle.module_grammar.specs.declared.types.CalledText.{CalledText}
use Rattle.module_grammar.specs.declared.words.Language.TheVariants.{Ir}
use Rattle.token_context.specs.declared.name_surroundings.around.Around.{Around}
use Rattle.token_context.specs.declared.name_surroundings.around.Marked.{Marked}

-- what stands in front of the marks
abbrev pub in_front : Marked → List Part
in_front m = ahead (map (symbol_in Ir m.text.now) m.tokens.now) (map mark_of m.numbers)

abbrev pub front_of : Option Marked → List Part
front_of None = []
front_of (Some m) = in_front m

abbrev pub types_in : Marked → CalledText
types_in m = (made (in_front m)).called

abbrev pub params_in : Marked → DeclaredText
params_in m = (made (in_front m)).declared_params

abbrev pub params_behind : ℕ × Marked → ℕ × DeclaredText
params_behind p = (p.0, params_in p.1)

-- the types that are told by each place, and the parameters
abbrev pub types_told : (ℕ → Option Marked) → ℕ → Option CalledText
types_told told q = option_map types_in (told q)

abbrev pub params_told : (ℕ → Option Marked) → ℕ → Option DeclaredText
params_told told q = option_map params_in (told q)

-- the types before a name
abbrev pub called : Around → Placed Name → CalledText
called it x = (made (front_of (get nat_eq it.called x.start))).called

-- the parameters behind it
abbrev pub declared : Around → Placed Name → DeclaredText
declared it x = (made (front_of (get nat_eq it.declared x.start))).declared_params
