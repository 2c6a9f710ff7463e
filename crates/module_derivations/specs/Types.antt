-- What is seen ahead of types.
use Rattle.std.specs.Prelude.{ℕ, false, List, [], ◌∷◌, Option, Some, None}
use Rattle.module_grammar.specs.declared.types.CalledText.{CalledText}
use Rattle.module_grammar.specs.declared.types.NextCalledText.{NextCalledText}
use Rattle.module_grammar.specs.declared.types.TypeText.{TypeText}
use Rattle.module_grammar.specs.Joined.{called_from, pointers_to}
use Rattle.module_grammar.specs.declared.types.NextCalledText.TheVariants as next_called
use Rattle.module_grammar.specs.declared.types.TypeText as type_text
use Rattle.module_derivations.specs.FlatMarks.Flat.{behind, skip}
use Rattle.module_derivations.specs.declared.rule.TheConstants as rule
use Rattle.module_derivations.specs.Parts.{Part, if_rule}
use Rattle.module_derivations.specs.Empty.{made, said, no_type}
use Rattle.module_derivations.specs.Said.{name_of, number_of, width_of, place_of}

-- ---- nonterminals of one rule, which is not written down

-- base_type stars
abbrev pub any_type : List Part → TypeText
any_type s = pointers_to (made s).base_type (made (behind s)).stars

-- ---- what each rule makes of the parts behind its beginning

-- WIDTH; LOCAL; [ NUMBER times any_type ]; { types }
abbrev pub base_type_by : Option ℕ → List Part → TypeText
base_type_by r s =
    if_rule r rule.INT_TYPE (type_text.Int (width_of (said s)))
    (if_rule r rule.NAMED_BASE (type_text.Named (name_of (said s)))
    (if_rule r rule.ARRAY_TYPE (type_text.Array (place_of (said s)) (number_of (said (behind s)), any_type (skip 2 s)))
    (if_rule r rule.STRUCT_TYPE (type_text.Struct (place_of (said s)) (made (behind s)).types)
    no_type)))

-- * stars
abbrev pub stars_by : Option ℕ → List Part → List ℕ
stars_by r s = if_rule r rule.STARS (place_of (said s) ∷ (made (behind s)).stars) []

-- any_type more_types
abbrev pub types_by : Option ℕ → List Part → List TypeText
types_by r s = if_rule r rule.TYPES (any_type s ∷ (made (skip 2 s)).more_types) []

-- , any_type more_types
abbrev pub more_types_by : Option ℕ → List Part → List TypeText
more_types_by r s = if_rule r rule.MORE_TYPES (any_type s ∷ (made (skip 2 s)).more_types) []

-- next_called
abbrev pub called_by : Option ℕ → List Part → CalledText
called_by r s = if_rule r rule.CALLED (called_from (made s).next_called) (record { types = []; is_open = false })

-- , next_called
abbrev pub more_called_by : Option ℕ → List Part → CalledText
more_called_by r s = if_rule r rule.MORE_CALLED (called_from (made s).next_called) (record { types = []; is_open = false })

-- ...; any_type more_called
abbrev pub next_called_by : Option ℕ → List Part → NextCalledText
next_called_by r s =
    if_rule r rule.CALLED_OPEN next_called.Open
    (if_rule r rule.CALLED_TYPE (next_called.Type (any_type s) (made (skip 2 s)).more_called)
    next_called.Open)

-- ( called )
abbrev pub function_type_by : Option ℕ → List Part → Option CalledText
function_type_by r s = if_rule r rule.FUNCTION_TYPE (Some (made s).called) None
