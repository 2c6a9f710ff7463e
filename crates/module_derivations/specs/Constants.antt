-- What is seen ahead of constants, initialisers and values.
use Rattle.std.specs.Prelude.{ℕ, Bool, true, false, List, [], ◌∷◌, Option}
use Rattle.module_grammar.specs.declared.constants.ConstText.{ConstText}
use Rattle.module_grammar.specs.declared.constants.GlobalNameText.{GlobalNameText}
use Rattle.module_grammar.specs.declared.constants.InitText.{InitText}
use Rattle.module_grammar.specs.declared.constants.IntText.{IntText}
use Rattle.module_grammar.specs.declared.constants.OperandText.{OperandText}
use Rattle.module_grammar.specs.declared.constants.ValueText.{ValueText}
use Rattle.module_grammar.specs.declared.types.TypeText.{TypeText}
use Rattle.module_grammar.specs.declared.constants.ConstText as const
use Rattle.module_grammar.specs.declared.constants.GlobalNameText.TheVariants as global_name
use Rattle.module_grammar.specs.declared.constants.InitText as init
use Rattle.module_grammar.specs.declared.constants.IntText.TheVariants as integer
use Rattle.module_grammar.specs.declared.constants.Tag.TheVariants.{Old, Ghost}
use Rattle.module_grammar.specs.declared.constants.ValueText.TheVariants as value
use Rattle.module_derivations.specs.FlatMarks.Flat.{behind, skip}
use Rattle.module_derivations.specs.declared.rule.TheConstants as rule
use Rattle.module_derivations.specs.Parts.{Part, if_rule}
use Rattle.module_derivations.specs.Empty.{made, said, no_name, no_number, no_value}
use Rattle.module_derivations.specs.Said.{name_of, number_of, truth_of, bytes_of, place_of}
use Rattle.module_derivations.specs.Types.{any_type}

-- ---- nonterminals of one rule, which is not written down

-- any_type value
abbrev pub operand : List Part → OperandText
operand s = record { ty = any_type s; value = (made (skip 2 s)).value }

-- ---- what each rule makes of the parts behind its beginning

-- GLOBAL; DEBUG
abbrev pub global_name_by : Option ℕ → List Part → GlobalNameText
global_name_by r s =
    if_rule r rule.PLAIN_NAME (global_name.Plain (name_of (said s)))
    (if_rule r rule.DEBUG_NAME (global_name.Debug (name_of (said s)))
    (global_name.Plain no_name))

-- NUMBER; TRUTH
abbrev pub integer_by : Option ℕ → List Part → IntText
integer_by r s =
    if_rule r rule.NUMBER (integer.Number (number_of (said s)))
    (if_rule r rule.TRUTH (integer.Truth (truth_of (said s)))
    (integer.Number no_number))

-- inbounds
abbrev pub inbounds_by : Option ℕ → List Part → Bool
inbounds_by r s = if_rule r rule.INBOUNDS true false

-- integer; null; undef; global_name; getelementptr inbounds ( any_type , any_type constant more_consts );
-- bitcast ( any_type constant to any_type )
abbrev pub constant_by : Option ℕ → List Part → ConstText
constant_by r s =
    if_rule r rule.INT_CONST (const.Int (made s).integer)
    (if_rule r rule.NULL_CONST (const.Null (place_of (said s)))
    (if_rule r rule.UNDEF_CONST const.Undef
    (if_rule r rule.GLOBAL_CONST (const.Global (made s).global_name)
    (if_rule r rule.ELEMENT_CONST (const.Element (place_of (said s)) (made (behind s)).inbounds (any_type (skip 2 s), any_type (skip 4 s), (made (skip 6 s)).constant, (made (skip 7 s)).more_consts))
    (if_rule r rule.CAST_CONST (const.Cast (place_of (said s)) (any_type (behind s), (made (skip 3 s)).constant, any_type (skip 4 s)))
    const.Undef)))))

-- , any_type constant more_consts
abbrev pub more_consts_by : Option ℕ → List Part → List (TypeText × ConstText)
more_consts_by r s = if_rule r rule.MORE_CONSTS ((any_type s, (made (skip 2 s)).constant) ∷ (made (skip 3 s)).more_consts) []

-- constant; zeroinitializer; c BYTES; [ inits ]; { inits }
abbrev pub init_by : Option ℕ → List Part → InitText
init_by r s =
    if_rule r rule.CONST_INIT (init.Const (made s).constant)
    (if_rule r rule.ZERO_INIT init.Zero
    (if_rule r rule.BYTES_INIT (init.Bytes (bytes_of (said s)))
    (if_rule r rule.ARRAY_INIT (init.Array (place_of (said s)) (made (behind s)).inits)
    (if_rule r rule.STRUCT_INIT (init.Struct (place_of (said s)) (made (behind s)).inits)
    init.Zero))))

-- any_type init more_inits
abbrev pub inits_by : Option ℕ → List Part → List (TypeText × InitText)
inits_by r s = if_rule r rule.INITS ((any_type s, (made (skip 2 s)).init) ∷ (made (skip 3 s)).more_inits) []

-- , any_type init more_inits
abbrev pub more_inits_by : Option ℕ → List Part → List (TypeText × InitText)
more_inits_by r s = if_rule r rule.MORE_INITS ((any_type s, (made (skip 2 s)).init) ∷ (made (skip 3 s)).more_inits) []

-- constant; LOCAL; old LOCAL; ghost LOCAL
abbrev pub value_by : Option ℕ → List Part → ValueText
value_by r s =
    if_rule r rule.CONST_VALUE (value.Const (made s).constant)
    (if_rule r rule.LOCAL (value.Local (name_of (said s)))
    (if_rule r rule.OLD_REGISTER (value.Tagged Old (name_of (said s)))
    (if_rule r rule.GHOST_REGISTER (value.Tagged Ghost (name_of (said s)))
    no_value)))
