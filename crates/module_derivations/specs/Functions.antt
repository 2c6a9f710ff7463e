-- What is seen ahead of heads, declarations and parameters.
use Rattle.std.specs.Prelude.{ℕ, Bool, true, false, List, [], ◌∷◌, Option, Some, None}
use Rattle.ir_types.specs.declared.names.Name.{Name}
use Rattle.module_grammar.specs.declared.functions.DeclaredNameText.{DeclaredNameText}
use Rattle.module_grammar.specs.declared.functions.DeclaredText.{DeclaredText}
use Rattle.module_grammar.specs.declared.functions.HeadEndText.{HeadEndText}
use Rattle.module_grammar.specs.declared.functions.HeadText.{HeadText}
use Rattle.module_grammar.specs.declared.functions.LinkageText.{LinkageText}
use Rattle.module_grammar.specs.declared.functions.NextDeclaredText.{NextDeclaredText}
use Rattle.module_grammar.specs.declared.functions.ParamText.{ParamText}
use Rattle.module_grammar.specs.declared.functions.ResultText.{ResultText}
use Rattle.module_grammar.specs.declared.places.Placed.{Placed}
use Rattle.module_grammar.specs.declared.types.TypeText.{TypeText}
use Rattle.module_grammar.specs.Joined.{declared_from}
use Rattle.module_grammar.specs.declared.functions.DeclaredNameText.TheVariants as declared_name
use Rattle.module_grammar.specs.declared.functions.LinkageText.TheVariants as linkage
use Rattle.module_grammar.specs.declared.functions.NextDeclaredText.TheVariants as next_declared
use Rattle.module_derivations.specs.FlatMarks.Flat.{behind, skip}
use Rattle.module_derivations.specs.declared.rule.TheConstants as rule
use Rattle.module_derivations.specs.Parts.{Part, if_rule}
use Rattle.module_derivations.specs.Empty.{made, said, no_name, no_head_end}
use Rattle.module_derivations.specs.Said.{name_of, linkage_of}
use Rattle.module_derivations.specs.Types.{any_type}

-- ---- nonterminals of one rule, which is not written down

-- convention param_attributes result_type
abbrev pub result : List Part → ResultText
result s = record { is_ccc = (made s).convention; attributes = (made (behind s)).param_attributes; ty = (made (skip 2 s)).result_type }

-- unnamed_addr function_attributes
abbrev pub head_end : List Part → HeadEndText
head_end s = record { unnamed_addr = (made s).unnamed_addr; attributes = (made (behind s)).function_attributes }

-- any_type param_attributes param_name
abbrev pub param : List Part → ParamText
param s = record { ty = any_type s; attributes = (made (skip 2 s)).param_attributes; name = (made (skip 3 s)).param_name }

-- result global_name ( params ) head_end
abbrev pub head : List Part → HeadText
head s = record { result = result s; name = (made (skip 3 s)).global_name; params = (made (skip 4 s)).params; end = head_end (skip 5 s) }

-- ---- what each rule makes of the parts behind its beginning

-- GLOBAL ( declared_params ) head_end; DEBUG ( balanced ) head_end
abbrev pub declared_name_by : Option ℕ → List Part → DeclaredNameText
declared_name_by r s =
    if_rule r rule.DECLARED (declared_name.Plain (name_of (said s)) (made (behind s)).declared_params (head_end (skip 2 s)))
    (if_rule r rule.DECLARED_DEBUG (declared_name.Debug (name_of (said s)) (head_end (skip 2 s)))
    (declared_name.Debug no_name no_head_end))

-- next_declared
abbrev pub declared_params_by : Option ℕ → List Part → DeclaredText
declared_params_by r s = if_rule r rule.DECLARED_PARAMS (declared_from (made s).next_declared) (record { params = []; is_open = false })

-- , next_declared
abbrev pub more_declared_by : Option ℕ → List Part → DeclaredText
more_declared_by r s = if_rule r rule.MORE_DECLARED (declared_from (made s).next_declared) (record { params = []; is_open = false })

-- ...; param more_declared
abbrev pub next_declared_by : Option ℕ → List Part → NextDeclaredText
next_declared_by r s =
    if_rule r rule.DECLARED_OPEN next_declared.Open
    (if_rule r rule.DECLARED_PARAM (next_declared.Param (param s) (made (skip 4 s)).more_declared)
    next_declared.Open)

-- ccc
abbrev pub convention_by : Option ℕ → List Part → Bool
convention_by r s = if_rule r rule.CONVENTION true false

-- void; any_type
abbrev pub result_type_by : Option ℕ → List Part → Option TypeText
result_type_by r s =
    if_rule r rule.VOID_RESULT None
    (if_rule r rule.TYPED_RESULT (Some (any_type s))
    None)

-- unnamed_addr
abbrev pub unnamed_addr_by : Option ℕ → List Part → Bool
unnamed_addr_by r s = if_rule r rule.UNNAMED_ADDR true false

-- LINKAGE; external
abbrev pub linkage_by : Option ℕ → List Part → LinkageText
linkage_by r s =
    if_rule r rule.WORD_LINKAGE (linkage.Word (linkage_of (said s)))
    (if_rule r rule.EXTERNAL_LINKAGE linkage.External
    linkage.None)

-- param more_params
abbrev pub params_by : Option ℕ → List Part → List ParamText
params_by r s = if_rule r rule.PARAMS (param s ∷ (made (skip 4 s)).more_params) []

-- , param more_params
abbrev pub more_params_by : Option ℕ → List Part → List ParamText
more_params_by r s = if_rule r rule.MORE_PARAMS (param s ∷ (made (skip 4 s)).more_params) []

-- LOCAL
abbrev pub param_name_by : Option ℕ → List Part → Option (Placed Name)
param_name_by r s = if_rule r rule.NAMED (Some (name_of (said s))) None
