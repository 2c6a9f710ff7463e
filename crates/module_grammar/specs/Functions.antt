-- How heads of functions, declarations and definitions are written (LangRef 3.7, Functions).
use Rattle.std.specs.Prelude.{List, [], ◌∷◌, ◌++◌, map, Option, Some, None}
use Rattle.std.specs.List.{flat_map}
use Rattle.ir_types.specs.declared.names.Name.{Name}
use Rattle.module_grammar.specs.declared.functions.DeclarationText.{DeclarationText}
use Rattle.module_grammar.specs.declared.functions.DeclaredNameText.{DeclaredNameText}
use Rattle.module_grammar.specs.declared.functions.DeclaredNameText.TheVariants as names
use Rattle.module_grammar.specs.declared.functions.DeclaredText.{DeclaredText}
use Rattle.module_grammar.specs.declared.functions.DefinitionText.{DefinitionText}
use Rattle.module_grammar.specs.declared.functions.HeadEndText.{HeadEndText}
use Rattle.module_grammar.specs.declared.functions.HeadText.{HeadText}
use Rattle.module_grammar.specs.declared.functions.LinkageText.{LinkageText}
use Rattle.module_grammar.specs.declared.functions.LinkageText.TheVariants as linkages
use Rattle.module_grammar.specs.declared.functions.NextDeclaredText.{NextDeclaredText}
use Rattle.module_grammar.specs.declared.functions.NextDeclaredText.TheVariants as next
use Rattle.module_grammar.specs.declared.functions.ParamText.{ParamText}
use Rattle.module_grammar.specs.declared.functions.ResultText.{ResultText}
use Rattle.module_grammar.specs.declared.places.Placed.{Placed}
use Rattle.module_grammar.specs.Attributes.{attached, convention, function_attribute, param_attribute, unnamed_addr}
use Rattle.module_grammar.specs.Constants.{global_name}
use Rattle.module_grammar.specs.Flow.{block}
use Rattle.module_grammar.specs.Listed.{listed, further}
use Rattle.module_grammar.specs.Symbols.{Symbol, Local, Global, Debug, Linkage, Brace, define, declare, external, dots, balanced, open_paren, close_paren, close_brace}
use Rattle.module_grammar.specs.Types.{open_end, ty}
use Rattle.module_grammar.specs.Types as types

-- [ccc] {attribute} (T | void): `ccc zeroext i8`
abbrev pub result : ResultText → List Symbol
result r = convention r.is_ccc ++ (flat_map param_attribute r.attributes ++ types.result r.ty)

-- [unnamed_addr] {attribute}: `unnamed_addr nounwind #0`
abbrev pub head_end : HeadEndText → List Symbol
head_end e = unnamed_addr e.unnamed_addr ++ flat_map function_attribute e.attributes

-- [LOCAL]
abbrev pub local : Option (Placed Name) → List Symbol
local None = []
local (Some name) = Local name ∷ []

-- T {attribute} [LOCAL]: `i8 zeroext %x`, `i32`
abbrev pub param : ParamText → List Symbol
param p = ty p.ty ++ (flat_map param_attribute p.attributes ++ local p.name)

-- [param {, param}]
abbrev pub params : List ParamText → List Symbol
params ps = listed (map param ps)

-- [param {, param}], the last of which may be `...`: `i8*, ...`
abbrev pub declared_params : DeclaredText → List Symbol
declared_params d = listed (map param d.params ++ open_end d.is_open)

-- the same where a comma stands before each
abbrev pub more_declared : DeclaredText → List Symbol
more_declared d = further (map param d.params ++ open_end d.is_open)

-- the same from behind a comma on
abbrev pub next_declared : NextDeclaredText → List Symbol
next_declared next.Open = dots ∷ []
next_declared (next.Param p more) = param p ++ more_declared more

-- GLOBAL ( params ) [unnamed_addr] {attribute}; of debugging DEBUG ( balanced ) [unnamed_addr] {attribute}: `@f(i8*, ...) nounwind`
abbrev pub declared : DeclaredNameText → List Symbol
declared (names.Plain name params end) = Global name ∷ open_paren ∷ (declared_params params ++ (close_paren ∷ head_end end))
declared (names.Debug name end) = Debug name ∷ open_paren ∷ balanced ∷ close_paren ∷ head_end end

-- declare ..: `declare i32 @printf(i8*, ...)`
abbrev pub declaration : DeclarationText → List Symbol
declaration d = declare ∷ (result d.result ++ declared d.declared)

-- [LINKAGE]
abbrev pub linkage : LinkageText → List Symbol
linkage linkages.None = []
linkage (linkages.Word word) = Linkage word ∷ []
linkage linkages.External = external ∷ []

-- [ccc] {attribute} (T | void) GLOBAL ( params ) [unnamed_addr] {attribute}: `i32 @f(i32 %y) #0`
abbrev pub head : HeadText → List Symbol
head h = result h.result ++ (global_name h.name ∷ open_paren ∷ (params h.params ++ (close_paren ∷ head_end h.end)))

-- define [LINKAGE] head [!RUN META] { block {block} }: `define internal i32 @f(i32 %y) #0 { ret i32 %y }`
abbrev pub definition : DefinitionText → List Symbol
definition d =
    define
    ∷ (linkage d.linkage
    ++ (head d.head
    ++ (attached d.attachment ++ (Brace d.at ∷ (block d.entry ++ (flat_map block d.others ++ (close_brace ∷ [])))))))
