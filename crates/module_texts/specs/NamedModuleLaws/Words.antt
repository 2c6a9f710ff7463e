-- Parts of trees with the places at which they stand. Each name is of one letter or digit, behind its sigil or before its `:`.
use Rattle.std.specs.Prelude.{◌+◌, ℕ, Bool, true, false, List, [], ◌∷◌, Option, None, Some, codes}
use Rattle.ir_core.specs.declared.operands.Pred.{Pred}
use Rattle.ir_lexer.specs.declared.token.Number.{Number as Numeral}
use Rattle.ir_types.specs.declared.names.Name.{Name}
use Rattle.ir_types.specs.declared.names.Name.TheVariants.{Text}
use Rattle.module_grammar.specs.declared.attributes.ParamAttributeText.{ParamAttributeText}
use Rattle.module_grammar.specs.declared.constants.ConstText.{ConstText}
use Rattle.module_grammar.specs.declared.constants.ConstText as const
use Rattle.module_grammar.specs.declared.constants.GlobalNameText.{GlobalNameText}
use Rattle.module_grammar.specs.declared.constants.GlobalNameText.TheVariants as global_name
use Rattle.module_grammar.specs.declared.constants.InitText.{InitText}
use Rattle.module_grammar.specs.declared.constants.IntText.{IntText}
use Rattle.module_grammar.specs.declared.constants.IntText.TheVariants as int
use Rattle.module_grammar.specs.declared.constants.OperandText.{OperandText}
use Rattle.module_grammar.specs.declared.constants.ValueText.{ValueText}
use Rattle.module_grammar.specs.declared.flow.BlockText.{BlockText}
use Rattle.module_grammar.specs.declared.flow.CaseText.{CaseText}
use Rattle.module_grammar.specs.declared.flow.EntryText.{EntryText}
use Rattle.module_grammar.specs.declared.flow.PhiText.{PhiText}
use Rattle.module_grammar.specs.declared.flow.TermText.{TermText}
use Rattle.module_grammar.specs.declared.flow.TermText.TheVariants as term
use Rattle.module_grammar.specs.declared.functions.DeclaredNameText.TheVariants as declared_name
use Rattle.module_grammar.specs.declared.functions.DeclaredText.{DeclaredText}
use Rattle.module_grammar.specs.declared.functions.HeadEndText.{HeadEndText}
use Rattle.module_grammar.specs.declared.functions.LinkageText.TheVariants as linkage
use Rattle.module_grammar.specs.declared.functions.ParamText.{ParamText}
use Rattle.module_grammar.specs.declared.functions.ResultText.{ResultText}
use Rattle.module_grammar.specs.declared.items.HeldText.{HeldText}
use Rattle.module_grammar.specs.declared.items.HeldText.TheVariants as held
use Rattle.module_grammar.specs.declared.items.HoldingWord.{HoldingWord}
use Rattle.module_grammar.specs.declared.items.HoldingWord.TheVariants.{Global as HeldGlobal}
use Rattle.module_grammar.specs.declared.items.ItemText.{ItemText}
use Rattle.module_grammar.specs.declared.items.ItemText.TheVariants as item
use Rattle.module_grammar.specs.declared.lines.ArgumentText.{ArgumentText}
use Rattle.module_grammar.specs.declared.lines.CallBodyText.{CallBodyText}
use Rattle.module_grammar.specs.declared.lines.CallEndText.{CallEndText}
use Rattle.module_grammar.specs.declared.lines.CastWord.{CastWord}
use Rattle.module_grammar.specs.declared.lines.CountText.{CountText}
use Rattle.module_grammar.specs.declared.lines.InstructionText.{InstructionText}
use Rattle.module_grammar.specs.declared.lines.InstructionText.TheVariants as instruction
use Rattle.module_grammar.specs.declared.lines.LineText.{LineText}
use Rattle.module_grammar.specs.declared.lines.OperationText.TheVariants as form
use Rattle.module_grammar.specs.declared.lines.OperatorText.{OperatorText}
use Rattle.module_grammar.specs.declared.lines.OperatorText.TheVariants as operators
use Rattle.module_grammar.specs.declared.operators.OverflowOp.TheVariants.{Add}
use Rattle.module_grammar.specs.declared.places.Placed.{Placed}
use Rattle.module_grammar.specs.declared.types.CalledText.{CalledText}
use Rattle.module_grammar.specs.declared.types.TypeText.{TypeText}
use Rattle.module_grammar.specs.declared.types.TypeText as type_text
use Rattle.name_claims.specs.declared.claims.Fault.{Fault}
use Rattle.name_claims.specs.declared.claims.Reason.{Reason}
use Rattle.named_modules.specs.Faults.{faults_of}

-- ---- names

abbrev pub b : Name
b = Text (codes "b")

abbrev pub f : Name
f = Text (codes "f")

abbrev pub g : Name
g = Text (codes "g")

abbrev pub x : Name
x = Text (codes "x")

abbrev pub y : Name
y = Text (codes "y")

abbrev pub z : Name
z = Text (codes "z")

-- from its sigil on
abbrev pub named : ℕ → Name → Placed Name
named start what = record { what = what; start = start; end = start + 2 }

-- ---- numbers

abbrev pub positive : ℕ → ℕ → ℕ → Placed Numeral
positive magnitude start end = record { what = record { negative = false; magnitude = magnitude }; start = start; end = end }

-- `-7`
abbrev pub negative : ℕ → ℕ → ℕ → Placed Numeral
negative magnitude start end = record { what = record { negative = true; magnitude = magnitude }; start = start; end = end }

abbrev pub plus : ℕ → ℕ → ℕ → IntText
plus magnitude start end = int.Number (positive magnitude start end)

abbrev pub minus : ℕ → ℕ → ℕ → IntText
minus magnitude start end = int.Number (negative magnitude start end)

-- `true`
abbrev pub yes : ℕ → IntText
yes start = int.Truth (record { what = true; start = start; end = start + 4 })

-- ---- types

abbrev pub i1 : ℕ → TypeText
i1 start = type_text.Int (record { what = 1; start = start; end = start + 2 })

abbrev pub i8 : ℕ → TypeText
i8 start = type_text.Int (record { what = 8; start = start; end = start + 2 })

-- of two digits
abbrev pub integer : ℕ → ℕ → TypeText
integer width start = type_text.Int (record { what = width; start = start; end = start + 3 })

abbrev pub of_name : Placed Name → TypeText
of_name at = type_text.Named at

abbrev pub pointer : ℕ → TypeText → TypeText
pointer star target = type_text.Ptr star target

abbrev pub array : ℕ → Placed Numeral → TypeText → TypeText
array start count element = type_text.Array start (count, element)

abbrev pub struct : ℕ → List TypeText → TypeText
struct start fields = type_text.Struct start fields

-- ---- constants and operands

abbrev pub number : ℕ → ℕ → ℕ → ConstText
number magnitude start end = const.Int (plus magnitude start end)

abbrev pub of_global : Placed Name → ConstText
of_global at = const.Global (global_name.Plain at)

abbrev pub operand : TypeText → ValueText → OperandText
operand ty value = record { ty = ty; value = value }

-- ---- lines

-- `register = ..`
abbrev pub setting : Placed Name → InstructionText → LineText
setting register i = record { register = Some register; attached = record { instruction = i; attachments = [] } }

abbrev pub bare : InstructionText → LineText
bare i = record { register = None; attached = record { instruction = i; attachments = [] } }

abbrev pub binary : OperatorText → OperandText → ValueText → InstructionText
binary operator left right = instruction.Operation (form.Binary (record { operator = operator; left = left; right = right }))

-- `add`
abbrev pub sum : OperandText → ValueText → InstructionText
sum left right = binary (operators.Overflow Add []) left right

abbrev pub compare : Pred → OperandText → ValueText → InstructionText
compare pred left right = instruction.Operation (form.Compare (record { pred = pred; left = left; right = right }))

abbrev pub cast : CastWord → OperandText → TypeText → InstructionText
cast word from to = instruction.Operation (form.Cast (record { word = word; from = from; to = to }))

abbrev pub select : OperandText → OperandText → OperandText → InstructionText
select condition then other = instruction.Operation (form.Select (record { condition = condition; then = then; other = other }))

abbrev pub element : ℕ → Bool → TypeText → OperandText → List OperandText → InstructionText
element start inbounds of base indices =
    instruction.Element (record { at = start; inbounds = inbounds; of = of; base = base; indices = indices })

abbrev pub alloca : TypeText → Option CountText → Option (Placed Numeral) → InstructionText
alloca ty count align = instruction.Alloca (record { ty = ty; count = count; align = align })

abbrev pub load : TypeText → OperandText → Option (Placed Numeral) → InstructionText
load ty address align = instruction.Load (record { ty = ty; address = address; align = align })

abbrev pub store : OperandText → OperandText → Option (Placed Numeral) → InstructionText
store value address align = instruction.Store (record { value = value; address = address; align = align })

abbrev pub call : CallBodyText → InstructionText
call body = instruction.Call (record { tail = false; body = body })

abbrev pub argument : TypeText → ValueText → ArgumentText
argument ty value = record { ty = ty; attributes = []; value = value }

abbrev pub arguments : List ArgumentText → CallEndText
arguments all = record { arguments = all; attributes = [] }

-- ---- blocks

abbrev pub entry : ℕ → ValueText → Placed Name → EntryText
entry start value from = record { at = start; value = value; from = from }

abbrev pub phi : Option (Placed Name) → TypeText → EntryText → List EntryText → PhiText
phi register ty first others = record { register = register; node = record { ty = ty; first = first; others = others; attachments = [] } }

abbrev pub case : TypeText → IntText → Placed Name → CaseText
case ty n label = record { ty = ty; number = n; label = label }

abbrev pub block : Option (Placed Name) → List PhiText → List LineText → TermText → BlockText
block label phis lines end =
    record { label = label; body = record { phis = phis; lines = lines }; end = record { term = end; attachments = [] } }

-- ---- items

abbrev pub holding : GlobalNameText → HeldText → HoldingWord → TypeText → Option (Placed Numeral) → ItemText
holding at held word ty align = item.Global at (record { held = held; unnamed_addr = false; word = word; ty = ty; align = align })

-- name = global ty init
abbrev pub global : ℕ → Name → TypeText → InitText → ItemText
global start name ty i = holding (global_name.Plain (named start name)) (held.Init None i) HeldGlobal ty None

-- name = external global ty
abbrev pub external : ℕ → Name → TypeText → ItemText
external start name ty = holding (global_name.Plain (named start name)) held.External HeldGlobal ty None

abbrev pub result : List ParamAttributeText → Option TypeText → ResultText
result attributes ty = record { is_ccc = false; attributes = attributes; ty = ty }

abbrev pub param : TypeText → List ParamAttributeText → Option (Placed Name) → ParamText
param ty attributes at = record { ty = ty; attributes = attributes; name = at }

abbrev pub no_more : HeadEndText
no_more = record { unnamed_addr = false; attributes = [] }

abbrev pub declare : ResultText → Placed Name → List ParamText → Bool → HeadEndText → ItemText
declare of at params is_open end = item.Declaration (record {
  result = of;
  declared = declared_name.Plain at (record { params = params; is_open = is_open }) end;
})

abbrev pub define : ResultText → GlobalNameText → List ParamText → ℕ → BlockText → List BlockText → ItemText
define of at params brace first others = item.Definition (record {
  linkage = linkage.None;
  head = record { result = of; name = at; params = params; end = no_more };
  attachment = None;
  at = brace;
  entry = first;
  others = others;
})

-- define void @f(params) { first others }
abbrev pub of_blocks : ℕ → List ParamText → ℕ → BlockText → List BlockText → ItemText
of_blocks start params brace first others = define (result [] None) (global_name.Plain (named start f)) params brace first others

-- define void @f(i8 %x, i8* %y) { lines ret void }
abbrev pub of_lines : List LineText → List ItemText
of_lines lines =
    of_blocks 12
    (param (i8 15) [] (Some (named 18 x)) ∷ param (pointer 24 (i8 22)) [] (Some (named 26 y)) ∷ [])
    30
    (block None [] lines (term.Ret None))
    []
    ∷ []

-- ---- faults

abbrev pub no_types : Placed Name → CalledText
no_types at = record { types = []; is_open = false }

abbrev pub no_params : Placed Name → DeclaredText
no_params at = record { params = []; is_open = false }

-- what is at fault where nothing stands between parentheses of which the tree keeps nothing
abbrev pub faults : List ItemText → List Fault
faults items = faults_of no_types no_params (record { items = items })

-- the same where `call void` states these types
abbrev pub faults_stating : CalledText → List ItemText → List Fault
faults_stating called items = faults_of (λ at. called) no_params (record { items = items })

-- the same where these parameters stand behind a name of debugging
abbrev pub faults_declaring : DeclaredText → List ItemText → List Fault
faults_declaring params items = faults_of no_types (λ at. params) (record { items = items })

abbrev pub fault : ℕ → ℕ → Reason → Fault
fault start end reason = record { start = start; end = end; reason = reason }
