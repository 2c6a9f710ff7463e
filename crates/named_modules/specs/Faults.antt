-- What is at fault in a tree of the whole grammar: names and numbers of what has no name (LangRef 3.7, Identifiers), and types.
use Rattle.std.specs.Prelude.{◌+◌, ◌-◌, ◌^◌, ◌&&◌, ◌||◌, ℕ, suc, zero, Bool, true, false, not, cond, List, [], ◌∷◌, ◌++◌, length, map, Option, None, Some, is_some, nat_eq, nat_lt}
use Rattle.std.specs.List.{filter, filter_map, flat_map, list_any}
use Rattle.ir_core.specs.declared.functions.Block.{Block}
use Rattle.ir_core.specs.declared.functions.Function.{Function}
use Rattle.ir_core.specs.declared.functions.Param.{Param}
use Rattle.ir_core.specs.declared.functions.Phi.{Phi}
use Rattle.ir_core.specs.declared.modules.GlobalVar.{GlobalVar}
use Rattle.ir_core.specs.declared.modules.Module.{Module}
use Rattle.ir_core.specs.Functions.{name_set}
use Rattle.ir_core.specs.Types.{is_first_class, is_pointer}
use Rattle.ir_core.specs.Typing.{Index, Signature, contents_of, is_bytes, parts_of_array, parts_of_struct, signatures_of}
use Rattle.ir_lexer.specs.declared.token.Number.{Number}
use Rattle.ir_types.specs.declared.named.NamedTy.{NamedTy}
use Rattle.ir_types.specs.declared.names.Name.{Name}
use Rattle.ir_types.specs.declared.names.Name.TheVariants as name
use Rattle.ir_types.specs.declared.ty.Ty.{Ty, Ptr, out-Ty}
use Rattle.ir_types.specs.Same.{same_list, same_name, same_ty}
use Rattle.name_claims.specs.declared.claims.Fault.{Fault}
use Rattle.name_claims.specs.declared.claims.Reason.{Reason}
use Rattle.name_claims.specs.declared.claims.Reason.TheVariants as reason
use Rattle.ir_core.specs.NameIndexes.Among.{is_among}
use Rattle.module_grammar.specs.declared.constants.ConstText.{ConstText, fold-ConstText}
use Rattle.module_grammar.specs.declared.constants.ConstText.TheOpen.{ConstText-F}
use Rattle.module_grammar.specs.declared.constants.ConstText.TheOpen as level
use Rattle.module_grammar.specs.declared.constants.InitText.{InitText, fold-InitText}
use Rattle.module_grammar.specs.declared.constants.InitText.TheOpen.{InitText-F}
use Rattle.module_grammar.specs.declared.constants.InitText.TheOpen as held
use Rattle.module_grammar.specs.declared.constants.IntText.{IntText}
use Rattle.module_grammar.specs.declared.constants.IntText.TheVariants as int
use Rattle.module_grammar.specs.declared.constants.OperandText.{OperandText}
use Rattle.module_grammar.specs.declared.constants.ValueText.{ValueText}
use Rattle.module_grammar.specs.declared.constants.ValueText.TheVariants as text
use Rattle.module_grammar.specs.declared.flow.BlockText.{BlockText}
use Rattle.module_grammar.specs.declared.flow.BranchText.{BranchText}
use Rattle.module_grammar.specs.declared.flow.BranchText.TheVariants as branch
use Rattle.module_grammar.specs.declared.flow.CaseText.{CaseText}
use Rattle.module_grammar.specs.declared.flow.EntryText.{EntryText}
use Rattle.module_grammar.specs.declared.flow.PhiText.{PhiText}
use Rattle.module_grammar.specs.declared.flow.TermText.{TermText}
use Rattle.module_grammar.specs.declared.flow.TermText.TheVariants as written
use Rattle.module_grammar.specs.declared.functions.DeclarationText.{DeclarationText}
use Rattle.module_grammar.specs.declared.functions.DeclaredText.{DeclaredText}
use Rattle.module_grammar.specs.declared.functions.DefinitionText.{DefinitionText}
use Rattle.module_grammar.specs.declared.functions.ParamText.{ParamText}
use Rattle.module_grammar.specs.declared.items.GlobalBodyText.{GlobalBodyText}
use Rattle.module_grammar.specs.declared.items.HeldText.{HeldText}
use Rattle.module_grammar.specs.declared.items.HeldText.TheVariants as holds
use Rattle.module_grammar.specs.declared.items.ItemText.{ItemText}
use Rattle.module_grammar.specs.declared.items.ItemText.TheVariants as item
use Rattle.module_grammar.specs.declared.items.ModuleText.{ModuleText}
use Rattle.module_grammar.specs.declared.items.TypeBodyText.{TypeBodyText}
use Rattle.module_grammar.specs.declared.items.TypeBodyText.TheVariants as body
use Rattle.module_grammar.specs.declared.lines.ArgumentText.{ArgumentText}
use Rattle.module_grammar.specs.declared.lines.CallBodyText.{CallBodyText}
use Rattle.module_grammar.specs.declared.lines.CallBodyText.TheVariants as call
use Rattle.module_grammar.specs.declared.lines.CallEndText.{CallEndText}
use Rattle.module_grammar.specs.declared.lines.CountText.{CountText}
use Rattle.module_grammar.specs.declared.lines.InstructionText.{InstructionText}
use Rattle.module_grammar.specs.declared.lines.InstructionText.TheVariants as instruction
use Rattle.module_grammar.specs.declared.lines.LineText.{LineText}
use Rattle.module_grammar.specs.declared.lines.OperationText.{OperationText}
use Rattle.module_grammar.specs.declared.lines.OperationText.TheVariants as form
use Rattle.module_grammar.specs.declared.lines.VoidCallText.{VoidCallText}
use Rattle.module_grammar.specs.declared.lines.VoidCallText.TheVariants as of_void
use Rattle.module_grammar.specs.declared.places.Placed.{Placed}
use Rattle.module_grammar.specs.declared.types.CalledText.{CalledText}
use Rattle.module_grammar.specs.declared.types.TypeText.{TypeText, fold-TypeText}
use Rattle.module_grammar.specs.declared.types.TypeText.TheOpen.{TypeText-F}
use Rattle.module_grammar.specs.declared.types.TypeText.TheOpen as types
use Rattle.named_modules.specs.Addresses.{address_type}
use Rattle.named_modules.specs.Built.{declared_params, due_after, due_behind, function_of, label_name, line_at, module_of, name_due}
use Rattle.named_modules.specs.Constants.{global_name, may_be}
use Rattle.named_modules.specs.Flow.{entries_in}
use Rattle.named_modules.specs.Functions.{blocks_in, is_dropped_name, name_declared, told_of}
use Rattle.named_modules.specs.Lines.{is_dropped}
use Rattle.named_modules.specs.Types.{int_of, is_count, type_of}

-- ---- one fault

abbrev pub at : {T : Type 0} → Placed T → Reason → Fault
at w why = record { start = w.start; end = w.end; reason = why }

-- of so many bytes from there on
abbrev pub from : ℕ → ℕ → Reason → Fault
from start size why = record { start = start; end = start + size; reason = why }

abbrev pub unless : Bool → Fault → List Fault
unless fits f = cond fits [] (f ∷ [])

-- ---- what a module says without its bodies

-- its named types, its globals, and the signatures of its functions
pub record Heads : Type 0 where
  pub types : List NamedTy
  pub globals : List GlobalVar
  pub signatures : List (Name × Signature)

abbrev pub heads_of : Module → Heads
heads_of m = record { types = m.types; globals = m.globals; signatures = signatures_of m }

abbrev pub type_names : List NamedTy → List Name
type_names = map (λ (t : NamedTy). t.name)

-- ---- types

-- a name that no type of the module has, and a count that is none
abbrev pub type_faults_at_level : Heads → TypeText-F (List Fault) → List Fault
type_faults_at_level h (types.Int width) = []
type_faults_at_level h (types.Named x) = unless (is_among x.what (type_names h.types)) (at x reason.Unknown)
type_faults_at_level h (types.Ptr star target) = target
type_faults_at_level h (types.Array start (count, element)) = unless (is_count count.what) (at count reason.WrongType) ++ element
type_faults_at_level h (types.Struct start fields) = flat_map (λ fs. fs) fields

abbrev pub type_faults : Heads → TypeText → List Fault
type_faults h = fold-TypeText (List Fault) (type_faults_at_level h)

-- where the first token of a type stands
abbrev pub first_at_level : TypeText-F ℕ → ℕ
first_at_level (types.Int width) = width.start
first_at_level (types.Named x) = x.start
first_at_level (types.Ptr star target) = target
first_at_level (types.Array start inside) = start
first_at_level (types.Struct start fields) = start

abbrev pub first_of : TypeText → ℕ
first_of = fold-TypeText ℕ first_at_level

-- a type of values stands there, or its first token is at fault
abbrev pub value_type_faults : Heads → TypeText → List Fault
value_type_faults h w = type_faults h w ++ unless (is_first_class (type_of w)) (from (first_of w) 1 reason.WrongType)

-- ---- constants

-- what is at fault in a constant at the type that is stated for it, and its number there, if it is one
pub record Told : Type 0 where
  pub number : Ty → Option ℕ
  pub faults : Ty → List Fault

abbrev pub no_number : Ty → Option ℕ
no_number t = None

abbrev pub int_fault : IntText → Fault
int_fault (int.Number n) = at n reason.WrongType
int_fault (int.Truth b) = at b reason.WrongType

abbrev pub int_faults : Ty → IntText → List Fault
int_faults t i = unless (is_some (int_of t i)) (int_fault i)

abbrev pub is_function : Heads → Name → Bool
is_function h x = list_any (λ (s : Name × Signature). same_name s.0 x) (h.signatures)

-- what a global holds, or that it isn't there: a function's name as a value is left out
abbrev pub global_faults : Heads → Ty → Placed Name → Option Ty → List Fault
global_faults h t x None = at x (cond (is_function h x.what) reason.LeftOut reason.Unknown) ∷ []
global_faults h t x (Some contents) = unless (same_ty (Ptr contents) t) (at x reason.WrongType)

abbrev pub part_faults : Heads → TypeText × Told → List Fault
part_faults h p = value_type_faults h p.0 ++ p.1.faults (type_of p.0)

abbrev pub index_told : TypeText × Told → Index
index_told p = record { ty = type_of p.0; number = p.1.number (type_of p.0) }

abbrev pub const_at_level : Heads → ConstText-F Told → Told
const_at_level h (level.Int i) = record { number = λ t. int_of t i; faults = λ t. int_faults t i }
const_at_level h (level.Null start) = record { number = no_number; faults = λ t. unless (is_pointer t) (from start 4 reason.WrongType) }
const_at_level h level.Undef = record { number = no_number; faults = λ t. [] }
const_at_level h (level.Global g) =
    record { number = no_number; faults = λ t. global_faults h t (global_name g) (contents_of h.globals (global_name g).what) }
const_at_level h (level.Element start inbounds (of, base_ty, base, indices)) = record {
  number = no_number;
  faults = λ t.
      type_faults h of ++ (flat_map (part_faults h) ((base_ty, base) ∷ indices)
      ++ unless (may_be (address_type h.types (type_of base_ty) (type_of of) (map index_told indices)) t) (from start 13 reason.WrongType));
}
const_at_level h (level.Cast start (source, c, target)) = record {
  number = no_number;
  faults = λ t.
      part_faults h (source, c) ++ (type_faults h target ++ unless (same_ty (type_of target) t) (from start 7 reason.WrongType));
}

abbrev pub const_faults : Heads → ConstText → Ty → List Fault
const_faults h w t = (fold-ConstText Told (const_at_level h) w).faults t

-- ---- initialisers

-- an element or a field: its type is the one that is due
abbrev pub field_faults : Heads → Ty → TypeText × (Ty → List Fault) → List Fault
field_faults h due p =
    type_faults h p.0 ++ (unless (same_ty due (type_of p.0)) (from (first_of p.0) 1 reason.WrongType) ++ p.1 (type_of p.0))

-- one that has no place in the whole
abbrev pub further_faults : Heads → TypeText × (Ty → List Fault) → List Fault
further_faults h p = type_faults h p.0 ++ p.1 (type_of p.0)

abbrev pub fields_faults : Heads → List Ty → List (TypeText × (Ty → List Fault)) → List Fault
fields_faults h ts [] = []
fields_faults h [] (p ∷ ps) = further_faults h p ++ fields_faults h [] ps
fields_faults h (t ∷ ts) (p ∷ ps) = field_faults h t p ++ fields_faults h ts ps

-- a list is of as many parts as its type has, or its bracket is at fault
abbrev pub list_faults : Heads → ℕ → Option (List Ty) → List (TypeText × (Ty → List Fault)) → List Fault
list_faults h start None ps = from start 1 reason.WrongType ∷ flat_map (further_faults h) ps
list_faults h start (Some ts) ps = unless (nat_eq (length ts) (length ps)) (from start 1 reason.WrongType) ++ fields_faults h ts ps

abbrev pub init_at_level : Heads → InitText-F (Ty → List Fault) → Ty → List Fault
init_at_level h (held.Const c) t = const_faults h c t
init_at_level h held.Zero t = []
init_at_level h (held.Bytes bytes) t = unless (is_bytes (length bytes.what) (out-Ty t)) (from (bytes.start - 1) 1 reason.WrongType)
init_at_level h (held.Array start parts) t = list_faults h start (parts_of_array h.types (out-Ty t) (length parts)) parts
init_at_level h (held.Struct start parts) t = list_faults h start (parts_of_struct h.types (out-Ty t)) parts

abbrev pub init_faults : Heads → InitText → Ty → List Fault
init_faults h = fold-InitText (Ty → List Fault) (init_at_level h)

-- ---- names in a function

-- A name of a function, in the order of the text: of a block, or of a register with its type, if it has one.
pub data Thing : Type 0 where
  Block' : Thing
  Register' : Option Ty → Thing

abbrev pub Things : Type 0
Things = List (Name × Thing)

-- the first of that name
abbrev pub thing_of : Things → Name → Option Thing
thing_of [] x = None
thing_of (t ∷ ts) x = cond (same_name t.0 x) (Some t.1) (thing_of ts x)

abbrev pub own_faults : Ty → Placed Name → Option Ty → List Fault
own_faults t x None = []
own_faults t x (Some own) = unless (same_ty own t) (at x reason.WrongType)

-- a register of that type; one without type may be of each
abbrev pub register_faults : Ty → Placed Name → Option Thing → List Fault
register_faults t x None = at x reason.Unknown ∷ []
register_faults t x (Some Block') = at x reason.WrongType ∷ []
register_faults t x (Some (Register' own)) = own_faults t x own

abbrev pub block_faults_of : Placed Name → Option Thing → List Fault
block_faults_of x None = at x reason.Unknown ∷ []
block_faults_of x (Some Block') = []
block_faults_of x (Some (Register' own)) = at x reason.WrongType ∷ []

abbrev pub label_faults : Things → Placed Name → List Fault
label_faults ts x = block_faults_of x (thing_of ts x.what)

abbrev pub value_faults : Heads → Things → Ty → ValueText → List Fault
value_faults h ts t (text.Const c) = const_faults h c t
value_faults h ts t (text.Local x) = register_faults t x (thing_of ts x.what)
value_faults h ts t (text.Tagged tag x) = at x reason.WrongType ∷ []

abbrev pub operand_faults : Heads → Things → OperandText → List Fault
operand_faults h ts w = value_type_faults h w.ty ++ value_faults h ts (type_of w.ty) w.value

-- ---- lines

abbrev pub operation_faults : Heads → Things → OperationText → List Fault
operation_faults h ts (form.Binary w) = operand_faults h ts w.left ++ value_faults h ts (type_of w.left.ty) w.right
operation_faults h ts (form.Compare w) = operand_faults h ts w.left ++ value_faults h ts (type_of w.left.ty) w.right
operation_faults h ts (form.Cast w) = operand_faults h ts w.from ++ value_type_faults h w.to
operation_faults h ts (form.Select w) = operand_faults h ts w.condition ++ (operand_faults h ts w.then ++ operand_faults h ts w.other)

abbrev pub powers_below : ℕ → List ℕ
powers_below zero = []
powers_below (suc k) = 2 ^ k ∷ powers_below k

-- a power of two, 2^29 at most, or 0
abbrev pub is_align : Number → Bool
is_align n = nat_eq n.magnitude 0 || (not n.negative && list_any (nat_eq n.magnitude) (powers_below 30))

abbrev pub align_faults : Option (Placed Number) → List Fault
align_faults None = []
align_faults (Some n) = unless (is_align n.what) (at n reason.WrongType)

abbrev pub count_faults : Heads → Option CountText → List Fault
count_faults h None = []
count_faults h (Some w) = type_faults h w.ty ++ int_faults (type_of w.ty) w.number

abbrev pub result_faults : Heads → Option TypeText → List Fault
result_faults h None = []
result_faults h (Some w) = value_type_faults h w

-- ---- calls

-- the first function of that name
abbrev pub signature_in : List (Name × Signature) → Name → Option Signature
signature_in [] x = None
signature_in (s ∷ ss) x = cond (same_name s.0 x) (Some s.1) (signature_in ss x)

abbrev pub is_called : Signature → Option CalledText → Bool
is_called s None = not s.variadic
is_called s (Some c) = same_list same_ty s.params (map type_of c.types) && (cond s.variadic c.is_open (not c.is_open))

-- A callee is a function; types of parameters that are stated are its own, and are stated where it takes further arguments.
abbrev pub callee_faults : Heads → Placed Name → Option CalledText → Option Signature → List Fault
callee_faults h x called None = at x (cond (is_some (contents_of h.globals x.what)) reason.WrongType reason.Unknown) ∷ []
callee_faults h x called (Some s) = unless (is_called s called) (at x reason.WrongType)

abbrev pub stated_faults : Heads → Option CalledText → List Fault
stated_faults h None = []
stated_faults h (Some c) = flat_map (type_faults h) c.types

abbrev pub argument_faults : Heads → Things → ArgumentText → List Fault
argument_faults h ts w = value_type_faults h w.ty ++ value_faults h ts (type_of w.ty) w.value

abbrev pub called_faults : Heads → Things → Option TypeText → Option CalledText → Placed Name → CallEndText → List Fault
called_faults h ts of called x end =
    result_faults h of ++ (stated_faults h called ++ (callee_faults h x called (signature_in (h.signatures) x.what)
    ++ flat_map (argument_faults h ts) end.arguments))

-- what stands between the parentheses before a name, where something stands there
abbrev pub stated_before : (Placed Name → CalledText) → Bool → Placed Name → Option CalledText
stated_before stated is_stated x = cond is_stated (Some (stated x)) None

abbrev pub void_faults : Heads → (Placed Name → CalledText) → Things → Bool → VoidCallText → List Fault
void_faults h stated ts is_stated (of_void.Call x end) = called_faults h ts None (stated_before stated is_stated x) x end
void_faults h stated ts is_stated (of_void.Debug x attributes) = []

abbrev pub call_faults : Heads → (Placed Name → CalledText) → Things → CallBodyText → List Fault
call_faults h stated ts (call.Convention attributes c end) = called_faults h ts c.result c.called (global_name c.name) end
call_faults h stated ts (call.Attributes first others c end) = called_faults h ts c.result c.called (global_name c.name) end
call_faults h stated ts (call.Typed t called x end) = called_faults h ts (Some t) called (global_name x) end
call_faults h stated ts (call.Void v) = void_faults h stated ts v.is_stated v.call

abbrev pub instruction_faults : Heads → (Placed Name → CalledText) → Things → InstructionText → List Fault
instruction_faults h stated ts (instruction.Operation w) = operation_faults h ts w
instruction_faults h stated ts (instruction.Element w) = type_faults h w.of ++ (operand_faults h ts w.base ++ flat_map (operand_faults h ts) w.indices)
instruction_faults h stated ts (instruction.Alloca w) = type_faults h w.ty ++ (count_faults h w.count ++ align_faults w.align)
instruction_faults h stated ts (instruction.Load w) = value_type_faults h w.ty ++ (operand_faults h ts w.address ++ align_faults w.align)
instruction_faults h stated ts (instruction.Store w) = operand_faults h ts w.value ++ (operand_faults h ts w.address ++ align_faults w.align)
instruction_faults h stated ts (instruction.Call w) = call_faults h stated ts w.body

abbrev pub line_faults : Heads → (Placed Name → CalledText) → Things → LineText → List Fault
line_faults h stated ts w = instruction_faults h stated ts w.attached.instruction

-- ---- blocks

abbrev pub entry_faults : Heads → Things → Ty → EntryText → List Fault
entry_faults h ts t w = value_faults h ts t w.value ++ label_faults ts w.from

abbrev pub phi_faults : Heads → Things → PhiText → List Fault
phi_faults h ts w = value_type_faults h w.node.ty ++ flat_map (entry_faults h ts (type_of w.node.ty)) (entries_in w.node)

abbrev pub returned_faults : Heads → Things → Option OperandText → List Fault
returned_faults h ts None = []
returned_faults h ts (Some w) = operand_faults h ts w

abbrev pub branch_faults : Heads → Things → BranchText → List Fault
branch_faults h ts (branch.Always x) = label_faults ts x
branch_faults h ts (branch.Condition w) = operand_faults h ts w.condition ++ (label_faults ts w.on_true ++ label_faults ts w.on_false)

abbrev pub case_faults : Heads → Things → CaseText → List Fault
case_faults h ts w = type_faults h w.ty ++ (int_faults (type_of w.ty) w.number ++ label_faults ts w.label)

abbrev pub term_faults : Heads → Things → TermText → List Fault
term_faults h ts (written.Ret w) = returned_faults h ts w
term_faults h ts (written.Br w) = branch_faults h ts w
term_faults h ts (written.Switch w) = operand_faults h ts w.value ++ (label_faults ts w.default ++ flat_map (case_faults h ts) w.cases)
term_faults h ts written.Unreachable = []

abbrev pub block_faults : Heads → (Placed Name → CalledText) → Things → BlockText → List Fault
block_faults h stated ts w =
    flat_map (phi_faults h ts) w.body.phis ++ (flat_map (line_faults h stated ts) w.body.lines ++ term_faults h ts w.end.term)

-- ---- what is defined, and numbers

-- What is written where a name is defined, and whether one is: a line without result defines none, and has none.
pub record Written : Type 0 where
  pub name : Option (Placed Name)
  pub defines : Bool

abbrev pub defined : Option (Placed Name) → Written
defined x = record { name = x; defines = true }

abbrev pub number_faults : ℕ → Placed Name → Name → List Fault
number_faults due x (name.Text bytes) = []
number_faults due x (name.Number n) = unless (nat_eq n due) (at x (reason.WrongNumber due))

-- a name that is written is new, and a number is the one that is due
abbrev pub name_faults : List Name → ℕ → Placed Name → List Fault
name_faults taken due x = unless (not (is_among x.what taken)) (at x reason.Twice) ++ number_faults due x x.what

-- a line without result has no name
abbrev pub unwritten_faults : List Name → Placed Name → List Fault
unwritten_faults taken x = unless (not (is_among x.what taken)) (at x reason.Twice) ++ (at x reason.WrongType ∷ [])

-- a name that isn't written is a number below 2 to the 32; else the whole is at fault, at its name
abbrev pub counted_faults : Placed Name → ℕ → List Fault
counted_faults whole due = unless (nat_lt due (2 ^ 32)) (at whole reason.WrongType)

abbrev pub own_name_faults : Placed Name → List Name → ℕ → Option (Placed Name) → Bool → List Fault
own_name_faults whole taken due None defines = cond defines (counted_faults whole due) []
own_name_faults whole taken due (Some x) defines = cond defines (name_faults taken due x) (unwritten_faults taken x)

-- the names that are taken behind it
abbrev pub taken_behind : List Name → ℕ → Written → List Name
taken_behind taken due w = cond w.defines (name_due due w.name ∷ taken) taken

abbrev pub due_behind_written : ℕ → Written → ℕ
due_behind_written due w = cond w.defines (due_behind due w.name) due

-- one by one behind these names, where this number is due
abbrev pub written_faults : Placed Name → List Name → ℕ → List Written → List Fault
written_faults whole taken due [] = []
written_faults whole taken due (w ∷ ws) =
    own_name_faults whole taken due w.name w.defines ++ written_faults whole (taken_behind taken due w) (due_behind_written due w) ws

-- ---- functions

-- Whether a line sets something: what is dropped doesn't.
abbrev pub sets : InstructionText → Bool
sets w = not (is_dropped w) && is_some (name_set (line_at [] 0 None w))

abbrev pub line_written : LineText → Written
line_written w = record { name = w.register; defines = sets w.attached.instruction }

-- what a function writes of names: of its parameters, and block by block of its label, its phis and its lines
abbrev pub block_written : BlockText → List Written
block_written w =
    defined (label_name w.label) ∷ (map (λ (p : PhiText). defined p.register) w.body.phis ++ map line_written w.body.lines)

abbrev pub function_written : DefinitionText → List Written
function_written w = map (λ (p : ParamText). defined p.name) w.head.params ++ flat_map block_written (blocks_in w)

-- the names of a built function, in the order of the text, with what they are
abbrev pub register_thing : Name × Option Ty → Name × Thing
register_thing r = (r.0, Register' r.1)

abbrev pub things_in : List NamedTy → Block → Things
things_in types b =
    (b.name, Block') ∷ (map (λ (p : Phi). let thing : Name × Thing = (p.name, Register' (Some p.ty)) in thing) b.phis
    ++ map register_thing (flat_map (told_of types) b.body))

abbrev pub things_of : List NamedTy → Function → Things
things_of types f =
    map (λ (p : Param). let thing : Name × Thing = (p.name, Register' (Some p.ty)) in thing) f.params ++ flat_map (things_in types) f.blocks

abbrev pub param_faults : Heads → ParamText → List Fault
param_faults h w = value_type_faults h w.ty

abbrev pub function_faults : Heads → (Placed Name → CalledText) → DefinitionText → List Fault
function_faults h stated w =
    result_faults h w.head.result.ty
    ++ (flat_map (param_faults h) w.head.params
    ++ (flat_map (block_faults h stated (things_of h.types (function_of h.types w))) (blocks_in w)
    ++ written_faults (global_name w.head.name) [] 0 (function_written w)))

-- ---- modules

abbrev pub fields_of_type : TypeBodyText → List TypeText
fields_of_type body.Opaque = []
fields_of_type (body.Struct start fields) = fields

abbrev pub held_faults : Heads → Ty → HeldText → List Fault
held_faults h t holds.External = []
held_faults h t (holds.Init linkage i) = init_faults h i t

abbrev pub global_var_faults : Heads → GlobalBodyText → List Fault
global_var_faults h w = type_faults h w.ty ++ (held_faults h (type_of w.ty) w.held ++ align_faults w.align)

abbrev pub declaration_faults : Heads → (Placed Name → DeclaredText) → DeclarationText → List Fault
declaration_faults h params w =
    cond (is_dropped_name w.declared) []
    (result_faults h w.result.ty ++ flat_map (param_faults h) (declared_params params w.declared).params)

abbrev pub item_faults : Heads → (Placed Name → CalledText) → (Placed Name → DeclaredText) → ItemText → List Fault
item_faults h stated params (item.Type x b) = flat_map (type_faults h) (fields_of_type b)
item_faults h stated params (item.Global g b) = global_var_faults h b
item_faults h stated params (item.Declaration d) = declaration_faults h params d
item_faults h stated params (item.Definition d) = function_faults h stated d
item_faults h stated params i = []

-- the name that an item defines among globals and functions, if it does
abbrev pub global_written : ItemText → Option (Placed Name)
global_written (item.Global g b) = Some (global_name g)
global_written (item.Declaration d) = cond (is_dropped_name d.declared) None (Some (name_declared d.declared))
global_written (item.Definition d) = Some (global_name d.head.name)
global_written i = None

abbrev pub is_global : ItemText → Bool
is_global (item.Global g b) = true
is_global i = false

-- each name is none of those before it
abbrev pub twice_faults : List Name → List (Placed Name) → List Fault
twice_faults taken [] = []
twice_faults taken (x ∷ xs) = unless (not (is_among x.what taken)) (at x reason.Twice) ++ twice_faults (x.what ∷ taken) xs

abbrev pub due_faults : ℕ → List (Placed Name) → List Fault
due_faults due [] = []
due_faults due (x ∷ xs) = number_faults due x x.what ++ due_faults (due_after due x.what) xs

-- Names are new in the order of the file; numbers are counted through all globals, and then through functions.
abbrev pub global_name_faults : List ItemText → List Fault
global_name_faults items =
    twice_faults [] (filter_map global_written items)
    ++ due_faults 0 (filter_map global_written (filter is_global items) ++ filter_map global_written (filter (λ i. not (is_global i)) items))

abbrev pub type_name : ItemText → Option (Placed Name)
type_name (item.Type x b) = Some x
type_name i = None

abbrev pub type_name_faults : List ItemText → List Fault
type_name_faults items = twice_faults [] (filter_map type_name items) ++ due_faults 0 (filter_map type_name items)

-- All that is at fault in a tree, where these types of parameters, and these parameters, stand before names at their places. The first by
-- place counts, and at one place the first by the order of reasons.
abbrev pub faults_of : (Placed Name → CalledText) → (Placed Name → DeclaredText) → ModuleText → List Fault
faults_of stated params w =
    flat_map (item_faults (heads_of (module_of params w)) stated params) w.items ++ (global_name_faults w.items ++ type_name_faults w.items)
