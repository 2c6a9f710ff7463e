-- What no call stands in has neither `void` nor a gap.
use Rattle.std.proofs.Common.{Bool, true, false, List, [], ◌∷◌, ◌++◌, map, Option, Some, None, refl}
use Rattle.std.specs.List.{flat_map}
use Rattle.ir_types.specs.declared.names.Name.{Name}
use Rattle.module_grammar.specs.declared.constants.IntText.{IntText}
use Rattle.module_grammar.specs.declared.constants.IntText.TheVariants as integer
use Rattle.module_grammar.specs.declared.constants.OperandText.{OperandText}
use Rattle.module_grammar.specs.declared.constants.ValueText.{ValueText}
use Rattle.module_grammar.specs.declared.flow.CaseText.{CaseText}
use Rattle.module_grammar.specs.declared.flow.EntryText.{EntryText}
use Rattle.module_grammar.specs.declared.lines.ArgumentText.{ArgumentText}
use Rattle.module_grammar.specs.declared.lines.CastWord.{CastWord}
use Rattle.module_grammar.specs.declared.lines.CastWord.TheVariants as conversion
use Rattle.module_grammar.specs.declared.lines.CountText.{CountText}
use Rattle.module_grammar.specs.declared.lines.InstructionText.{InstructionText}
use Rattle.module_grammar.specs.declared.lines.InstructionText.TheVariants as instruction
use Rattle.module_grammar.specs.declared.lines.OperationText.{OperationText}
use Rattle.module_grammar.specs.declared.lines.OperationText.TheVariants as form
use Rattle.module_grammar.specs.declared.lines.OperatorText.{OperatorText}
use Rattle.module_grammar.specs.declared.lines.OperatorText.TheVariants as operators
use Rattle.module_grammar.specs.declared.operators.FlagWord.{FlagWord}
use Rattle.module_grammar.specs.declared.places.Placed.{Placed}
use Rattle.module_grammar.specs.declared.types.CalledText.{CalledText}
use Rattle.module_grammar.specs.declared.types.TypeText.{TypeText}
use Rattle.module_grammar.specs.Attributes.{param_attribute}
use Rattle.module_grammar.specs.Constants.{int, operand, value}
use Rattle.module_grammar.specs.Constants as constants
use Rattle.module_grammar.specs.Flow as flow
use Rattle.module_grammar.specs.Lines as lines
use Rattle.module_grammar.specs.Listed.{further, listed}
use Rattle.module_grammar.specs.Symbols.{Bracket, Element, Flag, Symbol, alloca, close_bracket, close_paren, comma, open_paren}
use Rattle.module_grammar.specs.Symbols as symbols
use Rattle.module_grammar.specs.Types.{called, open_end, ty}
use Rattle.printed_modules.proofs.Laid.{AreCalm, both_calm, row_calm}
use Rattle.printed_tokens.proofs.Calm as tokens

-- ---- pieces

pub calm_type : (w : TypeText) → AreCalm (ty w)
calm_type w = row_calm (ty w) (tokens.calm_type w)

pub calm_value : (w : ValueText) → AreCalm (value w)
calm_value w = row_calm (value w) (tokens.calm_value w)

pub calm_operand : (w : OperandText) → AreCalm (operand w)
calm_operand w = row_calm (operand w) (tokens.calm_operand w)

-- a number, and more
pub behind_int : (i : IntText) (more : List Symbol) → AreCalm more → AreCalm (int i ∷ more)
behind_int (integer.Number n) more calm = calm
behind_int (integer.Truth b) more calm = calm

-- rows with a comma before each
pub calm_further : {T : Type 0} (w : T → List Symbol) → ((t : T) → AreCalm (w t)) → (ts : List T) → AreCalm (flat_map (λ t. comma ∷ w t) ts)
calm_further w one [] = refl
calm_further w one (t ∷ ts) = both_calm (w t) (flat_map (λ t. comma ∷ w t) ts) (one t) (calm_further w one ts)

-- rows, one behind another
pub calm_rows : {T : Type 0} (w : T → List Symbol) → ((t : T) → AreCalm (w t)) → (ts : List T) → AreCalm (flat_map w ts)
calm_rows w one [] = refl
calm_rows w one (t ∷ ts) = both_calm (w t) (flat_map w ts) (one t) (calm_rows w one ts)

pub calm_commas : {T : Type 0} (w : T → List Symbol) → ((t : T) → AreCalm (w t)) → (ts : List T) → AreCalm (further (map w ts))
calm_commas w one [] = refl
calm_commas w one (t ∷ ts) = both_calm (w t) (further (map w ts)) (one t) (calm_commas w one ts)

-- ---- operations

calm_flags : (flags : List FlagWord) → AreCalm (map Flag flags)
calm_flags [] = refl
calm_flags (f ∷ fs) = calm_flags fs

calm_operator : (w : OperatorText) → AreCalm (lines.operator w)
calm_operator (operators.Overflow op flags) = calm_flags flags
calm_operator (operators.Exact op true) = refl
calm_operator (operators.Exact op false) = refl
calm_operator (operators.Plain op) = refl

-- a row, a comma, and a row
pub comma_between : (a b : List Symbol) → AreCalm a → AreCalm b → AreCalm (a ++ (comma ∷ b))
comma_between a b first second = both_calm a (comma ∷ b) first second

behind_cast : (w : CastWord) (more : List Symbol) → AreCalm more → AreCalm (lines.cast_word w ∷ more)
behind_cast (conversion.Resize op) more calm = calm
behind_cast (conversion.BitCast at) more calm = calm

calm_operation : (w : OperationText) → AreCalm (lines.operation w)
calm_operation (form.Binary b) =
    both_calm (lines.operator b.operator) _ (calm_operator b.operator) (comma_between (operand b.left) (value b.right) (calm_operand b.left) (calm_value b.right))
calm_operation (form.Compare c) = comma_between (operand c.left) (value c.right) (calm_operand c.left) (calm_value c.right)
calm_operation (form.Cast c) =
    behind_cast c.word (operand c.from ++ (symbols.to ∷ ty c.to)) (both_calm (operand c.from) (symbols.to ∷ ty c.to) (calm_operand c.from) (calm_type c.to))
calm_operation (form.Select s) =
    comma_between (operand s.condition) _ (calm_operand s.condition) (comma_between (operand s.then) (operand s.other) (calm_operand s.then) (calm_operand s.other))

-- ---- memory

behind_inbounds : (set : Bool) (more : List Symbol) → AreCalm more → AreCalm (constants.inbounds set ++ more)
behind_inbounds true more calm = calm
behind_inbounds false more calm = calm

pub calm_align : (a : Option _) → AreCalm (lines.align a)
calm_align None = refl
calm_align (Some n) = refl

pub calm_count : (c : Option CountText) → AreCalm (lines.count c)
calm_count None = refl
calm_count (Some c) = both_calm (ty c.ty) (int c.number ∷ []) (calm_type c.ty) (behind_int c.number [] refl)

-- what is no call
abbrev pub IsNoCall : InstructionText → Type 0
IsNoCall (instruction.Call c) = ⊥
IsNoCall i = Unit {0}

pub calm_instruction : (w : InstructionText) → IsNoCall w → AreCalm (lines.instruction w)
calm_instruction (instruction.Operation o) other = calm_operation o
calm_instruction (instruction.Element e) other =
    behind_inbounds e.inbounds _
    (comma_between (ty e.of) _ (calm_type e.of) (both_calm (operand e.base) _ (calm_operand e.base) (calm_commas operand calm_operand e.indices)))
calm_instruction (instruction.Alloca a) other =
    both_calm (ty a.ty) _ (calm_type a.ty) (both_calm (lines.count a.count) (lines.align a.align) (calm_count a.count) (calm_align a.align))
calm_instruction (instruction.Load l) other =
    comma_between (ty l.ty) _ (calm_type l.ty) (both_calm (operand l.address) (lines.align l.align) (calm_operand l.address) (calm_align l.align))
calm_instruction (instruction.Store s) other =
    comma_between (operand s.value) _ (calm_operand s.value) (both_calm (operand s.address) (lines.align s.align) (calm_operand s.address) (calm_align s.align))
calm_instruction (instruction.Call c) other = absurd other

-- ---- calls

pub calm_attributes : (ws : List _) → AreCalm (flat_map param_attribute ws)
calm_attributes ws = row_calm (flat_map param_attribute ws) (tokens.calm_attributes ws)

calm_argument : (a : ArgumentText) → AreCalm (lines.argument a)
calm_argument a =
    both_calm (ty a.ty) _ (calm_type a.ty) (both_calm (flat_map param_attribute a.attributes) (value a.value) (calm_attributes a.attributes) (calm_value a.value))

pub calm_listed : {T : Type 0} (w : T → List Symbol) → ((t : T) → AreCalm (w t)) → (ts : List T) → AreCalm (listed (map w ts))
calm_listed w one [] = refl
calm_listed w one (t ∷ ts) = both_calm (w t) (further (map w ts)) (one t) (calm_commas w one ts)

pub calm_arguments : (ws : List ArgumentText) → AreCalm (lines.arguments ws)
calm_arguments = calm_listed lines.argument calm_argument

further_types : (ts : List TypeText) (is_open : Bool) → AreCalm (further (map ty ts ++ open_end is_open))
further_types [] true = refl
further_types [] false = refl
further_types (t ∷ ts) is_open = both_calm (ty t) (further (map ty ts ++ open_end is_open)) (calm_type t) (further_types ts is_open)

listed_types : (ts : List TypeText) (is_open : Bool) → AreCalm (listed (map ty ts ++ open_end is_open))
listed_types [] true = refl
listed_types [] false = refl
listed_types (t ∷ ts) is_open = both_calm (ty t) (further (map ty ts ++ open_end is_open)) (calm_type t) (further_types ts is_open)

pub calm_called : (c : CalledText) → AreCalm (called c)
calm_called c = listed_types c.types c.is_open

-- ---- flow

pub calm_target : (n : Placed Name) → AreCalm (flow.target n)
calm_target n = refl

pub calm_entry : (e : EntryText) → AreCalm (flow.entry e)
calm_entry e = both_calm (value e.value) _ (calm_value e.value) refl

pub calm_case : (c : CaseText) → AreCalm (flow.case c)
calm_case c =
    both_calm (ty c.ty) (int c.number ∷ comma ∷ flow.target c.label) (calm_type c.ty) (behind_int c.number (comma ∷ flow.target c.label) refl)
