-- Words of private functions. What the texts of a file are read as: what is judged of each text; `Form` says what they mean.
use Rattle.std.specs.Prelude.{◌⊎◌, if◌then◌else◌, ℕ, List, Ok, Err}
use Rattle.std.proofs.Common.{inl, inr}
use Rattle.std.specs.Str.{bytes_eq}
use Rattle.ir_types.specs.declared.names.Name.{Name}
use Rattle.ir_types.specs.declared.names.Sigil.{Sigil}
use Rattle.ir_types.specs.declared.ty.Ty.{Ty}
use Rattle.ir_core.specs.Expressions.{Expr0}
use Rattle.ir_printer.specs.ExpressionPrinter.Printed.{printed_name}
use Rattle.ir_lexer.specs.declared.fault.TextFault.{TextFault}
use Rattle.ir_lexer.specs.declared.fault.TextFault.TheVariants as text_fault
use Rattle.expression_reader.proofs.Judged.{judged_expression}
use Rattle.expression_reader.proofs.NameTexts.{judged_name}
use Rattle.expression_reader.proofs.TypeJudged.{judged_type}
use Rattle.json_forms.specs.declared.failure.Failure.{Failure}
use Rattle.json_forms.specs.declared.failure.Failure.TheVariants.{Form, Memory}
use Rattle.json_forms.specs.declared.failure.Fault.{Fault}
use Rattle.json_forms.specs.declared.failure.Fault.TheVariants.{Past}
use Rattle.json_forms.specs.Faults.{here}
use Rattle.json_forms.specs.Forms.{Reading, read_then}
use Rattle.hint_format.specs.Form.{Leaves}

-- a text past a limit is told so; with any other fault it is itself at fault
abbrev pub fault_reading : TextFault → Fault
fault_reading (text_fault.Limit limit) = Past limit
fault_reading _ = here

-- the same, of a reader that may want memory
abbrev pub failure_of : TextFault → Failure
failure_of text_fault.Memory = Memory
failure_of fault = Form (fault_reading fault)

-- what a text is judged to mean, or its fault
abbrev pub reading_of : {X Short : Type 0} {Means : X → Type 0} {Has : TextFault → Type 0} → ((x : X) × Short × Means x) ⊎ ((fault : TextFault) × Has fault) → Reading X
reading_of (inl meant) = Ok meant.0
reading_of (inr told) = Err (fault_reading told.0)

abbrev pub expression_reading : List ℕ → Reading Expr0
expression_reading text = reading_of (judged_expression text)

abbrev pub name_reading : Sigil → List ℕ → Reading Name
name_reading sigil text = reading_of (judged_name sigil text)

abbrev pub type_reading : List ℕ → Reading Ty
type_reading text = reading_of (judged_type text)

-- the name itself, if it is printed as the text
abbrev pub if_printed : Sigil → List ℕ → Name → Reading Name
if_printed sigil text name = if bytes_eq (printed_name sigil name) text then Ok name else Err here

abbrev pub read_leaves : Leaves
read_leaves = record {
  expression = expression_reading;
  name = λ sigil text. read_then (name_reading sigil text) (if_printed sigil text);
  ty = type_reading;
}
