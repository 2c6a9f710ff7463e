-- What the program answers, for each cause.
use Rattle.std.specs.Prelude.{ℕ, List, [], ◌∷◌, ◌++◌, take, drop, codes, Option, None, Some}
use Rattle.std.specs.List.{flat_map}
use Rattle.std.specs.Fmt.{decimal}
use Rattle.ir_core.specs.declared.limits.Limit.{Limit}
use Rattle.ir_core.specs.Limits.{limit_name}
use Rattle.ir_types.specs.declared.names.Name.{Name}
use Rattle.ir_types.specs.declared.names.Sigil.TheVariants as sigil
use Rattle.ir_printer.specs.ExpressionPrinter.Printed.{printed_name}
use Rattle.ir_lexer.specs.declared.fault.TextFault.{TextFault}
use Rattle.ir_lexer.specs.declared.fault.TextFault.TheVariants as text
use Rattle.ir_shape.specs.declared.fault.LinePlace.{LinePlace}
use Rattle.ir_shape.specs.declared.fault.ShapeFault.{ShapeFault}
use Rattle.ir_shape.specs.Shape.{kind_text}
use Rattle.definedness.specs.declared.paths.Undefined.{Undefined}
use Rattle.ir_reader.specs.declared.fault.ModuleFault.{ModuleFault}
use Rattle.ir_reader.specs.declared.fault.ModuleFault.TheVariants as fault
use Rattle.json_forms.specs.declared.failure.Fault.{Fault}
use Rattle.json_forms.specs.declared.failure.Fault.TheVariants.{At, Past}
use Rattle.crell_program.specs.declared.crell_answers.answer.Answer.{Answer}

-- a text on a line of its own
abbrev pub line : List ℕ → List ℕ
line text = text ++ 10 ∷ []

-- a refusal: nothing on out, and on err the file and what is wrong with it
abbrev pub fault_of : ℕ → List ℕ → List ℕ → Answer
fault_of status file what = record { status = status; out = []; err = line (file ++ what) }

-- the words are no command's, which the text says
abbrev pub usage : List ℕ → Answer
usage text = record { status = 2; out = []; err = text }

-- a text that is printed whole
abbrev pub printed : List ℕ → Answer
printed text = record { status = 0; out = text; err = [] }

abbrev pub read_failed : List ℕ → Answer
read_failed file = fault_of 6 file (codes ": read failed")

-- the file passes the limit
abbrev pub past_limit : Limit → List ℕ → Answer
past_limit limit file = fault_of 9 file (codes ": limit " ++ limit_name limit)

-- what is first at fault in a hint file stands there: `h.json: at /functions/@f/blocks/0/at`
abbrev pub unfit : List ℕ → List ℕ → Answer
unfit path file = fault_of 5 file (codes ": at " ++ path)

-- a hint file's first fault is told by its place, or by the limit that a text in it passes
abbrev pub at_fault : Fault → List ℕ → Answer
at_fault (At path) file = unfit path file
at_fault (Past limit) file = past_limit limit file

abbrev pub absent : List ℕ → Answer
absent file = fault_of 10 file (codes ": absent")

-- ---- what is first at fault in a module's text

-- the bytes of a text from this place on, so many
abbrev pub bytes_at : List ℕ → ℕ → ℕ → List ℕ
bytes_at text place size = take size (drop place text)

-- `a.ll:27: expected other`, for the text's file
abbrev pub misspelled : List ℕ → ℕ → List ℕ → Answer
misspelled file place what = fault_of 3 file (58 ∷ (decimal place ++ codes ": " ++ what))

-- a name, a word or a label is shown as it is written, a label without its `:`; want of memory is never due as one
abbrev pub text_fault : TextFault → List ℕ → List ℕ → Answer
text_fault (text.BadByte place) bytes file = misspelled file place (codes "bad byte")
text_fault (text.BadString place) bytes file = misspelled file place (codes "bad string")
text_fault (text.BadNumber place) bytes file = misspelled file place (codes "bad number")
text_fault (text.Expected place) bytes file = misspelled file place (codes "expected other")
text_fault (text.LeftOut place size) bytes file = misspelled file place (codes "left out: " ++ bytes_at bytes place size)
text_fault (text.Unknown place size) bytes file = misspelled file place (codes "unknown: " ++ bytes_at bytes place size)
text_fault (text.Twice place size) bytes file = misspelled file place (codes "twice: " ++ bytes_at bytes place size)
text_fault (text.WrongNumber place expected) bytes file = misspelled file place (codes "wrong number: expected " ++ decimal expected)
text_fault (text.WrongType place) bytes file = misspelled file place (codes "wrong type")
text_fault (text.Limit limit) bytes file = past_limit limit file
text_fault text.Memory bytes file = fault_of 8 file []

-- names of blocks, each behind a blank: ` %a %b`
abbrev pub path_text : List Name → List ℕ
path_text names = flat_map (λ name. 32 ∷ printed_name sigil.Local name) names

-- ` %0 1` for the line 1 of the block `%0`
abbrev pub line_text : Name → ℕ → List ℕ
line_text block line = 32 ∷ (printed_name sigil.Local block ++ (32 ∷ decimal line))

-- a function's own name is no line
abbrev pub place_text : Option LinePlace → List ℕ
place_text None = []
place_text (Some place) = line_text place.block place.line

-- `a.ll: @f %0 0: cast width`, `a.ll: @llvm.dbg.x: name` of a function's own name, and `a.ll: %x: name` of a named type
abbrev pub shape_fault : ShapeFault → List ℕ → Answer
shape_fault f file = fault_of 4 file
    (codes ": " ++ printed_name f.sigil f.function ++ place_text f.place ++ codes ": " ++ kind_text f.kind)

-- `a.ll: @f %0 0: %x not defined on path %0`
abbrev pub undefined : Name → Undefined → List ℕ → Answer
undefined function u file = fault_of 4 file
    (codes ": " ++ printed_name sigil.Global function ++ line_text u.block u.line ++ codes ": " ++ printed_name sigil.Local u.name
    ++ codes " not defined on path" ++ path_text u.path)

-- the text of a module, in that file, has this first fault; want of memory is never due as one
abbrev pub module_fault : ModuleFault → List ℕ → List ℕ → Answer
module_fault (fault.Text f) bytes file = text_fault f bytes file
module_fault (fault.Shape f) bytes file = shape_fault f file
module_fault (fault.Undefined function u) bytes file = undefined function u file
module_fault fault.Memory bytes file = fault_of 8 file []
