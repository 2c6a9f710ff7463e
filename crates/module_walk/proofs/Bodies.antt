-- Bodies of blocks, from where no phi node is left.
use Rattle.std.proofs.Common.{◌≡◌, ◌∙◌, ℕ, List, [], ◌∷◌, Option, sym, ap}
use Rattle.std.specs.List.{filter}
use Rattle.ir_core.specs.declared.functions.Instr.{Instr}
use Rattle.ir_types.specs.declared.named.NamedTy.{NamedTy}
use Rattle.ir_types.specs.declared.names.Name.{Name}
use Rattle.module_walk.specs.Counted.{capped, registers_of}
use Rattle.module_derivations.specs.Empty.{no_attached, no_operation}
use Rattle.module_grammar.specs.declared.flow.BodyText.{BodyText}
use Rattle.module_grammar.specs.declared.places.Placed.{Placed}
use Rattle.module_walk.proofs.Onto.{behind_counted, counted_from, lines_counted}
use Rattle.named_modules.specs.Built.{calm, due_behind, due_behind_lines, due_from, lines_from, operation_of}
use Rattle.named_modules.specs.Lines.{is_kept}

-- the one line that stands where none is read
abbrev pub last_body : Option (Placed Name) → BodyText
last_body register = record { phis = []; lines = record { register = register; attached = no_attached } ∷ [] }

abbrev lines_in : List NamedTy → ℕ → BodyText → List Instr
lines_in types due b = lines_from types (counted_from due (registers_of b.phis)) (filter is_kept b.lines)

abbrev due_in : List NamedTy → ℕ → BodyText → ℕ
due_in types due b = capped (due_behind_lines types (counted_from due (registers_of b.phis)) (filter is_kept b.lines))

lines_of : (types : List NamedTy) (start due : ℕ) (left all : BodyText)
    → counted_from due (registers_of left.phis) ≡ counted_from start (registers_of all.phis) → left.lines ≡ all.lines
    → lines_in types due left ≡ lines_from types (due_from start (registers_of all.phis)) (filter is_kept all.lines)
lines_of types start due left all counts same =
    ap (λ n. lines_from types n (filter is_kept left.lines)) counts
    ∙ ap (λ ws. lines_from types (counted_from start (registers_of all.phis)) (filter is_kept ws)) same
    ∙ lines_counted types start (registers_of all.phis) (filter is_kept all.lines)

due_of : (types : List NamedTy) (start due : ℕ) (left all : BodyText)
    → counted_from due (registers_of left.phis) ≡ counted_from start (registers_of all.phis) → left.lines ≡ all.lines
    → due_in types due left ≡ capped (due_behind_lines types (due_from start (registers_of all.phis)) (filter is_kept all.lines))
due_of types start due left all counts same =
    ap (λ n. capped (due_behind_lines types n (filter is_kept left.lines))) counts
    ∙ ap (λ ws. capped (due_behind_lines types (counted_from start (registers_of all.phis)) (filter is_kept ws))) same
    ∙ behind_counted types start (registers_of all.phis) (filter is_kept all.lines)

pub last_lines : (types : List NamedTy) (start due : ℕ) (register : Option (Placed Name)) (left all : BodyText) (lines : List Instr)
    → left ≡ last_body register → counted_from due (registers_of left.phis) ≡ counted_from start (registers_of all.phis) → left.lines ≡ all.lines
    → lines ≡ calm due register (operation_of no_operation) ∷ [] → lines ≡ lines_from types (due_from start (registers_of all.phis)) (filter is_kept all.lines)
last_lines types start due register left all lines last counts same built =
    built ∙ ap (λ (b : BodyText). lines_in types due b) (sym last) ∙ lines_of types start due left all counts same

pub last_due : (types : List NamedTy) (start due next : ℕ) (register : Option (Placed Name)) (left all : BodyText)
    → left ≡ last_body register → counted_from due (registers_of left.phis) ≡ counted_from start (registers_of all.phis) → left.lines ≡ all.lines
    → next ≡ capped (due_behind due register) → next ≡ capped (due_behind_lines types (due_from start (registers_of all.phis)) (filter is_kept all.lines))
last_due types start due next register left all last counts same built =
    built ∙ ap (λ (b : BodyText). due_in types due b) (sym last) ∙ due_of types start due left all counts same

pub no_due : (types : List NamedTy) (start due : ℕ) (left all : BodyText)
    → due ≡ capped due → left ≡ record { phis = []; lines = [] } → counted_from due (registers_of left.phis) ≡ counted_from start (registers_of all.phis) → left.lines ≡ all.lines
    → due ≡ capped (due_behind_lines types (due_from start (registers_of all.phis)) (filter is_kept all.lines))
no_due types start due left all small none counts same =
    small ∙ ap (λ (b : BodyText). due_in types due b) (sym none) ∙ due_of types start due left all counts same
