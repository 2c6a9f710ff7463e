-- Blocks, each behind its label, or behind a comment where it has no name.
use Rattle.std.proofs.Common.{◌≡◌, ℕ, ◌<◌, List, [], ◌∷◌, ◌++◌, length, append_assoc, Option, Some, None, refl, ap, sym, arith}
use Rattle.std.specs.Prelude.{codes}
use Rattle.std.specs.Fmt.{decimal}
use Rattle.std.specs.List.{AllByRecursion, AllZip, flat_map}
use Rattle.ir_core.specs.declared.functions.Block.{Block}
use Rattle.ir_core.specs.declared.modules.Module.{Module}
use Rattle.ir_core.specs.Ranges.{IsNameInRange}
use Rattle.ir_types.specs.declared.names.Name.{Name}
use Rattle.ir_types.specs.declared.names.Name.TheVariants.{Number, Text}
use Rattle.ir_lexer.specs.declared.token.TokenKind.TheVariants as kind
use Rattle.ir_printer.specs.ExpressionPrinter.Printed.{name_text}
use Rattle.ir_printer.specs.Printed.{blocks_text, first_label, indented, instr_text, label_line, later_block, later_label, lines_text, phi_text}
use Rattle.module_grammar.specs.declared.flow.BlockText.{BlockText}
use Rattle.module_grammar.specs.declared.flow.EndText.{EndText}
use Rattle.module_grammar.specs.declared.flow.PhiText.{PhiText}
use Rattle.module_grammar.specs.declared.lines.LineText.{LineText}
use Rattle.module_grammar.specs.declared.places.Placed.{Placed}
use Rattle.module_grammar.specs.declared.words.Language.TheVariants.{Ir}
use Rattle.module_grammar.specs.Flow as flow
use Rattle.module_grammar.specs.Lines as lines
use Rattle.module_grammar.specs.Symbols.{Symbol}
use Rattle.named_modules.specs.Flow.{IsPhi, NamesBlock}
use Rattle.named_modules.specs.Lines.{Stated}
use Rattle.named_modules.specs.Values.{IsNamed, Registers}
use Rattle.printed_modules.proofs.Calls.{CalledAreWhole}
use Rattle.printed_modules.proofs.Fit.{FitsBlock, FitsLine, FitsPhi}
use Rattle.printed_modules.proofs.Labels.{EndsLine, comment_reads, label_reads}
use Rattle.printed_modules.proofs.Laid.{AreCalm, IsShut}
use Rattle.printed_modules.proofs.Lays.{Lays, both, each, gap_before, of_calm, read_as}
use Rattle.printed_modules.proofs.Lines.{line}
use Rattle.printed_modules.proofs.NamedLines.{NamesLine, all_tidy, are_lines}
use Rattle.printed_modules.proofs.Phis.{phi}
use Rattle.printed_modules.proofs.Terms.{terminator}
use Rattle.printed_modules.proofs.Tidy.{IsTidyBlock}
use Rattle.printed_tokens.proofs.Marks.{line_end}
use Rattle.printed_tokens.proofs.ModuleTypes.{HasNames}
use Rattle.printed_tokens.proofs.Prints.{IsFixed, Prints, behind, empty, fixed, gap_behind, of_text, one_token}
use Rattle.printed_tokens.proofs.Prints as prints
use Rattle.printed_tokens.proofs.ReadTexts.{Any}
use Rattle.printed_tokens.proofs.TokenWords.{alone}

-- ---- labels

abbrev PrintsLabel : Name → List ℕ → Type 0
PrintsLabel name bytes = Prints Ir Any flow.label (λ (w : Option (Placed Name)). IsNamed w name) bytes

text_label : (bytes : List ℕ) → IsNameInRange (Text bytes) → PrintsLabel (Text bytes) (label_line (Text bytes))
text_label bytes writable =
    of_text Ir ((name_text (Text bytes) ++ 58 ∷ []) ++ 10 ∷ []) (label_line (Text bytes)) (append_assoc (name_text (Text bytes)) (58 ∷ []) (10 ∷ []))
    (gap_behind Ir
    (one_token Ir Any flow.label (λ (w : Option (Placed Name)). IsNamed w (Text bytes)) (name_text (Text bytes) ++ 58 ∷ []) (alone (kind.Label (Text bytes)))
    (λ start end. Some (record { what = Text bytes; start = start; end = end })) (label_reads bytes writable) (λ i j. refl) (λ i j. refl))
    (line_end Ir) (λ rest end. tt))

-- nothing is written of a block's number
unwritten : {bytes : List ℕ} (n : ℕ) → IsNameInRange (Number n) → IsFixed Ir Any bytes [] → PrintsLabel (Number n) bytes
unwritten n writable p = prints.read_as Ir flow.label (λ (w : Option (Placed Name)). IsNamed w (Number n)) (λ t. None) (λ t named. refl) (λ t named. writable) p

first : (name : Name) → IsNameInRange name → PrintsLabel name (first_label name)
first (Text bytes) writable = text_label bytes writable
first (Number n) writable = unwritten n writable (empty Ir Any)

comment : (n : ℕ) → IsNameInRange (Number n) → IsFixed Ir Any (later_label (Number n)) []
comment n writable =
    of_text Ir ((codes "; <label>:" ++ decimal n) ++ 10 ∷ []) (later_label (Number n)) (append_assoc (codes "; <label>:") (decimal n) (10 ∷ []))
    (behind Ir (fixed Ir EndsLine (codes "; <label>:" ++ decimal n) [] [] (comment_reads n writable) tt) (line_end Ir) (λ rest end. refl))

later : (name : Name) → IsNameInRange name → PrintsLabel name (later_label name)
later (Text bytes) writable = text_label bytes writable
later (Number n) writable = unwritten n writable (comment n writable)

label_shut : (w : Option (Placed Name)) → IsShut (flow.label w)
label_shut None = tt
label_shut (Some x) = λ is. cc

label_calm : (w : Option (Placed Name)) → AreCalm (flow.label w)
label_calm None = refl
label_calm (Some x) = refl

-- ---- blocks

-- the label, the phis, the lines and what ends the block
abbrev Parts : Type 0
Parts = Option (Placed Name) × (List PhiText × (List LineText × EndText))

abbrev parts_written : Parts → List Symbol
parts_written w = flow.label w.0 ++ (flat_map flow.phi_node w.1.0 ++ (flat_map lines.line w.1.1.0 ++ flow.end w.1.1.1))

abbrev block_of : Parts → BlockText
block_of w = record { label = w.0; body = record { phis = w.1.0; lines = w.1.1.0 }; end = w.1.1.1 }

-- the body's parts are one list before the end
regrouped : (w : Parts) → parts_written w ≡ flow.block (block_of w)
regrouped w = ap (λ more. flow.label w.0 ++ more) (sym (append_assoc (flat_map flow.phi_node w.1.0) (flat_map lines.line w.1.1.0) (flow.end w.1.1.1)))

-- the first block of a function and the further ones
abbrev pub blocks_written : BlockText × List BlockText → List Symbol
blocks_written w = flow.block w.0 ++ flat_map flow.block w.1

module _ (whole : CalledAreWhole) (m : Module) (names : HasNames m) (rs : Registers) (labels : List Name) where
  -- it names the block, and keeps all that it says
  abbrev pub NamesTidyBlock : Stated → BlockText → Block → Type 0
  NamesTidyBlock stated w b = NamesBlock m rs stated labels w b × IsTidyBlock w

  abbrev LaysBlock : Block → List ℕ → Type 1
  LaysBlock b bytes = Lays Any flow.block (λ stated (w : BlockText). NamesTidyBlock stated w b) bytes

  behind_label : (b : Block) (bytes : List ℕ) → FitsBlock m rs labels b → PrintsLabel b.name bytes → LaysBlock b (bytes ++ lines_text m.declarations b)
  behind_label b bytes fits label =
      read_as flow.block (λ stated (w : BlockText). NamesTidyBlock stated w b) block_of regrouped
      (λ stated t named. (
        record { label = named.0; phis = named.1.0; lines = are_lines m rs stated t.1.1.0 b.body named.1.1.0; ends = named.1.1.1 },
        all_tidy m rs stated t.1.1.0 b.body named.1.1.0,
      ))
      (both
      (of_calm flow.label (λ stated (w : Option (Placed Name)). IsNamed w b.name) (λ w. w) (λ w is. refl) (λ stated w is. is) (λ w is. label_shut w) (λ w is. label_calm w) label)
      (both
      (each (FitsPhi m rs labels) flow.phi_node (λ stated. IsPhi m rs labels) (λ p. indented (phi_text p)) (phi m names rs labels) b.phis fits.phis)
      (both
      (each (FitsLine m rs labels) lines.line (NamesLine m rs) (λ l. indented (instr_text m.declarations l)) (line m names rs labels whole) b.body fits.lines)
      (terminator m names rs labels b.term fits.ends) (λ rest end. tt)) (λ rest end. tt)) (λ rest end. tt))

  later_one : (b : Block) → FitsBlock m rs labels b → LaysBlock b (later_block m.declarations b)
  later_one b fits = gap_before (line_end Ir) (behind_label b (later_label b.name) fits (later b.name fits.name))

  pub blocks : (bs : List Block) → 0 < length bs → AllByRecursion (FitsBlock m rs labels) bs
      → Lays Any blocks_written (λ stated (w : BlockText × List BlockText). AllZip (NamesTidyBlock stated) (w.0 ∷ w.1) bs) (blocks_text m.declarations bs)
  blocks [] none all = absurd (omega (arith, none))
  blocks (b ∷ bs) some all =
      both (behind_label b (first_label b.name) all.0 (first b.name all.0.name))
      (each (FitsBlock m rs labels) flow.block NamesTidyBlock (later_block m.declarations) later_one bs all.1) (λ rest end. tt)
