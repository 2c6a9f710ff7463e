-- Definitions, from their heads and blocks.
use Rattle.std.proofs.Common.{◌≡◌, ◌∙◌, false, List, [], ◌∷◌, ◌++◌, None, refl, sym, ap, append_assoc}
use Rattle.std.specs.List.{AllByRecursion, AllZip, flat_map}
use Rattle.ir_core.specs.declared.functions.Block.{Block}
use Rattle.ir_core.specs.declared.functions.Function.{Function}
use Rattle.ir_core.specs.declared.modules.Module.{Module}
use Rattle.module_grammar.specs.declared.constants.GlobalNameText.TheVariants as global_name
use Rattle.module_grammar.specs.declared.flow.BlockText.{BlockText}
use Rattle.module_grammar.specs.declared.functions.DefinitionText.{DefinitionText}
use Rattle.module_grammar.specs.declared.words.Language.TheVariants.{Ir}
use Rattle.module_grammar.specs.Attributes.{param_attribute}
use Rattle.module_grammar.specs.Flow.{block}
use Rattle.module_grammar.specs.Functions as write
use Rattle.module_grammar.specs.Symbols.{Brace, Global, Symbol, close_brace, close_paren, define, open_paren}
use Rattle.module_grammar.specs.Types as types
use Rattle.named_modules.specs.Flow.{NamesBlock}
use Rattle.named_modules.specs.Functions.{NamesFunction, labels_of, registers_of}
use Rattle.named_modules.specs.Lines.{Stated}
use Rattle.ir_printer.specs.Printed.{function_text}
use Rattle.printed_modules.proofs.Blocks.{NamesTidyBlock, blocks, blocks_written}
use Rattle.printed_modules.proofs.Calls.{CalledAreWhole}
use Rattle.printed_modules.proofs.CalmParts.{no_paren}
use Rattle.printed_modules.proofs.Fit.{FitsFunction}
use Rattle.printed_modules.proofs.Heads.{Head, head_laid, head_written}
use Rattle.printed_modules.proofs.Lays.{IsLaidFixed, Lays, of_fixed}
use Rattle.printed_modules.proofs.Lays as lays
use Rattle.printed_modules.proofs.Tidy.{IsTidyBlock, IsTidyDefinition}
use Rattle.printed_tokens.proofs.Marks as marks
use Rattle.printed_tokens.proofs.ModuleTypes.{HasNames}
use Rattle.printed_tokens.proofs.Prints.{gap_behind}
use Rattle.printed_tokens.proofs.ReadTexts.{Any}

-- a head up to its brace, and what stands behind
grouped : (l a r p behind : List Symbol) (name opens closes brace : Symbol)
    → (l ++ (a ++ (r ++ (name ∷ opens ∷ (p ++ (closes ∷ brace ∷ [])))))) ++ behind
    ≡ l ++ (((a ++ r) ++ (name ∷ opens ∷ (p ++ (closes ∷ [])))) ++ (brace ∷ behind))
grouped l a r p behind name opens closes brace =
    let head : List Symbol = name ∷ opens ∷ (p ++ (closes ∷ [])) in
    let whole : List Symbol = name ∷ opens ∷ (p ++ (closes ∷ brace ∷ [])) in
    append_assoc l (a ++ (r ++ whole)) behind
    ∙ ap (λ ss. l ++ ss)
    (append_assoc a (r ++ whole) behind
    ∙ ap (λ ss. a ++ ss) (append_assoc r whole behind)
    ∙ ap (λ ss. a ++ (r ++ (name ∷ opens ∷ ss))) (append_assoc p (closes ∷ brace ∷ []) behind ∙ sym (append_assoc p (closes ∷ []) (brace ∷ behind)))
    ∙ sym (append_assoc a r (head ++ (brace ∷ behind)))
    ∙ sym (append_assoc (a ++ r) head (brace ∷ behind)))

abbrev definition_of : Head × (BlockText × List BlockText) → DefinitionText
definition_of w = record {
  linkage = w.0.0;
  head = record {
    result = record { is_ccc = false; attributes = w.0.1.0; ty = w.0.1.1.0 };
    name = global_name.Plain w.0.1.1.1.0;
    params = w.0.1.1.1.1.0;
    end = record { unnamed_addr = false; attributes = [] };
  };
  attachment = None;
  at = w.0.1.1.1.1.1;
  entry = w.1.0;
  others = w.1.1;
}

defined : (w : Head × (BlockText × List BlockText)) → head_written w.0 ++ (blocks_written w.1 ++ (close_brace ∷ [])) ≡ write.definition (definition_of w)
defined w =
    ap (λ more. head_written w.0 ++ more) (append_assoc (block w.1.0) (flat_map block w.1.1) (close_brace ∷ []))
    ∙ ap (λ ss. define ∷ ss)
    (grouped (write.linkage w.0.0) (flat_map param_attribute w.0.1.0) (types.result w.0.1.1.0) (write.params w.0.1.1.1.1.0)
    (block w.1.0 ++ (flat_map block w.1.1 ++ (close_brace ∷ []))) (Global w.0.1.1.1.0) open_paren close_paren (Brace w.0.1.1.1.1.1))

-- `}` on a line of its own
closing : IsLaidFixed Any (125 ∷ 10 ∷ []) (close_brace ∷ [])
closing = of_fixed (no_paren close_brace refl) refl (gap_behind Ir (marks.close_brace Ir) (marks.line_end Ir) (λ rest end. tt))

module _ (whole : CalledAreWhole) (m : Module) (names : HasNames m) where
  -- it names the function, and keeps all that it says
  abbrev pub NamesTidy : Function → Stated → DefinitionText → Type 0
  NamesTidy f stated w = NamesFunction m stated w f × IsTidyDefinition w

  -- blocks that name these, and all of which are kept
  abbrev AreTidy : Function → Stated → List BlockText → List Block → Type 0
  AreTidy f stated = AllZip (NamesTidyBlock whole m names (registers_of m f) (labels_of f) stated)

  are_named : (f : Function) (stated : Stated) (ws : List BlockText) (bs : List Block) → AreTidy f stated ws bs
      → AllZip (NamesBlock m (registers_of m f) stated (labels_of f)) ws bs
  are_named f stated [] [] all = tt
  are_named f stated [] (b ∷ bs) all = absurd all
  are_named f stated (w ∷ ws) [] all = absurd all
  are_named f stated (w ∷ ws) (b ∷ bs) all = (all.0.0, are_named f stated ws bs all.1)

  are_tidy : (f : Function) (stated : Stated) (ws : List BlockText) (bs : List Block) → AreTidy f stated ws bs → AllByRecursion IsTidyBlock ws
  are_tidy f stated [] bs all = tt
  are_tidy f stated (w ∷ ws) [] all = absurd all
  are_tidy f stated (w ∷ ws) (b ∷ bs) all = (all.0.1, are_tidy f stated ws bs all.1)

  pub definition_laid : (f : Function) → FitsFunction m f → Lays Any write.definition (NamesTidy f) (function_text m.declarations f)
  definition_laid f fits =
      lays.read_as write.definition (NamesTidy f) definition_of defined
      (λ stated t named. (
        record {
          linkage = named.0.0;
          extensions = named.0.1.0;
          result = named.0.1.1.0;
          name = named.0.1.1.1.0;
          params = named.0.1.1.1.1;
          blocks = are_named f stated (t.1.0 ∷ t.1.1) f.blocks named.1;
          order = fits.order;
          few = fits.few;
        },
        are_tidy f stated (t.1.0 ∷ t.1.1) f.blocks named.1,
      ))
      (lays.both (head_laid m names f fits)
      (lays.behind (blocks whole m names (registers_of m f) (labels_of f) f.blocks fits.some fits.blocks) closing (λ rest end. tt)) (λ rest end. tt))
