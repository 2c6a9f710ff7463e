-- Declarations.
use Rattle.std.proofs.Common.{◌≡◌, false, List, [], ◌∷◌, ◌++◌, Option, None, refl, sym, ap, append_assoc}
use Rattle.std.specs.List.{AllZip, flat_map}
use Rattle.std.proofs.lemmas.List.{append-nil}
use Rattle.ir_core.specs.declared.modules.Declaration.{Declaration}
use Rattle.ir_core.specs.declared.modules.DeclaredParam.{DeclaredParam}
use Rattle.ir_core.specs.declared.modules.Module.{Module}
use Rattle.ir_types.specs.declared.names.Name.{Name}
use Rattle.module_grammar.specs.declared.attributes.ParamAttributeText.{ParamAttributeText}
use Rattle.module_grammar.specs.declared.functions.DeclarationText.{DeclarationText}
use Rattle.module_grammar.specs.declared.functions.DeclaredNameText.TheVariants as declared
use Rattle.module_grammar.specs.declared.functions.ParamText.{ParamText}
use Rattle.module_grammar.specs.declared.places.Placed.{Placed}
use Rattle.module_grammar.specs.declared.types.TypeText.{TypeText}
use Rattle.module_grammar.specs.declared.words.KeyWord.TheVariants as key
use Rattle.module_grammar.specs.declared.words.Language.TheVariants.{Ir}
use Rattle.module_grammar.specs.Attributes.{param_attribute}
use Rattle.module_grammar.specs.Functions as write
use Rattle.module_grammar.specs.Symbols.{Global, Symbol, close_paren, declare, open_paren}
use Rattle.module_grammar.specs.Types as types
use Rattle.named_modules.specs.Functions.{IsDeclaredParam, NamesDeclaration, is_dropped_name}
use Rattle.ir_printer.specs.Printed.{declaration_text, declared_param_text, declared_signature}
use Rattle.printed_modules.proofs.CalmParts.{no_paren}
use Rattle.printed_modules.proofs.Fit.{FitsDeclaration, FitsDeclaredParam}
use Rattle.printed_modules.proofs.Heads.{calm_param, extensions_laid, result_laid, typed}
use Rattle.printed_modules.proofs.Items.{NoParams}
use Rattle.printed_modules.proofs.Laid.{both_calm}
use Rattle.printed_modules.proofs.Lays.{Lays, of_calm, of_fixed}
use Rattle.printed_modules.proofs.Lays as lays
use Rattle.printed_modules.proofs.Listings.{listed_open, open_calm}
use Rattle.printed_tokens.proofs.Marks as marks
use Rattle.printed_tokens.proofs.ModuleTypes.{HasNames}
use Rattle.printed_tokens.proofs.Prints.{IsFixed, Prints, before, behind, both, gap_behind, read_as}
use Rattle.printed_tokens.proofs.ReadTexts.{Any, Stops}

-- a name and parameters
abbrev Signature : Type 0
Signature = Placed Name × List ParamText

-- attributes, a result, and what stands behind it
abbrev Parts : Type 0
Parts = List ParamAttributeText × (Option TypeText × Signature)

module _ (m : Module) (names : HasNames m) where
  param : (p : DeclaredParam) → FitsDeclaredParam m p → Prints Ir Stops write.param (λ (w : ParamText). IsDeclaredParam m w p) (declared_param_text p)
  param p fits =
      read_as Ir write.param (λ (w : ParamText). IsDeclaredParam m w p) (λ t. record { ty = t.0; attributes = t.1; name = None })
      (λ t named. ap (λ more. types.ty t.0 ++ more) (sym (append-nil (flat_map param_attribute t.1)))) (λ t named. (named.0, sym named.1)) (typed m names p.ty p.extensions fits.0)

  -- ---- the signature

  abbrev signature_written : Declaration → Signature → List Symbol
  signature_written d w = Global w.0 ∷ open_paren ∷ (write.declared_params (record { params = w.1; is_open = d.variadic }) ++ (close_paren ∷ []))

  abbrev NamesSignature : Declaration → Signature → Type 0
  NamesSignature d w = (d.name ≡ w.0.what) × AllZip (IsDeclaredParam m) w.1 d.params

  closed : IsFixed Ir Any (41 ∷ 10 ∷ []) (close_paren ∷ [])
  closed = gap_behind Ir (marks.close_paren Ir) (marks.line_end Ir) (λ rest end. tt)

  signature : (d : Declaration) → FitsDeclaration m d → Prints Ir Any (signature_written d) (NamesSignature d) (declared_signature d)
  signature d fits =
      both Ir (marks.plain_global Ir d.name fits.name fits.plain)
      (before Ir (marks.open_paren Ir)
      (behind Ir (listed_open (FitsDeclaredParam m) write.param (IsDeclaredParam m) declared_param_text param d.params d.variadic fits.params) closed (λ rest end. refl)))
      (λ rest end. refl)

  signature_laid : (d : Declaration) → FitsDeclaration m d → Lays Any (signature_written d) (λ stated (w : Signature). NamesSignature d w) (declared_signature d)
  signature_laid d fits =
      of_calm (signature_written d) (λ stated (w : Signature). NamesSignature d w) (λ w. w) (λ w named. refl) (λ stated w named. named)
      (λ w named. no_paren (Global w.0) refl)
      (λ w named. both_calm (write.declared_params (record { params = w.1; is_open = d.variadic })) (close_paren ∷ []) (open_calm write.param (calm_param m names) w.1 d.variadic) refl)
      (signature d fits)

  -- ---- a declaration

  abbrev tree_of : Declaration → Parts → DeclarationText
  tree_of d w = record {
    result = record { is_ccc = false; attributes = w.0; ty = w.1.0 };
    declared = declared.Plain w.1.1.0 (record { params = w.1.1.1; is_open = d.variadic }) (record { unnamed_addr = false; attributes = [] });
  }

  -- it names the declaration where that stands, and isn't dropped
  abbrev pub NamesKept : Declaration → DeclarationText → Type 0
  NamesKept d w = NamesDeclaration m NoParams (d.before, w) d × (is_dropped_name w.declared ≡ false)

  pub declaration_laid : (d : Declaration) → FitsDeclaration m d → Lays Any write.declaration (λ stated (w : DeclarationText). NamesKept d w) (declaration_text d)
  declaration_laid d fits =
      lays.read_as write.declaration (λ stated (w : DeclarationText). NamesKept d w) (tree_of d)
      (λ t. ap (λ ss. declare ∷ ss) (sym (append_assoc (flat_map param_attribute t.0) (types.result t.1.0) (signature_written d t.1.1))))
      (λ stated t named. (record { before = refl; extensions = named.0; result = named.1.0; name = named.1.1.0; params = (named.1.1.1, refl) }, refl))
      (lays.before (of_fixed (no_paren declare refl) refl (marks.key Ir key.Declare tt))
      (lays.both (extensions_laid d.result_extensions)
      (lays.both (result_laid m names d.result fits.result) (lays.gap_before (marks.space Ir) (signature_laid d fits)) (λ rest end. refl))
      (λ rest end. tt)))
