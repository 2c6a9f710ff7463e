-- Heads of definitions, and what they have like declarations: the result, attributes and parameters.
use Rattle.std.proofs.Common.{◌≡◌, ℕ, List, [], ◌∷◌, ◌++◌, codes, map, Option, None, Some, refl, sym, arith, append_assoc}
use Rattle.std.specs.List.{AllByRecursion, AllZip, flat_map}
use Rattle.ir_core.specs.declared.functions.Extensions.{Extensions}
use Rattle.ir_core.specs.declared.functions.Function.{Function}
use Rattle.ir_core.specs.declared.functions.Param.{Param}
use Rattle.ir_core.specs.declared.modules.Linkage.{Linkage}
use Rattle.ir_core.specs.declared.modules.Linkage.TheVariants as linkage
use Rattle.ir_core.specs.declared.modules.Module.{Module}
use Rattle.ir_core.specs.Ranges.{IsNameInRange}
use Rattle.ir_core.specs.Words.{linkage_word}
use Rattle.ir_types.specs.declared.names.Name.{Name}
use Rattle.ir_types.specs.declared.names.Name.TheVariants.{Number, Text}
use Rattle.ir_types.specs.declared.ty.Ty.{Ty, Void}
use Rattle.module_grammar.specs.declared.attributes.ParamAttributeText.{ParamAttributeText}
use Rattle.module_grammar.specs.declared.functions.LinkageText.{LinkageText}
use Rattle.module_grammar.specs.declared.functions.LinkageText.TheVariants as linkages
use Rattle.module_grammar.specs.declared.functions.ParamText.{ParamText}
use Rattle.module_grammar.specs.declared.operators.LinkageWord.{LinkageWord}
use Rattle.module_grammar.specs.declared.operators.LinkageWord.TheVariants as word
use Rattle.module_grammar.specs.declared.places.Placed.{Placed}
use Rattle.module_grammar.specs.declared.types.TypeText.{TypeText}
use Rattle.module_grammar.specs.declared.words.KeyWord.TheVariants as key
use Rattle.module_grammar.specs.declared.words.Language.TheVariants.{Ir}
use Rattle.module_grammar.specs.Attributes.{param_attribute}
use Rattle.module_grammar.specs.Functions as write
use Rattle.module_grammar.specs.Operators.{linkage_of}
use Rattle.module_grammar.specs.Symbols.{Brace, Global, Linkage as LinkageSymbol, Symbol, close_paren, define, external, open_paren, void}
use Rattle.module_grammar.specs.Types as types
use Rattle.named_modules.specs.Functions.{IsParam, linkage_said}
use Rattle.named_modules.specs.Lines.{IsResult}
use Rattle.named_modules.specs.Values.{IsNamed, IsValueType, extensions_of}
use Rattle.ir_printer.specs.ExpressionPrinter.Printed.{listed, printed_type}
use Rattle.ir_printer.specs.Globals.{linkage_text}
use Rattle.ir_printer.specs.Printed.{extended_text, extensions_text, head_text, param_name, param_text, signature_text}
use Rattle.printed_modules.proofs.Calm.{calm_attributes, calm_listed, calm_type}
use Rattle.printed_modules.proofs.CalmParts.{no_paren, shut_attributes, shut_type}
use Rattle.printed_modules.proofs.Fit.{FitsFunction, FitsParam, FitsResult, FitsValueType}
use Rattle.printed_modules.proofs.Globals.{linkage_before}
use Rattle.printed_modules.proofs.Guarded.{StatesBehind}
use Rattle.printed_modules.proofs.Laid.{AreCalm, IsShut, IsSound, both_calm}
use Rattle.printed_modules.proofs.Lays.{Lays, of_calm, of_fixed, of_prints}
use Rattle.printed_modules.proofs.Lays as lays
use Rattle.printed_modules.proofs.Listings.{listed_closed}
use Rattle.printed_tokens.proofs.Attributes.{extended, extended_stops, extensions}
use Rattle.printed_tokens.proofs.Marks as marks
use Rattle.printed_tokens.proofs.ModuleTypes.{HasNames, value_type}
use Rattle.printed_tokens.proofs.Prints.{Prints, before, both, empty, gap_behind, read_as}
use Rattle.printed_tokens.proofs.ReadTexts.{Any, Stops}

-- ---- linkage

calm_linkage : (w : LinkageText) → AreCalm (write.linkage w)
calm_linkage linkages.None = refl
calm_linkage (linkages.Word w) = refl
calm_linkage linkages.External = refl

shut_linkage : (w : LinkageText) → IsShut (write.linkage w)
shut_linkage linkages.None = tt
shut_linkage (linkages.Word w) = no_paren (LinkageSymbol w) refl
shut_linkage linkages.External = no_paren external refl

of_word : (w : LinkageWord) → Prints Ir Any write.linkage (λ (t : LinkageText). linkage_of w ≡ linkage_said t) (linkage_word (linkage_of w) ++ 32 ∷ [])
of_word w = read_as Ir write.linkage (λ (t : LinkageText). linkage_of w ≡ linkage_said t) (λ t. linkages.Word w) (λ t named. refl) (λ t named. refl) (linkage_before w)

linkage_prints : (l : Linkage) → Prints Ir Any write.linkage (λ (w : LinkageText). l ≡ linkage_said w) (linkage_text l)
linkage_prints linkage.External =
    read_as Ir write.linkage (λ (w : LinkageText). linkage.External ≡ linkage_said w) (λ t. linkages.None) (λ t named. refl) (λ t named. refl) (empty Ir Any)
linkage_prints linkage.Private = of_word word.Private
linkage_prints linkage.Internal = of_word word.Internal
linkage_prints linkage.Common = of_word word.Common
linkage_prints linkage.AvailableExternally = of_word word.AvailableExternally
linkage_prints linkage.LinkonceOdr = of_word word.LinkonceOdr
linkage_prints linkage.WeakOdr = of_word word.WeakOdr

linkage_laid : (l : Linkage) → Lays Any write.linkage (λ stated (w : LinkageText). l ≡ linkage_said w) (linkage_text l)
linkage_laid l =
    of_calm write.linkage (λ stated (w : LinkageText). l ≡ linkage_said w) (λ w. w) (λ w named. refl) (λ stated w named. named) (λ w named. shut_linkage w) (λ w named. calm_linkage w)
    (linkage_prints l)

-- ---- attributes of the result

pub extensions_laid : (e : Extensions) → Lays Any (flat_map param_attribute) (λ stated (ws : List ParamAttributeText). e ≡ extensions_of ws) (extensions_text e)
extensions_laid e =
    of_calm (flat_map param_attribute) (λ stated (ws : List ParamAttributeText). e ≡ extensions_of ws) (λ ws. ws) (λ ws named. refl) (λ stated ws named. sym named)
    (λ ws named. shut_attributes ws) (λ ws named. calm_attributes ws) (extensions Ir e)

-- ---- results

nothing_behind : StatesBehind []
nothing_behind inside is = cc

void_sound : IsSound (void ∷ [])
void_sound = record { shut = no_paren void refl; guarded = (λ is. nothing_behind, tt); no_addr = (omega arith, tt) }

-- ---- what a head is written as

-- `@f(i32 %x, i8) {`
abbrev Signature : Type 0
Signature = Placed Name × (List ParamText × ℕ)

abbrev signature_written : Signature → List Symbol
signature_written w = Global w.0 ∷ open_paren ∷ (write.params w.1.0 ++ (close_paren ∷ Brace w.1.1 ∷ []))

abbrev pub Head : Type 0
Head = LinkageText × (List ParamAttributeText × (Option TypeText × Signature))

abbrev pub head_written : Head → List Symbol
head_written w = define ∷ (write.linkage w.0 ++ (flat_map param_attribute w.1.0 ++ (types.result w.1.1.0 ++ signature_written w.1.1.1)))

module _ (m : Module) (names : HasNames m) where
  void_laid : Lays Stops types.result (λ stated (w : Option TypeText). IsResult m w Void) (printed_type Void)
  void_laid =
      of_prints types.result (λ stated (w : Option TypeText). IsResult m w Void) (λ t. None) (λ t named. ([], refl, refl)) (λ stated t named all. refl) (λ t named. void_sound)
      (marks.key_alone Ir key.Void tt)

  value_laid : (t : Ty) → FitsValueType m t → Lays Stops types.result (λ stated (w : Option TypeText). IsResult m w t) (printed_type t)
  value_laid t fits =
      of_calm types.result (λ stated (w : Option TypeText). IsResult m w t) (λ w. Some w) (λ w named. refl) (λ stated w named. named) (λ w named. shut_type w) (λ w named. calm_type w)
      (value_type m Ir names t fits.0.0 fits.0.1 fits.1)

  pub result_laid : (t : Ty) → FitsResult m t → Lays Stops types.result (λ stated (w : Option TypeText). IsResult m w t) (printed_type t)
  result_laid Void fits = void_laid
  result_laid t fits = value_laid t fits

  -- ---- parameters

  -- the type and its attributes
  pub typed : (t : Ty) (e : Extensions) → FitsValueType m t → Prints Ir Stops (λ (w : TypeText × List ParamAttributeText). types.ty w.0 ++ flat_map param_attribute w.1)
      (λ (w : TypeText × List ParamAttributeText). IsValueType m w.0 t × (extensions_of w.1 ≡ e)) (printed_type t ++ extended_text e)
  typed t e fits = both Ir (value_type m Ir names t fits.0.0 fits.0.1 fits.1) (extended Ir e) (extended_stops e)

  named : (x : Name) → IsNameInRange x → Prints Ir Stops write.local (λ (w : Option (Placed Name)). IsNamed w x) (param_name x)
  named (Text bytes) range =
      read_as Ir write.local (λ (w : Option (Placed Name)). IsNamed w (Text bytes)) (λ w. Some w) (λ w named. refl) (λ w named. named) (before Ir (marks.space Ir) (marks.local Ir (Text bytes) range))
  named (Number n) range =
      read_as Ir write.local (λ (w : Option (Placed Name)). IsNamed w (Number n)) (λ w. None) (λ w named. refl) (λ w named. range) (empty Ir Stops)

  named_stops : (x : Name) (rest : List ℕ) → Stops rest → Stops (param_name x ++ rest)
  named_stops (Text bytes) rest stop = refl
  named_stops (Number n) rest stop = stop

  param_stops : (e : Extensions) (x : Name) (rest : List ℕ) → Stops rest → Stops ((extended_text e ++ param_name x) ++ rest)
  param_stops e x rest stop = rw (append_assoc (extended_text e) (param_name x) rest) (extended_stops e (param_name x ++ rest) (named_stops x rest stop))

  param : (p : Param) → FitsParam m p → Prints Ir Stops write.param (λ (w : ParamText). IsParam m w p) (param_text p)
  param p fits =
      read_as Ir write.param (λ (w : ParamText). IsParam m w p) (λ t. record { ty = t.0; attributes = t.1.0; name = t.1.1 }) (λ t named. refl)
      (λ t named. (named.1.1, named.0, sym named.1.0))
      (both Ir (value_type m Ir names p.ty fits.1.0.0 fits.1.0.1 fits.1.1)
      (both Ir (extended Ir p.extensions) (named p.name fits.0) (named_stops p.name)) (param_stops p.extensions p.name))

  calm_name : (w : Option (Placed Name)) → AreCalm (write.local w)
  calm_name None = refl
  calm_name (Some x) = refl

  pub calm_param : (w : ParamText) → AreCalm (write.param w)
  calm_param w =
      both_calm (types.ty w.ty) (flat_map param_attribute w.attributes ++ write.local w.name) (calm_type w.ty)
      (both_calm (flat_map param_attribute w.attributes) (write.local w.name) (calm_attributes w.attributes) (calm_name w.name))

  params : (ps : List Param) → AllByRecursion (FitsParam m) ps → Prints Ir Stops write.params (λ (ws : List ParamText). AllZip (IsParam m) ws ps) (listed [] (map param_text ps))
  params ps all = listed_closed (FitsParam m) write.param (IsParam m) param_text param ps all

  -- ---- heads

  abbrev NamesSignature : Function → Signature → Type 0
  NamesSignature f w = (f.name ≡ w.0.what) × AllZip (IsParam m) w.1.0 f.params

  -- `) {`
  opened : Prints Ir Any (λ (at : ℕ). close_paren ∷ Brace at ∷ []) (λ (at : ℕ). Unit {0}) (codes ") {" ++ 10 ∷ [])
  opened =
      before Ir (marks.close_paren Ir) (before Ir (marks.space Ir) (gap_behind Ir (marks.open_brace Ir) (marks.line_end Ir) (λ rest end. tt)))

  signature : (f : Function) → FitsFunction m f → Prints Ir Any signature_written (NamesSignature f) (signature_text f)
  signature f fits =
      read_as Ir signature_written (NamesSignature f) (λ t. t) (λ t named. refl) (λ t named. (named.0, named.1.0))
      (both Ir (marks.plain_global Ir f.name fits.name fits.plain)
      (before Ir (marks.open_paren Ir) (both Ir (params f.params fits.params) opened (λ rest end. refl))) (λ rest end. refl))

  signature_laid : (f : Function) → FitsFunction m f → Lays Any signature_written (λ stated (w : Signature). NamesSignature f w) (signature_text f)
  signature_laid f fits =
      of_calm signature_written (λ stated (w : Signature). NamesSignature f w) (λ w. w) (λ w named. refl) (λ stated w named. named)
      (λ w named. no_paren (Global w.0) refl)
      (λ w named. both_calm (write.params w.1.0) (close_paren ∷ Brace w.1.1 ∷ []) (calm_listed write.param calm_param w.1.0) refl) (signature f fits)

  abbrev pub NamesHead : Function → Head → Type 0
  NamesHead f w = (f.linkage ≡ linkage_said w.0) × ((f.result_extensions ≡ extensions_of w.1.0) × (IsResult m w.1.1.0 f.result × NamesSignature f w.1.1.1))

  pub head_laid : (f : Function) → FitsFunction m f → Lays Any head_written (λ stated (w : Head). NamesHead f w) (head_text f)
  head_laid f fits =
      lays.before (of_fixed (no_paren define refl) refl (marks.key Ir key.Define tt))
      (lays.both (linkage_laid f.linkage)
      (lays.both (extensions_laid f.result_extensions)
      (lays.both (result_laid f.result fits.result) (lays.gap_before (marks.space Ir) (signature_laid f fits)) (λ rest end. refl))
      (λ rest end. tt)) (λ rest end. tt))
