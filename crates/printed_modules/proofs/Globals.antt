-- The globals of a module.
use Rattle.std.proofs.Common.{◌≡◌, ℕ, Bool, true, false, List, [], ◌∷◌, ◌++◌, codes, Option, None, Some, refl, sym, ap, subst}
use Rattle.ir_core.specs.declared.modules.GlobalVar.{GlobalVar}
use Rattle.ir_core.specs.declared.modules.Init.{Init}
use Rattle.ir_core.specs.declared.modules.Linkage.{Linkage}
use Rattle.ir_core.specs.declared.modules.Linkage.TheVariants as linkage
use Rattle.ir_core.specs.declared.modules.Module.{Module}
use Rattle.ir_core.specs.Ranges.{IsStartInRange}
use Rattle.ir_core.specs.Words.{linkage_word}
use Rattle.ir_lexer.specs.declared.token.Number.{Number}
use Rattle.ir_types.specs.declared.ty.Ty.{Ty}
use Rattle.module_grammar.specs.declared.constants.GlobalNameText.{GlobalNameText}
use Rattle.module_grammar.specs.declared.constants.GlobalNameText.TheVariants as name_text
use Rattle.module_grammar.specs.declared.constants.InitText.{InitText}
use Rattle.module_grammar.specs.declared.items.GlobalBodyText.{GlobalBodyText}
use Rattle.module_grammar.specs.declared.items.HeldText.{HeldText}
use Rattle.module_grammar.specs.declared.items.HeldText.TheVariants as held
use Rattle.module_grammar.specs.declared.items.HoldingWord.{HoldingWord}
use Rattle.module_grammar.specs.declared.items.HoldingWord.TheVariants as holding
use Rattle.module_grammar.specs.declared.items.ItemText.TheVariants as item
use Rattle.module_grammar.specs.declared.operators.LinkageWord.{LinkageWord}
use Rattle.module_grammar.specs.declared.operators.LinkageWord.TheVariants as word
use Rattle.module_grammar.specs.declared.places.Placed.{Placed}
use Rattle.module_grammar.specs.declared.types.TypeText.{TypeText}
use Rattle.module_grammar.specs.declared.words.KeyWord.TheVariants as key
use Rattle.module_grammar.specs.declared.words.Language.TheVariants.{Ir}
use Rattle.module_grammar.specs.Attributes as attributes
use Rattle.module_grammar.specs.Lines as lines
use Rattle.module_grammar.specs.Modules as write
use Rattle.module_grammar.specs.Operators.{linkage_of}
use Rattle.module_grammar.specs.Symbols.{Debug, Global, Holding, Linkage as LinkageSymbol, Symbol, equals, external}
use Rattle.module_grammar.specs.Types.{ty}
use Rattle.named_modules.specs.Modules.{Holds, IsGlobalVar, is_constant, linkage_or_none}
use Rattle.named_modules.specs.Values.{IsAlign, IsType}
use Rattle.ir_printer.specs.ExpressionPrinter.Printed.{printed_align, printed_type}
use Rattle.ir_printer.specs.Globals.{contents_text, global_linkage, global_text, global_word, held_text, linkage_text}
use Rattle.printed_modules.proofs.Calm.{calm_align, calm_type}
use Rattle.printed_modules.proofs.CalmParts.{calm_init, no_paren}
use Rattle.printed_modules.proofs.Fit.{FitsGlobal, FitsInit, FitsStart}
use Rattle.printed_modules.proofs.Laid.{AreCalm, IsShut, both_calm}
use Rattle.printed_modules.proofs.Lays.{Lays, of_calm}
use Rattle.printed_tokens.proofs.GlobalNames as global_names
use Rattle.printed_tokens.proofs.Initialisers.{init}
use Rattle.printed_tokens.proofs.Marks as marks
use Rattle.printed_tokens.proofs.ModuleTypes.{HasNames, module_type}
use Rattle.printed_tokens.proofs.Prints.{IsFixed, Prints, before, both, empty, gap_behind, of_text, read_as}
use Rattle.printed_tokens.proofs.ReadTexts.{Any, Stops}
use Rattle.printed_tokens.proofs.Values.{align}
use Rattle.printed_tokens.proofs.WordSymbols.{at_any, holding_is, holding_said, holding_text, linkage_is, linkage_said}

-- ---- words

-- `private `
pub linkage_before : (w : LinkageWord) → IsFixed Ir Any (linkage_word (linkage_of w) ++ 32 ∷ []) (LinkageSymbol w ∷ [])
linkage_before w = marks.word_and_space Ir (linkage_word (linkage_of w)) (LinkageSymbol w) (linkage_is w) (at_any Ir (linkage_word (linkage_of w)) _ (linkage_said Ir w))

of_word : (w : LinkageWord) → Prints Ir Any write.global_linkage (λ (t : Option LinkageWord). linkage_of w ≡ linkage_or_none t) (linkage_word (linkage_of w) ++ 32 ∷ [])
of_word w = read_as Ir write.global_linkage (λ (t : Option LinkageWord). linkage_of w ≡ linkage_or_none t) (λ t. Some w) (λ t named. refl) (λ t named. refl) (linkage_before w)

linkage_of_global : (l : Linkage) → Prints Ir Any write.global_linkage (λ (w : Option LinkageWord). l ≡ linkage_or_none w) (linkage_text l)
linkage_of_global linkage.External =
    read_as Ir write.global_linkage (λ (w : Option LinkageWord). linkage.External ≡ linkage_or_none w) (λ t. None) (λ t named. refl) (λ t named. refl) (empty Ir Any)
linkage_of_global linkage.Private = of_word word.Private
linkage_of_global linkage.Internal = of_word word.Internal
linkage_of_global linkage.Common = of_word word.Common
linkage_of_global linkage.AvailableExternally = of_word word.AvailableExternally
linkage_of_global linkage.LinkonceOdr = of_word word.LinkonceOdr
linkage_of_global linkage.WeakOdr = of_word word.WeakOdr

-- of one that holds something
linkage_held : (l : Linkage) (i : Init) → linkage_text l ≡ global_linkage l (Some i)
linkage_held linkage.External i = refl
linkage_held linkage.Private i = refl
linkage_held linkage.Internal i = refl
linkage_held linkage.Common i = refl
linkage_held linkage.AvailableExternally i = refl
linkage_held linkage.LinkonceOdr i = refl
linkage_held linkage.WeakOdr i = refl

holding_before : (b : Bool) → Prints Ir Any (λ (w : HoldingWord). Holding w ∷ []) (λ (w : HoldingWord). b ≡ is_constant w) (global_word b)
holding_before true =
    read_as Ir (λ (w : HoldingWord). Holding w ∷ []) (λ (w : HoldingWord). true ≡ is_constant w) (λ t. holding.Constant) (λ t named. refl) (λ t named. refl)
    (marks.word_and_space Ir (holding_text holding.Constant) (Holding holding.Constant) (holding_is holding.Constant) (at_any Ir (holding_text holding.Constant) _ (holding_said Ir holding.Constant)))
holding_before false =
    read_as Ir (λ (w : HoldingWord). Holding w ∷ []) (λ (w : HoldingWord). false ≡ is_constant w) (λ t. holding.Global) (λ t named. refl) (λ t named. refl)
    (marks.word_and_space Ir (holding_text holding.Global) (Holding holding.Global) (holding_is holding.Global) (at_any Ir (holding_text holding.Global) _ (holding_said Ir holding.Global)))

-- ` = `
equals_between : IsFixed Ir Any (codes " = ") (equals ∷ [])
equals_between = before Ir (marks.space Ir) (before Ir (marks.equals_mark Ir) (marks.space Ir))

-- ---- what stands behind

align_stops : (a : Option ℕ) (rest : List ℕ) → Stops ((printed_align a ++ 10 ∷ []) ++ rest)
align_stops None rest = refl
align_stops (Some n) rest = refl

held_stops : (t : Ty) (start : Option Init) (a : Option ℕ) (rest : List ℕ) → Stops ((held_text t start ++ (printed_align a ++ 10 ∷ [])) ++ rest)
held_stops t None a rest = align_stops a rest
held_stops t (Some i) a rest = refl

-- ---- a global

-- a name, and what stands behind it
abbrev pub global_written : GlobalNameText × GlobalBodyText → List Symbol
global_written w = write.item (item.Global w.0 w.1)

-- the word of what is held, the type, and the alignment
abbrev Outside : Type 0
Outside = HoldingWord × (TypeText × Option (Placed Number))

-- also the linkage, and what is held
abbrev Inside : Type 0
Inside = Option LinkageWord × (HoldingWord × (TypeText × (InitText × Option (Placed Number))))

abbrev outside : Outside → GlobalBodyText
outside w = record { held = held.External; unnamed_addr = false; word = w.0; ty = w.1.0; align = w.1.1 }

abbrev inside : Inside → GlobalBodyText
inside w = record { held = held.Init w.0 w.1.1.1.0; unnamed_addr = false; word = w.1.0; ty = w.1.1.0; align = w.1.1.1.1 }

module _ (m : Module) (names : HasNames m) where
  -- what a global is, beside its name
  abbrev IsBody : GlobalVar → GlobalBodyText → Type 0
  IsBody g w = (g.constant ≡ is_constant w.word) × IsType m w.ty g.ty × Holds m g.ty w.held g.linkage g.init × IsAlign w.align g.align × (w.unnamed_addr ≡ false)

  -- a global without what it holds
  abbrev with_start : GlobalVar → Option Init → GlobalVar
  with_start g start = record { name = g.name; linkage = g.linkage; constant = g.constant; ty = g.ty; init = start; align = g.align }

  abbrev body_of : GlobalVar → List ℕ
  body_of g = global_linkage g.linkage g.init ++ (global_word g.constant ++ contents_text g)

  outside_body : (g : GlobalVar) → FitsGlobal m g → Prints Ir Any (λ (w : Outside). Holding w.0 ∷ (ty w.1.0 ++ lines.align w.1.1)) (λ (w : Outside). (g.constant ≡ is_constant w.0) × (IsType m w.1.0 g.ty × IsAlign w.1.1 g.align))
      (global_word g.constant ++ (printed_type g.ty ++ (printed_align g.align ++ 10 ∷ [])))
  outside_body g fits =
      both Ir (holding_before g.constant)
      (both Ir (module_type m Ir names g.ty fits.ty.0 fits.ty.1) (gap_behind Ir (align Ir g.align fits.align) (marks.line_end Ir) (λ rest end. refl)) (λ rest end. align_stops g.align rest))
      (λ rest end. tt)

  external_word : IsFixed Ir Any (linkage_word linkage.External ++ 32 ∷ []) (external ∷ [])
  external_word = marks.key Ir key.External tt

  global_outside : (g : GlobalVar) → FitsGlobal m g → g.linkage ≡ linkage.External → Prints Ir Any write.global_body (IsBody (with_start g None)) (body_of (with_start g None))
  global_outside g fits is =
      of_text Ir ((linkage_word linkage.External ++ 32 ∷ []) ++ (global_word g.constant ++ (printed_type g.ty ++ (printed_align g.align ++ 10 ∷ [])))) (body_of (with_start g None))
      (ap (λ l. global_linkage l None ++ (global_word g.constant ++ (printed_type g.ty ++ (printed_align g.align ++ 10 ∷ [])))) (sym is))
      (read_as Ir write.global_body (IsBody (with_start g None)) outside (λ w named. refl) (λ w named. (named.0, named.1.0, (is, refl), named.1.1, refl))
      (before Ir external_word (outside_body g fits)))

  global_inside : (g : GlobalVar) (i : Init) → FitsGlobal m g → FitsInit m g.ty i → Prints Ir Any write.global_body (IsBody (with_start g (Some i))) (body_of (with_start g (Some i)))
  global_inside g i fits start =
      of_text Ir (linkage_text g.linkage ++ (global_word g.constant ++ contents_text (with_start g (Some i)))) (body_of (with_start g (Some i)))
      (ap (λ l. l ++ (global_word g.constant ++ contents_text (with_start g (Some i)))) (linkage_held g.linkage i))
      (read_as Ir write.global_body (IsBody (with_start g (Some i))) inside (λ w named. refl) (λ w named. (named.1.0, named.1.1.0, (named.0, named.1.1.1.0), named.1.1.1.1, refl))
      (both Ir (linkage_of_global g.linkage)
      (both Ir (holding_before g.constant)
      (both Ir (module_type m Ir names g.ty fits.ty.0 fits.ty.1)
      (both Ir (before Ir (marks.space Ir) (init m Ir names g.ty i fits.ty.0 start.written start.typed start.types))
      (gap_behind Ir (align Ir g.align fits.align) (marks.line_end Ir) (λ rest end. refl)) (λ rest end. align_stops g.align rest))
      (λ rest end. refl)) (λ rest end. tt)) (λ rest end. tt)))

  body : (g : GlobalVar) (start : Option Init) → g.init ≡ start → FitsGlobal m g → FitsStart m g.ty start → Prints Ir Any write.global_body (IsBody (with_start g start)) (body_of (with_start g start))
  body g None is fits starts = global_outside g fits (subst (λ s. IsStartInRange g.linkage g.ty s) is fits.linkage)
  body g (Some i) is fits starts = global_inside g i fits starts

  -- which a `unnamed_addr` isn't in
  abbrev Names : GlobalVar → GlobalNameText × GlobalBodyText → Type 0
  Names g w = IsGlobalVar m w g × (w.1.unnamed_addr ≡ false)

  global : (g : GlobalVar) → FitsGlobal m g → Prints Ir Any global_written (Names g) (global_text g)
  global g fits =
      read_as Ir global_written (Names g) (λ w. w) (λ w named. refl)
      (λ w named. (record { name = sym named.0; word = named.1.0; ty = named.1.1; held = named.1.2; align = named.1.3 }, named.1.4))
      (both Ir (global_names.global_name Ir g.name fits.name) (before Ir equals_between (body g g.init refl fits fits.start)) (λ rest end. refl))

  -- ---- calm rows

  calm_linkage : (l : Option LinkageWord) → AreCalm (write.global_linkage l)
  calm_linkage None = refl
  calm_linkage (Some w) = refl

  calm_where : (h : HeldText) → AreCalm (write.held_where h)
  calm_where held.External = refl
  calm_where (held.Init l i) = calm_linkage l

  calm_held : (h : HeldText) → AreCalm (write.held h)
  calm_held held.External = refl
  calm_held (held.Init l i) = calm_init i

  calm_behind : (w : GlobalBodyText) → AreCalm (Holding w.word ∷ (ty w.ty ++ (write.held w.held ++ lines.align w.align)))
  calm_behind w =
      both_calm (ty w.ty) (write.held w.held ++ lines.align w.align) (calm_type w.ty)
      (both_calm (write.held w.held) (lines.align w.align) (calm_held w.held) (calm_align w.align))

  calm_body : (w : GlobalBodyText) → w.unnamed_addr ≡ false → AreCalm (write.global_body w)
  calm_body w none =
      subst (λ b. AreCalm (write.held_where w.held ++ (attributes.unnamed_addr b ++ (Holding w.word ∷ (ty w.ty ++ (write.held w.held ++ lines.align w.align)))))) (sym none)
      (both_calm (write.held_where w.held) (Holding w.word ∷ (ty w.ty ++ (write.held w.held ++ lines.align w.align))) (calm_where w.held) (calm_behind w))

  calm_global : (w : GlobalNameText × GlobalBodyText) → w.1.unnamed_addr ≡ false → AreCalm (global_written w)
  calm_global (name_text.Plain x, w) none = calm_body w none
  calm_global (name_text.Debug x, w) none = calm_body w none

  shut_global : (w : GlobalNameText × GlobalBodyText) → IsShut (global_written w)
  shut_global (name_text.Plain x, w) = no_paren (Global x) refl
  shut_global (name_text.Debug x, w) = no_paren (Debug x) refl

  pub global_laid : (g : GlobalVar) → FitsGlobal m g → Lays Any global_written (λ stated (w : GlobalNameText × GlobalBodyText). IsGlobalVar m w g) (global_text g)
  global_laid g fits =
      of_calm global_written (λ stated (w : GlobalNameText × GlobalBodyText). IsGlobalVar m w g) (λ w. w) (λ w named. refl) (λ stated w named. named.0)
      (λ w named. shut_global w) (λ w named. calm_global w named.1) (global g fits)
