-- What stands in a printed call: types of parameters that are stated, and arguments.
use Rattle.std.proofs.Common.{◌≡◌, ℕ, true, List, [], ◌∷◌, ◌++◌, map, Option, Some, None, refl, ap, sym, subst}
use Rattle.std.specs.Prelude.{◌≤◌, codes}
use Rattle.std.specs.List.{AllByRecursion, AllZip}
use Rattle.ir_core.specs.declared.functions.Argument.{Argument}
use Rattle.ir_core.specs.declared.modules.Declaration.{Declaration}
use Rattle.ir_core.specs.declared.modules.DeclaredParam.{DeclaredParam}
use Rattle.ir_core.specs.declared.modules.Module.{Module}
use Rattle.ir_core.specs.Depths.{depth_of}
use Rattle.ir_core.specs.Limits.{depth_limit}
use Rattle.ir_core.specs.Ranges.{IsNameInRange}
use Rattle.ir_core.specs.Typing.{Signature, declared_signature}
use Rattle.ir_core.specs.WellFormed.{IsNamedResult}
use Rattle.ir_types.specs.declared.names.Name.{Name}
use Rattle.ir_types.specs.declared.ty.Ty.{Ty}
use Rattle.ir_types.specs.declared.ty.Ty.TheVariants as ty
use Rattle.ir_printer.specs.Printed.{argument_text, dots, may_set_text, stated_text}
use Rattle.ir_printer.specs.ExpressionPrinter.Printed.{listed, printed_type}
use Rattle.module_grammar.specs.declared.lines.ArgumentText.{ArgumentText}
use Rattle.module_grammar.specs.declared.places.Placed.{Placed}
use Rattle.module_grammar.specs.declared.types.CalledText.{CalledText}
use Rattle.module_grammar.specs.declared.types.TypeText.{TypeText}
use Rattle.module_grammar.specs.declared.words.KeyWord.TheVariants as key
use Rattle.module_grammar.specs.declared.words.Language.TheVariants.{Ir}
use Rattle.module_grammar.specs.Lines as lines
use Rattle.module_grammar.specs.Listed.{further}
use Rattle.module_grammar.specs.Listed as grammar
use Rattle.module_grammar.specs.Symbols.{Symbol}
use Rattle.module_grammar.specs.Symbols as symbols
use Rattle.module_grammar.specs.Types as types
use Rattle.named_modules.specs.Lines.{IsArgument, IsCalled, IsResult, IsResultNamed, MayBeCalled}
use Rattle.named_modules.specs.Types.{type_of}
use Rattle.named_modules.specs.Values.{IsType, Registers}
use Rattle.printed_modules.proofs.Fit.{FitsDeclaredParam, FitsOperand, FitsResult, StatesAs, named_of}
use Rattle.printed_modules.proofs.Fitted as fitted
use Rattle.printed_modules.proofs.Operations.{further_is}
use Rattle.printed_modules.proofs.Phis.{set}
use Rattle.printed_tokens.proofs.Attributes.{extensions}
use Rattle.printed_tokens.proofs.Marks.{close_paren, comma, key_alone, open_paren, some, space}
use Rattle.printed_tokens.proofs.Marks as marks
use Rattle.printed_tokens.proofs.ModuleTypes.{HasNames}
use Rattle.printed_tokens.proofs.Prints.{Prints, before, behind, both, empty, read_as}
use Rattle.printed_tokens.proofs.ReadTexts.{Any, Stops}

-- ---- lists

-- texts with commas between
pub listed_prints :
    {X T : Type 0} (P : X → Type 0) (w : T → List Symbol) (N : T → X → Type 0) (text : X → List ℕ)
    → ((x : X) → P x → Prints Ir Stops w (λ t. N t x) (text x)) → (xs : List X) → AllByRecursion P xs
    → Prints Ir Stops (λ (ts : List T). grammar.listed (map w ts)) (λ (ts : List T). AllZip N ts xs) (listed [] (map text xs))
listed_prints {T = T} P w N text one [] all =
    read_as Ir (λ (ts : List T). grammar.listed (map w ts)) (λ (ts : List T). AllZip N ts []) (λ t. []) (λ t named. refl) (λ t named. tt) (empty Ir Stops)
listed_prints {T = T} P w N text one (x ∷ xs) all =
    read_as Ir (λ (ts : List T). grammar.listed (map w ts)) (λ (ts : List T). AllZip N ts (x ∷ xs)) (λ t. t.0 ∷ t.1)
    (λ t named. ap (λ l. w t.0 ++ l) (further_is w t.1)) (λ t named. named)
    (some Ir P w N text one x xs all.0 all.1)

-- ---- the register that a call sets

named_set : (t : Ty) (x : Name) → IsNamedResult t (Some x) → t ≡ ty.Void → ⊥
named_set t x named is = let none : Some x ≡ None = subst (λ u. IsNamedResult u (Some x)) is named in cc

void_alone : (t : Ty) → IsNamedResult t None → t ≡ ty.Void
void_alone ty.Void named = refl
void_alone t (first, (x, is)) = cc

pub register : (result : Ty) (name : Option Name) → AllByRecursion IsNameInRange (named_of name) → IsNamedResult result name
    → Prints Ir Any lines.register (λ (w : Option (Placed Name)). IsResultNamed w result name) (may_set_text name)
register result None range named =
    read_as Ir lines.register (λ (w : Option (Placed Name)). IsResultNamed w result None) (λ t. None) (λ t named. refl) (λ t none. (refl, void_alone result named)) (empty Ir Any)
register result (Some x) range named =
    read_as Ir lines.register (λ (w : Option (Placed Name)). IsResultNamed w result (Some x)) Some (λ w named. refl) (λ w is. (is, named_set result x named)) (set x range.0)

-- ---- types of parameters

-- no deeper than the limit
abbrev pub AreShallow : Option CalledText → Type 0
AreShallow None = Unit {0}
AreShallow (Some c) = AllByRecursion (λ t. depth_of (type_of t) ≤ depth_limit) c.types

-- what is stated fits a signature
abbrev pub NamesStated : Module → Signature → Option CalledText → Type 0
NamesStated m s w = MayBeCalled m s w × AreShallow w

module _ (m : Module) (names : HasNames m) where
  abbrev NamesParam : TypeText → DeclaredParam → Type 0
  NamesParam w p = IsType m w p.ty × (depth_of (type_of w) ≤ depth_limit)

  param : (p : DeclaredParam) → FitsDeclaredParam m p → Prints Ir Stops types.ty (λ (w : TypeText). NamesParam w p) (printed_type p.ty)
  param p fits =
      read_as Ir types.ty (λ (w : TypeText). NamesParam w p) (λ t. t) (λ t named. refl)
      (λ t named. (named, subst (λ u. depth_of u ≤ depth_limit) named.0 fits.1)) (fitted.type m names p.ty fits.0.0)

  abbrev texts_of : List DeclaredParam → List (List ℕ)
  texts_of ps = map (λ (p : DeclaredParam). printed_type p.ty) ps ++ dots true

  abbrev more_written : List TypeText → List Symbol
  more_written ws = further (map types.ty ws ++ types.open_end true)

  more_params : (ps : List DeclaredParam) → AllByRecursion (FitsDeclaredParam m) ps
      → Prints Ir Stops more_written (λ (ws : List TypeText). AllZip NamesParam ws ps) (listed (codes ", ") (texts_of ps))
  more_params [] all =
      read_as Ir more_written (λ (ws : List TypeText). AllZip NamesParam ws []) (λ t. []) (λ t named. refl) (λ t named. tt) (before Ir (comma Ir) (marks.dots Ir))
  more_params (p ∷ ps) all =
      read_as Ir more_written (λ (ws : List TypeText). AllZip NamesParam ws (p ∷ ps)) (λ t. t.0 ∷ t.1) (λ t named. refl) (λ t named. named)
      (before Ir (comma Ir) (both Ir (param p all.0) (more_params ps all.1) (more_stop ps)))
    where
      more_stop : (ps : List DeclaredParam) (rest : List ℕ) → Stops rest → Stops (listed (codes ", ") (texts_of ps) ++ rest)
      more_stop [] rest stop = refl
      more_stop (q ∷ qs) rest stop = refl

  abbrev params_written : List TypeText → List Symbol
  params_written ws = grammar.listed (map types.ty ws ++ types.open_end true)

  params : (ps : List DeclaredParam) → AllByRecursion (FitsDeclaredParam m) ps
      → Prints Ir Stops params_written (λ (ws : List TypeText). AllZip NamesParam ws ps) (listed [] (texts_of ps))
  params [] all = read_as Ir params_written (λ (ws : List TypeText). AllZip NamesParam ws []) (λ t. []) (λ t named. refl) (λ t named. tt) (marks.dots Ir)
  params (p ∷ ps) all =
      read_as Ir params_written (λ (ws : List TypeText). AllZip NamesParam ws (p ∷ ps)) (λ t. t.0 ∷ t.1) (λ t named. refl) (λ t named. named)
      (both Ir (param p all.0) (more_params ps all.1) (stop ps))
    where
      stop : (ps : List DeclaredParam) (rest : List ℕ) → Stops rest → Stops (listed (codes ", ") (texts_of ps) ++ rest)
      stop [] rest end = refl
      stop (q ∷ qs) rest end = refl

  types_named : (ws : List TypeText) (ps : List DeclaredParam) → AllZip NamesParam ws ps → AllZip (IsType m) ws (map (λ (p : DeclaredParam). p.ty) ps)
  types_named [] [] zip = tt
  types_named [] (p ∷ ps) zip = absurd zip
  types_named (w ∷ ws) [] zip = absurd zip
  types_named (w ∷ ws) (p ∷ ps) zip = (zip.0.0, types_named ws ps zip.1)

  shallow : (ws : List TypeText) (ps : List DeclaredParam) → AllZip NamesParam ws ps → AllByRecursion (λ t. depth_of (type_of t) ≤ depth_limit) ws
  shallow [] ps zip = tt
  shallow (w ∷ ws) [] zip = absurd zip
  shallow (w ∷ ws) (p ∷ ps) zip = (zip.0.1, shallow ws ps zip.1)

  -- ---- what a call states of the function

  -- the signature of a function that takes further arguments
  as_declared : (d : Declaration) (s : Signature) (ws : List TypeText) → s ≡ declared_signature d → d.variadic ≡ true → AllZip NamesParam ws d.params
      → IsCalled m s (record { types = ws; is_open = true })
  as_declared d s ws is further zip =
      subst (λ u. IsCalled m u (record { types = ws; is_open = true })) (sym is) (types_named ws d.params zip, sym further)

  pub states : (d : Option Declaration) (s : Signature) → StatesAs m d s → Prints Ir Any types.function_type (NamesStated m s) (stated_text d)
  states None s closed = read_as Ir types.function_type (NamesStated m s) (λ t. None) (λ t named. refl) (λ t named. (closed, tt)) (empty Ir Any)
  states (Some d) s fits =
      read_as Ir types.function_type (NamesStated m s) (λ ws. Some (record { types = ws; is_open = true })) (λ ws named. refl)
      (λ ws named. (as_declared d s ws fits.0 fits.1 named, shallow ws d.params named))
      (before Ir (open_paren Ir) (behind Ir (params d.params fits.2) (before Ir (close_paren Ir) (space Ir)) (λ rest end. refl)))

  -- ---- the result

  pub result : (t : Ty) → FitsResult m t → Prints Ir Stops types.result (λ (w : Option TypeText). IsResult m w t) (printed_type t)
  result ty.Void fits = read_as Ir types.result (λ (w : Option TypeText). IsResult m w ty.Void) (λ t. None) (λ t named. refl) (λ t named. refl) (key_alone Ir key.Void tt)
  result t fits = read_as Ir types.result (λ (w : Option TypeText). IsResult m w t) Some (λ w named. refl) (λ w named. named) (fitted.value_type m names t fits)

  -- ---- arguments

  module _ (rs : Registers) (labels : List Name) where
    argument : (a : Argument) → FitsOperand m rs labels a.operand → Prints Ir Stops lines.argument (λ (w : ArgumentText). IsArgument m rs w a) (argument_text a)
    argument a fits =
        read_as Ir lines.argument (λ (w : ArgumentText). IsArgument m rs w a) (λ t. record { ty = t.0; attributes = t.1.0; value = t.1.1 }) (λ t named. refl)
        (λ t named. ((named.0, named.1.1), sym named.1.0))
        (both Ir (fitted.value_type m names a.operand.ty fits.0)
        (before Ir (space Ir) (both Ir (extensions Ir a.extensions) (fitted.value m names rs labels a.operand.ty a.operand.atom fits.0 fits.1) (λ rest end. tt)))
        (λ rest end. refl))

    abbrev pub arguments_written : List ArgumentText → List Symbol
    arguments_written ws = symbols.open_paren ∷ (lines.arguments ws ++ (symbols.close_paren ∷ []))

    pub arguments : (xs : List Argument) → AllByRecursion (λ (a : Argument). FitsOperand m rs labels a.operand) xs
        → Prints Ir Any arguments_written (λ (ws : List ArgumentText). AllZip (IsArgument m rs) ws xs) (40 ∷ (listed [] (map argument_text xs) ++ 41 ∷ []))
    arguments xs all =
        before Ir (open_paren Ir)
        (behind Ir (listed_prints (λ (a : Argument). FitsOperand m rs labels a.operand) lines.argument (IsArgument m rs) argument_text argument xs all) (close_paren Ir) (λ rest end. refl))
