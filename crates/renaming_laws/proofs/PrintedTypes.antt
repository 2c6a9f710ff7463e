-- A printed type is read as that type.
use Rattle.std.proofs.Common.{◌≡◌, ◌<◌, ℕ, List, [], ◌∷◌, ap, sym, subst, arith, refl}
use Rattle.std.proofs.lemmas.Bool.{ltb-true}
use Rattle.predictive.proofs.Filling.{grown}
use Rattle.predictive.specs.declared.symbol.Symbol.TheVariants.{Non}
use Rattle.ir_core.specs.Depths.{depth_of}
use Rattle.ir_core.specs.Limits.{depth_limit, line_limit}
use Rattle.ir_lexer.specs.Cut.{Placed}
use Rattle.ir_printer.specs.ExpressionPrinter.Printed.{printed_type}
use Rattle.ir_types.specs.declared.ty.Ty.{Ty}
use Rattle.module_grammar.proofs.Lawful.{lawful}
use Rattle.module_grammar.proofs.ModulesMade.{type_text}
use Rattle.module_grammar.proofs.WithGap.{is_gapped}
use Rattle.module_grammar.specs.Rules.{meaning}
use Rattle.module_grammar.specs.Sorts.{AnyType}
use Rattle.module_grammar.specs.Symbols.{Symbol}
use Rattle.module_grammar.specs.Texts.{IsWritten}
use Rattle.module_grammar.specs.Tokens.{with_gap}
use Rattle.module_grammar.specs.Types.{ty}
use Rattle.module_grammar.specs.declared.types.TypeText.{TypeText}
use Rattle.module_grammar.specs.declared.words.Language.TheVariants.{Ir}
use Rattle.module_spelling.specs.Opened.{lines_in}
use Rattle.module_texts.specs.Texts.{own_symbols}
use Rattle.expression_reader.specs.Types.{AreOfType}
use Rattle.printed_modules.proofs.Calm.{calm_type}
use Rattle.printed_modules.proofs.Deep.{TypeFits}
use Rattle.printed_modules.proofs.DeepWithin.{DeepClaim, deep_claim, one_deep}
use Rattle.printed_modules.proofs.Laid.{calm_fills}
use Rattle.printed_modules.proofs.LinesWithin.{LineClaim, few_inside, line_claim, one_counted}
use Rattle.printed_modules.proofs.ReadTrees.{GrownOf, bears}
use Rattle.printed_tokens.proofs.Places.{symbols_from}
use Rattle.printed_tokens.proofs.Prints.{Prints, read_as}
use Rattle.printed_tokens.proofs.ReadTexts.{Stops, whole}
use Rattle.printed_tokens.proofs.Types.{type}
use Rattle.renaming_laws.specs.HintLaws.{IsTypeInRange, PrintedTypesAreRead}
use Rattle.renaming_laws.proofs.NoRanges.{no_counts}
use Rattle.renaming_laws.proofs.PrintedExpressions.{are_within}
use Rattle.renaming_laws.proofs.PrintedOperands.{NamesType}

prints : (t : Ty) → IsTypeInRange t → Prints Ir Stops ty (NamesType t) (printed_type t)
prints t fits =
    read_as Ir ty (NamesType t) (λ w. w) (λ w named. refl)
    (λ w named. (named.0, no_counts w named.1, (let same = ap depth_of named.0 in let deep = fits.2 in omega (arith, same, deep))))
    (type Ir t fits.0 fits.1)

-- a tree that fits the limit on depths is read of its own symbols
read_of : (bytes : List ℕ) (tokens : List Placed) (w : TypeText) → own_symbols bytes tokens ≡ ty w → TypeFits 0 depth_limit w → AreOfType bytes tokens w
read_of bytes tokens w are fits =
    let ss : List Symbol = own_symbols bytes tokens in
    let filled : IsWritten AnyType w ss = subst (IsWritten AnyType w) (sym are) (calm_fills (ty w) (calm_type w)) in
    let small : 33 < 92 = ltb-true 33 92 refl in
    let g : GrownOf 33 w ss = grown meaning lawful with_gap is_gapped 33 small w (type_text w) ss filled in
    let counted : lines_in g.forest ≡ 0 = one_counted g.forest 33 w g.forms (bears LineClaim line_claim 33 small w ss g) in
    record {
      written = filled;
      derivation = g.forest;
      formed = g.forms;
      yields = g.yields;
      within = are_within g.forest (one_deep g.forest 33 w g.forms (bears DeepClaim deep_claim 33 small w ss g) 0 depth_limit (omega arith) fits)
          (few_inside 0 line_limit g.forest (Non 33 ∷ []) refl g.forms (omega (arith, counted)));
    }

pub printed_types_are_read : PrintedTypesAreRead
printed_types_are_read t fits =
    let p = prints t fits in
    let bytes = printed_type t in
    let (tokens, is_cut, at) = symbols_from Ir bytes p.tokens (whole Stops bytes p.tokens refl p.reads) in
    let w = p.is (own_symbols bytes tokens) at in
    record { tokens = tokens; cut = is_cut; tree = w.tree; read = read_of bytes tokens w.tree w.are w.names.2; counts = w.names.1; same = sym w.names.0 }
