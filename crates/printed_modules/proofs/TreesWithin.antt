-- A tree that fits the limit on depths, of short functions, has a derivation within all limits.
use Rattle.std.proofs.Common.{◌≡◌, ◌<◌, ◌≤◌, ℕ, zero, suc, List, [], ◌∷◌, get_or, map, refl, arith}
use Rattle.std.specs.List.{AllByRecursion, filter_map}
use Rattle.std.proofs.lemmas.Bool.{ltb-true}
use Rattle.predictive.proofs.Filling.{grown}
use Rattle.ir_core.specs.declared.limits.Limit.TheVariants as limit
use Rattle.ir_core.specs.Depths.{depth_of}
use Rattle.ir_core.specs.Limits.{depth_limit, line_limit}
use Rattle.ir_types.specs.declared.names.Name.{Name}
use Rattle.module_grammar.specs.declared.functions.DeclaredText.{DeclaredText}
use Rattle.module_grammar.specs.declared.items.ModuleText.{ModuleText}
use Rattle.module_grammar.specs.declared.places.Placed.{Placed}
use Rattle.module_grammar.specs.declared.types.CalledText.{CalledText}
use Rattle.module_grammar.specs.declared.types.TypeText.{TypeText}
use Rattle.module_grammar.specs.Rules.{meaning}
use Rattle.module_grammar.specs.Sorts.{Called, Module as ModuleSort, vocabulary}
use Rattle.module_grammar.specs.Symbols.{Symbol, kind_of}
use Rattle.module_grammar.specs.Texts.{IsWritten}
use Rattle.module_grammar.specs.Tokens.{token_grammar, with_gap}
use Rattle.module_grammar.proofs.Lawful.{lawful}
use Rattle.module_grammar.proofs.ModulesMade.{called_text, module_text}
use Rattle.module_grammar.proofs.WithGap.{is_gapped}
use Rattle.module_spelling.specs.Context.{IsWhole, called_number}
use Rattle.module_spelling.specs.Opened.{IsWithin, depths, lines, lines_in}
use Rattle.named_modules.specs.Built.{module_of, types_of}
use Rattle.named_modules.specs.Laws.{AreShort}
use Rattle.named_modules.specs.Modules.{definition_item}
use Rattle.named_modules.specs.Types.{type_of}
use Rattle.predictive.specs.Grammar.{Forest, Forms, yield}
use Rattle.predictive.specs.declared.symbol.Symbol.TheVariants.{Non}
use Rattle.module_texts.proofs.SpelledLimits.Claimed.{AreUpTo}
use Rattle.module_spelling.proofs.Shown.{AllFew}
use Rattle.printed_modules.proofs.BuiltShort.{built_short}
use Rattle.printed_modules.proofs.Deep.{Fits, TypeFits}
use Rattle.printed_modules.proofs.DeepMade.{fits_at}
use Rattle.printed_modules.proofs.DeepWithin.{DeepClaim, deep_claim, one_deep}
use Rattle.printed_modules.proofs.LinesWithin.{LineClaim, few_inside, line_claim, one_counted, one_short}
use Rattle.printed_modules.proofs.ReadTrees.{GrownOf, bears}

none_passes : (b : ℕ) (ns : List ℕ) → AllByRecursion (λ (n : ℕ). n ≤ b) ns → (k : ℕ) → b < get_or ns k 0 → ⊥
none_passes b [] all k passes = omega (arith, passes)
none_passes b (n ∷ ns) all zero passes = let here = all.0 in omega (arith, here, passes)
none_passes b (n ∷ ns) all (suc k) passes = none_passes b ns all.1 k passes

are_within : (f : Forest) → AreUpTo depth_limit (depths 0 f) → AllFew (lines 0 f) → IsWithin f
are_within f deep few k limit.Depth passes = none_passes depth_limit (depths 0 f) deep k passes
are_within f deep few k limit.Lines passes = none_passes line_limit (lines 0 f) few k passes
are_within f deep few k l passes = absurd passes

-- the tokens of what fits are within the limit on depths
deep_enough : (n : ℕ) → n < 92 → (v : vocabulary.Value n) (tokens : List Symbol) (g : GrownOf n v tokens) → fits_at n 0 depth_limit v → AreUpTo depth_limit (depths 0 g.forest)
deep_enough n small v tokens g fits = one_deep g.forest n v g.forms (bears DeepClaim deep_claim n small v tokens g) 0 depth_limit (omega arith) fits

-- ---- modules

pub module_within :
    (params : Placed Name → DeclaredText) (tree : ModuleText) (symbols : List Symbol) → IsWritten ModuleSort tree symbols → Fits 0 depth_limit ModuleSort tree
    → AreShort (module_of params tree)
    → (derivation : Forest) × Forms token_grammar derivation (Non 0 ∷ []) × (yield derivation ≡ map kind_of symbols) × IsWithin derivation
module_within params tree symbols written fits short =
    let small : 0 < 92 = ltb-true 0 92 refl in
    let g : GrownOf 0 tree symbols = grown meaning lawful with_gap is_gapped 0 small tree (module_text tree) symbols written in
    let few = one_short g.forest tree g.forms (bears LineClaim line_claim 0 small tree symbols g)
    (built_short (types_of tree) (filter_map definition_item tree.items) short) in
    (g.forest, g.forms, g.yields, are_within g.forest (deep_enough 0 small tree symbols g fits) few)

-- ---- types that a call states, in which no line begins

called_fit : (ts : List TypeText) → AllByRecursion (λ (t : TypeText). depth_of (type_of t) ≤ depth_limit) ts → AllByRecursion (TypeFits 0 depth_limit) ts
called_fit [] all = tt
called_fit (t ∷ ts) all = (let here = all.0 in omega (arith, here), called_fit ts all.1)

pub called_whole :
    (c : CalledText) (tokens : List Symbol) → IsWritten Called c tokens → AllByRecursion (λ (t : TypeText). depth_of (type_of t) ≤ depth_limit) c.types
    → IsWhole Called called_number tokens
called_whole c tokens written deep =
    let small : called_number < 92 = ltb-true called_number 92 refl in
    let g : GrownOf called_number c tokens = grown meaning lawful with_gap is_gapped called_number small c (called_text c) tokens written in
    let none : lines_in g.forest ≡ 0 = one_counted g.forest called_number c g.forms (bears LineClaim line_claim called_number small c tokens g) in
    record {
      tree = c;
      written = written;
      derivation = g.forest;
      formed = g.forms;
      same = g.yields;
      within = are_within g.forest (deep_enough called_number small c tokens g (called_fit c.types deep))
          (few_inside 0 line_limit g.forest (Non called_number ∷ []) refl g.forms (omega (arith, none)));
    }
