-- Where the functions that are built are within the limit on lines, what is written of them is.
use Rattle.std.proofs.Common.{◌≡◌, ◌≤◌, ◌+◌, ℕ, suc, Bool, true, false, not, cond, List, [], ◌∷◌, length, map, refl, ap, ◌∙◌, subst, arith}
use Rattle.std.specs.List.{AllByRecursion, filter, sum_by}
use Rattle.std.proofs.lemmas.List.Sums.{sum_by-cons}
use Rattle.ir_core.specs.Functions.{line_count}
use Rattle.ir_core.specs.Limits.{line_limit}
use Rattle.ir_core.specs.declared.functions.Block.{Block}
use Rattle.ir_core.specs.declared.functions.Function.{Function}
use Rattle.ir_types.specs.declared.named.NamedTy.{NamedTy}
use Rattle.module_grammar.specs.declared.flow.BlockText.{BlockText}
use Rattle.module_grammar.specs.declared.flow.PhiText.{PhiText}
use Rattle.module_grammar.specs.declared.functions.DefinitionText.{DefinitionText}
use Rattle.module_grammar.specs.declared.functions.ParamText.{ParamText}
use Rattle.module_grammar.specs.declared.lines.LineText.{LineText}
use Rattle.named_modules.specs.Built.{block_from, blocks_from, due_behind, due_behind_line, due_behind_lines, due_behind_phis, due_from, due_in, function_of, kept_lines, lines_from, phis_from}
use Rattle.named_modules.specs.Functions.{blocks_in}
use Rattle.named_modules.specs.Lines.{is_dropped, is_kept}
use Rattle.module_spelling.proofs.Weights.{blocks_weight, definition_weight, lines_weight, unless_dropped}

phis_built : (due : ℕ) (ws : List PhiText) → length (phis_from due ws) ≡ length ws
phis_built due [] = refl
phis_built due (w ∷ ws) = ap (λ n. suc n) (phis_built (due_behind due w.register) ws)

lines_built : (types : List NamedTy) (due : ℕ) (ws : List LineText) → length (lines_from types due ws) ≡ length ws
lines_built types due [] = refl
lines_built types due (w ∷ ws) = ap (λ n. suc n) (lines_built types (due_behind_line types due w) ws)

lines_kept : (ws : List LineText) → length (filter is_kept ws) ≡ lines_weight ws
lines_kept [] = refl
lines_kept (w ∷ ws) = by (is_dropped w.attached.instruction) (lines_kept ws)
  where
    by :
        (dropped : Bool) → length (filter is_kept ws) ≡ lines_weight ws
        → length (cond (not dropped) (w ∷ filter is_kept ws) (filter is_kept ws)) ≡ unless_dropped dropped + lines_weight ws
    by true e = omega (arith, e)
    by false e = omega (arith, e)

blocks_built : (types : List NamedTy) (due : ℕ) (ws : List BlockText) → sum_by (λ (b : Block). length b.phis + length b.body + 1) (blocks_from types due ws) ≡ blocks_weight ws
blocks_built types due [] = refl
blocks_built types due (w ∷ ws) =
    let phis = phis_built (due_in due w) w.body.phis in
    let lines = lines_built types (due_behind_phis due w) (kept_lines w) ∙ lines_kept w.body.lines in
    let more = blocks_built types (due_behind_lines types (due_behind_phis due w) (kept_lines w)) ws in
    sum_by-cons (λ (b : Block). length b.phis + length b.body + 1) (block_from types due w) (blocks_from types (due_behind_lines types (due_behind_phis due w) (kept_lines w)) ws)
    ∙ added phis lines more
  where
    added : {a b c x y z : ℕ} → a ≡ x → b ≡ y → c ≡ z → a + b + 1 + c ≡ x + y + 1 + z
    added e f g = omega (arith, e, f, g)

function_built : (types : List NamedTy) (w : DefinitionText) → line_count (function_of types w) ≡ definition_weight w
function_built types w = blocks_built types (due_from 0 (map (λ (p : ParamText). p.name) w.head.params)) (blocks_in w)

-- definitions within the limit on lines
abbrev pub AllShort : List DefinitionText → Type 0
AllShort = AllByRecursion (λ (w : DefinitionText). definition_weight w ≤ line_limit)

pub built_short :
    (types : List NamedTy) (ws : List DefinitionText) → AllByRecursion (λ (f : Function). line_count f ≤ line_limit) (map (function_of types) ws) → AllShort ws
built_short types [] all = tt
built_short types (w ∷ ws) all = (subst (λ n. n ≤ line_limit) (function_built types w) all.0, built_short types ws all.1)
