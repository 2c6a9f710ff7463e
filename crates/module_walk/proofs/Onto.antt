-- Lists to which one item after another is put, and the number that is due on the way.
use Rattle.std.proofs.Common.{◌≡◌, ◌∙◌, ℕ, List, [], ◌∷◌, ◌++◌, map, Option, refl, sym, ap, append_assoc}
use Rattle.std.proofs.lemmas.List.{append-nil}
use Rattle.ir_core.specs.declared.functions.Block.{Block}
use Rattle.ir_core.specs.declared.functions.Param.{Param}
use Rattle.ir_core.specs.declared.functions.Phi.{Phi}
use Rattle.ir_types.specs.declared.named.NamedTy.{NamedTy}
use Rattle.ir_types.specs.declared.names.Name.{Name}
use Rattle.module_walk.proofs.Counted.{alike, from_capped, params_capped}
use Rattle.module_walk.proofs.Due.{behind_lines_capped, blocks_capped, lines_capped, phis_capped}
use Rattle.module_walk.specs.Counted.{capped, param_at}
use Rattle.module_derivations.specs.Empty.{made}
use Rattle.module_derivations.specs.Parts.{Part}
use Rattle.module_grammar.specs.declared.flow.BlockText.{BlockText}
use Rattle.module_grammar.specs.declared.flow.PhiText.{PhiText}
use Rattle.module_grammar.specs.declared.functions.ParamText.{ParamText}
use Rattle.module_grammar.specs.declared.lines.LineText.{LineText}
use Rattle.module_grammar.specs.declared.places.Placed.{Placed}
use Rattle.module_walk.specs.Flow.{due_behind_block}
use Rattle.named_modules.specs.Built.{block_from, blocks_from, due_behind, due_behind_lines, due_behind_phis, due_from, kept_lines, lines_from, params_from, phi_at, phis_from}

-- behind these, what is built of each
abbrev pub mapped_onto : {A B : Type 0} → (A → B) → List B → List A → List B
mapped_onto f made [] = made
mapped_onto f made (x ∷ xs) = mapped_onto f (made ++ f x ∷ []) xs

pub mapped_behind : {A B : Type 0} (f : A → B) (made : List B) (xs : List A) → mapped_onto f made xs ≡ made ++ map f xs
mapped_behind f made [] = sym (append-nil made)
mapped_behind f made (x ∷ xs) = mapped_behind f (made ++ f x ∷ []) xs ∙ append_assoc made (f x ∷ []) (map f xs)

-- ---- the number that is due, as it is counted

abbrev pub counted_from : ℕ → List (Option (Placed Name)) → ℕ
counted_from due [] = due
counted_from due (w ∷ ws) = counted_from (capped (due_behind due w)) ws

pub counted_capped : (due : ℕ) (ws : List (Option (Placed Name))) → capped (counted_from due ws) ≡ capped (due_from due ws)
counted_capped due [] = refl
counted_capped due (w ∷ ws) = counted_capped (capped (due_behind due w)) ws ∙ from_capped (due_behind due w) ws

pub lines_counted : (types : List NamedTy) (due : ℕ) (rs : List (Option (Placed Name))) (ws : List LineText) → lines_from types (counted_from due rs) ws ≡ lines_from types (due_from due rs) ws
lines_counted types due rs ws = alike (λ n. lines_from types n ws) (λ n. lines_capped types n ws) (counted_from due rs) (due_from due rs) (counted_capped due rs)

pub behind_counted : (types : List NamedTy) (due : ℕ) (rs : List (Option (Placed Name))) (ws : List LineText)
    → capped (due_behind_lines types (counted_from due rs) ws) ≡ capped (due_behind_lines types (due_from due rs) ws)
behind_counted types due rs ws = alike (λ n. capped (due_behind_lines types n ws)) (λ n. behind_lines_capped types n ws) (counted_from due rs) (due_from due rs) (counted_capped due rs)

-- ---- what is built where a number is due

abbrev pub phis_onto : List Phi → ℕ → List PhiText → List Phi
phis_onto made due [] = made
phis_onto made due (w ∷ ws) = phis_onto (made ++ phi_at due w ∷ []) (capped (due_behind due w.register)) ws

phis_behind : (made : List Phi) (due : ℕ) (ws : List PhiText) → phis_onto made due ws ≡ made ++ phis_from due ws
phis_behind made due [] = sym (append-nil made)
phis_behind made due (w ∷ ws) =
    phis_behind (made ++ phi_at due w ∷ []) (capped (due_behind due w.register)) ws
    ∙ append_assoc made (phi_at due w ∷ []) (phis_from (capped (due_behind due w.register)) ws)
    ∙ ap (λ ps. made ++ (phi_at due w ∷ ps)) (phis_capped (due_behind due w.register) ws)

pub phis_are : (due : ℕ) (ws : List PhiText) → phis_onto [] due ws ≡ phis_from due ws
phis_are due ws = phis_behind [] due ws

abbrev pub params_onto : List Param → ℕ → List ParamText → List Param
params_onto made due [] = made
params_onto made due (w ∷ ws) = params_onto (made ++ param_at due w ∷ []) (capped (due_behind due w.name)) ws

params_behind : (made : List Param) (due : ℕ) (ws : List ParamText) → params_onto made due ws ≡ made ++ params_from due ws
params_behind made due [] = sym (append-nil made)
params_behind made due (w ∷ ws) =
    params_behind (made ++ param_at due w ∷ []) (capped (due_behind due w.name)) ws
    ∙ append_assoc made (param_at due w ∷ []) (params_from (capped (due_behind due w.name)) ws)
    ∙ ap (λ ps. made ++ (param_at due w ∷ ps)) (params_capped (due_behind due w.name) ws)

pub params_are : (due : ℕ) (ws : List ParamText) → params_onto [] due ws ≡ params_from due ws
params_are due ws = params_behind [] due ws

abbrev pub blocks_onto : List NamedTy → List Block → ℕ → List BlockText → List Block
blocks_onto types made due [] = made
blocks_onto types made due (w ∷ ws) = blocks_onto types (made ++ block_from types due w ∷ []) (due_behind_block types due w) ws

blocks_behind : (types : List NamedTy) (made : List Block) (due : ℕ) (ws : List BlockText) → blocks_onto types made due ws ≡ made ++ blocks_from types due ws
blocks_behind types made due [] = sym (append-nil made)
blocks_behind types made due (w ∷ ws) =
    blocks_behind types (made ++ block_from types due w ∷ []) (due_behind_block types due w) ws
    ∙ append_assoc made (block_from types due w ∷ []) (blocks_from types (due_behind_block types due w) ws)
    ∙ ap (λ bs. made ++ (block_from types due w ∷ bs)) (blocks_capped types (due_behind_lines types (due_behind_phis due w) (kept_lines w)) ws)

-- ---- where nothing is left

pub all_blocks : (types : List NamedTy) (done : List Block) (due next : ℕ) (ps : List Part) (ws : List BlockText)
    → (made ps).blocks ≡ [] → blocks_onto types done next (made ps).blocks ≡ blocks_onto types [] due ws → done ≡ blocks_from types due ws
all_blocks types done due next ps ws none e = ap (λ l. blocks_onto types done next l) (sym none) ∙ e ∙ blocks_behind types [] due ws

pub all_due : (start due : ℕ) (left all : List (Option (Placed Name)))
    → due ≡ capped due → left ≡ [] → counted_from due left ≡ counted_from start all → due ≡ capped (due_from start all)
all_due start due left all small none counts = small ∙ ap (λ l. capped (counted_from due l)) (sym none) ∙ ap capped counts ∙ counted_capped start all
