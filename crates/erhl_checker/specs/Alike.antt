-- Functions that agree block by block where nothing is known, and whose blocks have no phis. Nothing of them has to be looked up by a name.
use Rattle.std.specs.Prelude.{◌*◌, Bool, true, false, ◌&&◌, not, nat_lt, List, [], ◌∷◌, length, Some}
use Rattle.ir_core.specs.Limits.{fact_limit}
use Rattle.ir_core.specs.declared.functions.Block.{Block}
use Rattle.ir_core.specs.declared.functions.Function.{Function}
use Rattle.ir_core.specs.declared.functions.Instr.{Instr}
use Rattle.ir_core.specs.declared.functions.Phi.{Phi}
use Rattle.ir_types.specs.Same.{same_list, same_name}
use Rattle.erhl_assert.specs.Alignment.{same_header}
use Rattle.erhl_checker.specs.CheckedPair.Agreeing.{instrs_agree, terms_agree}

abbrev pub lines_alike : List Instr → List Instr → Bool
lines_alike xs ys = same_list (λ x y. instrs_agree (Some x) (Some y)) xs ys

abbrev pub no_phi : List Phi → Bool
no_phi [] = true
no_phi (p ∷ ps) = false

-- So many lines and then an edge leave no more facts known than the limit allows.
abbrev pub are_few : List Instr → Bool
are_few xs = not (nat_lt fact_limit (8 * length xs))

abbrev pub blocks_alike : Block → Block → Bool
blocks_alike b c =
    same_name b.name c.name
    && no_phi b.phis
    && no_phi c.phis
    && are_few b.body
    && lines_alike b.body c.body
    && terms_agree b.term c.term

abbrev pub functions_alike : Function → Function → Bool
functions_alike f g = same_header f g && same_list blocks_alike f.blocks g.blocks
