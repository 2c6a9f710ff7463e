use Rattle.std.proofs.Common.{rules, sym}
use Rattle.std.proofs.lemmas.Fn.{filter_same}
use Rattle.std.specs.List.{list_all}
use Rattle.erhl_assert.specs.declared.facts.Fact.{Fact}
use Rattle.erhl_assert.specs.Kills.{loads_of}
use Rattle.fact_sets.proofs.Shielding.{all_pass}
use Rattle.fact_sets.proofs.shields.keep_left.Goals as goal

pub returns-then-not-leaves_all : goal.returns-then-not-leaves_all
returns-then-not-leaves_all g c =
    let test = λ (f : Fact). list_all (g.C.Change.leaves c.args.change.now c.args.shields.now.keys) (loads_of f) in
    filter_same _ test _ (λ x b f k. search rules) _ _ c.retain.ensures.filtered

pub returns-else-not-leaves_all : goal.returns-else-not-leaves_all
returns-else-not-leaves_all g c =
    let test = λ (f : Fact). list_all (g.C.Change.leaves c.args.change.now c.args.shields.now.keys) (loads_of f) in
    sym (all_pass test c.args.facts.now.keys (search rules))
