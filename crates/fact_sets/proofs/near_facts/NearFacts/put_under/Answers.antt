use Rattle.std.proofs.Common.{rules}
use Rattle.indexmap.specs.IndexMap.{get_by}
use Rattle.ir_types.specs.Same.{same_name}
use Rattle.fact_sets.proofs.Nearness.{put_behind}
use Rattle.fact_sets.proofs.near_facts.NearFacts.put_under.Goals as goal

pub returns : goal.returns
returns c =
    put_behind (λ q. get_by (same_name q) c.args.self.now.by_name) (λ q. get_by (same_name q) c.swap_remove.new.self) (λ q. get_by (same_name q) c.insert.new.self) c.args.name.now c.args.fact.now c.swap_remove.result c.push.new.self
    c.swap_remove.ensures.value c.swap_remove.ensures.updates.0 (search rules) c.in_ok-copy-2.field-0 c.in_ok-copy-2.ensures c.in_ok-insert.ensures.updates.0
