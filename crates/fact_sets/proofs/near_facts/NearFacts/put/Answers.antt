use Rattle.std.proofs.Common.{rules}
use Rattle.fact_sets.proofs.Nearness.{kept_near_so}
use Rattle.fact_sets.proofs.near_facts.NearFacts.put.Goals as goal

pub returns-in_ok-put_at-in-LessDef-Plain-Plain-2 : goal.returns-in_ok-put_at-in-LessDef-Plain-Plain-2
returns-in_ok-put_at-in-LessDef-Plain-Plain-2 c =
    kept_near_so c.args.self.now c.put_at.new.self c.put_at-in-LessDef-Plain-Plain.new.self c.in-LessDef-Plain-Plain.a c.in-LessDef-Plain-Plain.b c.args.fact.now (search rules) c.in_ok-put_at-in-LessDef-Plain-Plain.ensures c.in_ok-put_at-in-LessDef-Plain-Plain-2.ensures
