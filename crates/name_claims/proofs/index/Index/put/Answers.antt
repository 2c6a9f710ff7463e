use Rattle.std.proofs.Common.{Bor, rules}
use Rattle.ir_types.specs.declared.names.Name.{Name}
use Rattle.name_claims.proofs.Found.{put_first}
use Rattle.name_claims.proofs.index.Index.put.Goals as goal

pub returns-clause-first : goal.returns-clause-first
returns-clause-first c = λ other.
    put_first (λ (key : Bor Name). key.now) other c.args.name c.args.at c.args.self.now.first.entries c.insert.new.self.entries c.in_ok-known.ensures.entries

pub returns-clause-new : goal.returns-clause-new
returns-clause-new c = search rules
