use Rattle.std.proofs.Common.{◌≡◌, [], rules}
use Rattle.derivation_cursor.specs.At.{ahead_of}
use Rattle.module_derivations.specs.Empty.{made}
use Rattle.module_walk.proofs.Others.{no_items}
use Rattle.module_walk.proofs.Whole.{whole_is}
use Rattle.module_walk.proofs.items.read_module_of.Goals as goal

pub returns-in_default-clause-built : goal.returns-in_default-clause-built
returns-in_default-clause-built g c =
    let left = (made (ahead_of c.loop-c.c)).whole.items in
    let none : left ≡ [] = search (rules, no_items) in
    λ are. whole_is (g.S.Gaps.declared c.args.around.now) c.args.types c.loop-c.whole left (made (ahead_of c.args.c.now)).whole none c.loop-c.invariant.whole are
