use Rattle.std.proofs.Common.{◌∷◌, rules}
use Rattle.derivation_cursor.specs.At.{ahead_of}
use Rattle.module_derivations.specs.FlatMarks.Flat.{skip}
use Rattle.module_derivations.specs.Blocks.{block}
use Rattle.module_derivations.specs.Empty.{made}
use Rattle.module_walk.proofs.Onto.{all_blocks}
use Rattle.module_walk.proofs.Others.{no_blocks}
use Rattle.module_walk.proofs.functions.read_blocks.Goals as goal

pub returns-in_default-clause-built : goal.returns-in_default-clause-built
returns-in_default-clause-built c =
    let s = ahead_of c.args.c.now in
    all_blocks c.args.types.now _ c.args.due c.loop-c.behind (ahead_of c.loop-c.c) (block s ∷ (made (skip 4 s)).blocks)
    (search (rules, no_blocks)) c.loop-c.invariant.blocks
