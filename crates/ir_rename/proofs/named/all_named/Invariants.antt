use Rattle.std.proofs.Common.{◌≡◌, ◌++◌, drop, map}
use Rattle.ir_rename.specs.Lent.{lent}
use Rattle.ir_rename.specs.Named.{named}
use Rattle.ir_rename.proofs.named.all_named.Given as goal

abbrev pub invariant-loop-name : goal.invariant-loop-name
invariant-loop-name l =
    l.given.items ++ map (named (lent l.taken)) (lent (drop l.name-index l.names)) ≡ map (named (lent l.taken)) (lent l.names)
