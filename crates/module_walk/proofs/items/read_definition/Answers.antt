use Rattle.std.proofs.Common.{◌≡◌, rules}
use Rattle.derivation_cursor.specs.At.{ahead_of}
use Rattle.module_walk.proofs.Due.{with_blocks}
use Rattle.module_walk.specs.Counted.{capped, names_of_params}
use Rattle.module_walk.specs.Functions.{headed}
use Rattle.module_walk.specs.Items.{definition}
use Rattle.named_modules.specs.Built.{blocks_from, due_from}
use Rattle.named_modules.specs.Functions.{blocks_in, linkage_said}
use Rattle.module_walk.proofs.items.read_definition.Goals as goal

pub returns-clause-built : goal.returns-clause-built
returns-clause-built c =
    let types = c.args.types.now in
    let d = definition (ahead_of c.args.c.now) in
    let head : c.in_ok-function.function ≡ headed (linkage_said d.linkage) d.head = search rules in
    let counts : c.in_ok-function.due ≡ capped (due_from 0 (names_of_params d.head.params)) = search rules in
    let blocks : c.in_ok-function-2.field-0 ≡ blocks_from types c.in_ok-function.due (blocks_in d) = search rules in
    with_blocks types d c.in_ok-function.function c.in_ok-function.due c.in_ok-function-2.field-0 head counts blocks
