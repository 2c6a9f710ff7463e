use Rattle.std.proofs.Common.{◌≡◌, ◌∙◌, [], None, ap, rules}
use Rattle.derivation_cursor.specs.At.{ahead_of}
use Rattle.module_walk.specs.Items.{definition}
use Rattle.named_modules.specs.Constants.{global_name}
use Rattle.named_modules.specs.Faults.{function_written, written_faults}
use Rattle.named_modules.specs.Functions.{blocks_in}
use Rattle.fault_walk.specs.Names.{counted_in, params_written, with_all, with_blocks}
use Rattle.fault_walk.specs.Told.{noted}
use Rattle.fault_walk.proofs.Written.{all_written}
use Rattle.fault_walk.proofs.names.note_names.Goals as goal

pub returns : goal.returns
returns c =
    let d = definition (ahead_of c.args.c.now) in
    let whole = c.in_ok-whole.whole in
    let is : whole ≡ global_name d.head.name = search rules in
    let params : counted_in c.write_params.new.walk ≡ with_all whole (counted_in c.new-walk.result) (params_written d.head.params) = search rules in
    let blocks : counted_in c.write_blocks.new.walk ≡ with_blocks whole (counted_in c.write_params.new.walk) (blocks_in d) = search rules in
    all_written whole d (counted_in c.new-walk.result) (counted_in c.write_params.new.walk) c.write_blocks.new.walk c.new-walk.ensures params blocks
    ∙ ap (λ x. noted (written_faults x [] 0 (function_written d)) None) is
