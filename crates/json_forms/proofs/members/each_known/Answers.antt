use Rattle.std.proofs.Common.{arith, ◌||◌}
use Rattle.std.proofs.lemmas.Grind.{common_steps}
use Rattle.json_forms.specs.Forms.{texts, is_one_of}
use Rattle.json_forms.proofs.Keys.{each_key}
use Rattle.json_forms.proofs.members.each_known.Goals as goal

pub loop-member-init : goal.loop-member-init
loop-member-init c = each_key (λ key. is_one_of (texts c.args.needed.now) key || is_one_of (texts c.args.others.now) key) c.args.members.now

pub loop-member-preserved : goal.loop-member-preserved
loop-member-preserved c = grind (arith, common_steps)
