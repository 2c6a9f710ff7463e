use Rattle.std.proofs.Common.{sym, rules}
use Rattle.ir_machine.proofs.Walking.{field_joined, pushed_twice, told}
use Rattle.ir_machine.proofs.scalars.enter_field.Goals as goal

pub returns : goal.returns
returns c =
    let types = c.args.types.now in
    let size = told types c.in-Some.field.now c.in-Ok.size (sym c.in-Ok.ensures) in
    pushed_twice types c.args.left.now.items c.push.new.self.items c.push-2.new.self.items _ _ _ c.in_ok-push.ensures.items c.in_ok-push-2.ensures.items
    (field_joined types c.args.at c.args.from c.in_ok-start.start c.in-Ok.size c.in_ok-place.place c.in_ok-end.end c.in-Some.field.now c.in-Some.more.now c.args.fields.now
    (search rules) (search rules) size.1 (search rules) (search rules))
