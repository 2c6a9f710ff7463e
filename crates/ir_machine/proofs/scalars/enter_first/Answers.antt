use Rattle.std.proofs.Common.{◌∙◌, sym, ap, rules}
use Rattle.ir_machine.specs.Walks.{elements_in}
use Rattle.ir_machine.proofs.ScalarKinds.{none_there}
use Rattle.ir_machine.proofs.Walking.{on_ok, passed_over, pushed_left, told, walked_first}
use Rattle.ir_machine.proofs.scalars.enter_first.Goals as goal
use Rattle.ir_machine.proofs.scalars.enter_first.Goals.{then-count-eq0-via-then-count-eq0, then-count-eq0-via-else-count-eq0+then-size-eq0}

pub returns-then-count-eq0 : goal.returns-then-count-eq0
returns-then-count-eq0 c =
    let types = c.args.types.now in
    let size = told types c.args.ty.now c.in-Ok.size (sym c.in-Ok.ensures) in
    passed_over types c.args.found.now.items c.args.left.now.items c.args.left.now.items _ (elim c.then-count-eq0.branch [
      | then-count-eq0-via-then-count-eq0 w ↦ ap (elements_in types c.args.at c.args.ty.now) w.if-count-eq0.true
      | then-count-eq0-via-else-count-eq0+then-size-eq0 w ↦ none_there types c.args.at c.args.count c.args.ty.now size.0 (sym size.1 ∙ w.if-size-eq0.true)
    ])

pub returns : goal.returns
returns c =
    let types = c.args.types.now in
    let size = told types c.args.ty.now c.in-Ok.size (sym c.in-Ok.ensures) in
    on_ok c.enter.result _ _
    (walked_first types c.args.at c.args.count c.in_ok-next.next c.in-Ok.size c.args.ty.now c.args.found.now.items c.enter.new.found.items c.args.left.now.items c.push.new.self.items
    c.enter.new.left.items (search rules) size.1 (search rules) (pushed_left types c.args.left.now.items c.push.new.self.items _ c.in_ok-push.ensures.items))
    c.enter.ensures
