use Rattle.std.proofs.Common.{◌∙◌, ◌++◌, ap, sym}
use Rattle.std.proofs.lemmas.List.{append-nil}
use Rattle.ir_machine.specs.Walks.{all_in, elements_in}
use Rattle.ir_machine.proofs.Walking.{all_left, pushed_left, told}
use Rattle.ir_machine.proofs.scalars.scalars_of.Goals as goal

pub loop-init : goal.loop-init
loop-init c =
    let types = c.args.types.now in
    let size = told types c.args.ty.now c.in-Ok.field-0 (sym c.in-Ok.ensures) in
    ap (λ l. l ++ all_in types c.push.new.self.items) c.new-found.ensures.items
    ∙ pushed_left types c.new-left.result.items c.push.new.self.items _ c.in_ok-push.ensures.items
    ∙ ap (λ l. elements_in types 0 c.args.ty.now 1 ++ all_in types l) c.new-left.ensures.items ∙ append-nil (elements_in types 0 c.args.ty.now 1) ∙ all_left types c.args.ty.now size.0
