use Rattle.std.proofs.Common.{◌∙◌, ◌&&◌, Bool, List, ap}
use Rattle.std.specs.List.{list_any}
use Rattle.ir_core.specs.declared.expressions.Reg.{Reg}
use Rattle.fact_sets.specs.ErhlSides.Differing.{is_left_over}
use Rattle.fact_sets.specs.Places.{is_left}
use Rattle.fact_sets.proofs.Lent.{some_over}
use Rattle.fact_sets.proofs.left_registers.LeftRegisters.has_left_over.Goals as goal

pub returns : goal.returns
returns c =
    let wanted = c.args.wanted.now in
    let rs = c.self.inside.list in
    c.some_left_over.ensures
    ∙ ap (λ (gone : List Bool). list_any (λ r. is_left_over wanted r && is_left rs gone r) rs) c.as_slice.ensures.value
    ∙ some_over wanted rs c.self.inside.gone.items
    ∙ ap (λ (ss : List Reg). list_any (is_left_over wanted) ss) c.self.view_is
