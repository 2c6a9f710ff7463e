use Rattle.std.proofs.Common.{◌∙◌, List, None, Some, sym, ap}
use Rattle.ir_core.specs.declared.modules.Declaration.{Declaration}
use Rattle.ir_printer.specs.Printed.{called_in}
use Rattle.ir_printer.proofs.Further.{found_at}
use Rattle.ir_printer.proofs.called.Declared.get.Goals as goal

pub returns-in-Some : goal.returns-in-Some
returns-in-Some c =
    c.at.ensures
    ∙ found_at c.self.inside.declarations.now c.self.inside.places c.self.invariant c.args.name.now (Some c.in-Some.place) (sym c.in-Some.is ∙ c.position.ensures)
    ∙ ap (λ (ds : List Declaration). called_in ds c.args.name.now) c.self.view_is

pub returns-in-None : goal.returns-in-None
returns-in-None c =
    found_at c.self.inside.declarations.now c.self.inside.places c.self.invariant c.args.name.now None (sym c.in-None.is ∙ c.position.ensures)
    ∙ ap (λ (ds : List Declaration). called_in ds c.args.name.now) c.self.view_is
