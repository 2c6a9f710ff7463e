use Rattle.std.proofs.Common.{◌∙◌, sym, ap, arith}
use Rattle.std.proofs.Math.ListN.{drop_of_length-le}
use Rattle.std.specs.Option.{option_or}
use Rattle.ir_core.specs.NameIndexes.Places.{place_in}
use Rattle.ir_printer.specs.Called.{place_from}
use Rattle.ir_printer.proofs.Further.{or_none}
use Rattle.ir_printer.proofs.called.places_of.Goals as goal

-- none is left
pub returns : goal.returns
returns c = λ x.
    let ds = c.args.declarations.now in
    sym (ap (λ left. option_or (place_in c.loop-i.places x) (place_from c.loop-i.i left x)) (drop_of_length-le ds (omega (arith, c.loop-i-test.false)))
    ∙ or_none (place_in c.loop-i.places x))
    ∙ c.loop-i.invariant x
