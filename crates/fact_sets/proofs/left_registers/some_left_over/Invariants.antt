use Rattle.std.proofs.Common.{◌≡◌, ◌&&◌, drop}
use Rattle.std.specs.List.{list_any}
use Rattle.fact_sets.specs.ErhlSides.Differing.{is_left_over}
use Rattle.fact_sets.specs.Places.{is_left}
use Rattle.fact_sets.proofs.left_registers.some_left_over.Given as goal

abbrev pub invariant-loop-register : goal.invariant-loop-register
invariant-loop-register l =
    list_any (λ r. is_left_over l.wanted r && is_left l.list l.gone r) (drop l.register-index l.list)
    ≡ list_any (λ r. is_left_over l.wanted r && is_left l.list l.gone r) l.list
