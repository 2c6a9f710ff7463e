use Rattle.std.proofs.Common.{◌≡◌, ◌∙◌, ◌&&◌, Bool, not, refl, sym, ap}
use Rattle.fault_walk.specs.Told.{is_one_large}
use Rattle.fault_walk.proofs.Paths.{at_first}
use Rattle.fault_walk.proofs.constants.Path.new.Goals as goal
use Rattle.fault_walk.proofs.constants.Path.new.Goals.{then-not-clear, else-not-clear}

pub returns : goal.returns
returns c =
    let types = c.args.sight.now.types in
    let of = c.args.of.now in
    let large : c.if-not-clear.result ≡ (not c.is_stepped_clear-clear.result && is_one_large types of) = elim c.if-not-clear.branch [
      | then-not-clear v ↦ v.result-is ∙ v.is_large.ensures ∙ sym (ap (λ (b : Bool). not b && is_one_large types of) v.if-not-clear.true)
      | else-not-clear v ↦ v.result-is ∙ ap not v.if-not-clear.false ∙ sym (ap (λ (b : Bool). not b && is_one_large types of) v.if-not-clear.false)
    ] in
    at_first types of _ refl refl refl large c.is_stepped_clear-clear.ensures
