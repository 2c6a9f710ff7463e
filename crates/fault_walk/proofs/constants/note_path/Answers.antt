use Rattle.std.proofs.Common.{◌≡◌, ◌∙◌, ◌&&◌, Bool, sym, ap}
use Rattle.fault_walk.specs.Told.{is_stepped_large}
use Rattle.fault_walk.proofs.Noted.{path_found}
use Rattle.fault_walk.proofs.constants.note_path.Goals as goal
use Rattle.fault_walk.proofs.constants.note_path.Goals.{then-of, else-of}

pub returns : goal.returns
returns c = λ w is states path.
    let h = c.args.sight.now in
    let of = c.args.of.now in
    let large = is_stepped_large h.types of.ty is in
    let counted : c.if-of.note_place ≡ (of.is_faultless && large) = elim c.if-of.branch [
      | then-of v ↦ v.note_place-is ∙ v.is_large.ensures h.types of.ty is path ∙ sym (ap (λ (b : Bool). b && large) v.if-of.true)
      | else-of v ↦ v.note_place-is ∙ v.if-of.false ∙ sym (ap (λ (b : Bool). b && large) v.if-of.false)
    ] in
    path_found h w is of c.if-of.note_place c.args.told.now c.note_place.new.told states counted c.note_place.ensures.fault c.note_place.ensures.large
