use Rattle.std.proofs.Common.{◌≡◌, ◌∙◌, ap, subst}
use Rattle.std.specs.Prelude.{IfOk}
use Rattle.ir_core.specs.declared.functions.Function.{Function}
use Rattle.ir_core.specs.Functions.{names_of}
use Rattle.ir_core.specs.NameIndexes.Places.{ArePlaces}
use Rattle.ir_rename.specs.declared.renaming.Renaming.{Renaming}
use Rattle.ir_rename.specs.Lent.{lent, renamed}
use Rattle.ir_rename.specs.Numbered.{counted, renaming}
use Rattle.ir_rename.proofs.Found.{found}
use Rattle.ir_rename.proofs.Renames.{agree}
use Rattle.ir_rename.proofs.numbered.numbered_function.Goals as goal

pub returns : goal.returns
returns c =
    let f = c.args.function.now in
    let r : Renaming = record { places = c.in_ok-places.places; given = c.in_ok-given.given } in
    let given = counted 0 (names_of f) in
    let are = subst (ArePlaces r.places) (ap lent c.as_slice.ensures.value ∙ c.in_ok-names.ensures) c.in_ok-places.ensures in
    let is = c.in_ok-given.ensures ∙ ap (counted 0) (ap lent c.as_slice-2.ensures.value ∙ c.in_ok-names.ensures) in
    subst (λ (g : Function). IfOk c.rename_function.result (λ it. it ≡ g))
    (agree (renamed r) (renaming (names_of f) given) (λ name. found r (names_of f) given are is name) f) c.rename_function.ensures
