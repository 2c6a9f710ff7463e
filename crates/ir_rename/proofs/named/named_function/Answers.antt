use Rattle.std.proofs.Common.{◌≡◌, ◌∙◌, ap, map, subst}
use Rattle.std.specs.Prelude.{IfOk}
use Rattle.ir_core.specs.declared.functions.Function.{Function}
use Rattle.ir_core.specs.Functions.{names_of}
use Rattle.ir_core.specs.NameIndexes.Places.{ArePlaces}
use Rattle.ir_rename.specs.declared.renaming.Renaming.{Renaming}
use Rattle.ir_rename.specs.Lent.{lent, renamed}
use Rattle.ir_rename.specs.Named.{named}
use Rattle.ir_rename.specs.Numbered.{renaming}
use Rattle.ir_rename.proofs.Found.{found}
use Rattle.ir_rename.proofs.Renames.{agree}
use Rattle.ir_rename.proofs.named.named_function.Goals as goal

pub returns : goal.returns
returns c =
    let f = c.args.function.now in
    let r : Renaming = record { places = c.in_ok-places.places; given = c.in_ok-given.given } in
    let given = map (named (names_of f)) (names_of f) in
    let are = subst (ArePlaces r.places) (ap lent c.as_slice.ensures.value ∙ c.in_ok-names.ensures) c.in_ok-places.ensures in
    let taken = ap lent c.as_slice-2.ensures.value ∙ c.in_ok-names.ensures in
    let names = ap lent c.as_slice-3.ensures.value ∙ c.in_ok-names.ensures in
    let is =
    c.in_ok-given.ensures
    ∙ ap (λ ns. map (named ns) (lent c.as_slice-3.result.now)) taken
    ∙ ap (λ ns. map (named (names_of f)) ns) names in
    subst (λ (g : Function). IfOk c.rename_function.result (λ it. it ≡ g))
    (agree (renamed r) (renaming (names_of f) given) (λ name. found r (names_of f) given are is name) f) c.rename_function.ensures
