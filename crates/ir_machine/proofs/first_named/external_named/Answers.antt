use Rattle.std.proofs.Common.{◌≡◌, ◌∙◌, sym, ap, arith, slice_get}
use Rattle.std.proofs.lemmas.Grind.{common_steps}
use Rattle.std.proofs.lemmas.Option.{gets}
use Rattle.std.specs.Option.{option_copied}
use Rattle.ir_machine.specs.Walks.{external_name}
use Rattle.ir_machine.proofs.Firsts.{found_first, found_none}
use Rattle.ir_machine.proofs.first_named.external_named.Goals as goal

pub returns-in-Some : goal.returns-in-Some
returns-in-Some c =
    let place = c.in-Some.place.now in
    let there : option_copied c.get-in-Some.result ≡ slice_get c.args.externals.now place = grind (arith, common_steps, gets) in
    there ∙ found_first external_name c.args.externals.now c.args.firsts.now.entries c.requires c.args.name.now place (sym c.get.ensures.value ∙ ap option_copied c.in-Some.is)

pub returns-in-None : goal.returns-in-None
returns-in-None c =
    found_none external_name c.args.externals.now c.args.firsts.now.entries c.requires c.args.name.now (sym c.get.ensures.value ∙ ap option_copied c.in-None.is)
