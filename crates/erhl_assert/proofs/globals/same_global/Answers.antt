use Rattle.erhl_assert.specs.Globals.{same_global}
use Rattle.erhl_assert.proofs.SameGlobals.{same_global_true, same_global_refl, same_test}
use Rattle.erhl_assert.proofs.globals.same_global.Goals as goal

pub returns : goal.returns
returns c = same_test same_global same_global_true same_global_refl c.args.a.now c.args.b.now c.is.result c.is.ensures
