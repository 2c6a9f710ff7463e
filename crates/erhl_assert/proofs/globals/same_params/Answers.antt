use Rattle.ir_types.specs.Same.{same_list}
use Rattle.erhl_assert.specs.Globals.{same_declared_param}
use Rattle.erhl_assert.proofs.SameGlobals.{same_params_true, same_params_refl, same_test}
use Rattle.erhl_assert.proofs.globals.same_params.Goals as goal

pub returns : goal.returns
returns c = same_test (same_list same_declared_param) same_params_true same_params_refl c.args.a.now c.args.b.now c.is.result c.is.ensures
