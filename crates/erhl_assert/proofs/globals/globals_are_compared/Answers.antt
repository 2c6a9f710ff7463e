use Rattle.ir_types.proofs.SameLaws.{equality}
use Rattle.erhl_assert.proofs.SameGlobals.{same_global_true, same_global_refl, declaration_true, declaration_is}
use Rattle.erhl_assert.proofs.globals.globals_are_compared.Goals as goal

pub returns-clause-globals : goal.returns-clause-globals
returns-clause-globals c = equality _ same_global_true same_global_refl

pub returns-clause-declarations : goal.returns-clause-declarations
returns-clause-declarations c = λ d e. (declaration_true d e, declaration_is d e)
