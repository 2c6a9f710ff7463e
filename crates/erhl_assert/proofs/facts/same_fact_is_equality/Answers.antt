use Rattle.ir_types.proofs.SameLaws.{equality}
use Rattle.erhl_assert.proofs.SameFact.{same_fact_true, same_fact_refl}
use Rattle.erhl_assert.proofs.facts.same_fact_is_equality.Goals as goal

pub returns : goal.returns
returns c = equality _ same_fact_true same_fact_refl
