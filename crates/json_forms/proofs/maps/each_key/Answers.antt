use Rattle.std.proofs.Common.{rules}
use Rattle.json_forms.proofs.maps.each_key.Goals as goal

pub loop-key-preserved : goal.loop-key-preserved
loop-key-preserved g c = search rules

pub returns-in_err-test_key : goal.returns-in_err-test_key
returns-in_err-test_key g c = search rules
