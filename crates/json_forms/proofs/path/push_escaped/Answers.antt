use Rattle.std.proofs.Common.{rules}
use Rattle.json_forms.proofs.path.push_escaped.Goals as goal

pub returns-in-126 : goal.returns-in-126
returns-in-126 c = search rules
