use Rattle.std.proofs.Common.{rules}
use Rattle.json_forms.proofs.members.item.Goals as goal

pub returns-in-Err : goal.returns-in-Err
returns-in-Err g c = search rules
