use Rattle.form_matching.specs.Lent.{put_of}
use Rattle.form_matching.proofs.Literals.{same_as}
use Rattle.form_matching.proofs.matching.is_reg_instance.Goals as goal

pub returns : goal.returns
returns c = same_as (put_of c.args.letters.now) c.args.pattern.now c.args.expr.now c.is_instance.result c.is_instance.ensures
