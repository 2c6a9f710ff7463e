use Rattle.std.proofs.Common.{◌≡◌, ◌∙◌, not, ap}
use Rattle.name_claims.specs.declared.claims.Reason.TheVariants as reason
use Rattle.named_modules.specs.Built.{due_after}
use Rattle.named_modules.specs.Faults.{at, unless}
use Rattle.fault_walk.specs.Told.{faults_more}
use Rattle.fault_walk.proofs.Written.{counted_behind, on_ok_both, one_named}
use Rattle.fault_walk.proofs.names.Walk.define_name.Goals as goal

pub returns : goal.returns
returns c =
    let walk = c.args.self.now in
    let x = c.args.name in
    let first : c.note_unless.new.told ≡ faults_more (unless (not c.has-is_taken.result) (at x reason.Twice)) walk.told =
    c.note_unless.ensures ∙ ap (λ f. faults_more (unless (not c.has-is_taken.result) f) walk.told) c.at.ensures in
    on_ok_both c.go_on.result c.go_on.ensures.due c.go_on.ensures.taken
    (λ due taken whole.
    one_named whole walk c.go_on.new.self x c.has-is_taken.result c.note_unless.new.told c.note_number.new.told c.has-is_taken.ensures first c.note_number.ensures taken
    (counted_behind c.due_after-due.result c.go_on.new.self.due (due_after walk.due x.what) c.due_after-due.ensures due) c.go_on.ensures.told)
