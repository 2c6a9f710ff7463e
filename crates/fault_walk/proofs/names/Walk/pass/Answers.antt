use Rattle.std.proofs.Common.{◌≡◌, ◌∙◌, ◌∷◌, [], not, ap, refl, sym}
use Rattle.name_claims.specs.declared.claims.Reason.TheVariants as reason
use Rattle.named_modules.specs.Faults.{at, unless}
use Rattle.fault_walk.specs.Names.{counted_in, undefined, with_written}
use Rattle.fault_walk.specs.Told.{faults_more}
use Rattle.fault_walk.proofs.Written.{one_passed}
use Rattle.fault_walk.proofs.names.Walk.pass.Goals as goal

pub returns-in-Some : goal.returns-in-Some
returns-in-Some c whole =
    let walk = c.args.self.now in
    let x = c.in-Some.name in
    let first : c.note_unless.new.told ≡ faults_more (unless (not c.has-is_taken.result) (at x reason.Twice)) walk.told =
    c.note_unless.ensures ∙ ap (λ f. faults_more (unless (not c.has-is_taken.result) f) walk.told) c.at.ensures in
    let second : c.note.new.told ≡ faults_more (at x reason.WrongType ∷ []) c.note_unless.new.told =
    c.note.ensures ∙ ap (λ f. faults_more (f ∷ []) c.note_unless.new.told) c.at-in-Some.ensures in
    one_passed whole walk (record { taken = walk.taken; due = walk.due; told = c.note.new.told }) x c.has-is_taken.result c.note_unless.new.told c.note.new.told
    c.has-is_taken.ensures first second refl refl refl
    ∙ ap (λ n. with_written whole (counted_in walk) (undefined n)) (sym c.in-Some.is)
