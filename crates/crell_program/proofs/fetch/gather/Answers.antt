use Rattle.std.proofs.Common.{◌+◌, ◌∙◌, map, take, subst, sym}
use Rattle.crell_program.specs.Command.{shown_file}
use Rattle.crell_program.specs.Fetching.{AreHeld}
use Rattle.std.proofs.Math.Nat.{le_trans}
use Rattle.std.proofs.lemmas.Result.{err_from_is_err_and}
use Rattle.crell_program.specs.Due.{shelf_seen}
use Rattle.crell_program.proofs.Fetches.{fetched_more, stopped_here, if_due, well_after}
use Rattle.crell_program.proofs.fetch.gather.Goals as goal

pub returns-in_err-text-clause-due : goal.returns-in_err-text-clause-due
returns-in_err-text-clause-due g c =
    let i = c.loop-file.invariant in
    let exit = err_from_is_err_and c.from_residual.result c.from_residual.ensures.1 in
    rw (exit.1, exit.2) (if_due _ _ _ (λ answer due.
    stopped_here g.S.Shelf.told g.S.Shelf.faults g.S.Shelf.taken c.args.shelf.now c.loop-file.shelf c.fetch.new.shelf i.told
    i.faults c.fetch.ensures.faults i.taken c.fetch.ensures.taken c.args.files.now c.loop-file.file-index _ c.loop-file.texts c.loop-file-test.true i.held answer due)
    c.in_err-text.ensures.due)

pub returns-in_err-text-clause-well : goal.returns-in_err-text-clause-well
returns-in_err-text-clause-well g c =
    well_after g.S.Shelf.fails_nowhere g.S.Shelf.faults c.args.shelf.now c.loop-file.shelf c.fetch.new.shelf c.loop-file.invariant.well c.fetch.ensures.well

pub loop-file-preserved : goal.loop-file-preserved
loop-file-preserved g c =
    let i = c.loop-file.invariant in record {
      told = c.fetch.ensures.told ∙ i.told;
      well = well_after g.S.Shelf.fails_nowhere g.S.Shelf.faults c.args.shelf.now c.loop-file.shelf c.fetch.new.shelf i.well c.fetch.ensures.well;
      faults = le_trans i.faults c.fetch.ensures.faults;
      taken = le_trans i.taken c.fetch.ensures.taken;
      held = subst (λ texts. AreHeld (shelf_seen g.S.Shelf.told g.S.Shelf.faults g.S.Shelf.taken c.args.shelf.now c.fetch.new.shelf)
          (map shown_file (take (c.loop-file.file-index + 1) c.args.files.now)) texts) (sym c.in_ok-push.ensures.ok)
          (fetched_more g.S.Shelf.told g.S.Shelf.faults g.S.Shelf.taken c.args.shelf.now c.loop-file.shelf c.fetch.new.shelf i.told
          i.faults c.fetch.ensures.faults i.taken c.fetch.ensures.taken c.args.files.now c.loop-file.file-index _ c.loop-file.texts c.loop-file-test.true i.held
          c.in_ok-text.text c.in_ok-text.ensures.held);
    }
