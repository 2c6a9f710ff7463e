use Rattle.std.proofs.Common.{◌≡◌, ◌≤◌, map, take}
use Rattle.crell_io.specs.Shelf.{StaysWell}
use Rattle.crell_program.specs.Command.{shown_file}
use Rattle.crell_program.specs.Due.{shelf_seen}
use Rattle.crell_program.specs.Fetching.{AreHeld}
use Rattle.crell_program.proofs.fetch.gather.Given as goal

abbrev pub invariant-loop-file : goal.invariant-loop-file
invariant-loop-file g l = record {
  told : g.S.Shelf.told l.shelf ≡ g.S.Shelf.told l.fn.shelf;
  well : StaysWell g.S.Shelf.fails_nowhere g.S.Shelf.faults l.fn.shelf l.shelf;
  faults : g.S.Shelf.faults l.fn.shelf ≤ g.S.Shelf.faults l.shelf;
  taken : g.S.Shelf.taken l.fn.shelf ≤ g.S.Shelf.taken l.shelf;
  held : AreHeld (shelf_seen g.S.Shelf.told g.S.Shelf.faults g.S.Shelf.taken l.fn.shelf l.shelf) (map shown_file (take l.file-index l.files)) l.texts;
}
