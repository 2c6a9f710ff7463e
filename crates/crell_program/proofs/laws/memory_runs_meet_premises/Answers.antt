use Rattle.crell_program.proofs.MemoryRuns.{absent_files_are_told, no_room_fits_usage, pairs_are_answered, usage_within_room_fits}
use Rattle.crell_program.proofs.laws.memory_runs_meet_premises.Goals as goal

pub returns-clause-absent : goal.returns-clause-absent
returns-clause-absent c = absent_files_are_told

pub returns-clause-pairs : goal.returns-clause-pairs
returns-clause-pairs c = pairs_are_answered

pub returns-clause-usage : goal.returns-clause-usage
returns-clause-usage c = no_room_fits_usage

pub returns-clause-shown : goal.returns-clause-shown
returns-clause-shown c = usage_within_room_fits
