use Rattle.std.proofs.Common.{◌∙◌, map, string_bytes}
use Rattle.clap.specs.Words.{app_of}
use Rattle.crell_program.proofs.CommandLine.Faults.{found, refused, refused_so}
use Rattle.crell_program.proofs.command_line.reading.read_words.Goals as goal

pub returns-in-Some-clause-named : goal.returns-in-Some-clause-named
returns-in-Some-clause-named c =
    c.in-Some.ensures
    ∙ found (app_of c.in_ok-line.line) (map string_bytes c.args.words.now) c.in-Ok.matches c.in_ok-line.ensures c.in-Ok.ensures.kinds c.in-Ok.ensures.matches

pub returns-in-Ok-clause-refused : goal.returns-in-Ok-clause-refused
returns-in-Ok-clause-refused c =
    c.in-None.ensures
    ∙ found (app_of c.in_ok-line.line) (map string_bytes c.args.words.now) c.in-Ok.matches c.in_ok-line.ensures c.in-Ok.ensures.kinds c.in-Ok.ensures.matches

pub returns-clause-refused : goal.returns-clause-refused
returns-clause-refused c =
    refused_so c.refusal.result
    (λ other. refused (app_of c.in_ok-line.line) (map string_bytes c.args.words.now) c.in-Err.error c.in_ok-line.ensures c.in-Err.ensures.kinds other)
    c.refusal.ensures
