use Rattle.crell_program.proofs.program.listed.Goals as goal

pub returns : goal.returns
returns c = (c.in_ok-text.text.items, c.in_ok-text.ensures, c.printed.ensures)
