use Rattle.std.proofs.Common.{sym, ap, ◌∙◌}
use Rattle.module_tokens.specs.Slots.{entry_of, said_as}
use Rattle.module_tokens.proofs.Slots.{entry_at, foreign_there, foreign_past, said_there}
use Rattle.module_tokens.proofs.table.said_at.Goals as goal

pub returns-then-is_same : goal.returns-then-is_same
returns-then-is_same c =
    let e = c.in-Some.field-0.now in
    let known = c.in-Some.ensures.lookup in
    said_there (entry_of e) c.args.word.now c.if-is_same.ensures
    ∙ ap (λ e. said_as e c.args.word.now) (sym (entry_at c.args.entries.now c.args.number e known.0 known.1))

pub returns-else-is_same : goal.returns-else-is_same
returns-else-is_same c =
    let e = c.in-Some.field-0.now in
    let known = c.in-Some.ensures.lookup in
    foreign_there (entry_of e) c.args.word.now c.if-is_same.ensures
    ∙ ap (λ e. said_as e c.args.word.now) (sym (entry_at c.args.entries.now c.args.number e known.0 known.1))

pub returns-in-None : goal.returns-in-None
returns-in-None c = foreign_past c.args.entries.now c.args.number c.args.word.now c.in-None.ensures.lookup.0
