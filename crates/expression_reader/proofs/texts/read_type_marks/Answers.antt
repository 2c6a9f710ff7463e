-- The marks of tokens by their own kinds, or why they are none.
use Rattle.std.proofs.Common.{subst, sym}
use Rattle.expression_reader.proofs.TypeRead.{fault_by, marks_by}
use Rattle.expression_reader.proofs.texts.read_type_marks.Goals as goal
use Rattle.expression_reader.specs.Types.{IsTypeFault}

pub returns-in-Ok-clause-tree : goal.returns-in-Ok-clause-tree
returns-in-Ok-clause-tree c =
    marks_by c.args.text.now c.args.tokens.now c.in_ok-kinds.kinds.items c.as_slice.result.now c.as_slice.ensures.value c.in_ok-kinds.ensures c.requires
    c.in_ok-numbers.field-0 c.in_ok-numbers.ensures c.in-Ok.numbers c.in-Ok.is

pub returns-clause-fault : goal.returns-clause-fault
returns-clause-fault c =
    subst (IsTypeFault c.args.text.now) (sym c.of_unread.ensures)
    (fault_by c.args.text.now c.args.tokens.now c.in_ok-kinds.kinds.items c.as_slice.result.now c.as_slice.ensures.value c.in_ok-kinds.ensures c.requires
    c.in_ok-numbers.field-0 c.in_ok-numbers.ensures c.in-Err.why c.in-Err.is)
