use Rattle.std.proofs.Common.{◌∙◌, ap}
use Rattle.ir_core.specs.declared.operands.Atom.{Atom}
use Rattle.ir_core.specs.declared.expressions.Reg.{Reg}
use Rattle.erhl_assert.specs.Matched.{now_operand, some_into, meet}
use Rattle.postcondition.proofs.AllowedLines.Atoms.{same_registers}
use Rattle.postcondition.proofs.allowed_lines.matching.plain_reaches.Goals as goal

pub returns-in-Plain : goal.returns-in-Plain
returns-in-Plain g c =
    let known = c.args.known.now in
    let at = λ (a : Atom Reg). some_into (λ d. meet known.diff c.args.kind (record { ty = c.in-Plain.c.ty; atom = a }) d)
    (now_operand (record { ty = c.args.t.now; atom = c.args.b.now })) known.tgt in
    rw c.in-Plain.is (c.reaches.ensures ∙ ap at (same_registers c.in-Plain.c.atom))
