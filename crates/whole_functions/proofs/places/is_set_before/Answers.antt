use Rattle.std.proofs.Common.{List, subst, rules}
use Rattle.std.proofs.lemmas.List.Elements.{Contains-append_left}
use Rattle.std.specs.List.{Contains}
use Rattle.ir_core.specs.declared.functions.Phi.{Phi}
use Rattle.ir_core.specs.Functions.{phi_registers, set_by}
use Rattle.whole_functions.proofs.Placed.{before_by_line, before_by_phi, typed_by_line}
use Rattle.whole_functions.proofs.places.is_set_before.Goals as goal

pub returns-in-None-clause-typed : goal.returns-in-None-clause-typed
returns-in-None-clause-typed c said =
    Contains-append_left (phi_registers c.args.block.now.phis) (set_by c.args.block.now.body) (c.args.name.now, c.args.ty.now)
    (subst (λ (ps : List Phi). Contains (phi_registers ps) (c.args.name.now, c.args.ty.now)) c.as_slice.ensures (c.is_phi.ensures said))

pub returns-in-None-clause-before : goal.returns-in-None-clause-before
returns-in-None-clause-before c said =
    before_by_phi c.args.block.now c.args.line c.args.name.now c.args.ty.now
    (subst (λ (ps : List Phi). Contains (phi_registers ps) (c.args.name.now, c.args.ty.now)) c.as_slice.ensures (c.is_phi.ensures said))

pub returns-in-Some-clause-typed : goal.returns-in-Some-clause-typed
returns-in-Some-clause-typed c said = typed_by_line c.args.block.now c.saturating_sub.result (c.args.name.now, c.args.ty.now) (c.is_line_before.ensures said)

pub returns-in-Some-clause-before : goal.returns-in-Some-clause-before
returns-in-Some-clause-before c said =
    before_by_line c.args.block.now c.args.line c.saturating_sub.result c.args.name.now c.args.ty.now (search rules) (c.is_line_before.ensures said)
