use Rattle.std.proofs.Common.{List, subst}
use Rattle.std.proofs.lemmas.List.Elements.{Contains-append_right}
use Rattle.std.specs.List.{Contains}
use Rattle.ir_core.specs.declared.functions.Instr.{Instr}
use Rattle.ir_core.specs.Functions.{phi_registers, set_by}
use Rattle.whole_shapes.proofs.sight.is_in_block.Goals as goal

pub returns-in-Some : goal.returns-in-Some
returns-in-Some c said =
    Contains-append_right (phi_registers c.args.block.now.phis) (set_by c.args.block.now.body) (c.args.name.now, c.args.ty.now)
    (subst (λ (ls : List Instr). Contains (set_by ls) (c.args.name.now, c.args.ty.now)) c.as_slice.ensures (c.is_line.ensures said))
