use Rattle.std.proofs.Common.{◌∙◌, ◌&&◌, sym, ap}
use Rattle.std.specs.List.{list_all}
use Rattle.ir_core.specs.declared.functions.Entry.{Entry}
use Rattle.ir_typing.specs.ModuleLimits.Within.{atom_shallow}
use Rattle.ir_typing.proofs.ModuleLimits.Within.{entries_within}
use Rattle.ir_typing.proofs.module_limits.depths.is_phi_shallow.Goals as goal

pub returns-then-is_type_shallow : goal.returns-then-is_type_shallow
returns-then-is_type_shallow c =
    let phi = c.args.phi.now in
    c.are_entries_shallow.ensures
    ∙ ap (λ es. list_all (λ (e : Entry). atom_shallow e.value) es) c.as_slice.ensures
    ∙ ap (λ b. b && list_all (λ (e : Entry). atom_shallow e.value) phi.entries) c.if-is_type_shallow.ensures
    ∙ sym (entries_within phi.ty phi.entries)
