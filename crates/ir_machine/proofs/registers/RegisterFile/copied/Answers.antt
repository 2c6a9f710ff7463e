use Rattle.std.proofs.Common.{rules, ◌-◌, ◌++◌, arith, ap, ◌∙◌, sym, subst}
use Rattle.std.specs.Option.{option_map}
use Rattle.std.specs.Map.Iter.{deref_pair}
use Rattle.ir_machine.specs.Kept.{kept_registers}
use Rattle.ir_machine.specs.Registers.{AreInKind, Registers}
use Rattle.ir_machine.proofs.Entries.{more_copied}
use Rattle.ir_machine.proofs.Few.{file_copied}
use Rattle.ir_machine.proofs.registers.RegisterFile.copied.Goals as goal

pub loop-at-preserved-in_ok-insert : goal.loop-at-preserved-in_ok-insert
loop-at-preserved-in_ok-insert c =
    record {
      within = omega arith;
      copied = more_copied c.loop-at.held.entries c.insert.new.self.entries c.args.self.now.held.entries (c.loop-at.at - 1) c.loop-at.at
          c.in-Some.name.now c.in_ok-copy.field-0 c.in-Some.value.now (sym c.get_index.ensures.entry ∙ ap (option_map deref_pair) c.in-Some.is)
          (omega arith) c.in_ok-copy.ensures c.loop-at.invariant.copied c.in_ok-insert.ensures.updates.0;
    }

pub invariant_of-result : goal.invariant_of-result
invariant_of-result c =
    let file = c.args.self.now in
    record { in_kind = subst (λ (r : Registers). AreInKind r) (sym (file_copied c.in_ok-few.few.items file.few.items c.loop-at.held.entries file.held.entries c.loop-at.at (search rules) (omega (arith, c.loop-at-test.false)) c.loop-at.invariant.copied)) file.in_kind }

pub returns : goal.returns
returns c =
    let file = c.args.self.now in
    file_copied c.in_ok-few.few.items file.few.items c.loop-at.held.entries file.held.entries c.loop-at.at (search rules) (omega (arith, c.loop-at-test.false)) c.loop-at.invariant.copied
