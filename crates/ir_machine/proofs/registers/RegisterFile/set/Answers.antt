use Rattle.std.proofs.Common.{◌≡◌, ◌∙◌, Some, None, ◌++◌, ◌∷◌, [], arith, ap, sym, subst}
use Rattle.ir_machine.specs.Kept.{kept_registers, place_in}
use Rattle.ir_machine.specs.Registers.{AreInKind}
use Rattle.ir_machine.proofs.Entries.{Entries, Puts, put_in_kind, put_sets}
use Rattle.ir_machine.proofs.Few.{either_end, place_within, puts_at, puts_behind, puts_last}
use Rattle.ir_machine.proofs.registers.RegisterFile.set.Goals as goal

pub index_mut-requires : goal.index_mut-requires
index_mut-requires c =
    let is = sym (c.place_in.ensures ∙ ap (place_in c.args.name.now) c.as_slice.ensures.value) ∙ c.in-Some.is in
    omega (arith, place_within c.args.name.now c.args.self.now.few.items c.in-Some.at is, c.args.self.now.few.ok)

pub invariant_of-self : goal.invariant_of-self
invariant_of-self c =
    let file = c.args.self.now in
    let is = sym (c.place_in.ensures ∙ ap (place_in c.args.name.now) c.as_slice.ensures.value) ∙ c.in-Some.is in
    let puts = puts_at c.args.name.now c.holding.result file.few.items file.held.entries c.in-Some.at c.index_mut.result.now is c.index_mut.ensures.value in
    record { in_kind = put_in_kind _ _ c.args.name.now c.holding.result puts c.args.kind c.args.value c.holding.ensures c.requires file.in_kind }

pub returns-in-Some-clause-ok : goal.returns-in-Some-clause-ok
returns-in-Some-clause-ok c =
    let file = c.args.self.now in
    let is = sym (c.place_in.ensures ∙ ap (place_in c.args.name.now) c.as_slice.ensures.value) ∙ c.in-Some.is in
    let puts = puts_at c.args.name.now c.holding.result file.few.items file.held.entries c.in-Some.at c.index_mut.result.now is c.index_mut.ensures.value in
    put_sets _ _ c.args.name.now c.holding.result puts c.args.kind c.args.value c.holding.ensures

pub invariant_of-self-then-len-lt-FEW : goal.invariant_of-self-then-len-lt-FEW
invariant_of-self-then-len-lt-FEW c =
    let file = c.args.self.now in
    let none = sym (c.place_in.ensures ∙ ap (place_in c.args.name.now) c.as_slice.ensures.value) ∙ c.in_default.is in
    let held = c.holding-then-len-lt-FEW in
    record {
      in_kind =
          either_end c.add.result c.add.ensures.ok c.add.ensures.err
          (λ added. put_in_kind _ _ c.args.name.now held.result
          (subst (λ (l : Entries). Puts (file.few.items ++ file.held.entries) (l ++ file.held.entries) c.args.name.now held.result) (sym added)
          (puts_last c.args.name.now held.result file.few.items file.held.entries none)) c.args.kind c.args.value held.ensures c.requires file.in_kind)
          (λ same. subst (λ (l : Entries). AreInKind (kept_registers (l ++ file.held.entries))) (sym same) file.in_kind);
    }

pub returns-then-len-lt-FEW-clause-ok : goal.returns-then-len-lt-FEW-clause-ok
returns-then-len-lt-FEW-clause-ok c =
    let file = c.args.self.now in
    let none = sym (c.place_in.ensures ∙ ap (place_in c.args.name.now) c.as_slice.ensures.value) ∙ c.in_default.is in
    let held = c.holding-then-len-lt-FEW in
    let puts =
    subst (λ (l : Entries). Puts (file.few.items ++ file.held.entries) (l ++ file.held.entries) c.args.name.now held.result) (sym c.in_ok-add.ensures.ok)
    (puts_last c.args.name.now held.result file.few.items file.held.entries none) in
    put_sets _ _ c.args.name.now held.result puts c.args.kind c.args.value held.ensures

pub invariant_of-self-2 : goal.invariant_of-self-2
invariant_of-self-2 c =
    let file = c.args.self.now in
    let none = sym (c.place_in.ensures ∙ ap (place_in c.args.name.now) c.as_slice.ensures.value) ∙ c.in_default.is in
    let held = c.holding-2 in
    record {
      in_kind =
          either_end c.insert.result c.insert.ensures.updates c.insert.ensures.err
          (λ updates. put_in_kind _ _ c.args.name.now held.result
          (puts_behind c.args.name.now held.result file.few.items file.held.entries c.insert.new.self.entries none
          (subst (λ n. Puts file.held.entries c.insert.new.self.entries n held.result) c.in_ok-copy.ensures updates.0)) c.args.kind c.args.value held.ensures c.requires file.in_kind)
          (λ same. subst (λ (l : Entries). AreInKind (kept_registers (file.few.items ++ l))) (sym same) file.in_kind);
    }

pub returns-clause-ok : goal.returns-clause-ok
returns-clause-ok c =
    let file = c.args.self.now in
    let none = sym (c.place_in.ensures ∙ ap (place_in c.args.name.now) c.as_slice.ensures.value) ∙ c.in_default.is in
    let held = c.holding-2 in
    let puts =
    puts_behind c.args.name.now held.result file.few.items file.held.entries c.insert.new.self.entries none
    (subst (λ n. Puts file.held.entries c.insert.new.self.entries n held.result) c.in_ok-copy.ensures c.in_ok-insert.ensures.updates.0) in
    put_sets _ _ c.args.name.now held.result puts c.args.kind c.args.value held.ensures
