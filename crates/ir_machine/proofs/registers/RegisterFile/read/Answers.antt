use Rattle.std.proofs.Common.{ap, ◌∙◌, ◌++◌, sym, subst, arith}
use Rattle.std.specs.Option.{option_copied}
use Rattle.ir_core.specs.declared.values.Value.{Value}
use Rattle.ir_values.specs.Values.{IsInKind}
use Rattle.ir_machine.specs.Kept.{entry_held, place_in}
use Rattle.ir_machine.specs.Registers.{held_at}
use Rattle.ir_machine.proofs.Few.{place_within, read_at, read_behind}
use Rattle.ir_machine.proofs.registers.RegisterFile.read.Goals as goal

pub index-requires : goal.index-requires
index-requires c =
    let is = sym (c.place_in.ensures ∙ ap (place_in c.args.name.now) c.as_slice.ensures.value) ∙ c.in-Some.is in
    omega (arith, place_within c.args.name.now c.args.self.now.few.items c.in-Some.at is, c.args.self.now.few.ok)

pub returns-in-Some-clause-value : goal.returns-in-Some-clause-value
returns-in-Some-clause-value c =
    let is = sym (c.place_in.ensures ∙ ap (place_in c.args.name.now) c.as_slice.ensures.value) ∙ c.in-Some.is in
    let found = sym (read_at c.args.name.now c.args.self.now.few.items c.args.self.now.held.entries c.in-Some.at c.index.result.now is c.index.ensures) in
    c.held_at.ensures ∙ ap (λ o. held_at c.args.kind.now (entry_held o)) found

pub returns-in-Some-clause-in_kind : goal.returns-in-Some-clause-in_kind
returns-in-Some-clause-in_kind c =
    let is = sym (c.place_in.ensures ∙ ap (place_in c.args.name.now) c.as_slice.ensures.value) ∙ c.in-Some.is in
    let found = sym (read_at c.args.name.now c.args.self.now.few.items c.args.self.now.held.entries c.in-Some.at c.index.result.now is c.index.ensures) in
    subst (λ (v : Value). IsInKind c.args.kind.now v) (sym (c.held_at.ensures ∙ ap (λ o. held_at c.args.kind.now (entry_held o)) found))
    (c.args.self.now.in_kind c.args.name.now c.args.kind.now)

pub returns-in-Some-get-clause-value : goal.returns-in-Some-get-clause-value
returns-in-Some-get-clause-value c =
    let none = sym (c.place_in.ensures ∙ ap (place_in c.args.name.now) c.as_slice.ensures.value) ∙ c.in_default.is in
    let found = sym (ap option_copied c.in-Some-get.is) ∙ c.get.ensures.value ∙ sym (read_behind c.args.name.now c.args.self.now.few.items c.args.self.now.held.entries none) in
    c.held_at-in-Some-get.ensures ∙ ap (λ o. held_at c.args.kind.now (entry_held o)) found

pub returns-in-Some-get-clause-in_kind : goal.returns-in-Some-get-clause-in_kind
returns-in-Some-get-clause-in_kind c =
    let none = sym (c.place_in.ensures ∙ ap (place_in c.args.name.now) c.as_slice.ensures.value) ∙ c.in_default.is in
    let found = sym (ap option_copied c.in-Some-get.is) ∙ c.get.ensures.value ∙ sym (read_behind c.args.name.now c.args.self.now.few.items c.args.self.now.held.entries none) in
    subst (λ (v : Value). IsInKind c.args.kind.now v) (sym (c.held_at-in-Some-get.ensures ∙ ap (λ o. held_at c.args.kind.now (entry_held o)) found))
    (c.args.self.now.in_kind c.args.name.now c.args.kind.now)

pub returns-in-None-clause-value : goal.returns-in-None-clause-value
returns-in-None-clause-value c =
    let none = sym (c.place_in.ensures ∙ ap (place_in c.args.name.now) c.as_slice.ensures.value) ∙ c.in_default.is in
    let found = sym (ap option_copied c.in-None.is) ∙ c.get.ensures.value ∙ sym (read_behind c.args.name.now c.args.self.now.few.items c.args.self.now.held.entries none) in
    ap (λ o. held_at c.args.kind.now (entry_held o)) found
