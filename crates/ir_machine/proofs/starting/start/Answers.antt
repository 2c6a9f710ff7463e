use Rattle.std.proofs.Common.{◌≡◌, ◌∙◌, ◌<◌, [], None, Some, false, ap, sym, length, get_or, slice_get, refl, rules}
use Rattle.ir_machine.specs.declared.machine.KeptFrame.{KeptFrame}
use Rattle.ir_machine.specs.Machine.{function_named}
use Rattle.ir_machine.specs.Places.{state_on, waiting_on, world_in}
use Rattle.ir_machine.specs.Starting.{misfit}
use Rattle.ir_machine.specs.State.{scope_of}
use Rattle.ir_machine.proofs.Starts.{function_at, function_is, has_blocks, is_there, no_misfit, starts_at, starts_running}
use Rattle.ir_machine.proofs.starting.start.Goals as goal

pub returns-clause-started : goal.returns-clause-started
returns-clause-started c =
    let m = c.args.«module».now in
    let x = c.args.entry.now in
    let at = c.in-Some.at in
    let f = c.index-as_slice-at.result in
    let within : at < length m.functions = search rules in
    let named : function_named x m.functions ≡ slice_get m.functions at = search rules in
    let is : f ≡ get_or m.functions at f = search rules in
    let fits : misfit (scope_of m) f.params c.args.input.now ≡ None = search rules in
    let kept : KeptFrame = record {
      place = record { function = at; block = 0; line = 0 };
      registers = c.in_ok-registers.registers;
      own = c.new.result;
    } in
    let world = world_in c.in_ok-world.world in
    starts_at m x c.args.input.now f kept world (function_is m x at f within named is) (function_at m x at f within named is) refl refl c.new.ensures.items
    (has_blocks m x at f within named is c.requires) fits (search rules) (search rules)
    ∙ ap (λ l. Some (state_on m (Some kept) false world (waiting_on m l []))) (sym c.new-2.ensures.items)

pub returns-clause-running : goal.returns-clause-running
returns-clause-running c = starts_running c.args.«module».now c.args.entry.now c.args.input.now _ (returns-clause-started c)

pub returns-clause-no_function : goal.returns-clause-no_function
returns-clause-no_function c =
    let m = c.args.«module».now in
    let x = c.args.entry.now in
    let at = c.in-Some.at in
    let f = c.index-as_slice-at.result in
    let within : at < length m.functions = search rules in
    let named : function_named x m.functions ≡ slice_get m.functions at = search rules in
    let is : f ≡ get_or m.functions at f = search rules in
    (λ no. cc, λ none. absurd (is_there m x at f within named is none))

pub returns-clause-told : goal.returns-clause-told
returns-clause-told c =
    let m = c.args.«module».now in
    let x = c.args.entry.now in
    let at = c.in-Some.at in
    let f = c.index-as_slice-at.result in
    let within : at < length m.functions = search rules in
    let named : function_named x m.functions ≡ slice_get m.functions at = search rules in
    let is : f ≡ get_or m.functions at f = search rules in
    let fits : misfit (scope_of m) f.params c.args.input.now ≡ None = search rules in
    no_misfit m x at f within named is c.args.input.now fits _
