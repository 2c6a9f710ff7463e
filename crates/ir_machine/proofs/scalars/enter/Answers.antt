use Rattle.std.proofs.Common.{◌∙◌, ap, sym, rules}
use Rattle.ir_types.specs.Named.{is_sized}
use Rattle.ir_machine.specs.Scalars.{behind, part_at}
use Rattle.ir_machine.specs.Walks.{elements_in, fields_in}
use Rattle.ir_machine.proofs.Walking.{named_has_fields, of_array, of_named, of_struct, pushed}
use Rattle.ir_machine.proofs.scalars.enter.Goals as goal

pub returns-in_ok-push-in-Array : goal.returns-in_ok-push-in-Array
returns-in_ok-push-in-Array c =
    let types = c.args.types.now in
    let at = c.args.at in
    pushed types c.args.found.now.items c.args.left.now.items c.push-in-Array.new.self.items _ _ c.in_ok-push-in-Array.ensures.items
    (ap (λ t. behind at (part_at types t).scalars) c.in-Array.is ∙ of_array types at c.in-Array.count c.in-Array.element
    ∙ ap (λ t. elements_in types at t c.in-Array.count) (sym c.get.ensures))

pub returns-in_ok-push-in-Struct : goal.returns-in_ok-push-in-Struct
returns-in_ok-push-in-Struct c =
    let types = c.args.types.now in
    let at = c.args.at in
    pushed types c.args.found.now.items c.args.left.now.items c.push-in-Struct.new.self.items _ _ c.in_ok-push-in-Struct.ensures.items
    (ap (λ t. behind at (part_at types t).scalars) c.in-Struct.is ∙ of_struct types at c.in-Struct.fields
    ∙ ap (fields_in types at 0) (sym (c.as_slice.ensures ∙ c.get-in-Struct.ensures)))

pub returns-in_ok-push-in-Named : goal.returns-in_ok-push-in-Named
returns-in_ok-push-in-Named c =
    let types = c.args.types.now in
    let at = c.args.at in
    pushed types c.args.found.now.items c.args.left.now.items c.push-in-Some-fields.new.self.items _ _ c.in_ok-push-in-Named.ensures.items
    (ap (λ t. behind at (part_at types t).scalars) c.in-Named.is ∙ of_named types at c.in-Named.name c.in-Some-fields.fields.now (search rules) (ap (is_sized types) (sym c.in-Named.is) ∙ c.requires.sized)
    ∙ ap (fields_in types at 0) (sym c.as_slice-in-Some-fields.ensures))

pub returns-in_default-fields : goal.returns-in_default-fields
returns-in_default-fields c =
    let types = c.args.types.now in
    absurd (named_has_fields types c.args.at c.in-Named.name (search rules) (ap (is_sized types) (sym c.in-Named.is) ∙ c.requires.sized))
