-- The pieces stand one behind the other.
use Rattle.std.proofs.Common.{◌≡◌, ◌∙◌, ◌∷◌, sym, ap, rules}
use Rattle.ir_core.specs.declared.modules.Init.{Array, Struct}
use Rattle.ir_printer.specs.ExpressionPrinter.Printed.{quoted}
use Rattle.ir_printer.specs.Globals.{printed_init, struct_end}
use Rattle.ir_printer.proofs.Inits.{array_told, at_bytes, at_zero, struct_told}
use Rattle.ir_printer.proofs.Told.{told_as, told_then}
use Rattle.ir_printer.proofs.globals.+push_init.Goals as goal

pub returns-in-Zero : goal.returns-in-Zero
returns-in-Zero t c =
    let ty = c.args.ty.now in
    told_as c.args.text.now c.put.new.self _ _ (sym (at_zero ty) ∙ ap (λ i. printed_init i ty) (sym c.in-Zero.is)) c.put.ensures

pub returns-in-Bytes : goal.returns-in-Bytes
returns-in-Bytes t c =
    let ty = c.args.ty.now in
    let old = c.args.text.now in
    let new = c.push_quoted.new.text in
    told_as old new _ _ (ap (λ bytes. 99 ∷ quoted bytes) c.as_slice.ensures ∙ sym (at_bytes ty _) ∙ ap (λ i. printed_init i ty) (sym c.in-Bytes.is))
    (told_then old c.put_byte.new.self new _ _ c.put_byte.ensures c.push_quoted.ensures)

pub returns-after-loop-i : goal.returns-after-loop-i
returns-after-loop-i t c =
    let is = c.in-Array.is ∙ ap (λ e. Array e) (sym c.get-elements.ensures) in
    array_told c.args.text.now c.put_byte-in-Array.new.self c.loop-i.text c.put_byte-in-Array-2.new.self _ c.args.ty.now c.args.init.now
    c.get-elements.result.now c.loop-i.i is c.put_byte-in-Array.ensures c.loop-i.invariant (search rules) c.put_byte-in-Array-2.ensures

pub returns-after-loop-i-2 : goal.returns-after-loop-i-2
returns-after-loop-i-2 t c =
    let is = c.in-Struct.is ∙ ap (λ e. Struct e) (sym c.get-fields.ensures) in
    let same : c.as_slice-in-Struct.result.now ≡ c.get-fields.result.now = search rules in
    struct_told c.args.text.now c.loop-i-2.text c.push_struct_end.new.text _ c.args.ty.now c.args.init.now c.get-fields.result.now c.loop-i-2.i is
    c.loop-i-2.invariant (search rules)
    (told_as c.loop-i-2.text c.push_struct_end.new.text _ _ (ap (λ fields. struct_end fields) same) c.push_struct_end.ensures)
