use Rattle.std.proofs.Common.{◌≡◌, ◌∙◌, true, false, sym, ap, rules, arith}
use Rattle.std.specs.Prelude.{pos, FitsSigned}
use Rattle.std.specs.Int.{cast_signed, w64}
use Rattle.std.proofs.lemmas.Int.{to_z-of_z}
use Rattle.ir_core.specs.declared.values.Value.TheVariants.{Ptr}
use Rattle.ir_values.specs.Addresses.{distances, is_past, led_address}
use Rattle.ir_values.specs.Numbers.{modulo}
use Rattle.ir_values.specs.Private.{ended}
use Rattle.ir_values.proofs.Going.{from_block, moved_to}
use Rattle.ir_values.proofs.addresses.moved.Goals as goal
use Rattle.ir_values.proofs.addresses.moved.Goals.{else-inbounds-via-then-inbounds+else-is_past, else-inbounds-via-else-inbounds}

pub returns-in-Some : goal.returns-in-Some
returns-in-Some g c =
    let fits : FitsSigned w64 c.cast_signed.result = search rules in
    let offset_fits : FitsSigned w64 c.in-Ptr.offset = search rules in
    let given = distances c.args.types.now c.args.of.now (g.I.Indices.listed c.args.indices.now) in
    let inside : c.args.inbounds ≡ true → is_past c.args.size c.in-Ptr.offset ≡ false = λ so. elim c.else-inbounds.branch [
      | else-inbounds-via-then-inbounds+else-is_past w ↦ (let e : is_past c.args.size c.in-Ptr.offset ≡ false = grind (arith, to_z-of_z, w.is_past.ensures, w.if-is_past.false, w.from.ensures) in e)
      | else-inbounds-via-else-inbounds w ↦ (let no = w.if-inbounds.false in cc)
    ] in
    ap (λ z. Ptr c.in-Ptr.block z) (to_z-of_z w64 c.cast_signed.result fits ∙ c.cast_signed.ensures)
    ∙ ap (moved_to (λ at. Ptr c.in-Ptr.block (cast_signed w64 at))) (sym c.in-Some.is ∙ c.ended.ensures)
    ∙ ap (λ n. moved_to (λ at. Ptr c.in-Ptr.block (cast_signed w64 at)) (ended c.args.inbounds c.args.size (pos n) given)) c.word.ensures
    ∙ ap (λ z. moved_to (λ at. Ptr c.in-Ptr.block (cast_signed w64 at)) (ended c.args.inbounds c.args.size (pos (modulo 64 z)) given)) (to_z-of_z w64 c.in-Ptr.offset offset_fits)
    ∙ from_block c.args.inbounds c.args.size (g.I.Indices.listed c.args.indices.now) c.requires.numbers c.in-Ptr.block c.in-Ptr.offset given c.ranges.size.fits inside
    ∙ ap (λ v. led_address c.args.inbounds v c.args.size (g.I.Indices.listed c.args.indices.now) given) (sym c.in-Ptr.is)
