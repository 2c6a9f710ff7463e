use Rattle.std.proofs.Common.{◌≡◌, ◌∙◌, ap, sym, true, List, length, map, [], ◌∷◌}
use Rattle.std.specs.List.{list_all}
use Rattle.block_memory.specs.declared.items.ShownByte.{ShownByte}
use Rattle.ir_core.specs.declared.values.Byte.{Byte}
use Rattle.ir_machine.specs.declared.items.Item.TheVariants.{EnvNew}
use Rattle.ir_machine.specs.Choices.{Did}
use Rattle.ir_machine.specs.Machine.{given_byte, is_byte_of, with_named}
use Rattle.ir_machine.specs.Places.{world_in}
use Rattle.ir_machine.specs.State.{Waiting, World, no_world}
use Rattle.ir_machine.proofs.Acts.{made_named, new_answers}
use Rattle.ir_machine.proofs.acting.make_block.Goals as goal

pub returns-in_default-clause-answers : goal.returns-in_default-clause-answers
returns-in_default-clause-answers c = λ p ps left.
    let are : list_all (is_byte_of (world_in c.args.world.now)) c.args.bytes ≡ true =
    ap (list_all (is_byte_of (world_in c.args.world.now))) (sym c.as_slice.ensures) ∙ sym c.are_bytes_of.ensures ∙ c.if-not-are_bytes_of.false in
    (EnvNew c.args.align c.args.bytes ∷ [], Waiting p ps (with_named c.args.align c.args.bytes (world_in c.args.world.now)), new_answers (world_in c.args.world.now) c.args.align c.args.bytes are p ps left)

pub returns-clause-answers : goal.returns-clause-answers
returns-clause-answers c = λ p ps left.
    let are : list_all (is_byte_of (world_in c.args.world.now)) c.args.bytes ≡ true =
    ap (list_all (is_byte_of (world_in c.args.world.now))) (sym c.as_slice.ensures) ∙ sym c.are_bytes_of.ensures ∙ c.if-not-are_bytes_of.false in
    let given : c.deref.result.now ≡ map (given_byte (record no_world { names = c.args.world.now.names })) c.args.bytes =
    c.deref.ensures.value ∙ c.in_ok-given.ensures ∙ ap (λ (bs : List ShownByte). map (given_byte (record no_world { names = c.args.world.now.names })) bs) c.as_slice-2.ensures in
    let long : c.len.result ≡ length c.deref.result.now = c.len.ensures ∙ c.in_ok-given.given.ok.0 ∙ ap (λ (bs : List Byte). length bs) (sym c.deref.ensures.value) in
    new_answers (world_in c.args.world.now) c.args.align c.args.bytes are p ps left
    ∙ ap (λ (w : World). Did (EnvNew c.args.align c.args.bytes ∷ []) (Waiting p ps w) left)
    (made_named (world_in c.args.world.now) c.args.align c.len.result c.count-block.result c.args.bytes c.deref.result.now c.new_block.new.self c.bind.new.self
    given long c.count-block.ensures c.in-Ok.ensures.ok c.in_ok-bind.ensures.ok)
