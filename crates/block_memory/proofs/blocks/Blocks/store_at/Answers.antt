use Rattle.std.proofs.Common.{◌≡◌, ap, ◌∙◌, sym, length, get_or, set, subst, arith, Ok, refl}
use Rattle.block_memory.specs.Memory.{Memory, with_bytes}
use Rattle.block_memory.specs.Bytes.{byte_count, bytes_of}
use Rattle.block_memory.specs.Blocks.{Stores}
use Rattle.block_memory.specs.declared.blocks.Trap.{Trap}
use Rattle.block_memory.proofs.Places.{place_there, place_inside, store_answer}
use Rattle.block_memory.proofs.blocks.Blocks.store_at.Goals as goal

pub index_mut-requires : goal.index_mut-requires
index_mut-requires c =
    let h = place_there c.args.self.now c.args.kind c.args.ptr.now c.args.align c.in-Some.block c.in-Some.start c.in-Some.ensures.some.0 c.in-Some.ensures.some.1 in
    omega (arith, ap length c.self.view_is, c.self.inside.cells.ok.0)

pub write-requires-clause-inside : goal.write-requires-clause-inside
write-requires-clause-inside c =
    let h = place_inside c.args.self.now c.args.kind c.args.ptr.now c.args.align c.in-Some.block c.in-Some.start c.in-Some.ensures.some.0 c.in-Some.ensures.some.1
    c.index_mut.result.now (c.index_mut.ensures.value ∙ ap (λ m. get_or m c.in-Some.block c.index_mut.result.now) c.self.view_is) in
    omega (arith, c.byte_count.ensures)

pub returns-in-Some : goal.returns-in-Some
returns-in-Some c =
    let h = store_answer c.args.self.now c.args.kind c.args.ptr.now c.args.align c.in-Some.block c.in-Some.start c.in-Some.ensures.some.0 c.in-Some.ensures.some.1
    c.index_mut.result.now (c.index_mut.ensures.value ∙ ap (λ m. get_or m c.in-Some.block c.index_mut.result.now) c.self.view_is) c.args.value.now in
    let e : c.write.new.self ≡ with_bytes c.in-Some.start (bytes_of (byte_count c.args.kind) c.args.value.now) c.index_mut.result.now =
    c.write.ensures ∙ ap (λ n. with_bytes c.in-Some.start (bytes_of n c.args.value.now) c.index_mut.result.now) c.byte_count.ensures in
    subst (λ o. Stores {E = Trap} c.args.self.now o (Ok tt) (set c.self.inside.cells.items c.in-Some.block c.write.new.self)) (sym h)
    (refl, ap (λ (m : Memory). set m c.in-Some.block c.write.new.self) c.self.view_is ∙ ap (λ x. set c.args.self.now c.in-Some.block x) e)
