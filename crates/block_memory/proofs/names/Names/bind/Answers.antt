use Rattle.std.proofs.Common.{◌≡◌, ◌+◌, ap, ◌∙◌, sym, Some, None, subst, [], ◌∷◌, ◌++◌}
use Rattle.block_memory.specs.FirstNames.{AreFirst, loose_count}
use Rattle.block_memory.specs.Names.{Names}
use Rattle.block_memory.proofs.KeptNames.{none_behind, known_behind, new_behind, bound_behind, loose_behind}
use Rattle.block_memory.proofs.names.Names.bind.Goals as goal

pub invariant_of-self-inside-in_default : goal.invariant_of-self-inside-in_default
invariant_of-self-inside-in_default c =
    let items : c.push_reserved.new.self.items ≡ c.self.inside.bound.items ++ None ∷ [] = c.push_reserved.ensures.items ∙ ap (λ (ns : Names). ns ++ None ∷ []) c.reserve.ensures.items in (
      ap (λ n. n + 1) c.self.inside.counted ∙ sym (loose_behind c.self.inside.bound.items) ∙ ap loose_count (sym items),
      (subst (λ (ns : Names). AreFirst ns c.self.inside.first.entries) (sym items) (none_behind c.self.inside.bound.items c.self.inside.first.entries c.self.inside.found), tt),
    )

pub invariant_of-self-inside-then-contains_key : goal.invariant_of-self-inside-then-contains_key
invariant_of-self-inside-then-contains_key c =
    let items : c.push_reserved-then-contains_key.new.self.items ≡ c.self.inside.bound.items ++ Some c.in-Some.own ∷ [] =
    c.push_reserved-then-contains_key.ensures.items ∙ ap (λ (ns : Names). ns ++ Some c.in-Some.own ∷ []) c.reserve.ensures.items in (
      c.self.inside.counted ∙ sym (bound_behind c.self.inside.bound.items c.in-Some.own) ∙ ap loose_count (sym items),
      (
        subst (λ (ns : Names). AreFirst ns c.self.inside.first.entries) (sym items)
            (known_behind c.self.inside.bound.items c.self.inside.first.entries c.self.inside.found c.in-Some.own (sym c.contains_key.ensures ∙ c.if-contains_key.true)),
        tt,
      ),
    )

pub invariant_of-self-inside-2 : goal.invariant_of-self-inside-2
invariant_of-self-inside-2 c =
    let items : c.push_reserved-2.new.self.items ≡ c.self.inside.bound.items ++ Some c.in-Some.own ∷ [] =
    c.push_reserved-2.ensures.items ∙ ap (λ (ns : Names). ns ++ Some c.in-Some.own ∷ []) c.reserve.ensures.items in (
      c.self.inside.counted ∙ sym (bound_behind c.self.inside.bound.items c.in-Some.own) ∙ ap loose_count (sym items),
      (
        subst (λ (ns : Names). AreFirst ns c.insert.new.self.entries) (sym items)
            (new_behind c.self.inside.bound.items c.self.inside.first.entries c.self.inside.found c.insert.new.self.entries c.in-Some.own c.len-name.result
            (sym c.contains_key.ensures ∙ c.if-contains_key.false) (c.len-name.ensures ∙ c.self.inside.bound.ok.0) c.in_ok-insert.ensures.updates.0),
        tt,
      ),
    )
