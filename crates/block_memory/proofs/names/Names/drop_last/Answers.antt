use Rattle.std.proofs.Common.{◌≡◌, ap, ◌∙◌, sym, nat_eq, length, None, Some, subst, [], ◌∷◌, ◌++◌}
use Rattle.std.specs.Map.{lookup}
use Rattle.std.specs.Option.{option_to_list}
use Rattle.block_memory.specs.FirstNames.{AreFirst, loose_count}
use Rattle.block_memory.specs.Names.{Names}
use Rattle.block_memory.proofs.KeptNames.{none_gone, other_gone, first_gone, bound_gone, loose_gone, is_that, is_not_that}
use Rattle.block_memory.proofs.names.Names.drop_last.Goals as goal

pub invariant_of-self-inside-in_default-last : goal.invariant_of-self-inside-in_default-last
invariant_of-self-inside-in_default-last c =
    let items : c.self.inside.bound.items ≡ c.pop.new.self.items ++ None ∷ [] = c.pop.ensures.items ∙ ap (λ o. c.pop.new.self.items ++ option_to_list o) (c.in-Some.is ∙ ap Some c.in_default-last.is) in
    let found : AreFirst (c.pop.new.self.items ++ None ∷ []) c.self.inside.first.entries = subst (λ (names : Names). AreFirst names c.self.inside.first.entries) items c.self.inside.found in
    (loose_gone c.pop.new.self.items c.self.inside.loose (c.self.inside.counted ∙ ap loose_count items), (none_gone c.pop.new.self.items c.self.inside.first.entries found, tt))

pub invariant_of-self-inside-then-eq : goal.invariant_of-self-inside-then-eq
invariant_of-self-inside-then-eq c =
    let items : c.self.inside.bound.items ≡ c.pop.new.self.items ++ Some c.in-Some-last.block ∷ [] = c.pop.ensures.items ∙ ap (λ o. c.pop.new.self.items ++ option_to_list o) (c.in-Some.is ∙ ap Some c.in-Some-last.is) in
    let found : AreFirst (c.pop.new.self.items ++ Some c.in-Some-last.block ∷ []) c.self.inside.first.entries = subst (λ (names : Names). AreFirst names c.self.inside.first.entries) items c.self.inside.found in
    let is : lookup (nat_eq c.in-Some-last.block) c.self.inside.first.entries ≡ Some (length c.pop.new.self.items) =
    sym (c.copied.ensures ∙ c.get.ensures.value) ∙ is_that c.copied.result c.len.result (sym c.eq.ensures ∙ c.if-eq.true) ∙ ap Some (c.len.ensures ∙ c.pop.new.self.ok.0) in (
      bound_gone c.pop.new.self.items c.in-Some-last.block c.self.inside.loose (c.self.inside.counted ∙ ap loose_count items),
      (first_gone c.pop.new.self.items c.self.inside.first.entries c.in-Some-last.block found c.swap_remove.new.self.entries is c.swap_remove.ensures.updates.0, tt),
    )

pub invariant_of-self-inside-else-eq : goal.invariant_of-self-inside-else-eq
invariant_of-self-inside-else-eq c =
    let items : c.self.inside.bound.items ≡ c.pop.new.self.items ++ Some c.in-Some-last.block ∷ [] = c.pop.ensures.items ∙ ap (λ o. c.pop.new.self.items ++ option_to_list o) (c.in-Some.is ∙ ap Some c.in-Some-last.is) in
    let found : AreFirst (c.pop.new.self.items ++ Some c.in-Some-last.block ∷ []) c.self.inside.first.entries = subst (λ (names : Names). AreFirst names c.self.inside.first.entries) items c.self.inside.found in (
      bound_gone c.pop.new.self.items c.in-Some-last.block c.self.inside.loose (c.self.inside.counted ∙ ap loose_count items),
      (
        other_gone c.pop.new.self.items c.self.inside.first.entries c.in-Some-last.block found
            (λ e. is_not_that c.copied.result c.len.result (sym c.eq.ensures ∙ c.if-eq.false) (c.copied.ensures ∙ c.get.ensures.value ∙ e ∙ ap Some (sym (c.len.ensures ∙ c.pop.new.self.ok.0)))),
        tt,
      ),
    )
