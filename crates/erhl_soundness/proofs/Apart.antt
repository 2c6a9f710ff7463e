-- Two phis of one register: what is accepted doesn't refine.
use Rattle.std.proofs.Common.{◌≡◌, ◌⊎◌, inl, inr, ℕ, zero, suc, List, [], ◌∷◌, ◌++◌, Some, refl, ap₂, subst, ◌∙◌, ⊎_elim}
use Rattle.ir_types.specs.declared.names.Name.TheVariants.{Number}
use Rattle.ir_core.specs.declared.functions.Term.TheVariants.{Br}
use Rattle.ir_core.specs.declared.functions.Function.{Function}
use Rattle.ir_core.specs.declared.modules.Module.{Module}
use Rattle.ir_machine.specs.Starting.{given}
use Rattle.ir_machine.specs.declared.items.Item.{Item}
use Rattle.ir_machine.specs.declared.items.Item.TheVariants.{Turn, Returned, Wrong}
use Rattle.ir_values.proofs.ConstantWalks.{of_number, worth_number}
use Rattle.block_memory.specs.declared.items.Shown.TheVariants as shown
use Rattle.ir_machine.specs.declared.inputs.Input.{Input}
use Rattle.ir_machine.specs.Registers.{no_registers}
use Rattle.ir_machine.specs.State.{no_world, scope_of, State, Running, Over}
use Rattle.ir_machine.specs.Machine.{Does, Follows, Made, asks, at_block, with_phis, ShowsFrom}
use Rattle.ir_machine.specs.Refinement.{Shows, MayShowFrom, MayShow}
use Rattle.ir_machine.proofs.Runs.{over_shows}
use Rattle.erhl_soundness.specs.Examples.{number}
use Rattle.erhl_soundness.specs.FlowExamples.{held, block, returning, twice, doubled, module_of, claiming_one}
use Rattle.erhl_soundness.specs.FlowLaws.{PhisMustBeApart}

abbrev first : Function
first = doubled (held 3)

abbrev second : Function
second = doubled (number 1)

abbrev source : Module
source = module_of first

abbrev target : Module
target = module_of second

abbrev no_input : Input
no_input = given []

-- ---- what the source shows

abbrev at_start : State
at_start = Running (at_block first (block 10 [] [] (Br (Number 12))) no_registers []) [] no_world

abbrev at_end : State
at_end = Running (at_block first (block 12 twice [] (returning (held 3))) (with_phis (scope_of source) no_registers (Number 10) twice no_registers) []) [] no_world

abbrev result : ℕ → List Item
result n = Turn ∷ Returned (Some (shown.Num n)) ∷ []

abbrev ends_with_two : Made
ends_with_two = record { told = []; items = result 2; after = Over }

end_asks : asks source at_end ≡ Does (result 2) Over
end_asks = simp (of_number, worth_number) refl

shows_end : (n : ℕ) (items : List Item) → ShowsFrom source n at_end items → (items ≡ []) ⊎ (items ≡ result 2)
shows_end zero items h = inl h
shows_end (suc n) items (inl e) = inl e
shows_end (suc n) items (inr h) =
    let made : h.0 ≡ ends_with_two = subst (λ a. Follows a h.0) end_asks h.2 in
    let none = over_shows source n h.1 (subst (λ (m : Made). ShowsFrom source n m.after h.1) made h.4) in
    inr (h.3 ∙ ap₂ (λ (m : Made) (r : List Item). m.items ++ r) made none)

abbrev jumps_on : Made
jumps_on = record { told = []; items = Turn ∷ []; after = at_end }

abbrev OneOf : List Item → Type 0
OneOf items = (items ≡ []) ⊎ (items ≡ Turn ∷ []) ⊎ (items ≡ Turn ∷ result 2)

shows_start : (n : ℕ) (items : List Item) → ShowsFrom source n at_start items → OneOf items
shows_start zero items h = inl h
shows_start (suc n) items (inl e) = inl e
shows_start (suc n) items (inr h) =
    let made : h.0 ≡ jumps_on = h.2 in
    let rest = shows_end n h.1 (subst (λ (m : Made). ShowsFrom source n m.after h.1) made h.4) in
    ⊎_elim
    (λ (e : h.1 ≡ []). inr (inl (h.3 ∙ ap₂ (λ (m : Made) (r : List Item). m.items ++ r) made e)))
    (λ (e : h.1 ≡ result 2). inr (inr (h.3 ∙ ap₂ (λ (m : Made) (r : List Item). m.items ++ r) made e)))
    rest

never_wrong : (seen : List Item) → OneOf (seen ++ Wrong ∷ []) → ⊥
never_wrong [] h = ⊎_elim (λ e. cc) (λ k. ⊎_elim (λ e. cc) (λ e. cc) k) h
never_wrong (a ∷ []) h = ⊎_elim (λ e. cc) (λ k. ⊎_elim (λ e. cc) (λ e. cc) k) h
never_wrong (a ∷ b ∷ []) h = ⊎_elim (λ e. cc) (λ k. ⊎_elim (λ e. cc) (λ e. cc) k) h
never_wrong (a ∷ b ∷ d ∷ seen) h = ⊎_elim (λ e. cc) (λ k. ⊎_elim (λ e. cc) (λ e. never_longer seen (tail_of e)) k) h
  where
    never_longer : (seen : List Item) → seen ++ Wrong ∷ [] ≡ [] → ⊥
    never_longer [] e = cc
    never_longer (f ∷ seen) e = cc

    tail_of : a ∷ b ∷ d ∷ (seen ++ Wrong ∷ []) ≡ Turn ∷ result 2 → seen ++ Wrong ∷ [] ≡ []
    tail_of e = cc

abbrev wanted : List Item
wanted = Turn ∷ result 1

not_shown : MayShow source (Number 0) no_input wanted → ⊥
not_shown h = none h
  where
    differs : OneOf wanted → ⊥
    differs (inl e) = cc
    differs (inr (inl e)) = cc
    differs (inr (inr e)) = cc

    none : MayShowFrom source at_start wanted → ⊥
    none (inl g) = differs (shows_start g.0 wanted g.1)
    none (inr g) = never_wrong g.1 (shows_start g.0 (g.1 ++ Wrong ∷ []) g.4)

-- ---- what the target shows

target_shows : Shows target (Number 0) no_input 2 wanted
target_shows = inr (_, result 1, refl, refl, inr (record { told = []; items = result 1; after = Over }, [], simp (of_number, worth_number) refl, refl, refl))

pub must_be_apart : PhisMustBeApart
must_be_apart theorem =
    not_shown (theorem [] source target (λ name scope schema h. absurd (cc)) refl (refl, (claiming_one, (_, refl)), tt) (Number 0) no_input 2 wanted target_shows)
