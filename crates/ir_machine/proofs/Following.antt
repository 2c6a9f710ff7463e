-- What a run may show, item by item; and what a run shows that is told its choices.
use Rattle.std.proofs.Common.{◌≡◌, inl, inr, ℕ, ℤ, zero, suc, Bool, true, false, cond, List, [], ◌∷◌, ◌++◌, Option, None, Some, MatchOption, refl, sym, ap, ◌∙◌, subst}
use Rattle.std.specs.Option.{option_and_then}
use Rattle.ir_core.specs.declared.modules.Module.{Module}
use Rattle.ir_core.specs.declared.values.Byte.{Byte}
use Rattle.ir_core.specs.declared.values.Byte.TheVariants as byte
use Rattle.ir_types.specs.declared.names.Name.TheVariants.{Number}
use Rattle.block_memory.specs.declared.items.Choice.{Choice}
use Rattle.block_memory.specs.declared.items.Choice.TheVariants as choice
use Rattle.block_memory.specs.declared.items.Shown.{Shown}
use Rattle.block_memory.specs.declared.items.ShownByte.{ShownByte}
use Rattle.ir_machine.specs.declared.items.Item.{Item}
use Rattle.ir_machine.specs.declared.items.Item.TheVariants.{EnvNew, EnvRead, EnvWrite, Wrong}
use Rattle.ir_machine.specs.CallExamples.{ran_told, told_on}
use Rattle.ir_machine.specs.CallLaws.{ToldRunsAreShown}
use Rattle.ir_machine.specs.Choices.{Answer, Did, Lacks, NoStep, answer}
use Rattle.ir_machine.specs.Machine.{Asks, Does, Ask, Never, Chosen, Told, Made, Follows, act, asks, byte_reached, is_act, is_loose, is_reply, read_byte, reply, show_byte, ShowsFrom}
use Rattle.ir_machine.specs.Refinement.{MayShowFrom}
use Rattle.ir_machine.specs.SlotLaws.{Ran, after_items}
use Rattle.ir_machine.specs.Starting.{given, start}
use Rattle.ir_machine.specs.State.{Pending, World, State, Waiting, Over}
use Rattle.ir_machine.proofs.Runs.{over_shows}
use Rattle.ir_machine.proofs.Trees.{AllDo, all_do_byte, all_do_made}

-- ---- runs that are told their choices

-- a step that is an answer is one that the tree allows
abbrev Answered : Asks → List Item → State → Type 0
Answered tree items after = (told : List Chosen) × Follows tree (record { told = told; items = items; after = after })

answered : (tree : Asks) (choices left : List Choice) (items : List Item) (after : State) → answer tree choices ≡ Did items after left → Answered tree items after
answered (Does shown leads) choices left items after e =
    let parts : (items, after) ≡ (shown, leads) = cc in
    ([], ap (λ (p : List Item × State). record { told = []; items = p.0; after = p.1 }) parts)
answered (Ask fits next) [] left items after e = absurd cc
answered (Ask fits next) (c ∷ choices) left items after e = by_fit (fits (Told c)) refl e (λ h. answered (next (Told c)) choices left items after h)
  where
    by_fit : (fit : Bool) → fits (Told c) ≡ fit → cond fit (answer (next (Told c)) choices) (Lacks choices) ≡ Did items after left
        → (answer (next (Told c)) choices ≡ Did items after left → Answered (next (Told c)) items after) → Answered (Ask fits next) items after
    by_fit true is e more = let rest : Answered (next (Told c)) items after = more e in (Told c ∷ rest.0, (Told c, _, is, rest.1, refl))
    by_fit false is e more = absurd cc
answered Never choices left items after e = absurd cc

abbrev Later : Module → ℕ → Type 0
Later m n = (left : List Choice) (next : State) (items : List Item) (after : State) → ran_told m n left next ≡ Some (items, after) → ShowsFrom m n next items

told_shows : (m : Module) (n : ℕ) (choices : List Choice) (s : State) (items : List Item) (after : State) → ran_told m n choices s ≡ Some (items, after) → ShowsFrom m n s items
told_shows m zero [] s items after e = let parts : ([], s) ≡ (items, after) = cc in sym (ap (λ (p : List Item × State). p.0) parts)
told_shows m zero (c ∷ choices) s items after e = absurd cc
told_shows m (suc n) choices s items after e =
    by_answer (answer (asks m s) choices) refl e (λ left next items after is. told_shows m n left next items after is)
  where
    by_rest : (shown : List Item) (next : State) (left : List Choice) → Answered (asks m s) shown next → (ran : Ran) → ran_told m n left next ≡ ran
        → after_items shown ran ≡ Some (items, after) → Later m n → ShowsFrom m (suc n) s items
    by_rest shown next left step None is e later = absurd cc
    by_rest shown next left step (Some more) is e later =
        let parts : (shown ++ more.0, more.1) ≡ (items, after) = cc in
        inr (record { told = step.0; items = shown; after = next }, more.0, step.1, sym (ap (λ (p : List Item × State). p.0) parts), later left next more.0 more.1 is)

    by_answer : (a : Answer) → answer (asks m s) choices ≡ a → told_on a (ran_told m n) ≡ Some (items, after) → Later m n → ShowsFrom m (suc n) s items
    by_answer (Did shown next left) is e later = by_rest shown next left (answered (asks m s) choices left shown next is) (ran_told m n left next) refl e later
    by_answer (Lacks left) is e later = absurd cc
    by_answer NoStep is e later = absurd cc

pub told_runs_are_shown : ToldRunsAreShown
told_runs_are_shown m steps choices items after e = from (start m (Number 0) (given [])) e
  where
    from : (o : Option State) → option_and_then (ran_told m steps choices) o ≡ Some (items, after) → MatchOption o ⊥ (λ s. ShowsFrom m steps s items)
    from None e = absurd cc
    from (Some s) e = told_shows m steps choices s items after e

-- ---- item by item

-- one item is shown, and no undefined behaviour; behind that item the run is in that state
abbrev pub Passes : Item → State → List Item → State → Type 0
Passes x t items after = (y : Item) × (items ≡ y ∷ []) × (y ≡ Wrong → ⊥) × (y ≡ x → after ≡ t)

nothing_wrong : (seen : List Item) → seen ++ Wrong ∷ [] ≡ [] → ⊥
nothing_wrong [] e = cc
nothing_wrong (x ∷ seen) e = cc

pub past_item : (m : Module) (s t : State) (x : Item) (rest : List Item) → AllDo (Passes x t) (asks m s) → MayShowFrom m s (x ∷ rest) → MayShowFrom m t rest
past_item m s t x rest all (inl (zero, h)) = absurd cc
past_item m s t x rest all (inl (suc n, inl e)) = absurd cc
past_item m s t x rest all (inl (suc n, inr h)) =
    let pass : Passes x t h.0.items h.0.after = all_do_made (Passes x t) (asks m s) h.0 all h.2 in
    let whole : x ∷ rest ≡ pass.0 ∷ h.1 = h.3 ∙ ap (λ (l : List Item). l ++ h.1) pass.1 in
    let same : pass.0 ≡ x = cc in
    let left : h.1 ≡ rest = cc in
    inl (n, subst (λ (u : State). ShowsFrom m n u rest) (pass.3 same) (subst (λ (l : List Item). ShowsFrom m n h.0.after l) left h.4))
past_item m s t x rest all (inr (zero, seen, left, e, h)) = absurd (nothing_wrong seen h)
past_item m s t x rest all (inr (suc n, seen, left, e, inl h)) = absurd (nothing_wrong seen h)
past_item m s t x rest all (inr (suc n, [], left, e, inr h)) =
    let pass : Passes x t h.0.items h.0.after = all_do_made (Passes x t) (asks m s) h.0 all h.2 in
    let whole : Wrong ∷ [] ≡ pass.0 ∷ h.1 = h.3 ∙ ap (λ (l : List Item). l ++ h.1) pass.1 in
    absurd (pass.2 cc)
past_item m s t x rest all (inr (suc n, z ∷ seen, left, e, inr h)) =
    let pass : Passes x t h.0.items h.0.after = all_do_made (Passes x t) (asks m s) h.0 all h.2 in
    let whole : z ∷ (seen ++ Wrong ∷ []) ≡ pass.0 ∷ h.1 = h.3 ∙ ap (λ (l : List Item). l ++ h.1) pass.1 in
    let same : pass.0 ≡ x = cc in
    let more : h.1 ≡ seen ++ Wrong ∷ [] = cc in
    let all : rest ≡ seen ++ left = cc in
    inr (n, seen, left, all, subst (λ (u : State). ShowsFrom m n u (seen ++ Wrong ∷ [])) (pass.3 same) (subst (λ (l : List Item). ShowsFrom m n h.0.after l) more h.4))

-- a step that shows that item
pub past_one : (m : Module) (s t : State) (x : Item) (rest : List Item) → asks m s ≡ Does (x ∷ []) t → (x ≡ Wrong → ⊥) → MayShowFrom m s (x ∷ rest) → MayShowFrom m t rest
past_one m s t x rest is other may = past_item m s t x rest (subst (AllDo (Passes x t)) (sym is) (x, refl, other, λ e. refl)) may

-- a step that shows nothing
pub past_none : (m : Module) (s t : State) (x : Item) (rest : List Item) → asks m s ≡ Does [] t → MayShowFrom m s (x ∷ rest) → MayShowFrom m t (x ∷ rest)
past_none m s t x rest is (inl (zero, h)) = absurd cc
past_none m s t x rest is (inl (suc n, inl e)) = absurd cc
past_none m s t x rest is (inl (suc n, inr h)) =
    let made : h.0 ≡ record { told = []; items = []; after = t } = subst (λ (tree : Asks). Follows tree h.0) is h.2 in
    let left : x ∷ rest ≡ h.1 = h.3 ∙ ap (λ (o : Made). o.items ++ h.1) made in
    inl (n, subst (λ (o : Made). ShowsFrom m n o.after (x ∷ rest)) made (subst (λ (l : List Item). ShowsFrom m n h.0.after l) (sym left) h.4))
past_none m s t x rest is (inr (zero, seen, left, e, h)) = absurd (nothing_wrong seen h)
past_none m s t x rest is (inr (suc n, seen, left, e, inl h)) = absurd (nothing_wrong seen h)
past_none m s t x rest is (inr (suc n, seen, left, e, inr h)) =
    let made : h.0 ≡ record { told = []; items = []; after = t } = subst (λ (tree : Asks). Follows tree h.0) is h.2 in
    let more : seen ++ Wrong ∷ [] ≡ h.1 = h.3 ∙ ap (λ (o : Made). o.items ++ h.1) made in
    inr (n, seen, left, e, subst (λ (o : Made). ShowsFrom m n o.after (seen ++ Wrong ∷ [])) made (subst (λ (l : List Item). ShowsFrom m n h.0.after l) (sym more) h.4))

pub over_may_not : (m : Module) (x : Item) (rest : List Item) → MayShowFrom m Over (x ∷ rest) → ⊥
over_may_not m x rest (inl (n, h)) = let none : x ∷ rest ≡ [] = over_shows m n (x ∷ rest) h in cc
over_may_not m x rest (inr (n, seen, left, e, h)) = nothing_wrong seen (over_shows m n (seen ++ Wrong ∷ []) h)

-- What the outside does that reaches no poison and has no name that leads nowhere.
module _ (P : List Item → State → Type 0) (p : Pending) (ps : List Pending) (world : World) (tight : is_loose world.names ≡ false)
    (clean : (x : ℕ) (offset : ℤ) → byte_reached world x offset ≡ Some byte.Poison → ⊥)
    (replied : (s : Option Shown) → is_reply p.kind world s ≡ true → AllDo P (reply s p ps world))
    (reads : (x : ℕ) (offset : ℤ) (b : Byte) → byte_reached world x offset ≡ Some b → (s : ShownByte) (after : World) → P (EnvRead x offset s ∷ []) (Waiting p ps after))
    (writes : (x : ℕ) (offset : ℤ) (s : ShownByte) (after : World) → P (EnvWrite x offset s ∷ []) (Waiting p ps after))
    (makes : (align : ℕ) (bytes : List ShownByte) (after : World) → P (EnvNew align bytes ∷ []) (Waiting p ps after)) where
  read_calmly : (x : ℕ) (offset : ℤ) (b : Option Byte) → byte_reached world x offset ≡ b → AllDo P (read_byte b (λ b. show_byte b world (λ s after. Does (EnvRead x offset s ∷ []) (Waiting p ps after))))
  read_calmly x offset None is = tt
  read_calmly x offset (Some b) is = all_do_byte P b world _ (λ e. absurd (clean x offset (is ∙ ap Some e))) (λ s after. reads x offset b is s after)

  act_calmly : (c : Chosen) → is_act p world c ≡ true → AllDo P (act c p ps world)
  act_calmly (Told (choice.Reply s)) fits = replied s fits
  act_calmly (Told choice.Wrong) fits = let e : false ≡ true = sym tight ∙ fits in absurd cc
  act_calmly (Told (choice.Read x offset)) fits = read_calmly x offset (byte_reached world x offset) refl
  act_calmly (Told (choice.Write x offset new)) fits = writes x offset new _
  act_calmly (Told (choice.New align bytes)) fits = makes align bytes _
  act_calmly c fits = absurd cc

  pub all_do_calmly : (m : Module) → AllDo P (asks m (Waiting p ps world))
  all_do_calmly m = λ c fits. act_calmly c fits
