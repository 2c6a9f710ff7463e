-- Nothing comes after undefined behaviour.
use Rattle.std.proofs.Common.{◌≡◌, ◌⊎◌, inl, inr, ℕ, zero, suc, List, [], ◌∷◌, ◌++◌, Option, None, Some, refl, sym, ap, ◌∙◌, subst}
use Rattle.std.specs.Prelude.{MatchOption}
use Rattle.std.proofs.lemmas.List.{append-nil}
use Rattle.ir_types.specs.declared.names.Name.{Name}
use Rattle.ir_core.specs.declared.values.Value.{Value}
use Rattle.ir_core.specs.declared.values.Kind.{Kind}
use Rattle.ir_core.specs.declared.functions.Instr.{Instr}
use Rattle.ir_core.specs.declared.functions.Instr.TheVariants as line
use Rattle.ir_core.specs.declared.functions.Term.{Term}
use Rattle.ir_core.specs.declared.functions.Term.TheVariants.{Ret, RetVoid, Br, CondBr, Switch, Unreachable}
use Rattle.ir_core.specs.declared.modules.Module.{Module}
use Rattle.ir_machine.specs.declared.items.Item.{Item}
use Rattle.ir_machine.specs.declared.items.Item.TheVariants.{Turn, Called, EnvRead, EnvWrite, EnvNew, Replied, Returned, Wrong}
use Rattle.ir_core.specs.Types.{kind_of}
use Rattle.ir_core.specs.Expressions.{type_of}
use Rattle.ir_values.specs.Constants.{Scope}
use Rattle.ir_machine.specs.Registers.{read, operand_value, outcome}
use Rattle.ir_machine.specs.State.{Frame, Pending, World, scope_of, State, Running, Waiting, Over}
use Rattle.ir_machine.specs.Machine.{Made, asks, ShowsFrom, frame_step, jump, term_step, return_step, return_void, stored_by, without_own}
use Rattle.ir_machine.specs.Starting.{start}
use Rattle.ir_machine.specs.Refinement.{WrongIsLast}
use Rattle.ir_machine.proofs.Trees.{AllDo, all_do_act, all_do_branch, all_do_call, all_do_jump, all_do_made, all_do_show, all_do_set_to, all_do_stored}
use Rattle.ir_machine.proofs.Runs.{over_shows}

-- undefined behaviour isn't among the items
abbrev pub IsCalm : List Item → Type 0
IsCalm items = (before after : List Item) → items ≡ before ++ Wrong ∷ after → ⊥

-- nothing comes after it
abbrev pub EndsWrong : List Item → Type 0
EndsWrong items = (before after : List Item) → items ≡ before ++ Wrong ∷ after → after ≡ []

calm_none : IsCalm []
calm_none [] after e = cc
calm_none (x ∷ xs) after e = cc

calm_more : (x : Item) (xs : List Item) → (x ≡ Wrong → ⊥) → IsCalm xs → IsCalm (x ∷ xs)
calm_more x xs other h [] after e = other cc
calm_more x xs other h (y ∷ ys) after e = h ys after cc

calm_rest : (x : Item) (xs : List Item) → IsCalm (x ∷ xs) → IsCalm xs
calm_rest x xs h before after e = h (x ∷ before) after (ap (λ (l : List Item). x ∷ l) e)

ends_here : EndsWrong (Wrong ∷ [])
ends_here [] after e = cc
ends_here (y ∷ ys) after e = absurd (calm_none ys after cc)

ends_later : (x : Item) (xs : List Item) → (x ≡ Wrong → ⊥) → EndsWrong xs → EndsWrong (x ∷ xs)
ends_later x xs other h [] after e = absurd (other cc)
ends_later x xs other h (y ∷ ys) after e = h ys after cc

turn_other : Turn ≡ Wrong → ⊥
turn_other e = cc

returned_calm : (x : Option _) → IsCalm (Returned x ∷ [])
returned_calm x = calm_more (Returned x) [] (λ e. cc) calm_none

-- past items that are calm
past_calm : (items rest before after : List Item) → IsCalm items → before ++ Wrong ∷ after ≡ items ++ rest → (left : List Item) × (rest ≡ left ++ Wrong ∷ after)
past_calm [] rest before after calm e = (before, sym e)
past_calm (x ∷ xs) rest [] after calm e = absurd (calm [] xs (let x_is : x ≡ Wrong = cc in cc))
past_calm (x ∷ xs) rest (y ∷ ys) after calm e = past_calm xs rest ys after (calm_rest x xs calm) cc

-- a step shows no undefined behaviour, or ends with it, and the run is over
abbrev pub WrongOnlyLast : List Item → State → Type 0
WrongOnlyLast items after = IsCalm items ⊎ ((after ≡ Over) × EndsWrong items)

return_ends : (k : Option Kind) (v : Value) (rest : List Pending) (world : World) → AllDo WrongOnlyLast (return_step k v rest world)
return_ends k v [] world = all_do_show WrongOnlyLast k v world _ _
    (inr (refl, ends_later Turn (Wrong ∷ []) turn_other ends_here))
    (λ s after. inl (calm_more Turn (Returned (Some s) ∷ []) turn_other (returned_calm (Some s))))
return_ends k v (p ∷ ps) world = inl (calm_more Turn [] turn_other calm_none)

void_ends : (rest : List Pending) (world : World) → AllDo WrongOnlyLast (return_void rest world)
void_ends [] world = inl (calm_more Turn (Returned None ∷ []) turn_other (returned_calm None))
void_ends (p ∷ ps) world = inl (calm_more Turn [] turn_other calm_none)

at_once : WrongOnlyLast (Wrong ∷ []) Over
at_once = inr (refl, ends_here)

jump_ends : (scope : Scope) (frame : Frame) (rest : List Pending) (world : World) (to : Name) → AllDo WrongOnlyLast (jump scope frame rest world to)
jump_ends scope frame rest world to = all_do_jump WrongOnlyLast scope frame rest world to at_once (λ b named. inl (calm_more Turn [] turn_other calm_none))

term_ends : (scope : Scope) (t : Term) (frame : Frame) (rest : List Pending) (world : World) → AllDo WrongOnlyLast (term_step scope t frame rest world)
term_ends scope (Ret o) frame rest world = return_ends (kind_of o.ty) (operand_value scope (read frame.registers) o) rest (without_own frame.own world)
term_ends scope RetVoid frame rest world = void_ends rest (without_own frame.own world)
term_ends scope (Br label) frame rest world = jump_ends scope frame rest world label
term_ends scope (CondBr c) frame rest world = all_do_branch WrongOnlyLast (operand_value scope (read frame.registers) c.condition) _ _ (jump scope frame rest world) at_once (jump_ends scope frame rest world)
term_ends scope (Switch s) frame rest world = all_do_branch WrongOnlyLast (operand_value scope (read frame.registers) s.value) _ _ (jump scope frame rest world) at_once (jump_ends scope frame rest world)
term_ends scope Unreachable frame rest world = at_once

frame_ends : (m : Module) (lines : List Instr) (frame : Frame) (rest : List Pending) (world : World) → AllDo WrongOnlyLast (frame_step m lines frame rest world)
frame_ends m (line.Calm b ∷ left) frame rest world =
    all_do_set_to WrongOnlyLast (kind_of (type_of b.right)) b.name (outcome (scope_of m) (read frame.registers) world.memory b.right) (record frame { lines = left }) rest world
    (λ v e. inl calm_none) (inr (refl, ends_here))
frame_ends m (line.Alloca a ∷ left) frame rest world = inl calm_none
frame_ends m (line.Store s ∷ left) frame rest world =
    all_do_stored WrongOnlyLast (stored_by (scope_of m) s frame.registers world.memory) (record frame { lines = left }) rest world (λ memory. inl calm_none) at_once
frame_ends m (line.Call c ∷ left) frame rest world = all_do_call WrongOnlyLast m c (record frame { lines = left }) rest world at_once
    (λ g b bs named blocks. inl (calm_more Turn [] turn_other calm_none))
    (λ none declared ss names. inl (calm_more (Called c.callee ss) [] (λ e. cc) calm_none))
frame_ends m [] frame rest world = term_ends (scope_of m) frame.term frame rest world

pub step_ends : (m : Module) (s : State) → AllDo WrongOnlyLast (asks m s)
step_ends m (Running frame rest world) = frame_ends m frame.lines frame rest world
step_ends m (Waiting p rest world) = λ c fits. all_do_act WrongOnlyLast p rest world at_once
    (λ s k v. inl (calm_more (Replied s) [] (λ e. cc) calm_none))
    (λ x offset s after. inl (calm_more (EnvRead x offset s) [] (λ e. cc) calm_none))
    (λ x offset s after. inl (calm_more (EnvWrite x offset s) [] (λ e. cc) calm_none))
    (λ align bytes after. inl (calm_more (EnvNew align bytes) [] (λ e. cc) calm_none))
    c
step_ends m Over = tt

run_ends_in : (m : Module) (n : ℕ) (made : Made) (rest before after : List Item) → ((left : List Item) → ShowsFrom m n made.after (left ++ Wrong ∷ after) → after ≡ [])
    → WrongOnlyLast made.items made.after → before ++ Wrong ∷ after ≡ made.items ++ rest → ShowsFrom m n made.after rest → after ≡ []
run_ends_in m n made rest before after hypothesis (inl calm) e more =
    let past : (left : List Item) × (rest ≡ left ++ Wrong ∷ after) = past_calm made.items rest before after calm e in
    hypothesis past.0 (subst (λ (shown : List Item). ShowsFrom m n made.after shown) past.1 more)
run_ends_in m n made rest before after hypothesis (inr ends) e more =
    let nothing : rest ≡ [] = over_shows m n rest (subst (λ (s : State). ShowsFrom m n s rest) ends.0 more) in
    ends.1 before after (sym (e ∙ ap (λ (l : List Item). made.items ++ l) nothing ∙ append-nil made.items))

pub run_ends : (m : Module) (n : ℕ) (s : State) (before after : List Item) → ShowsFrom m n s (before ++ Wrong ∷ after) → after ≡ []
run_ends m zero s before after h = absurd (calm_none before after (sym h))
run_ends m (suc n) s before after (inl e) = absurd (calm_none before after (sym e))
run_ends m (suc n) s before after (inr h) =
    run_ends_in m n h.0 h.1 before after (λ left more. run_ends m n h.0.after left after more)
    (all_do_made WrongOnlyLast (asks m s) h.0 (step_ends m s) h.2) h.3 h.4

wrong_is_last_from : (m : Module) (o : Option State) (n : ℕ) (before after : List Item) → MatchOption o ⊥ (λ s. ShowsFrom m n s (before ++ Wrong ∷ after)) → after ≡ []
wrong_is_last_from m None n before after h = absurd h
wrong_is_last_from m (Some s) n before after h = run_ends m n s before after h

pub wrong_is_last : WrongIsLast
wrong_is_last m f input n before after h = wrong_is_last_from m (start m f input) n before after h
