-- How choices that are told answer a step.
use Rattle.std.proofs.Common.{◌≡◌, ◌↔◌, Bool, true, false, cond, List, [], ◌∷◌, ◌++◌, map, Option, None, Some, Result, Ok, Err, IfOk, refl, sym, ap, ◌∙◌, subst}
use Rattle.std.proofs.lemmas.List.{append_cancel_right}
use Rattle.ir_core.specs.declared.values.Value.{Value}
use Rattle.ir_core.specs.declared.values.Value.TheVariants as value
use Rattle.ir_core.specs.declared.values.Kind.{Kind}
use Rattle.block_memory.specs.declared.items.Choice.{Choice}
use Rattle.block_memory.specs.declared.items.Shown.{Shown}
use Rattle.block_memory.specs.declared.names.ShowEnd.{ShowEnd}
use Rattle.block_memory.specs.declared.names.ShowEnd.TheVariants as end
use Rattle.block_memory.specs.Names.{Chooses, IsShown, Names, Showing, chosen_maybe, shown_of}
use Rattle.ir_machine.specs.declared.items.Item.{Item}
use Rattle.ir_machine.specs.declared.items.Item.TheVariants.{Turn, Returned, Wrong}
use Rattle.ir_machine.specs.State.{World, State, Over}
use Rattle.ir_machine.specs.Machine.{Asks, Does, Ask, Never, Chosen, Told, Made, Follows, show, show_undef, shown_as, return_step}
use Rattle.ir_machine.specs.Choices.{Answer, Did, Lacks, answer, Leaves, TakesAsked, TakesNext, AnswersAreSteps, AnswersTakeAsked}
use Rattle.ir_machine.specs.Showing.{ShowingAnswers}

-- choices that are told
abbrev pub all_told : List Choice → List Chosen
all_told cs = map Told cs

abbrev told_made : List Choice → List Item → State → Made
told_made told items after = record { told = all_told told; items = items; after = after }

abbrev the_choice : Chosen → Choice → Choice
the_choice (Told c) d = c
the_choice c d = d

-- that choice was told
one_told : (c d : Choice) → Told c ≡ Told d → c ≡ d
one_told c d e = ap (λ (x : Chosen). the_choice x c) e

-- a step that the tree allows is its answer
follows_answers : (tree : Asks) (told : List Choice) (items : List Item) (state : State) (left : List Choice) → Follows tree (told_made told items state)
    → answer tree (told ++ left) ≡ Did items state left
follows_answers (Does shows leads) [] items state left f = ap (λ (m : Made). Did m.items m.after left) (sym f)
follows_answers (Does shows leads) (c ∷ told) items state left f = let none : Told c ∷ all_told told ≡ [] = ap (λ (m : Made). m.told) f in cc
follows_answers (Ask fits next) [] items state left f = let none : [] ≡ f.0 ∷ f.1.told = ap (λ (m : Made). m.told) f.4 in cc
follows_answers (Ask fits next) (c ∷ told) items state left f =
    let all : Told c ∷ all_told told ≡ f.0 ∷ f.1.told = ap (λ (m : Made). m.told) f.4 in
    let same : f.0 ≡ Told c = cc in
    let more : f.1 ≡ told_made told items state = made_of f.1 (all_told told) items state (cc) (sym (ap (λ (m : Made). m.items) f.4)) (sym (ap (λ (m : Made). m.after) f.4)) in
    let rest : Follows (next (Told c)) (told_made told items state) = subst (λ (m : Made). Follows (next (Told c)) m) more (subst (λ (d : Chosen). Follows (next d) f.1) same f.3) in
    let is : fits (Told c) ≡ true = subst (λ (d : Chosen). fits d ≡ true) same f.2 in
    ap (λ (b : Bool). cond b (answer (next (Told c)) (told ++ left)) (Lacks (told ++ left))) is ∙ follows_answers (next (Told c)) told items state left rest
  where
    made_of : (m : Made) (cs : List Chosen) (items : List Item) (after : State) → m.told ≡ cs → m.items ≡ items → m.after ≡ after → m ≡ record { told = cs; items = items; after = after }
    made_of m cs items after e f g = rw (← e, ← f, ← g) refl
follows_answers Never told items state left f = absurd f

-- a step that is the answer to some choices is one that the tree allows, told the first of them
abbrev pub Allows : Asks → List Choice → List Choice → List Item → State → Type 0
Allows tree before left items state = (told : List Choice) × (before ≡ told ++ left) × Follows tree (told_made told items state)

answer_allows : (tree : Asks) (before left : List Choice) (items : List Item) (state : State) → answer tree before ≡ Did items state left → Allows tree before left items state
answer_allows (Does shows leads) before left items state e =
    let rest : before ≡ left = cc in
    let parts : (items, state) ≡ (shows, leads) = cc in
    ([], rest, ap (λ (p : List Item × State). record { told = []; items = p.0; after = p.1 }) parts)
answer_allows (Ask fits next) [] left items state e = absurd (cc)
answer_allows (Ask fits next) (c ∷ before) left items state e = by_fit (fits (Told c)) refl e (λ h. answer_allows (next (Told c)) before left items state h)
  where
    by_fit : (fit : Bool) → fits (Told c) ≡ fit → cond fit (answer (next (Told c)) before) (Lacks before) ≡ Did items state left
        → (answer (next (Told c)) before ≡ Did items state left → Allows (next (Told c)) before left items state) → Allows (Ask fits next) (c ∷ before) left items state
    by_fit true is e more =
        let rest : Allows (next (Told c)) before left items state = more e in
        (c ∷ rest.0, ap (λ (l : List Choice). c ∷ l) rest.1, (Told c, told_made rest.0 items state, is, rest.2, refl))
    by_fit false is e more = absurd (cc)
answer_allows Never before left items state e = absurd (cc)

answer_follows : (tree : Asks) (told : List Choice) (items : List Item) (state : State) (left : List Choice) → answer tree (told ++ left) ≡ Did items state left
    → Follows tree (told_made told items state)
answer_follows tree told items state left e =
    let allowed : Allows tree (told ++ left) left items state = answer_allows tree (told ++ left) left items state e in
    let same : allowed.0 ≡ told = append_cancel_right allowed.0 told left (sym allowed.1) in
    subst (λ (cs : List Choice). Follows tree (told_made cs items state)) same allowed.2

pub answers_are_steps : AnswersAreSteps
answers_are_steps tree told items after left = (follows_answers tree told items after left, answer_follows tree told items after left)

pub answers_take_asked : AnswersTakeAsked
answers_take_asked (Does items after) told left e = ([], e, refl)
answers_take_asked (Ask fits next) [] left e = ([], e, refl)
answers_take_asked (Ask fits next) (c ∷ told) left e = by_fit (fits (Told c)) refl e (λ h. answers_take_asked (next (Told c)) told left h)
  where
    by_fit : (fit : Bool) → fits (Told c) ≡ fit → Leaves (cond fit (answer (next (Told c)) told) (Lacks told)) left
        → (Leaves (answer (next (Told c)) told) left → TakesAsked (next (Told c)) told left) → TakesAsked (Ask fits next) (c ∷ told) left
    by_fit true is e more =
        let rest : TakesAsked (next (Told c)) told left = more e in
        (c ∷ rest.0, ap (λ (l : List Choice). c ∷ l) rest.1, rw is rest.2)
    by_fit false is e more = (c ∷ [], ap (λ (l : List Choice). c ∷ l) e, rw is refl)
answers_take_asked Never told left e = absurd e

leaves_of : (a b : Answer) (left : List Choice) → a ≡ b → Leaves b left → Leaves a left
leaves_of a b left e h = subst (λ (x : Answer). Leaves x left) (sym e) h

pub did_takes_asked : (tree : Asks) (before after : List Choice) (items : List Item) (state : State) → answer tree before ≡ Did items state after → TakesAsked tree before after
did_takes_asked tree before after items state e = answers_take_asked tree before after (leaves_of (answer tree before) (Did items state after) after e refl)

pub lacks_takes_asked : (tree : Asks) (before after : List Choice) → answer tree before ≡ Lacks after → TakesAsked tree before after
lacks_takes_asked tree before after e = answers_take_asked tree before after (leaves_of (answer tree before) (Lacks after) after e refl)

-- ---- showing

-- where undef is shown by the next choice, its tree answers as what follows
module _ (k : Kind) (world : World) (new : Names) (before after : List Choice) (poison : Asks) (next : Shown → World → Asks) where
  abbrev choosing_answers : Option Choice → Option Showing → Result Shown ShowEnd → Type 0
  choosing_answers choice o r = TakesNext choice before after → chosen_maybe k world.memory world.names choice ≡ o → Chooses world.names o r new
      → ShowingAnswers r (show_undef (Some k) world poison next) before poison next (record world { names = new }) after

  none_chosen : (r : Result Shown ShowEnd) (choice : Option Choice) → choosing_answers choice None r
  none_chosen r None takes is chooses = rw (chooses.0, takes.0, takes.1) refl
  none_chosen r (Some c) takes is chooses = rw (chooses.0, takes, is) refl

  one_chosen : (r : Result Shown ShowEnd) (choice : Option Choice) (showing : Showing) → choosing_answers choice (Some showing) r
  one_chosen r None showing takes is chooses = absurd (cc)
  one_chosen (Ok s) (Some c) showing takes is chooses = rw (takes, is, chooses) refl
  one_chosen (Err e) (Some c) showing takes is chooses = rw (chooses.0) (showing.0, record world { names = showing.1 }, rw (takes, is) refl)

  by_choice : (choice : Option Choice) (o : Option Showing) (r : Result Shown ShowEnd) → choosing_answers choice o r
  by_choice choice None r = none_chosen r choice
  by_choice choice (Some showing) r = one_chosen r choice showing

  pub undef_shown : (kind : Option Kind) (choice : Option Choice) (r : Result Shown ShowEnd) → kind ≡ Some k → TakesNext choice before after
      → Chooses world.names (chosen_maybe k world.memory world.names choice) r new
      → ShowingAnswers r (show_undef kind world poison next) before poison next (record world { names = new }) after
  undef_shown kind choice r is takes chooses = rw is (by_choice choice (chosen_maybe k world.memory world.names choice) r takes refl chooses)

-- any other value is shown without a choice
module _ (kind : Option Kind) (k : Kind) (world : World) (new : Names) (script : List Choice) (poison : Asks) (next : Shown → World → Asks) where
  known_answers : (v : Value) (s : Shown) → shown_of world.names v ≡ Some (s, new) → answer (shown_as (shown_of world.names v) world next) script ≡ answer (next s (record world { names = new })) script
  known_answers v s is = ap (λ (o : Option Showing). answer (shown_as o world next) script) is

  unknown_memory : (v : Value) (showing : Showing) → shown_of world.names v ≡ Some showing
      → (s : Shown) × (w : World) × (answer (shown_as (shown_of world.names v) world next) script ≡ answer (next s w) script)
  unknown_memory v showing is = (showing.0, record world { names = showing.1 }, ap (λ (o : Option Showing). answer (shown_as o world next) script) is)

  pub value_shown : (v : Value) (choice : Option Choice) (r : Result Shown ShowEnd) → (v ≡ value.Undef → ⊥)
      → IfOk r (λ s. IsShown v k world.memory world.names s new) → ((r ≡ Err end.Wrong) ↔ (v ≡ value.Poison))
      → ((r ≡ Err end.NoChoice) ↔ ((v ≡ value.Undef) × (chosen_maybe k world.memory world.names choice ≡ None)))
      → ShowingAnswers r (show kind v world poison next) script poison next (record world { names = new }) script
  value_shown value.Undef choice r other ok wrong lacks = absurd (other refl)
  value_shown v choice (Err end.NoChoice) other ok wrong lacks = absurd (other (lacks.0 refl).0)
  value_shown value.Poison choice (Err end.Wrong) other ok wrong lacks = refl
  value_shown (value.Num n) choice (Err end.Wrong) other ok wrong lacks = absurd (cc (wrong.0 refl))
  value_shown (value.Ptr block offset) choice (Err end.Wrong) other ok wrong lacks = absurd (cc (wrong.0 refl))
  value_shown (value.Bare address) choice (Err end.Wrong) other ok wrong lacks = absurd (cc (wrong.0 refl))
  value_shown value.Poison choice (Err end.Memory) other ok wrong lacks = absurd (cc (wrong.1 refl))
  value_shown (value.Num n) choice (Err end.Memory) other ok wrong lacks = unknown_memory (value.Num n) _ refl
  value_shown (value.Ptr block offset) choice (Err end.Memory) other ok wrong lacks = unknown_memory (value.Ptr block offset) _ refl
  value_shown (value.Bare address) choice (Err end.Memory) other ok wrong lacks = unknown_memory (value.Bare address) _ refl
  value_shown value.Poison choice (Ok s) other ok wrong lacks = absurd ok
  value_shown (value.Num n) choice (Ok s) other ok wrong lacks = known_answers (value.Num n) s ok
  value_shown (value.Ptr block offset) choice (Ok s) other ok wrong lacks = known_answers (value.Ptr block offset) s ok
  value_shown (value.Bare address) choice (Ok s) other ok wrong lacks = known_answers (value.Bare address) s ok

-- ---- the last return

-- told nothing, it is asked for nothing but what it lacks
pub return_asks_none : (k : Option Kind) (v : Value) (world : World) (script : List Choice) → TakesAsked (return_step k v [] world) script script
return_asks_none k v world script = ([], refl, leaves_none v)
  where
    undef_leaves : (k : Option Kind) → Leaves (answer (return_step k value.Undef [] world) []) []
    undef_leaves None = refl
    undef_leaves (Some k) = refl

    leaves_none : (v : Value) → Leaves (answer (return_step k v [] world) []) []
    leaves_none value.Poison = refl
    leaves_none value.Undef = undef_leaves k
    leaves_none (value.Num n) = refl
    leaves_none (value.Ptr block offset) = refl
    leaves_none (value.Bare address) = refl

-- whatever showing the result leads to, the choices that were taken are asked for
pub return_takes_asked : (r : Result Shown ShowEnd) (k : Option Kind) (v : Value) (world then : World) (before after : List Choice)
    → ((poison : Asks) (next : Shown → World → Asks) → ShowingAnswers r (show k v world poison next) before poison next then after) → TakesAsked (return_step k v [] world) before after
return_takes_asked (Ok s) k v world then before after h = did_takes_asked (return_step k v [] world) before after (Turn ∷ Returned (Some s) ∷ []) Over (h _ _)
return_takes_asked (Err end.Wrong) k v world then before after h =
    did_takes_asked (return_step k v [] world) before after (Turn ∷ Wrong ∷ []) Over (h _ (λ s after. Does (Turn ∷ Returned (Some s) ∷ []) Over))
return_takes_asked (Err end.NoChoice) k v world then before after h = lacks_takes_asked (return_step k v [] world) before after (h _ _)
return_takes_asked (Err end.Memory) k v world then before after h =
    let some = h (Does (Turn ∷ Wrong ∷ []) Over) (λ s after. Does (Turn ∷ Returned (Some s) ∷ []) Over) in
    did_takes_asked (return_step k v [] world) before after (Turn ∷ Returned (Some some.0) ∷ []) Over some.2
