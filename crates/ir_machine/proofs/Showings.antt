-- What showing a value comes to, whatever choices come after, and what showing all arguments comes to.
use Rattle.std.proofs.Common.{◌≡◌, ◌∙◌, ◌↔◌, ℕ, List, [], ◌∷◌, ◌++◌, drop, take, length, get_or, ◌<◌, ◌≤◌, ◌+◌, Option, None, Some, Result, Ok, Err, IfOk, refl, sym, ap, subst, append_assoc, add-one}
use Rattle.std.proofs.lemmas.List.{append-nil, take-append-drop}
use Rattle.std.proofs.Math.ListN.{drop_of_length-le}
use Rattle.std.proofs.Math.Seq.{drop-cons}
use Rattle.ir_core.specs.declared.functions.Argument.{Argument}
use Rattle.ir_core.specs.Types.{kind_of}
use Rattle.ir_values.specs.Constants.{Scope}
use Rattle.ir_machine.specs.Registers.{Registers, operand_value, read}
use Rattle.ir_core.specs.declared.values.Kind.{Kind}
use Rattle.ir_core.specs.declared.values.Value.{Value}
use Rattle.ir_core.specs.declared.values.Value.TheVariants as value
use Rattle.block_memory.specs.declared.items.Choice.{Choice}
use Rattle.block_memory.specs.declared.items.Shown.{Shown}
use Rattle.block_memory.specs.declared.names.ShowEnd.{ShowEnd}
use Rattle.block_memory.specs.declared.names.ShowEnd.TheVariants as end
use Rattle.block_memory.specs.Names.{Chooses, IsShown, Names, Showing, chosen_maybe, shown_of}
use Rattle.ir_machine.specs.Choices.{Answer, answer, Leaves, TakesAsked, TakesNext}
use Rattle.ir_machine.specs.Machine.{Asks, arguments_of, show, show_all, show_undef, shown_as, wrong}
use Rattle.ir_machine.specs.Showing.{Leads, ShowingLeads, ShowsAll}
use Rattle.ir_machine.specs.State.{World}
use Rattle.ir_machine.proofs.Telling.{answers_take_asked, undef_shown, value_shown}

-- ---- a value

module _ (k : Kind) (world : World) (new : Names) (before after : List Choice) (poison : Asks) (next : Shown → World → Asks) (kind : Option Kind) (is : kind ≡ Some k) where
  leads_by : (choice : Option Choice) (o : Option Showing) (r : Result Shown ShowEnd) → TakesNext choice before after → chosen_maybe k world.memory world.names choice ≡ o
      → Chooses world.names o r new → ShowingLeads r (show_undef kind world poison next) before poison next (record world { names = new }) after
  leads_by choice o (Err end.NoChoice) takes e h =
      undef_shown k world new before after poison next kind choice (Err end.NoChoice) is takes (subst (λ (x : Option Showing). Chooses world.names x (Err end.NoChoice) new) (sym e) h)
  leads_by choice None (Ok s) takes e h = let no : Ok s ≡ Err end.NoChoice = h.0 in cc
  leads_by choice None (Err end.Wrong) takes e h = let no : ◌≡◌ {A = Result Shown ShowEnd} (Err end.Wrong) (Err end.NoChoice) = h.0 in cc
  leads_by choice None (Err end.Memory) takes e h = let no : ◌≡◌ {A = Result Shown ShowEnd} (Err end.Memory) (Err end.NoChoice) = h.0 in cc
  leads_by choice (Some showing) (Err end.Wrong) takes e h = let no : end.Wrong ≡ end.Memory = h.0 in cc
  leads_by None (Some showing) (Ok s) takes e h = cc
  leads_by None (Some showing) (Err end.Memory) takes e h = cc
  leads_by (Some c) (Some showing) (Ok s) takes e h = (
    c ∷ [],
    takes,
    λ more. undef_shown k world new (c ∷ more) more poison next kind (Some c) (Ok s) is refl (subst (λ (x : Option Showing). Chooses world.names x (Ok s) new) (sym e) h),
  )
  leads_by (Some c) (Some showing) (Err end.Memory) takes e h = (showing.0, record world { names = showing.1 }, (c ∷ [], takes, λ more. rw (is, e) refl))

  pub undef_leads : (choice : Option Choice) (r : Result Shown ShowEnd) → TakesNext choice before after → Chooses world.names (chosen_maybe k world.memory world.names choice) r new
      → ShowingLeads r (show_undef kind world poison next) before poison next (record world { names = new }) after
  undef_leads choice r takes h = leads_by choice (chosen_maybe k world.memory world.names choice) r takes refl h

module _ (kind : Option Kind) (k : Kind) (world : World) (new : Names) (script : List Choice) (poison : Asks) (next : Shown → World → Asks) where
  some_leads : (v : Value) (showing : Showing) → shown_of world.names v ≡ Some showing
      → (s : Shown) × (w : World) × Leads (shown_as (shown_of world.names v) world next) script (next s w) script
  some_leads v showing is = (showing.0, record world { names = showing.1 }, ([], refl, λ more. ap (λ (o : Option Showing). answer (shown_as o world next) more) is))

  pub value_leads : (v : Value) (choice : Option Choice) (r : Result Shown ShowEnd) → (v ≡ value.Undef → ⊥)
      → IfOk r (λ s. IsShown v k world.memory world.names s new) → ((r ≡ Err end.Wrong) ↔ (v ≡ value.Poison))
      → ((r ≡ Err end.NoChoice) ↔ ((v ≡ value.Undef) × (chosen_maybe k world.memory world.names choice ≡ None)))
      → ShowingLeads r (show kind v world poison next) script poison next (record world { names = new }) script
  value_leads v choice (Ok s) other ok wrong lacks = ([], refl, λ more. value_shown kind k world new more poison next v choice (Ok s) other ok wrong lacks)
  value_leads v choice (Err end.Wrong) other ok wrong lacks = ([], refl, λ more. value_shown kind k world new more poison next v choice (Err end.Wrong) other ok wrong lacks)
  value_leads v choice (Err end.NoChoice) other ok wrong lacks = value_shown kind k world new script poison next v choice (Err end.NoChoice) other ok wrong lacks
  value_leads value.Undef choice (Err end.Memory) other ok wrong lacks = absurd (other refl)
  value_leads value.Poison choice (Err end.Memory) other ok wrong lacks = absurd (cc (wrong.1 refl))
  value_leads (value.Num n) choice (Err end.Memory) other ok wrong lacks = some_leads (value.Num n) _ refl
  value_leads (value.Ptr block offset) choice (Err end.Memory) other ok wrong lacks = some_leads (value.Ptr block offset) _ refl
  value_leads (value.Bare address) choice (Err end.Memory) other ok wrong lacks = some_leads (value.Bare address) _ refl

-- ---- one after the other

pub leads_nowhere : (a : Asks) (x : List Choice) → Leads a x a x
leads_nowhere a x = ([], refl, λ more. refl)

pub leads_on : (a b c : Asks) (x y z : List Choice) → Leads a x b y → Leads b y c z → Leads a x c z
leads_on a b c x y z f g = (
  f.0 ++ g.0,
  f.1 ∙ ap (λ (l : List Choice). f.0 ++ l) g.1 ∙ sym (append_assoc f.0 g.0 z),
  λ more. ap (answer a) (append_assoc f.0 g.0 more) ∙ f.2 (g.0 ++ more) ∙ g.2 more,
)

pub leads_answers : (a b : Asks) (x y : List Choice) → Leads a x b y → answer a x ≡ answer b y
leads_answers a b x y f = ap (answer a) f.1 ∙ f.2 y

pub leads_take : (a b : Asks) (x y : List Choice) → Leads a x b y → Leaves (answer b []) [] → TakesAsked a x y
leads_take a b x y f h = (f.0, f.1, subst (λ (t : Answer). Leaves t []) (sym (ap (answer a) (sym (append-nil f.0)) ∙ f.2 [])) h)

-- ---- all arguments

module _ (scope : Scope) (registers : Registers) (args : List Argument) where
  pub first_argument : (i : ℕ) (a : Argument) (k : Option Kind) (v : Value) → i < length args → a ≡ get_or args i a → k ≡ kind_of a.operand.ty
      → v ≡ operand_value scope (read registers) a.operand → arguments_of scope registers (drop i args) ≡ (k, v) ∷ arguments_of scope registers (drop (i + 1) args)
  first_argument i a k v h is kind value =
      let next : drop i args ≡ a ∷ drop (i + 1) args = drop-cons args i a h ∙ rw (add-one, ← is) refl in
      ap (arguments_of scope registers) next ∙ (λ j. (sym kind j, sym value j) ∷ arguments_of scope registers (drop (i + 1) args))

  pub no_argument : (i : ℕ) → length args ≤ i → arguments_of scope registers (drop i args) ≡ []
  no_argument i h = ap (arguments_of scope registers) (drop_of_length-le args h)

-- told nothing, showing leaves nothing
show_leaves : (k : Option Kind) (v : Value) (world : World) (next : Shown → World → Asks) → ((s : Shown) (w : World) → Leaves (answer (next s w) []) [])
    → Leaves (answer (show k v world wrong next) []) []
show_leaves k value.Poison world next h = refl
show_leaves None value.Undef world next h = refl
show_leaves (Some k) value.Undef world next h = refl
show_leaves k (value.Num n) world next h = h _ _
show_leaves k (value.Ptr block offset) world next h = h _ _
show_leaves k (value.Bare address) world next h = h _ _

pub all_leave : (vs : List (Option Kind × Value)) (world : World) (next : List Shown → World → Asks) → ((ss : List Shown) (w : World) → Leaves (answer (next ss w) []) [])
    → Leaves (answer (show_all vs world next) []) []
all_leave [] world next h = h [] world
all_leave (v ∷ vs) world next h =
    show_leaves v.0 v.1 world (λ s after. show_all vs after (λ ss last. next (s ∷ ss) last)) (λ s w. all_leave vs w (λ ss last. next (s ∷ ss) last) (λ ss last. h (s ∷ ss) last))

-- what follows the values that are left, where these are shown
abbrev pub behind : List Shown → (List Shown → World → Asks) → List Shown → World → Asks
behind done next = λ ss last. next (done ++ ss) last

abbrev pub AllLead : List (Option Kind × Value) → World → List Choice → List (Option Kind × Value) → List Shown → World → List Choice → Type 0
AllLead vs world before left done then after =
    (next : List Shown → World → Asks) → Leads (show_all vs world next) before (show_all left then (behind done next)) after

module _ (vs left : List (Option Kind × Value)) (world then : World) (before mid : List Choice) (done : List Shown) (all : AllLead vs world before left done then mid) where
  -- all are shown
  pub all_shown : left ≡ [] → (next : List Shown → World → Asks) → answer (show_all vs world next) before ≡ answer (next done then) mid
  all_shown none next =
      leads_answers (show_all vs world next) (show_all left then (behind done next)) before mid (all next)
      ∙ ap (λ (l : List (Option Kind × Value)). answer (show_all l then (behind done next)) mid) none
      ∙ ap (λ (ss : List Shown). answer (next ss then) mid) (append-nil done)

  module _ (k : Option Kind) (v : Value) (rest : List (Option Kind × Value)) (first : left ≡ (k, v) ∷ rest) (new : World) (after : List Choice) where
    abbrev further : (List Shown → World → Asks) → Shown → World → Asks
    further next s w = show_all rest w (λ ss last. next (done ++ s ∷ ss) last)

    to_first : (next : List Shown → World → Asks) → Leads (show_all vs world next) before (show k v then wrong (further next)) mid
    to_first next = subst (λ (l : List (Option Kind × Value)). Leads (show_all vs world next) before (show_all l then (behind done next)) mid) first (all next)

    -- one more is shown
    pub more_shown : (s : Shown) → ((poison : Asks) (next : Shown → World → Asks) → ShowingLeads (Ok s) (show k v then poison next) mid poison next new after)
        → AllLead vs world before rest (done ++ s ∷ []) new after
    more_shown s shows next =
        subst (λ (n : List Shown → World → Asks). Leads (show_all vs world next) before (show_all rest new n) after) (same next)
        (leads_on (show_all vs world next) (show k v then wrong (further next)) (further next s new) before mid after (to_first next) (shows wrong (further next)))
      where
        same : (next : List Shown → World → Asks) → (λ ss last. next (done ++ s ∷ ss) last) ≡ behind (done ++ s ∷ []) next
        same next = sym (λ i ss last. next (append_assoc done (s ∷ []) ss i) last)

    -- the next isn't
    pub one_fails : (e : ShowEnd) → ((poison : Asks) (next : Shown → World → Asks) → ShowingLeads (Err e) (show k v then poison next) mid poison next new after)
        → (last : World) (next : List Shown → World → Asks) → ShowsAll (Err e) (show_all vs world next) before next last after
    one_fails end.Wrong shows last next =
        leads_answers (show_all vs world next) (show k v then wrong (further next)) before mid (to_first next)
        ∙ leads_answers (show k v then wrong (further next)) wrong mid after (shows wrong (further next))
    one_fails end.NoChoice shows last next = leads_answers (show_all vs world next) (show k v then wrong (further next)) before mid (to_first next) ∙ shows wrong (further next)
    one_fails end.Memory shows last next = tt

    pub one_takes : (e : ShowEnd) → ((poison : Asks) (next : Shown → World → Asks) → ShowingLeads (Err e) (show k v then poison next) mid poison next new after)
        → (next : List Shown → World → Asks) → ((ss : List Shown) (w : World) → Leaves (answer (next ss w) []) []) → TakesAsked (show_all vs world next) before after
    one_takes end.Wrong shows next h =
        answers_take_asked (show_all vs world next) before after (subst (λ (t : Answer). Leaves t after) (sym (one_fails end.Wrong shows new next)) refl)
    one_takes end.NoChoice shows next h =
        answers_take_asked (show_all vs world next) before after (subst (λ (t : Answer). Leaves t after) (sym (one_fails end.NoChoice shows new next)) refl)
    one_takes end.Memory shows next h =
        let some = shows wrong (further next) in
        leads_take (show_all vs world next) (further next some.0 some.1) before after
        (leads_on (show_all vs world next) (show k v then wrong (further next)) (further next some.0 some.1) before mid after (to_first next) some.2)
        (all_leave rest some.1 (λ ss last. next (done ++ some.0 ∷ ss) last) (λ ss w. h (done ++ some.0 ∷ ss) w))

  -- so far the choices that were taken were asked for
  pub all_take : (next : List Shown → World → Asks) → ((ss : List Shown) (w : World) → Leaves (answer (next ss w) []) []) → TakesAsked (show_all vs world next) before mid
  all_take next h = leads_take (show_all vs world next) (show_all left then (behind done next)) before mid (all next) (all_leave left then (behind done next) (λ ss w. h (done ++ ss) w))

-- ---- names that are there before

pub names_more : (old mid new more : Names) → mid ≡ old ++ more → take (length mid) new ≡ mid → (all : Names) × (new ≡ old ++ all)
names_more old mid new more is kept =
    (more ++ drop (length mid) new, sym (take-append-drop (length mid) new) ∙ ap (λ (xs : Names). xs ++ drop (length mid) new) (kept ∙ is) ∙ append_assoc old more (drop (length mid) new))

pub names_back : (old more new : Names) (n : ℕ) → n ≡ length old → new ≡ old ++ more → take n new ≡ old
names_back old more new n is all = ap (λ m. take m new) is ∙ ap (take (length old)) all ∙ front old
  where
    front : (xs : Names) → take (length xs) (xs ++ more) ≡ xs
    front [] = taken more
      where
        taken : (ys : Names) → take 0 ys ≡ []
        taken [] = refl
        taken (y ∷ ys) = refl
    front (x ∷ xs) = ap (λ ys. x ∷ ys) (front xs)
