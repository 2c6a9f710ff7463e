-- What acts of the outside are answered by.
use Rattle.std.proofs.Common.{◌≡◌, ◌∙◌, ℕ, ℤ, true, Bool, cond, List, [], ◌∷◌, ◌++◌, length, map, Option, Some, Result, Ok, Err, is_some, refl, sym, ap, subst}
use Rattle.std.specs.List.{list_all}
use Rattle.ir_core.specs.declared.values.Byte.{Byte}
use Rattle.block_memory.specs.declared.items.Choice.{Choice}
use Rattle.block_memory.specs.declared.items.Choice.TheVariants as choice
use Rattle.block_memory.specs.declared.items.ShownByte.{ShownByte}
use Rattle.block_memory.specs.declared.items.ShownByte.TheVariants as part
use Rattle.block_memory.specs.declared.names.ShowEnd.{ShowEnd}
use Rattle.block_memory.specs.declared.names.ShowEnd.TheVariants as show_end
use Rattle.block_memory.specs.Memory.{Memory, filled, new_cell}
use Rattle.block_memory.specs.Names.{Names}
use Rattle.ir_machine.specs.declared.acting.Acted.{Acted}
use Rattle.ir_machine.specs.declared.acting.Acted.TheVariants as acted
use Rattle.ir_machine.specs.declared.items.Item.{Item}
use Rattle.ir_machine.specs.declared.items.Item.TheVariants.{EnvNew, EnvRead}
use Rattle.ir_machine.specs.declared.machine.StepEnd.{StepEnd}
use Rattle.ir_machine.specs.declared.machine.StepEnd.TheVariants as end
use Rattle.ir_machine.specs.Acting.{Answered, ByteAnswers, answer_to}
use Rattle.ir_machine.specs.Choices.{Answer, Did, Lacks, answer, Leaves, TakesAsked, TakesNext}
use Rattle.ir_machine.specs.Machine.{Asks, Ask, Does, act, byte_reached, given_byte, is_act, is_byte_of, read_byte, show_byte, with_named}
use Rattle.ir_machine.specs.State.{Pending, State, Waiting, World, no_world}
use Rattle.ir_machine.proofs.Starts.{filled_whole}
use Rattle.ir_machine.proofs.Telling.{answers_take_asked}

-- ---- a byte that is read, where memory is refused

pub read_refused : (w last : World) (x : ℕ) (offset : ℤ) (b : Byte) (r : Result ShownByte ShowEnd) (before after : List Choice) → byte_reached w x offset ≡ Some b
    → r ≡ Err show_end.Memory → ((next : ShownByte → World → Asks) → ByteAnswers r (show_byte b w next) before next last after) → (p : Pending) (ps : List Pending)
    → (items : List Item) × (state : State) × (answer_to (choice.Read x offset) p ps w before ≡ Did items state after)
read_refused w last x offset b r before after reached is shows p ps =
    let next : ShownByte → World → Asks = λ s then. Does (EnvRead x offset s ∷ []) (Waiting p ps then) in
    let some : ByteAnswers (Err show_end.Memory) (show_byte b w next) before next last after =
    subst (λ (q : Result ShownByte ShowEnd). ByteAnswers q (show_byte b w next) before next last after) is (shows next) in (
      EnvRead x offset some.0 ∷ [],
      Waiting p ps some.1,
      ap (λ (o : Option Byte). cond (is_some o) (answer (read_byte o (λ y. show_byte y w next)) before) (Lacks before)) reached ∙ some.2,
    )

-- ---- a block that is made

pub new_answers : (w : World) (align : ℕ) (bytes : List ShownByte) → list_all (is_byte_of w) bytes ≡ true → (p : Pending) (ps : List Pending) (left : List Choice)
    → answer_to (choice.New align bytes) p ps w left ≡ Did (EnvNew align bytes ∷ []) (Waiting p ps (with_named align bytes w)) left
new_answers w align bytes h p ps left = ap (λ (t : Bool). cond t (Did (EnvNew align bytes ∷ []) (Waiting p ps (with_named align bytes w)) left) (Lacks left)) h

given_alike : (w : World) (b : ShownByte) → given_byte (record no_world { names = w.names }) b ≡ given_byte w b
given_alike w (part.Num n) = refl
given_alike w (part.Frag x offset place) = refl

pub made_named : (w : World) (align size block : ℕ) (bytes : List ShownByte) (given : List Byte) (memory : Memory) (names : Names)
    → given ≡ map (given_byte (record no_world { names = w.names })) bytes → size ≡ length given → block ≡ length w.memory
    → memory ≡ w.memory ++ new_cell size align given ∷ [] → names ≡ w.names ++ Some block ∷ []
    → with_named align bytes w ≡ record { memory = memory; names = names }
made_named w align size block bytes given memory names is long number cells bound =
    let cell : record { align = align; live = true; bytes = map (given_byte w) bytes } ≡ new_cell size align given =
    ap (λ (bs : List Byte). record { align = align; live = true; bytes = bs })
    (sym (ap (λ n. filled n given) long ∙ filled_whole given ∙ is ∙ (λ i. map (λ b. given_alike w b i) bytes))) in
    (λ i. record { memory = w.memory ++ cell i ∷ []; names = w.names ++ Some (number_back i) ∷ [] })
    ∙ (λ i. record { memory = sym cells i; names = sym bound i })
  where
    number_back : length w.memory ≡ block
    number_back = sym number

-- ---- whatever is done

module _ (p : Pending) (ps : List Pending) (w : World) where
  abbrev pub the_act : Asks
  the_act = Ask (is_act p w) (λ c. act c p ps w)

  pub act_told : (r : Result Acted StepEnd) (told : Option Choice) (before mid after : List Choice) (f c : Choice) (then : World) → TakesNext told before mid → told ≡ Some f → f ≡ c
      → Answered r (answer_to c p ps w mid) p ps then after → Answered r (answer the_act before) p ps then after
  act_told r told before mid after f c then takes is same h =
      let taken : before ≡ c ∷ mid = subst (λ (o : Option Choice). TakesNext o before mid) (is ∙ ap Some same) takes in
      subst (λ (l : List Choice). Answered r (answer the_act l) p ps then after) (sym taken) h

  pub act_takes : (r : Result Acted StepEnd) (before after : List Choice) (then : World) → Answered r (answer the_act before) p ps then after → TakesAsked the_act before after
  act_takes r before after then h = answers_take_asked the_act before after (leaves r h)
    where
      same : (t : Answer) → answer the_act before ≡ t → Leaves t after → Leaves (answer the_act before) after
      same t e l = subst (λ (x : Answer). Leaves x after) (sym e) l

      leaves : (r : Result Acted StepEnd) → Answered r (answer the_act before) p ps then after → Leaves (answer the_act before) after
      leaves (Ok (acted.Stays item)) h = same _ h refl
      leaves (Ok (acted.Replied item k v)) h = same _ h refl
      leaves (Ok acted.Wrong) h = same _ h refl
      leaves (Err end.NoChoice) h = same _ h refl
      leaves (Err end.Memory) h = same _ h.2 refl
