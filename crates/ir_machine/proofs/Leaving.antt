-- Blocks that end.
use Rattle.std.proofs.Common.{◌≡◌, ℕ, zero, suc, ◌<◌, ◌≤◌, ◌+◌, ◌&&◌, cond, not, List, [], ◌∷◌, length, get_or, drop, Option, None, Some, refl, ap, ◌∙◌, arith}
use Rattle.std.specs.Prelude.{ℤ, nat_lt}
use Rattle.std.specs.List.{list_any}
use Rattle.std.specs.Option.{is_some}
use Rattle.ir_core.specs.declared.values.Kind.{Kind}
use Rattle.ir_core.specs.declared.values.Kind.TheVariants.{Int, Ptr}
use Rattle.ir_core.specs.declared.values.Value.{Value}
use Rattle.ir_core.specs.declared.values.Value.TheVariants as value
use Rattle.block_memory.specs.declared.items.Choice.TheVariants as choice
use Rattle.block_memory.specs.declared.items.Shown.{Shown}
use Rattle.block_memory.specs.Memory.{Cell, Memory, ended, updated}
use Rattle.block_memory.specs.Names.{Showing, fresh, is_bound_to, under_next}
use Rattle.ir_machine.specs.declared.items.Item.TheVariants.{Turn, Returned, Wrong}
use Rattle.ir_machine.specs.Machine.{Asks, Ask, Does, Chosen, Told, FreshByte, all_ended, chosen_by, return_step, show, show_undef, shown_as, without_own}
use Rattle.ir_machine.specs.State.{World, Over}
use Rattle.ir_machine.proofs.Keeping.{ended_long}
use Rattle.ir_machine.proofs.Standing.{drop_at}

-- ---- blocks

-- no block of that number changes
pub updated_past : (f : Cell → Cell) (memory : Memory) (b : ℕ) → length memory ≤ b → updated f memory b ≡ memory
updated_past f [] b past = refl
updated_past f (c ∷ cs) zero past = absurd (omega (arith, past))
updated_past f (c ∷ cs) (suc b) past = ap (λ (rest : Memory). c ∷ rest) (updated_past f cs b (omega (arith, past)))

pub ended_next : (own : List ℕ) (i b : ℕ) (memory : Memory) → i < length own → b ≡ get_or own i b
    → all_ended (drop i own) memory ≡ all_ended (drop (i + 1) own) (updated ended memory b)
ended_next own i b memory within is = ap (λ (l : List ℕ). all_ended l memory) (drop_at own i b within is)

-- ---- showing looks at no block

fresh_same : (k : Kind) (own : List ℕ) (world : World) (bound : Option ℕ) (offset : ℤ)
    → fresh k (all_ended own world.memory) world.names bound offset ≡ fresh k world.memory world.names bound offset
fresh_same (Int width) own world bound offset = refl
fresh_same Ptr own world None offset = refl
fresh_same Ptr own world (Some b) offset =
    ap (λ (n : ℕ). cond (nat_lt b n && not (list_any (is_bound_to b) world.names)) (Some (under_next world.names (Some b) offset)) None) (ended_long own world.memory)

chosen_same : (k : Kind) (own : List ℕ) (world : World) (c : Chosen) → chosen_by k (without_own own world) c ≡ chosen_by k world c
chosen_same k own world (Told (choice.Fresh bound offset)) = fresh_same k own world bound offset
chosen_same k own world (Told c) = refl
chosen_same k own world (FreshByte bound offset place) = refl

shown_same : (o : Option Showing) (own : List ℕ) (world : World) (next : Shown → Asks)
    → shown_as o (without_own own world) (λ s after. next s) ≡ shown_as o world (λ s after. next s)
shown_same None own world next = refl
shown_same (Some showing) own world next = refl

undef_same : (k : Option Kind) (own : List ℕ) (world : World) (poison : Asks) (next : Shown → Asks)
    → show_undef k (without_own own world) poison (λ s after. next s) ≡ show_undef k world poison (λ s after. next s)
undef_same None own world poison next = refl
undef_same (Some k) own world poison next = λ i. Ask (λ c. is_some (chosen_same k own world c i)) (λ c. goes c i)
  where
    goes : (c : Chosen) → shown_as (chosen_by k (without_own own world) c) (without_own own world) (λ s after. next s)
        ≡ shown_as (chosen_by k world c) world (λ s after. next s)
    goes c = shown_same (chosen_by k (without_own own world) c) own world next
        ∙ ap (λ (o : Option Showing). shown_as o world (λ s after. next s)) (chosen_same k own world c)

show_same : (k : Option Kind) (v : Value) (own : List ℕ) (world : World) (poison : Asks) (next : Shown → Asks)
    → show k v (without_own own world) poison (λ s after. next s) ≡ show k v world poison (λ s after. next s)
show_same k value.Poison own world poison next = refl
show_same k value.Undef own world poison next = undef_same k own world poison next
show_same k (value.Num n) own world poison next = refl
show_same k (value.Ptr block offset) own world poison next = refl
show_same k (value.Bare address) own world poison next = refl

-- the result of a run is shown as if its blocks hadn't ended
pub last_return_same : (k : Option Kind) (v : Value) (own : List ℕ) (world : World) → return_step k v [] (without_own own world) ≡ return_step k v [] world
last_return_same k v own world = show_same k v own world (Does (Turn ∷ Wrong ∷ []) Over) (λ s. Does (Turn ∷ Returned (Some s) ∷ []) Over)
