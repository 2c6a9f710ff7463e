-- What keeps a state's frames, memory and names as they are to be: by parts of a step.
use Rattle.std.proofs.Common.{◌≡◌, ◌⊎◌, inl, inr, ℕ, zero, suc, ◌<◌, ◌≤◌, ◌+◌, ℤ, pos, Bool, true, false, not, cond, nat_eq, List, [], ◌∷◌, ◌++◌, length, Option, None, Some, refl, sym, ap, subst, ◌∙◌, arith, slice_get}
use Rattle.std.specs.Prelude.{nat_lt}
use Rattle.std.specs.List.{AllByRecursion, Contains, list_any}
use Rattle.std.proofs.lemmas.Bool.{ltb-true}
use Rattle.std.proofs.lemmas.Option.{slice_get_within}
use Rattle.std.proofs.lemmas.List.Elements.{Contains-append_cases}
use Rattle.ir_types.specs.NameLaws.{left_true, same_nat_true}
use Rattle.ir_core.specs.declared.values.Byte.{Byte}
use Rattle.ir_core.specs.declared.values.Kind.{Kind}
use Rattle.ir_core.specs.declared.values.Kind.TheVariants as kind
use Rattle.ir_core.specs.declared.values.Value.TheVariants as value
use Rattle.ir_core.specs.Types.{fits}
use Rattle.ir_values.specs.Constants.{Scope}
use Rattle.block_memory.specs.declared.items.Choice.{Choice}
use Rattle.block_memory.specs.declared.items.Choice.TheVariants as choice
use Rattle.block_memory.specs.declared.items.Shown.{Shown}
use Rattle.block_memory.specs.declared.items.Shown.TheVariants as shown
use Rattle.block_memory.specs.Laws.{IsOfBytes}
use Rattle.block_memory.specs.Memory.{Cell, Memory, cell_at, ended, put, updated, with_bytes}
use Rattle.block_memory.specs.NameLaws.{AreApart}
use Rattle.block_memory.specs.Names.{Names, Showing, chosen, fresh, is_bound_to, is_unnamed, picked, under_name, under_next}
use Rattle.block_memory.proofs.Accesses.{put_length}
use Rattle.block_memory.proofs.NamesShown.{names_stay_apart}
use Rattle.ir_machine.specs.declared.inputs.Input.{Input}
use Rattle.ir_machine.specs.Keeps.{AreKept, AreRegistersAmong, IsLive, IsMade, IsNameAmong, MayOwn, count_at_start}
use Rattle.ir_machine.specs.Machine.{all_ended}
use Rattle.ir_machine.specs.Registers.{AreInKind}
use Rattle.ir_machine.specs.State.{Frame, World}
use Rattle.ir_machine.proofs.Holding.{AreBytesAmong, registers_more}

-- ---- lists

pub all_on : {A : Type 0} (P Q : A → Type 0) → ((x : A) → P x → Q x) → (xs : List A) → AllByRecursion P xs → AllByRecursion Q xs
all_on P Q on [] h = tt
all_on P Q on (x ∷ xs) h = (on x h.0, all_on P Q on xs h.1)

pub all_joined : {A : Type 0} (P : A → Type 0) (xs ys : List A) → AllByRecursion P xs → AllByRecursion P ys → AllByRecursion P (xs ++ ys)
all_joined P [] ys h k = k
all_joined P (x ∷ xs) ys h k = (h.0, all_joined P xs ys h.1 k)

pub all_in : {A : Type 0} (P : A → Type 0) (xs : List A) → AllByRecursion P xs → (x : A) → Contains xs x → P x
all_in P [] h x there = absurd (omega (arith, there.1))
all_in P (y ∷ ys) h x (zero, inside, is) = subst P is h.0
all_in P (y ∷ ys) h x (suc k, inside, is) = all_in P ys h.1 x (k, omega (arith, inside), is)

pub got_all : {A : Type 0} (P : A → Type 0) (xs : List A) (k : ℕ) (x : A) → AllByRecursion P xs → slice_get xs k ≡ Some x → P x
got_all P [] k x h is = absurd (cc)
got_all P (y ∷ ys) zero x h is = let same : y ≡ x = cc in subst P same h.0
got_all P (y ∷ ys) (suc k) x h is = got_all P ys k x h.1 is

pub got_still : {A : Type 0} (xs ys : List A) (k : ℕ) (x : A) → slice_get xs k ≡ Some x → slice_get (xs ++ ys) k ≡ Some x
got_still [] ys k x is = absurd (cc)
got_still (y ∷ xs) ys zero x is = is
got_still (y ∷ xs) ys (suc k) x is = got_still xs ys k x is

pub length_more : {A : Type 0} (xs : List A) (y : A) → length (xs ++ y ∷ []) ≡ suc (length xs)
length_more [] y = refl
length_more (x ∷ xs) y = ap (λ n. suc n) (length_more xs y)

-- ---- memory

cell_still : (f : Cell → Cell) (m : Memory) (b k : ℕ) (c : Cell) → cell_at m k ≡ Some c
    → (cell_at (updated f m b) k ≡ Some c) ⊎ ((b ≡ k) × (cell_at (updated f m b) k ≡ Some (f c)))
cell_still f [] b k c is = absurd (cc)
cell_still f (x ∷ xs) zero zero c is = let same : x ≡ c = cc in inr (refl, ap (λ y. Some (f y)) same)
cell_still f (x ∷ xs) zero (suc k) c is = inl is
cell_still f (x ∷ xs) (suc b) zero c is = inl is
cell_still f (x ∷ xs) (suc b) (suc k) c is = later (cell_still f xs b k c is)
  where
    later : (cell_at (updated f xs b) k ≡ Some c) ⊎ ((b ≡ k) × (cell_at (updated f xs b) k ≡ Some (f c)))
        → (cell_at (updated f xs b) k ≡ Some c) ⊎ ((suc b ≡ suc k) × (cell_at (updated f xs b) k ≡ Some (f c)))
    later (inl same) = inl same
    later (inr there) = inr (ap (λ n. suc n) there.0, there.1)

pub written_lives : (m : Memory) (b o : ℕ) (new : List Byte) (k align size : ℕ) → IsLive m k align size → IsLive (updated (with_bytes o new) m b) k align size
written_lives m b o new k align size h = by_side (cell_still (with_bytes o new) m b k h.cell h.there)
  where
    by_side : (cell_at (updated (with_bytes o new) m b) k ≡ Some h.cell) ⊎ ((b ≡ k) × (cell_at (updated (with_bytes o new) m b) k ≡ Some (with_bytes o new h.cell)))
        → IsLive (updated (with_bytes o new) m b) k align size
    by_side (inl same) = record { cell = h.cell; there = same; live = h.live; align_is = h.align_is; size_is = h.size_is }
    by_side (inr there) =
        record { cell = with_bytes o new h.cell; there = there.1; live = h.live; align_is = h.align_is; size_is = put_length h.cell.bytes o new ∙ h.size_is }

ended_lives : (m : Memory) (b k align size : ℕ) → (b ≡ k → ⊥) → IsLive m k align size → IsLive (updated ended m b) k align size
ended_lives m b k align size other h = by_side (cell_still ended m b k h.cell h.there)
  where
    by_side : (cell_at (updated ended m b) k ≡ Some h.cell) ⊎ ((b ≡ k) × (cell_at (updated ended m b) k ≡ Some (ended h.cell))) → IsLive (updated ended m b) k align size
    by_side (inl same) = record { cell = h.cell; there = same; live = h.live; align_is = h.align_is; size_is = h.size_is }
    by_side (inr there) = absurd (other there.0)

pub all_ended_lives : (own : List ℕ) (m : Memory) (k align size : ℕ) → AllByRecursion (λ b. k < b) own → IsLive m k align size → IsLive (all_ended own m) k align size
all_ended_lives [] m k align size new h = h
all_ended_lives (b ∷ bs) m k align size new h =
    all_ended_lives bs (updated ended m b) k align size new.1 (ended_lives m b k align size (λ e. omega (arith, new.0, e)) h)

cell_more : (m n : Memory) (k : ℕ) (c : Cell) → cell_at m k ≡ Some c → cell_at (m ++ n) k ≡ Some c
cell_more [] n k c is = absurd (cc)
cell_more (x ∷ m) n zero c is = is
cell_more (x ∷ m) n (suc k) c is = cell_more m n k c is

pub more_lives : (m n : Memory) (k align size : ℕ) → IsLive m k align size → IsLive (m ++ n) k align size
more_lives m n k align size h = record { cell = h.cell; there = cell_more m n k h.cell h.there; live = h.live; align_is = h.align_is; size_is = h.size_is }

pub live_made : (m : Memory) (k align size : ℕ) → IsLive m k align size → IsMade m k
live_made m k align size h = within m k h.cell h.there
  where
    within : (m : Memory) (k : ℕ) (c : Cell) → cell_at m k ≡ Some c → k < length m
    within [] k c is = absurd (cc)
    within (x ∷ m) zero c is = omega arith
    within (x ∷ m) (suc k) c is = let more = within m k c is in omega (arith, more)

pub updated_long : (f : Cell → Cell) (m : Memory) (b : ℕ) → length (updated f m b) ≡ length m
updated_long f [] b = refl
updated_long f (c ∷ cs) zero = refl
updated_long f (c ∷ cs) (suc b) = ap (λ n. suc n) (updated_long f cs b)

pub ended_long : (own : List ℕ) (m : Memory) → length (all_ended own m) ≡ length m
ended_long [] m = refl
ended_long (b ∷ bs) m = ended_long bs (updated ended m b) ∙ updated_long ended m b

-- what holds of the bytes of each block
abbrev pub OfBytes : (Byte → Type 0) → Memory → Type 0
OfBytes Q = AllByRecursion (λ (c : Cell). AllByRecursion Q c.bytes)

all_put : (Q : Byte → Type 0) (xs : List Byte) (o : ℕ) (new : List Byte) → AllByRecursion Q xs → AllByRecursion Q new → AllByRecursion Q (put xs o new)
all_put Q [] o new h k = tt
all_put Q (x ∷ xs) zero [] h k = h
all_put Q (x ∷ xs) zero (y ∷ new) h k = (k.0, all_put Q xs zero new h.1 k.1)
all_put Q (x ∷ xs) (suc o) new h k = (h.0, all_put Q xs o new h.1 k)

pub written_bytes : (Q : Byte → Type 0) (m : Memory) (b o : ℕ) (new : List Byte) → OfBytes Q m → AllByRecursion Q new → OfBytes Q (updated (with_bytes o new) m b)
written_bytes Q [] b o new h k = tt
written_bytes Q (c ∷ cs) zero o new h k = (all_put Q c.bytes o new h.0 k, h.1)
written_bytes Q (c ∷ cs) (suc b) o new h k = (h.0, written_bytes Q cs b o new h.1 k)

ended_bytes : (Q : Byte → Type 0) (m : Memory) (b : ℕ) → OfBytes Q m → OfBytes Q (updated ended m b)
ended_bytes Q [] b h = tt
ended_bytes Q (c ∷ cs) zero h = h
ended_bytes Q (c ∷ cs) (suc b) h = (h.0, ended_bytes Q cs b h.1)

pub all_ended_bytes : (Q : Byte → Type 0) (own : List ℕ) (m : Memory) → OfBytes Q m → OfBytes Q (all_ended own m)
all_ended_bytes Q [] m h = h
all_ended_bytes Q (b ∷ bs) m h = all_ended_bytes Q bs (updated ended m b) (ended_bytes Q m b h)

-- ---- names

module _ (memory : Memory) where
  -- the names stay, or there is one more, bound to a block that there is, or to nothing
  abbrev pub Grows : Names → Names → Type 0
  Grows names after = (after ≡ names) ⊎ ((bound : Option ℕ) × IsNameAmong (IsMade memory) bound × (after ≡ names ++ bound ∷ []))

  abbrev pub LeavesGrown : Names → Option Showing → Type 0
  LeavesGrown names None = Unit {0}
  LeavesGrown names (Some showing) = Grows names showing.1

  cond_grows : (names : Names) (b : Bool) (s : Shown) → LeavesGrown names (cond b (Some (s, names)) None)
  cond_grows names true s = inl refl
  cond_grows names false s = tt

  picked_grows : (k : Kind) (names : Names) (s : Shown) → LeavesGrown names (picked k names s)
  picked_grows (kind.Int width) names (shown.Num n) = cond_grows names (fits n width) (shown.Num n)
  picked_grows (kind.Int width) names (shown.Name x o) = tt
  picked_grows (kind.Int width) names (shown.Bare a) = tt
  picked_grows kind.Ptr names (shown.Num n) = tt
  picked_grows kind.Ptr names (shown.Name x o) = cond_grows names (nat_lt x (length names)) (shown.Name x o)
  picked_grows kind.Ptr names (shown.Bare a) = inl refl

  pub unnamed_made : (names : Names) (b : ℕ) → is_unnamed memory names b ≡ true → IsMade memory b
  unnamed_made names b h = ltb-true b (length memory) (left_true (nat_lt b (length memory)) (not (list_any (is_bound_to b) names)) h)

  fresh_grows : (k : Kind) (names : Names) (bound : Option ℕ) (o : ℤ) → LeavesGrown names (fresh k memory names bound o)
  fresh_grows (kind.Int width) names bound o = tt
  fresh_grows kind.Ptr names None o = inr (None, tt, refl)
  fresh_grows kind.Ptr names (Some b) o = at (is_unnamed memory names b) refl
    where
      at : (t : Bool) → is_unnamed memory names b ≡ t → LeavesGrown names (cond t (Some (under_next names (Some b) o)) None)
      at true is = inr (Some b, unnamed_made names b is, refl)
      at false is = tt

  pub chosen_grows : (k : Kind) (names : Names) (c : Choice) → LeavesGrown names (chosen k memory names c)
  chosen_grows k names (choice.Pick s) = picked_grows k names s
  chosen_grows k names (choice.Fresh bound o) = fresh_grows k names bound o
  chosen_grows k names (choice.Go x) = tt
  chosen_grows k names (choice.PickByte s) = tt
  chosen_grows k names (choice.Read x o) = tt
  chosen_grows k names (choice.Write x o s) = tt
  chosen_grows k names (choice.New align bytes) = tt
  chosen_grows k names (choice.Reply s) = tt
  chosen_grows k names choice.Wrong = tt

  pub name_grows : (names : Names) (b : ℕ) (o : ℤ) (x : Option ℕ) → IsMade memory b → Grows names (under_name names b o x).1
  name_grows names b o None made = inr (Some b, made, refl)
  name_grows names b o (Some x) made = inl refl

-- what is asked of names
pub record NamesKept (count : ℕ) (memory : Memory) (names : Names) : Type 0 where
  pub among : AllByRecursion (IsNameAmong (IsMade memory)) names
  pub named : (k : ℕ) → k < count → slice_get names k ≡ Some (Some k)
  pub once : AreApart names

pub grown_kept : (count : ℕ) (memory : Memory) (names after : Names) → NamesKept count memory names → Grows memory names after → AreApart after → NamesKept count memory after
grown_kept count memory names after h (inl same) apart = subst (NamesKept count memory) (sym same) h
grown_kept count memory names after h (inr (bound, made, is)) apart = record {
  among = subst (AllByRecursion (IsNameAmong (IsMade memory))) (sym is) (all_joined (IsNameAmong (IsMade memory)) names (bound ∷ []) h.among (made, tt));
  named = λ k below. subst (λ (ns : Names). slice_get ns k ≡ Some (Some k)) (sym is) (got_still names (bound ∷ []) k (Some k) (h.named k below));
  once = apart;
}

-- a block that has no name, or none, gets the next
pub next_apart : (memory : Memory) (names : Names) (b : ℕ) → is_unnamed memory names b ≡ true → AreApart names → AreApart (names ++ Some b ∷ [])
next_apart memory names b is apart =
    names_stay_apart value.Undef kind.Ptr memory names (names ++ Some b ∷ []) (shown.Name (length names) (pos 0))
    (choice.Fresh (Some b) (pos 0), ap (λ t. cond t (Some (under_next names (Some b) (pos 0))) None) is) apart

pub loose_apart : (memory : Memory) (names : Names) → AreApart names → AreApart (names ++ None ∷ [])
loose_apart memory names apart =
    names_stay_apart value.Undef kind.Ptr memory names (names ++ None ∷ []) (shown.Name (length names) (pos 0)) (choice.Fresh None (pos 0), refl) apart

-- a block that isn't made has no name
pub unmade_unnamed : (memory : Memory) (names : Names) (b : ℕ) → AllByRecursion (IsNameAmong (IsMade memory)) names → length memory ≤ b → list_any (is_bound_to b) names ≡ false
unmade_unnamed memory [] b h past = refl
unmade_unnamed memory (None ∷ names) b h past = unmade_unnamed memory names b h.1 past
unmade_unnamed memory (Some c ∷ names) b h past = at (unmade_unnamed memory names b h.1 past) (nat_eq c b) refl
  where
    at : list_any (is_bound_to b) names ≡ false → (t : Bool) → nat_eq c b ≡ t → list_any (is_bound_to b) (Some c ∷ names) ≡ false
    at rest true is = let same : c ≡ b = same_nat_true c b is in let made : c < length memory = h.0 in absurd (omega (arith, same, made, past))
    at rest false is = rw is rest

-- ---- all together

module _ (scope : Scope) (input : Input) where
  abbrev Kept : List Frame → World → Type 0
  Kept = AreKept scope input

  abbrev pub start_count : ℕ
  start_count = count_at_start scope input

  pub names_kept : (frames : List Frame) (world : World) → Kept frames world → NamesKept start_count world.memory world.names
  names_kept frames world h = record { among = h.held.names; named = h.named; once = h.once }

  -- the same frames and blocks, under other names
  pub names_on : (frames : List Frame) (memory : Memory) (names after : Names) → Kept frames (record { memory = memory; names = names })
      → NamesKept start_count memory after → Kept frames (record { memory = memory; names = after })
  names_on frames memory names after h ns = record {
    registers = h.registers;
    bytes = h.bytes;
    held = record { registers = h.held.registers; bytes = h.held.bytes; names = ns.among };
    own = h.own;
    apart = h.apart;
    globals = h.globals;
    inputs = h.inputs;
    named = ns.named;
    once = ns.once;
  }

  own_more : (memory after : Memory) → length memory ≤ length after → (own : List ℕ) → AllByRecursion (MayOwn start_count memory) own → AllByRecursion (MayOwn start_count after) own
  own_more memory after long own h =
      all_on (MayOwn start_count memory) (MayOwn start_count after) (λ b k. record { new = k.new; made = (let made : b < length memory = k.made in omega (arith, made, long)) }) own h

  name_more : (memory after : Memory) → length memory ≤ length after → (bound : Option ℕ) → IsNameAmong (IsMade memory) bound → IsNameAmong (IsMade after) bound
  name_more memory after long None h = tt
  name_more memory after long (Some b) h = let made : b < length memory = h in omega (arith, made, long)

  -- the same frames over other blocks, of which those of the start live on
  pub memory_on : (frames : List Frame) (memory after : Memory) (names : Names) → Kept frames (record { memory = memory; names = names })
      → length memory ≤ length after → IsOfBytes after → AreBytesAmong (IsMade after) after
      → ((k align size : ℕ) → k < start_count → IsLive memory k align size → IsLive after k align size) → Kept frames (record { memory = after; names = names })
  memory_on frames memory after names h long bytes held lives = record {
    registers = h.registers;
    bytes = bytes;
    held = record {
      registers =
          all_on (λ (f : Frame). AreRegistersAmong (IsMade memory) f.registers) (λ (f : Frame). AreRegistersAmong (IsMade after) f.registers)
          (λ f. registers_more (IsMade memory) (IsMade after) more f.registers) frames h.held.registers;
      bytes = held;
      names = all_on (IsNameAmong (IsMade memory)) (IsNameAmong (IsMade after)) (name_more memory after long) names h.held.names;
    };
    own =
        all_on (λ (f : Frame). AllByRecursion (MayOwn start_count memory) f.own) (λ (f : Frame). AllByRecursion (MayOwn start_count after) f.own)
        (λ f. own_more memory after long f.own) frames h.own;
    apart = h.apart;
    globals = λ k g is. lives k _ _ (let inside = slice_get_within scope.globals k g is in omega (arith, inside)) (h.globals k g is);
    inputs = λ k b is. lives (length scope.globals + k) _ _ (let inside = slice_get_within input.blocks k b is in omega (arith, inside)) (h.inputs k b is);
    named = h.named;
    once = h.once;
  }
    where
      more : (b : ℕ) → IsMade memory b → IsMade after b
      more b made = omega (arith, made, long)

  -- another frame on top, which owns the same
  pub top_on : (f g : Frame) (fs : List Frame) (world : World) → g.own ≡ f.own → AreInKind g.registers → AreRegistersAmong (IsMade world.memory) g.registers → Kept (f ∷ fs) world
      → Kept (g ∷ fs) world
  top_on f g fs world same kinds among h = record {
    registers = (kinds, h.registers.1);
    bytes = h.bytes;
    held = record { registers = (among, h.held.registers.1); bytes = h.held.bytes; names = h.held.names };
    own = (subst (AllByRecursion (MayOwn start_count world.memory)) (sym same) h.own.0, h.own.1);
    apart = (subst (λ (own : List ℕ). AllByRecursion (λ (x : Frame). (b : ℕ) → Contains own b → Contains x.own b → ⊥) fs) (sym same) h.apart.0, h.apart.1);
    globals = h.globals;
    inputs = h.inputs;
    named = h.named;
    once = h.once;
  }

  nothing_owned : (fs : List Frame) → AllByRecursion (λ (x : Frame). (b : ℕ) → Contains [] b → Contains x.own b → ⊥) fs
  nothing_owned [] = tt
  nothing_owned (x ∷ fs) = (λ b there also. omega (arith, there.1), nothing_owned fs)

  -- one more frame, which owns nothing
  pub push_on : (g : Frame) (fs : List Frame) (world : World) → g.own ≡ [] → AreInKind g.registers → AreRegistersAmong (IsMade world.memory) g.registers → Kept fs world → Kept (g ∷ fs) world
  push_on g fs world none kinds among h = record {
    registers = (kinds, h.registers);
    bytes = h.bytes;
    held = record { registers = (among, h.held.registers); bytes = h.held.bytes; names = h.held.names };
    own = (subst (AllByRecursion (MayOwn start_count world.memory)) (sym none) tt, h.own);
    apart = (subst (λ (own : List ℕ). AllByRecursion (λ (x : Frame). (b : ℕ) → Contains own b → Contains x.own b → ⊥) fs) (sym none) (nothing_owned fs), h.apart);
    globals = h.globals;
    inputs = h.inputs;
    named = h.named;
    once = h.once;
  }

  -- without the frame on top
  pub pop_on : (f : Frame) (fs : List Frame) (world : World) → Kept (f ∷ fs) world → Kept fs world
  pop_on f fs world h = record {
    registers = h.registers.1;
    bytes = h.bytes;
    held = record { registers = h.held.registers.1; bytes = h.held.bytes; names = h.held.names };
    own = h.own.1;
    apart = h.apart.1;
    globals = h.globals;
    inputs = h.inputs;
    named = h.named;
    once = h.once;
  }

  -- the frame on top owns one block more, which none owned before
  pub own_on : (f g : Frame) (fs : List Frame) (world : World) (b : ℕ) → g.own ≡ f.own ++ b ∷ [] → g.registers ≡ f.registers → start_count ≤ b → IsMade world.memory b
      → AllByRecursion (λ (x : Frame). Contains x.own b → ⊥) fs → Kept (f ∷ fs) world → Kept (g ∷ fs) world
  own_on f g fs world b same registers new made apart h = record {
    registers = (subst AreInKind (sym registers) h.registers.0, h.registers.1);
    bytes = h.bytes;
    held = record { registers = (subst (AreRegistersAmong (IsMade world.memory)) (sym registers) h.held.registers.0, h.held.registers.1); bytes = h.held.bytes; names = h.held.names };
    own = (
      subst (AllByRecursion (MayOwn start_count world.memory)) (sym same)
          (all_joined (MayOwn start_count world.memory) f.own (b ∷ []) h.own.0 (record { new = new; made = made }, tt)),
      h.own.1,
    );
    apart = (
      subst (λ (own : List ℕ). AllByRecursion (λ (x : Frame). (b : ℕ) → Contains own b → Contains x.own b → ⊥) fs) (sym same) (each fs h.apart.0 apart),
      h.apart.1,
    );
    globals = h.globals;
    inputs = h.inputs;
    named = h.named;
    once = h.once;
  }
    where
      only : (x : Frame) (c : ℕ) → (Contains x.own b → ⊥) → (Contains f.own c → Contains x.own c → ⊥) → Contains f.own c ⊎ Contains (b ∷ []) c → Contains x.own c → ⊥
      only x c none before (inl there) also = before there also
      only x c none before (inr (zero, inside, is)) also = none (subst (Contains x.own) (sym is) also)
      only x c none before (inr (suc k, inside, is)) also = omega (arith, inside)

      each : (fs : List Frame) → AllByRecursion (λ (x : Frame). (b : ℕ) → Contains f.own b → Contains x.own b → ⊥) fs → AllByRecursion (λ (x : Frame). Contains x.own b → ⊥) fs
          → AllByRecursion (λ (x : Frame). (c : ℕ) → Contains (f.own ++ b ∷ []) c → Contains x.own c → ⊥) fs
      each [] before none = tt
      each (x ∷ fs) before none = (λ c there. only x c none.0 (before.0 c) (Contains-append_cases f.own (b ∷ []) c there), each fs before.1 none.1)

  -- a block that isn't made is owned by none
  pub unmade_unowned : (memory : Memory) (b : ℕ) → length memory ≤ b → (fs : List Frame) → AllByRecursion (λ (f : Frame). AllByRecursion (MayOwn start_count memory) f.own) fs
      → AllByRecursion (λ (x : Frame). Contains x.own b → ⊥) fs
  unmade_unowned memory b past [] h = tt
  unmade_unowned memory b past (f ∷ fs) h = (
    λ there. (let made : b < length memory = (all_in (MayOwn start_count memory) f.own h.0 b there).made in omega (arith, made, past)),
    unmade_unowned memory b past fs h.1,
  )
