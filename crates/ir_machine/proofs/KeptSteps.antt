-- Each step keeps what is kept.
use Rattle.std.proofs.Common.{◌≡◌, inr, ℕ, zero, suc, ◌<◌, ◌≤◌, ◌*◌, ℤ, pos, negsuc, Bool, true, false, not, cond, List, [], ◌∷◌, ◌++◌, length, map, Option, None, Some, refl, sym, ap, subst, arith, slice_get}
use Rattle.std.specs.Prelude.{nat_lt}
use Rattle.std.specs.List.{AllByRecursion, list_all, list_any}
use Rattle.std.specs.Option.{is_some, option_and_then}
use Rattle.std.proofs.lemmas.Bool.{lt-ltb, ltb-true, and_from}
use Rattle.ir_types.specs.declared.names.Name.{Name}
use Rattle.ir_types.specs.declared.ty.Ty.{Ty}
use Rattle.ir_types.specs.NameLaws.{left_true, right_true}
use Rattle.ir_types.specs.Named.{size_of}
use Rattle.ir_core.specs.declared.functions.Alloca.{Alloca}
use Rattle.ir_core.specs.declared.functions.Argument.{Argument}
use Rattle.ir_core.specs.declared.functions.Block.{Block}
use Rattle.ir_core.specs.declared.functions.Calm.{Calm}
use Rattle.ir_core.specs.declared.functions.Call.{Call}
use Rattle.ir_core.specs.declared.functions.Function.{Function}
use Rattle.ir_core.specs.declared.functions.Instr.{Instr}
use Rattle.ir_core.specs.declared.functions.Instr.TheVariants as line
use Rattle.ir_core.specs.declared.functions.Store.{Store}
use Rattle.ir_core.specs.declared.functions.Term.{Term}
use Rattle.ir_core.specs.declared.functions.Term.TheVariants.{Ret, RetVoid, Br, CondBr, Switch, Unreachable}
use Rattle.ir_core.specs.declared.modules.Module.{Module}
use Rattle.ir_core.specs.declared.operands.Const.{Const}
use Rattle.ir_core.specs.declared.values.Byte.{Byte}
use Rattle.ir_core.specs.declared.values.Byte.TheVariants as byte
use Rattle.ir_core.specs.declared.values.Kind.{Kind}
use Rattle.ir_core.specs.declared.values.Kind.TheVariants as kind
use Rattle.ir_core.specs.declared.values.Value.{Value}
use Rattle.ir_core.specs.declared.values.Value.TheVariants as value
use Rattle.ir_core.specs.Expressions.{type_of}
use Rattle.ir_core.specs.Types.{kind_of}
use Rattle.ir_values.specs.declared.operations.Outcome.{Outcome}
use Rattle.ir_values.specs.declared.operations.Outcome.TheVariants.{Gives}
use Rattle.ir_values.specs.Constants.{Scope, constant_value}
use Rattle.ir_values.specs.Operations.{GivesInKind}
use Rattle.ir_values.specs.Values.{IsInKind, IsInKindOf, IsOffset}
use Rattle.block_memory.specs.declared.items.Choice.TheVariants as choice
use Rattle.block_memory.specs.declared.items.Shown.{Shown}
use Rattle.block_memory.specs.declared.items.Shown.TheVariants as shown
use Rattle.block_memory.specs.declared.items.ShownByte.{ShownByte}
use Rattle.block_memory.specs.declared.items.ShownByte.TheVariants as given
use Rattle.block_memory.specs.Bytes.{IsByte, IsRanged, byte_count, bytes_of}
use Rattle.block_memory.specs.Memory.{Cell, Memory, can_access, cell_at, filled, new_cell, overwritten, stored_of, updated, with_bytes}
use Rattle.block_memory.specs.NameLaws.{AreApart}
use Rattle.block_memory.specs.Names.{Names, Showing, bound_value, chosen, is_bound_to, is_unnamed, name_of, named_value, resolved, shown_of}
use Rattle.block_memory.proofs.NamesShown.{names_stay_apart, shown_next}
use Rattle.block_memory.proofs.ReadValues.{bytes_are_bytes, kind_ranged}
use Rattle.ir_machine.specs.declared.inputs.Input.{Input}
use Rattle.ir_machine.specs.declared.items.Item.{Item}
use Rattle.ir_machine.specs.declared.items.Item.TheVariants.{EnvRead, Wrong}
use Rattle.ir_machine.specs.KeepLaws.{StepsKeepIt}
use Rattle.ir_machine.specs.Keeps.{AreKept, IsAmong, IsByteAmong, IsKept, IsLive, IsMade, IsNameAmong, MayOwn, count_at_start, waiting}
use Rattle.ir_machine.specs.Machine.{Asks, Chosen, Does, FreshByte, Told, act, all_ended, byte_in, arguments_of, asks, at_block, at_kind, begun, block_of, byte_reached, called, chosen_by, count_made, frame_step, function_named, given_byte, is_act, is_byte_of, is_byte_pick, is_declared, is_offset, is_reply, jump, line_step, may_bind, part_given, passed, picked_byte, read_byte, reply, resolve, resumed, return_step, return_void, set_into, show, show_all, show_byte, show_part, shown_as, stored_by, term_step, waiting_for, with_memory, with_named, without_own, written}
use Rattle.ir_machine.specs.Registers.{AreInKind, Registers, align_or, no_registers, operand_value, outcome, read, set}
use Rattle.ir_machine.specs.State.{Frame, Over, Pending, Running, State, Waiting, World, scope_of}
use Rattle.ir_machine.proofs.HeldConstants.{constant_good}
use Rattle.ir_machine.proofs.Holding.{AreBytesAmong, GivesAmong, arguments_among, byte_more, bytes_among, into_among, operand_among, outcome_among, passed_among, phis_among, set_among, value_more}
use Rattle.ir_machine.proofs.InKind.{given_in_kind, no_registers_in_kind, offset_in_range, operand_in_kind, outcome_in_kind, phis_in_kind}
use Rattle.ir_machine.proofs.Keeping.{LeavesGrown, NamesKept, OfBytes, all_ended_bytes, all_ended_lives, all_joined, all_on, chosen_grows, ended_long, got_all, grown_kept, length_more, live_made, loose_apart, memory_on, more_lives, name_grows, names_kept, names_on, next_apart, own_on, pop_on, push_on, top_on, unmade_unnamed, unmade_unowned, unnamed_made, updated_long, written_bytes, written_lives}
use Rattle.ir_machine.proofs.Passing.{IsPassable, passed_in_kind, read_at_kind}
use Rattle.ir_machine.proofs.Runs.{set_in_kind}
use Rattle.ir_machine.proofs.Trees.{AllDo, all_do_branch, all_do_jump, all_do_made, all_do_set_to, all_do_show}

-- ---- kinds of what is passed

into_in_kind : (registers : Registers) (into : Option Name) (own k : Option Kind) (v : Value) → AreInKind registers → IsInKindOf k v → AreInKind (set_into registers into own k v)
into_in_kind registers None own k v h is = h
into_in_kind registers (Some x) own k v h is = set_in_kind registers x own (at_kind own k v) h (read_at_kind own k v is)

arguments_in_kind : (scope : Scope) (registers : Registers) → AreInKind registers → (args : List Argument) → AllByRecursion IsPassable (arguments_of scope registers args)
arguments_in_kind scope registers h [] = tt
arguments_in_kind scope registers h (a ∷ args) = (operand_in_kind scope (read registers) (λ k x. h x k) a.operand, arguments_in_kind scope registers h args)

-- ---- what is stored

stored_is : (memory : Memory) (k : Option Kind) (v a : Value) (align : ℕ) (after : Memory) → stored_of memory k v a align ≡ Some after → (j : Kind) × (k ≡ Some j) × (after ≡ overwritten memory a (bytes_of (byte_count j) v))
stored_is memory None v a align after is = absurd (cc)
stored_is memory (Some k) v a align after is = at (can_access memory k a align) is
  where
    at : (b : Bool) → cond b (Some (overwritten memory a (bytes_of (byte_count k) v))) None ≡ Some after → (j : Kind) × (Some k ≡ Some j) × (after ≡ overwritten memory a (bytes_of (byte_count j) v))
    at true e = let same : overwritten memory a (bytes_of (byte_count k) v) ≡ after = cc in (k, refl, sym same)
    at false e = absurd (cc)

over_bytes : (Q : Byte → Type 0) (m : Memory) (a : Value) (new : List Byte) → OfBytes Q m → AllByRecursion Q new → OfBytes Q (overwritten m a new)
over_bytes Q m (value.Ptr b (pos o)) new h k = written_bytes Q m b o new h k
over_bytes Q m (value.Ptr b (negsuc o)) new h k = h
over_bytes Q m (value.Num n) new h k = h
over_bytes Q m (value.Bare n) new h k = h
over_bytes Q m value.Undef new h k = h
over_bytes Q m value.Poison new h k = h

over_lives : (m : Memory) (a : Value) (new : List Byte) (k align size : ℕ) → IsLive m k align size → IsLive (overwritten m a new) k align size
over_lives m (value.Ptr b (pos o)) new k align size h = written_lives m b o new k align size h
over_lives m (value.Ptr b (negsuc o)) new k align size h = h
over_lives m (value.Num n) new k align size h = h
over_lives m (value.Bare n) new k align size h = h
over_lives m value.Undef new k align size h = h
over_lives m value.Poison new k align size h = h

over_long : (m : Memory) (a : Value) (new : List Byte) → length (overwritten m a new) ≡ length m
over_long m (value.Ptr b (pos o)) new = updated_long (with_bytes o new) m b
over_long m (value.Ptr b (negsuc o)) new = refl
over_long m (value.Num n) new = refl
over_long m (value.Bare n) new = refl
over_long m value.Undef new = refl
over_long m value.Poison new = refl

pub moved_on : (memory after : Memory) → length memory ≤ length after → (xs : Memory) → AreBytesAmong (IsMade memory) xs → AreBytesAmong (IsMade after) xs
moved_on memory after long xs h =
    all_on (λ (c : Cell). AllByRecursion (IsByteAmong (IsMade memory)) c.bytes) (λ (c : Cell). AllByRecursion (IsByteAmong (IsMade after)) c.bytes)
    (λ c k. all_on (IsByteAmong (IsMade memory)) (IsByteAmong (IsMade after)) (byte_more (IsMade memory) (IsMade after) (λ b made. omega (arith, made, long))) c.bytes k) xs h

undef_filled : (Q : Byte → Type 0) → Q byte.Undef → (n : ℕ) → AllByRecursion Q (filled n [])
undef_filled Q h zero = tt
undef_filled Q h (suc n) = (h, undef_filled Q h n)

pub got_there : {A : Type 0} (xs : List A) (k : ℕ) → k < length xs → (x : A) × (slice_get xs k ≡ Some x)
got_there [] k below = absurd (omega (arith, below))
got_there (x ∷ xs) zero below = (x, refl)
got_there (x ∷ xs) (suc k) below = got_there xs k (omega (arith, below))

-- ---- showing

module _ (P : List Item → State → Type 0) (count : ℕ) where
  showing_kept : (o : Option Showing) (world : World) (next : Shown → World → Asks) → NamesKept count world.memory world.names → LeavesGrown world.memory world.names o
      → ((s : Shown) (after : Names) → o ≡ Some (s, after) → AreApart after)
      → ((s : Shown) (names : Names) → NamesKept count world.memory names → AllDo P (next s (record world { names = names }))) → AllDo P (shown_as o world next)
  showing_kept None world next h grows apart go = tt
  showing_kept (Some showing) world next h grows apart go =
      go showing.0 showing.1 (grown_kept count world.memory world.names showing.1 h grows (apart showing.0 showing.1 refl))

  undef_kept : (k : Kind) (c : Chosen) (world : World) (next : Shown → World → Asks) → NamesKept count world.memory world.names
      → ((s : Shown) (names : Names) → NamesKept count world.memory names → AllDo P (next s (record world { names = names }))) → AllDo P (shown_as (chosen_by k world c) world next)
  undef_kept k (Told c) world next h go =
      showing_kept (chosen k world.memory world.names c) world next h (chosen_grows world.memory k world.names c)
      (λ s after is. names_stay_apart value.Undef k world.memory world.names after s (c, is) h.once) go
  undef_kept k (FreshByte bound offset place) world next h go = tt

  pub show_kept : (k : Option Kind) (v : Value) (world : World) (bad : Asks) (next : Shown → World → Asks) → NamesKept count world.memory world.names → IsAmong (IsMade world.memory) v → AllDo P bad
      → ((s : Shown) (names : Names) → NamesKept count world.memory names → AllDo P (next s (record world { names = names }))) → AllDo P (show k v world bad next)
  show_kept k value.Poison world bad next h made b go = b
  show_kept None value.Undef world bad next h made b go = b
  show_kept (Some k) value.Undef world bad next h made b go = λ c fits. undef_kept k c world next h go
  show_kept k (value.Num n) world bad next h made b go = go _ world.names h
  show_kept k (value.Bare n) world bad next h made b go = go _ world.names h
  show_kept k (value.Ptr d o) world bad next h made b go =
      showing_kept (shown_of world.names (value.Ptr d o)) world next h (name_grows world.memory world.names d o (name_of world.names d) made)
      (λ s after is. names_stay_apart (value.Ptr d o) kind.Ptr world.memory world.names after s is h.once) go

  pub show_all_kept : (vs : List (Option Kind × Value)) (world : World) (next : List Shown → World → Asks) → NamesKept count world.memory world.names
      → AllByRecursion (λ (v : Option Kind × Value). IsAmong (IsMade world.memory) v.1) vs → P (Wrong ∷ []) Over
      → ((ss : List Shown) (names : Names) → NamesKept count world.memory names → AllDo P (next ss (record world { names = names }))) → AllDo P (show_all vs world next)
  show_all_kept [] world next h made bad go = go [] world.names h
  show_all_kept (v ∷ vs) world next h made bad go =
      show_kept v.0 v.1 world _ _ h made.0 bad (λ s names k. show_all_kept vs (record world { names = names }) _ k made.1 bad (λ ss last l. go (s ∷ ss) last l))

  -- bytes
  part_kept : (name : Option ℕ) (d : ℕ) (offset : ℤ) (place : ℕ) (world : World) (next : ShownByte → World → Asks) → NamesKept count world.memory world.names → name_of world.names d ≡ name
      → IsMade world.memory d → ((s : ShownByte) (names : Names) → NamesKept count world.memory names → AllDo P (next s (record world { names = names })))
      → AllDo P (show_part name d offset place world next)
  part_kept (Some x) d offset place world next h named made go = go _ world.names h
  part_kept None d offset place world next h named made go =
      go _ (world.names ++ Some d ∷ [])
      (grown_kept count world.memory world.names (world.names ++ Some d ∷ []) h (inr (Some d, made, refl))
      (names_stay_apart (value.Ptr d offset) kind.Ptr world.memory world.names (world.names ++ Some d ∷ []) (shown.Name (length world.names) offset)
      (shown_next world.names (world.names ++ Some d ∷ []) d offset (shown.Name (length world.names) offset) named refl) h.once))

  bind_kept : (bound : Option ℕ) (world : World) → NamesKept count world.memory world.names → may_bind world bound ≡ true → NamesKept count world.memory (world.names ++ bound ∷ [])
  bind_kept None world h may =
      grown_kept count world.memory world.names (world.names ++ None ∷ []) h (inr (None, tt, refl)) (loose_apart world.memory world.names h.once)
  bind_kept (Some b) world h may =
      grown_kept count world.memory world.names (world.names ++ Some b ∷ []) h (inr (Some b, unnamed_made world.memory world.names b may, refl))
      (next_apart world.memory world.names b may h.once)

  picked_kept : (c : Chosen) (world : World) (next : ShownByte → World → Asks) → is_byte_pick world c ≡ true → NamesKept count world.memory world.names
      → ((s : ShownByte) (names : Names) → NamesKept count world.memory names → AllDo P (next s (record world { names = names }))) → AllDo P (picked_byte c world next)
  picked_kept (Told (choice.PickByte s)) world next fits h go = go s world.names h
  picked_kept (FreshByte bound offset place) world next fits h go = go _ _ (bind_kept bound world h fits)
  picked_kept (Told c) world next fits h go = tt

  pub byte_kept : (x : Byte) (world : World) (next : ShownByte → World → Asks) → NamesKept count world.memory world.names → IsByteAmong (IsMade world.memory) x → P (Wrong ∷ []) Over
      → ((s : ShownByte) (names : Names) → NamesKept count world.memory names → AllDo P (next s (record world { names = names }))) → AllDo P (show_byte x world next)
  byte_kept byte.Poison world next h made bad go = bad
  byte_kept (byte.Num n) world next h made bad go = go _ world.names h
  byte_kept (byte.Frag d offset place) world next h made bad go = part_kept (name_of world.names d) d offset place world next h refl made go
  byte_kept byte.Undef world next h made bad go = λ c fits. picked_kept c world next fits h go

-- ---- what the outside gives

bound_among : (among : ℕ → Type 0) (bound : Option ℕ) (offset : ℤ) → IsNameAmong among bound → IsAmong among (bound_value bound offset)
bound_among among None offset h = tt
bound_among among (Some b) offset h = h

pub resolved_among : (among : ℕ → Type 0) (names : Names) (x : ℕ) (offset : ℤ) → AllByRecursion (IsNameAmong among) names → IsAmong among (resolved names x offset)
resolved_among among [] x offset h = tt
resolved_among among (bound ∷ names) zero offset h = bound_among among bound offset h.0
resolved_among among (bound ∷ names) (suc x) offset h = resolved_among among names x offset h.1

pub resolve_among : (among : ℕ → Type 0) (world : World) (s : Shown) → AllByRecursion (IsNameAmong among) world.names → IsAmong among (resolve world s)
resolve_among among world (shown.Num n) h = tt
resolve_among among world (shown.Name x offset) h = resolved_among among world.names x offset h
resolve_among among world (shown.Bare n) h = tt

pub part_among : (among : ℕ → Type 0) (v : Value) (place : ℕ) → IsAmong among v → IsByteAmong among (part_given v place)
part_among among (value.Ptr b offset) place h = h
part_among among (value.Num n) place h = tt
part_among among (value.Bare n) place h = tt
part_among among value.Undef place h = tt
part_among among value.Poison place h = tt

pub given_among : (among : ℕ → Type 0) (world : World) (s : ShownByte) → AllByRecursion (IsNameAmong among) world.names → IsByteAmong among (given_byte world s)
given_among among world (given.Num n) h = tt
given_among among world (given.Frag x offset place) h = part_among among (resolved world.names x offset) place (resolved_among among world.names x offset h)

part_is_byte : (v : Value) (place : ℕ) → IsRanged v → IsByte (part_given v place)
part_is_byte (value.Ptr b offset) place h = h
part_is_byte (value.Num n) place h = tt
part_is_byte (value.Bare n) place h = tt
part_is_byte value.Undef place h = tt
part_is_byte value.Poison place h = tt

-- a name's address has an offset in range
named_ranged : (bound : Option (Option ℕ)) (offset : ℤ) → IsOffset offset → IsRanged (named_value bound offset)
named_ranged None offset range = tt
named_ranged (Some None) offset range = tt
named_ranged (Some (Some b)) offset range = range

pub given_is_byte : (world : World) (s : ShownByte) → is_byte_of world s ≡ true → IsByte (given_byte world s)
given_is_byte world (given.Num n) h = ltb-true n 256 h
given_is_byte world (given.Frag x offset place) h =
    part_is_byte (resolved world.names x offset) place
    (named_ranged (slice_get world.names x) offset (offset_in_range offset (left_true (is_offset offset) (nat_lt x (length world.names)) h)))

each_given : (Q : Byte → Type 0) (world : World) → ((s : ShownByte) → is_byte_of world s ≡ true → Q (given_byte world s)) → (bytes : List ShownByte) → list_all (is_byte_of world) bytes ≡ true
    → AllByRecursion Q (map (given_byte world) bytes)
each_given Q world h [] all = tt
each_given Q world h (s ∷ bytes) all =
    (h s (left_true (is_byte_of world s) (list_all (is_byte_of world) bytes) all), each_given Q world h bytes (right_true (is_byte_of world s) (list_all (is_byte_of world) bytes) all))

-- ---- steps

module _ (m : Module) (input : Input) where
  abbrev scope : Scope
  scope = scope_of m

  abbrev Then : List Item → State → Type 0
  Then items after = IsKept scope input after

  abbrev Kept : List Frame → World → Type 0
  Kept = AreKept scope input

  abbrev count : ℕ
  count = count_at_start scope input

  global_made : (frames : List Frame) (world : World) → Kept frames world → (k : ℕ) → k < length scope.globals → IsMade world.memory k
  global_made frames world h k below = let g = got_there scope.globals k below in live_made world.memory k _ _ (h.globals k g.0 g.1)

  constants_made : (frames : List Frame) (world : World) → Kept frames world → (t : Ty) (c : Const) → IsAmong (IsMade world.memory) (constant_value scope t c)
  constants_made frames world h t c = (constant_good (IsMade world.memory) scope (global_made frames world h) t c).1

  start_made : (frames : List Frame) (world : World) → Kept frames world → (n : ℕ) → n ≤ count → n ≤ length world.memory
  start_made frames world h zero below = omega arith
  start_made frames world h (suc n) below =
      let made : n < length world.memory = got_all (IsNameAmong (IsMade world.memory)) world.names n (Some n) h.held.names (h.named n (omega (arith, below))) in
      omega (arith, made)

  -- a line that sets a register
  gives_kind : (k : Option Kind) (o : Outcome) (v : Value) → o ≡ Gives v → GivesInKind k o → IsInKindOf k v
  gives_kind k o v is h = subst (GivesInKind k) is h

  calm_kept : (l : Calm) (left : List Instr) (frame : Frame) (rest : List Pending) (world : World) → Kept (frame ∷ waiting rest) world
      → AllDo Then (line_step m (line.Calm l) (record frame { lines = left }) rest world)
  calm_kept l left frame rest world h =
      let o = outcome scope (read frame.registers) world.memory l.right in
      all_do_set_to Then (kind_of (type_of l.right)) l.name o (record frame { lines = left }) rest world
      (λ v is. top_on scope input frame _ (waiting rest) world refl
      (set_in_kind frame.registers l.name (kind_of (type_of l.right)) v h.registers.0
      (gives_kind (kind_of (type_of l.right)) o v is (outcome_in_kind scope (read frame.registers) (λ k x. h.registers.0 x k) world.memory h.bytes l.right)))
      (set_among (IsMade world.memory) frame.registers l.name (kind_of (type_of l.right)) v h.held.registers.0
      (subst (GivesAmong (IsMade world.memory)) is
      (outcome_among (IsMade world.memory) scope (constants_made (frame ∷ waiting rest) world h) frame.registers h.held.registers.0 world.memory h.held.bytes l.right)))
      h) tt

  -- an alloca
  alloca_kept : (a : Alloca) (left : List Instr) (frame : Frame) (rest : List Pending) (world : World) → Kept (frame ∷ waiting rest) world
      → AllDo Then (line_step m (line.Alloca a) (record frame { lines = left }) rest world)
  alloca_kept a left frame rest world h =
      let b : ℕ = length world.memory in
      let cell : Cell = new_cell (size_of scope.types a.of * count_made a.count) (align_or scope.types a.of a.align) [] in
      let after : Memory = world.memory ++ cell ∷ [] in
      let long : length after ≡ suc b = length_more world.memory cell in
      let more : b ≤ length after = omega (arith, long) in
      let made : b < length after = omega (arith, long) in
      let on : Kept (frame ∷ waiting rest) (record world { memory = after }) =
      memory_on scope input (frame ∷ waiting rest) world.memory after world.names h more
      (all_joined (λ (c : Cell). AllByRecursion IsByte c.bytes) world.memory (cell ∷ []) h.bytes (undef_filled IsByte tt _, tt))
      (all_joined (λ (c : Cell). AllByRecursion (IsByteAmong (IsMade after)) c.bytes) world.memory (cell ∷ [])
      (moved_on world.memory after more world.memory h.held.bytes) (undef_filled (IsByteAmong (IsMade after)) tt _, tt))
      (λ k align size below is. more_lives world.memory (cell ∷ []) k align size is) in
      let set_frame : Frame = record frame { lines = left; registers = set frame.registers a.name (Some kind.Ptr) (value.Ptr b (pos 0)) } in
      let set_on : Kept (set_frame ∷ waiting rest) (record world { memory = after }) =
      top_on scope input frame set_frame (waiting rest) (record world { memory = after }) refl
      (set_in_kind frame.registers a.name (Some kind.Ptr) (value.Ptr b (pos 0)) on.registers.0 (record { sfits = omega arith }))
      (set_among (IsMade after) frame.registers a.name (Some kind.Ptr) (value.Ptr b (pos 0)) on.held.registers.0 made) on in
      own_on scope input set_frame _ (waiting rest) (record world { memory = after }) b refl refl (start_made (frame ∷ waiting rest) world h count (omega arith)) made
      (unmade_unowned scope input world.memory b (omega arith) (waiting rest) h.own.1) set_on

  -- a store
  memory_kept : (o : Option Memory) (frame : Frame) (rest : List Pending) (world : World) → ((after : Memory) → o ≡ Some after → Kept (frame ∷ waiting rest) (record world { memory = after }))
      → AllDo Then (with_memory o frame rest world)
  memory_kept None frame rest world h = tt
  memory_kept (Some after) frame rest world h = h after refl

  over_on : (frames : List Frame) (world : World) (k : Kind) (v a : Value) → Kept frames world → IsInKind k v → IsAmong (IsMade world.memory) v
      → Kept frames (record world { memory = overwritten world.memory a (bytes_of (byte_count k) v) })
  over_on frames world k v a h is made =
      let new : List Byte = bytes_of (byte_count k) v in
      let after : Memory = overwritten world.memory a new in
      let long : length after ≡ length world.memory = over_long world.memory a new in
      let more : length world.memory ≤ length after = omega (arith, long) in
      memory_on scope input frames world.memory after world.names h more
      (over_bytes IsByte world.memory a new h.bytes (bytes_are_bytes v 0 (byte_count k) (kind_ranged k v is)))
      (over_bytes (IsByteAmong (IsMade after)) world.memory a new (moved_on world.memory after more world.memory h.held.bytes)
      (bytes_among (IsMade after) v 0 (byte_count k) (value_more (IsMade world.memory) (IsMade after) (λ b there. omega (arith, there, more)) v made)))
      (λ j align size below live. over_lives world.memory a new j align size live)

  store_kept : (s : Store) (left : List Instr) (frame : Frame) (rest : List Pending) (world : World) → Kept (frame ∷ waiting rest) world
      → AllDo Then (line_step m (line.Store s) (record frame { lines = left }) rest world)
  store_kept s left frame rest world h =
      let v = operand_value scope (read frame.registers) s.value in
      let a = operand_value scope (read frame.registers) s.pointer in
      memory_kept (stored_by scope s frame.registers world.memory) (record frame { lines = left }) rest world
      (λ after is.
      let stored = stored_is world.memory (kind_of s.value.ty) v a (align_or scope.types s.value.ty s.align) after is in
      let in_kind : IsInKind stored.0 v = subst (λ k. IsInKindOf k v) stored.1 (operand_in_kind scope (read frame.registers) (λ k x. h.registers.0 x k) s.value) in
      let made = operand_among (IsMade world.memory) scope (constants_made (frame ∷ waiting rest) world h) frame.registers h.held.registers.0 s.value in
      let on = over_on (frame ∷ waiting rest) world stored.0 v a h in_kind made in
      let all : Kept (frame ∷ waiting rest) (record world { memory = after }) = subst (λ (memory : Memory). Kept (frame ∷ waiting rest) (record world { memory = memory })) (sym stored.2) on in
      top_on scope input frame (record frame { lines = left }) (waiting rest) (record world { memory = after }) refl all.registers.0 all.held.registers.0 all)

  -- a call
  module _ (c : Call) (left : List Instr) (frame : Frame) (rest : List Pending) (world : World) (h : Kept (frame ∷ waiting rest) world) where
    abbrev behind : Frame
    behind = record frame { lines = left }

    behind_kept : Kept (behind ∷ waiting rest) world
    behind_kept = top_on scope input frame behind (waiting rest) world refl h.registers.0 h.held.registers.0 h

    abbrev values : List (Option Kind × Value)
    values = arguments_of scope frame.registers c.arguments

    values_made : AllByRecursion (λ (v : Option Kind × Value). IsAmong (IsMade world.memory) v.1) values
    values_made = arguments_among (IsMade world.memory) scope (constants_made (frame ∷ waiting rest) world h) frame.registers h.held.registers.0 c.arguments

    begun_kept : (g : Function) (blocks : List Block) → AllDo Then (begun g blocks values (waiting_for c behind ∷ rest) world)
    begun_kept g [] = tt
    begun_kept g (b ∷ bs) =
        push_on scope input (at_block g b (passed g.params values no_registers) []) (behind ∷ waiting rest) world refl
        (passed_in_kind g.params values no_registers (arguments_in_kind scope frame.registers h.registers.0 c.arguments) no_registers_in_kind)
        (passed_among (IsMade world.memory) g.params values no_registers values_made (λ x. tt)) behind_kept

    called_kept : (o : Option Function) (declared : Bool) → AllDo Then (called o declared c.callee values (waiting_for c behind) rest world)
    called_kept (Some g) declared = begun_kept g g.blocks
    called_kept None true =
        show_all_kept Then count values world _ (names_kept scope input (behind ∷ waiting rest) world behind_kept) values_made tt
        (λ ss names k. names_on scope input (behind ∷ waiting rest) world.memory world.names names behind_kept k)
    called_kept None false = tt

    call_kept : AllDo Then (line_step m (line.Call c) behind rest world)
    call_kept = called_kept (function_named c.callee m.functions) (is_declared c.callee m.declarations)

  -- a return: what the frame owns ends
  ended_on : (frame : Frame) (fs : List Frame) (world : World) → Kept (frame ∷ fs) world → Kept fs (without_own frame.own world)
  ended_on frame fs world h =
      let after : Memory = all_ended frame.own world.memory in
      let long : length after ≡ length world.memory = ended_long frame.own world.memory in
      let more : length world.memory ≤ length after = omega (arith, long) in
      pop_on scope input frame fs (without_own frame.own world)
      (memory_on scope input (frame ∷ fs) world.memory after world.names h more (all_ended_bytes IsByte frame.own world.memory h.bytes)
      (all_ended_bytes (IsByteAmong (IsMade after)) frame.own world.memory (moved_on world.memory after more world.memory h.held.bytes))
      (λ k align size below live. all_ended_lives frame.own world.memory k align size
      (all_on (MayOwn count world.memory) (λ b. k < b) (λ b may. (let new : count ≤ b = may.new in omega (arith, below, new))) frame.own h.own.0) live))

  resumed_on : (p : Pending) (fs : List Frame) (world : World) (k : Option Kind) (v : Value) → Kept (p.frame ∷ fs) world → IsInKindOf k v → IsAmong (IsMade world.memory) v
      → Kept (resumed p k v ∷ fs) world
  resumed_on p fs world k v h is made =
      top_on scope input p.frame (resumed p k v) fs world refl (into_in_kind p.frame.registers p.into p.kind k v h.registers.0 is)
      (into_among (IsMade world.memory) p.frame.registers p.into p.kind k v h.held.registers.0 made) h

  return_kept : (k : Option Kind) (v : Value) (frame : Frame) (rest : List Pending) (world : World) → Kept (frame ∷ waiting rest) world → IsInKindOf k v → IsAmong (IsMade world.memory) v
      → AllDo Then (return_step k v rest (without_own frame.own world))
  return_kept k v frame [] world h is made = all_do_show Then k v (without_own frame.own world) _ _ tt (λ s after. tt)
  return_kept k v frame (p ∷ ps) world h is made =
      let long : length (all_ended frame.own world.memory) ≡ length world.memory = ended_long frame.own world.memory in
      resumed_on p (waiting ps) (without_own frame.own world) k v (ended_on frame (waiting (p ∷ ps)) world h) is
      (value_more (IsMade world.memory) (IsMade (all_ended frame.own world.memory)) (λ b there. omega (arith, there, long)) v made)

  void_kept : (frame : Frame) (rest : List Pending) (world : World) → Kept (frame ∷ waiting rest) world → AllDo Then (return_void rest (without_own frame.own world))
  void_kept frame [] world h = tt
  void_kept frame (p ∷ ps) world h = resumed_on p (waiting ps) (without_own frame.own world) None value.Poison (ended_on frame (waiting (p ∷ ps)) world h) tt tt

  jump_kept : (frame : Frame) (rest : List Pending) (world : World) → Kept (frame ∷ waiting rest) world → (to : Name) → AllDo Then (jump scope frame rest world to)
  jump_kept frame rest world h to = all_do_jump Then scope frame rest world to tt
      (λ b named. top_on scope input frame _ (waiting rest) world refl
      (phis_in_kind scope frame.registers frame.block b.phis frame.registers h.registers.0 h.registers.0)
      (phis_among (IsMade world.memory) scope (constants_made (frame ∷ waiting rest) world h) frame.registers h.held.registers.0 frame.block b.phis frame.registers h.held.registers.0)
      h)

  term_kept : (t : Term) (frame : Frame) (rest : List Pending) (world : World) → Kept (frame ∷ waiting rest) world → AllDo Then (term_step scope t frame rest world)
  term_kept (Ret o) frame rest world h =
      return_kept (kind_of o.ty) (operand_value scope (read frame.registers) o) frame rest world h (operand_in_kind scope (read frame.registers) (λ k x. h.registers.0 x k) o)
      (operand_among (IsMade world.memory) scope (constants_made (frame ∷ waiting rest) world h) frame.registers h.held.registers.0 o)
  term_kept RetVoid frame rest world h = void_kept frame rest world h
  term_kept (Br label) frame rest world h = jump_kept frame rest world h label
  term_kept (CondBr c) frame rest world h =
      all_do_branch Then (operand_value scope (read frame.registers) c.condition) _ _ (jump scope frame rest world) tt (jump_kept frame rest world h)
  term_kept (Switch s) frame rest world h =
      all_do_branch Then (operand_value scope (read frame.registers) s.value) _ _ (jump scope frame rest world) tt (jump_kept frame rest world h)
  term_kept Unreachable frame rest world h = tt

  frame_kept : (lines : List Instr) (frame : Frame) (rest : List Pending) (world : World) → Kept (frame ∷ waiting rest) world → AllDo Then (frame_step m lines frame rest world)
  frame_kept (line.Calm l ∷ left) frame rest world h = calm_kept l left frame rest world h
  frame_kept (line.Alloca a ∷ left) frame rest world h = alloca_kept a left frame rest world h
  frame_kept (line.Store s ∷ left) frame rest world h = store_kept s left frame rest world h
  frame_kept (line.Call c ∷ left) frame rest world h = call_kept c left frame rest world h
  frame_kept [] frame rest world h = term_kept frame.term frame rest world h

  -- ---- the outside

  module _ (p : Pending) (ps : List Pending) (world : World) (h : Kept (p.frame ∷ waiting ps) world) where
    abbrev frames : List Frame
    frames = p.frame ∷ waiting ps

    reply_by : (k : Option Kind) (s : Shown) → p.kind ≡ k → is_reply k world (Some s) ≡ true → IsInKindOf p.kind (resolve world s)
    reply_by None s is fits = absurd (cc)
    reply_by (Some k) s is fits = subst (λ o. IsInKindOf o (resolve world s)) (sym is) (given_in_kind k world s fits)

    reply_kept : (s : Option Shown) → is_reply p.kind world s ≡ true → AllDo Then (reply s p ps world)
    reply_kept None fits = resumed_on p (waiting ps) world None value.Poison h tt tt
    reply_kept (Some s) fits =
        resumed_on p (waiting ps) world p.kind (resolve world s) h (reply_by p.kind s refl fits) (resolve_among (IsMade world.memory) world s h.held.names)

    write_kept : (o : Option ℕ) (offset : ℤ) (new : Byte) → IsByte new → IsByteAmong (IsMade world.memory) new → Kept frames (record world { memory = written o offset new world.memory })
    write_kept None offset new is made = h
    write_kept (Some b) (negsuc o) new is made = h
    write_kept (Some b) (pos o) new is made =
        let after : Memory = updated (with_bytes o (new ∷ [])) world.memory b in
        let long : length after ≡ length world.memory = updated_long (with_bytes o (new ∷ [])) world.memory b in
        let more : length world.memory ≤ length after = omega (arith, long) in
        memory_on scope input frames world.memory after world.names h more (written_bytes IsByte world.memory b o (new ∷ []) h.bytes (is, tt))
        (written_bytes (IsByteAmong (IsMade after)) world.memory b o (new ∷ []) (moved_on world.memory after more world.memory h.held.bytes)
        (byte_more (IsMade world.memory) (IsMade after) (λ d there. omega (arith, there, more)) new made, tt))
        (λ k align size below live. written_lives world.memory b o (new ∷ []) k align size live)

    new_kept : (align : ℕ) (bytes : List ShownByte) → list_all (is_byte_of world) bytes ≡ true → Kept frames (with_named align bytes world)
    new_kept align bytes fits =
        let b : ℕ = length world.memory in
        let cell : Cell = record { align = align; live = true; bytes = map (given_byte world) bytes } in
        let after : Memory = world.memory ++ cell ∷ [] in
        let long : length after ≡ suc b = length_more world.memory cell in
        let more : b ≤ length after = omega (arith, long) in
        let made : b < length after = omega (arith, long) in
        let on : Kept frames (record world { memory = after }) =
        memory_on scope input frames world.memory after world.names h more
        (all_joined (λ (c : Cell). AllByRecursion IsByte c.bytes) world.memory (cell ∷ []) h.bytes (each_given IsByte world (given_is_byte world) bytes fits, tt))
        (all_joined (λ (c : Cell). AllByRecursion (IsByteAmong (IsMade after)) c.bytes) world.memory (cell ∷ []) (moved_on world.memory after more world.memory h.held.bytes) (
          each_given (IsByteAmong (IsMade after)) world
              (λ s is. byte_more (IsMade world.memory) (IsMade after) (λ d there. omega (arith, there, more)) (given_byte world s) (given_among (IsMade world.memory) world s h.held.names)) bytes fits,
          tt,
        ))
        (λ k align size below is. more_lives world.memory (cell ∷ []) k align size is) in
        let none : list_any (is_bound_to b) world.names ≡ false = unmade_unnamed world.memory world.names b h.held.names (omega arith) in
        let unnamed : is_unnamed after world.names b ≡ true = and_from (nat_lt b (length after)) (not (list_any (is_bound_to b) world.names)) (lt-ltb b (length after) made) (ap not none) in
        names_on scope input frames after world.names (world.names ++ Some b ∷ []) on
        (grown_kept count after world.names (world.names ++ Some b ∷ []) (names_kept scope input frames (record world { memory = after }) on) (inr (Some b, made, refl))
        (next_apart after world.names b unnamed h.once))

    read_kept : (x : ℕ) (offset : ℤ) (o : Option Byte) → ((b : Byte) → o ≡ Some b → IsByteAmong (IsMade world.memory) b)
        → AllDo Then (read_byte o (λ b. show_byte b world (λ s after. Does (EnvRead x offset s ∷ []) (Waiting p ps after))))
    read_kept x offset None there = tt
    read_kept x offset (Some b) there =
        byte_kept Then count b world _ (names_kept scope input frames world h) (there b refl) tt
        (λ s names k. names_on scope input frames world.memory world.names names h k)

    cell_among : (memory : Memory) (d : ℕ) (c : Cell) → AreBytesAmong (IsMade world.memory) memory → cell_at memory d ≡ Some c → AllByRecursion (IsByteAmong (IsMade world.memory)) c.bytes
    cell_among [] d c all is = absurd (cc)
    cell_among (x ∷ xs) zero c all is = let same : x ≡ c = cc in subst (λ (y : Cell). AllByRecursion (IsByteAmong (IsMade world.memory)) y.bytes) same all.0
    cell_among (x ∷ xs) (suc d) c all is = cell_among xs d c all.1 is

    bound_cell : (bound : Option ℕ) (c : Cell) → option_and_then (cell_at world.memory) bound ≡ Some c → AllByRecursion (IsByteAmong (IsMade world.memory)) c.bytes
    bound_cell None c is = absurd (cc)
    bound_cell (Some d) c is = cell_among world.memory d c h.held.bytes is

    byte_in_among : (o : Option Cell) (offset : ℤ) (b : Byte) → ((c : Cell) → o ≡ Some c → AllByRecursion (IsByteAmong (IsMade world.memory)) c.bytes) → byte_in o offset ≡ Some b
        → IsByteAmong (IsMade world.memory) b
    byte_in_among None offset b all is = absurd (cc)
    byte_in_among (Some c) (negsuc n) b all is = absurd (cc)
    byte_in_among (Some c) (pos n) b all is = at c.live is
      where
        at : (live : Bool) → cond live (slice_get c.bytes n) None ≡ Some b → IsByteAmong (IsMade world.memory) b
        at true e = got_all (IsByteAmong (IsMade world.memory)) c.bytes n b (all c refl) e
        at false e = absurd (cc)

    act_kept : (c : Chosen) → is_act p world c ≡ true → AllDo Then (act c p ps world)
    act_kept (Told (choice.Reply s)) fits = reply_kept s fits
    act_kept (Told choice.Wrong) fits = tt
    act_kept (Told (choice.Read x offset)) fits =
        read_kept x offset (byte_reached world x offset)
        (λ b is. byte_in_among (option_and_then (cell_at world.memory) (block_of (slice_get world.names x))) offset b (bound_cell (block_of (slice_get world.names x))) is)
    act_kept (Told (choice.Write x offset new)) fits =
        let is_byte : is_byte_of world new ≡ true = right_true (is_some (byte_reached world x offset)) (is_byte_of world new) fits in
        write_kept (block_of (slice_get world.names x)) offset (given_byte world new) (given_is_byte world new is_byte) (given_among (IsMade world.memory) world new h.held.names)
    act_kept (Told (choice.New align bytes)) fits = new_kept align bytes fits
    act_kept c fits = tt

  step_kept : (s : State) → IsKept scope input s → AllDo Then (asks m s)
  step_kept (Running frame rest world) h = frame_kept frame.lines frame rest world h
  step_kept (Waiting p ps world) h = λ c fits. act_kept p ps world h c fits
  step_kept Over h = tt

pub steps_keep_it : StepsKeepIt
steps_keep_it m input s made h follows = all_do_made (Then m input) (asks m s) made (step_kept m input s h) follows
