-- What one side knows over an alloca.
use Rattle.std.proofs.Common.{◌≡◌, ◌∙◌, ◌≤◌, ◌+◌, ◌*◌, ℕ, zero, suc, pos, Bool, true, false, cond, List, [], ◌∷◌, length, replicate, take, Option, None, Some, refl, sym, ap, subst, subst₂, arith}
use Rattle.std.specs.Prelude.{◌%◌, nat_lt}
use Rattle.std.specs.List.{AllByRecursion}
use Rattle.std.proofs.Math.Nat.{mod_self, zero-mod}
use Rattle.std.proofs.lemmas.Bool.{cond_both, eq-eqb, false≢true, le-leb, or_parts}
use Rattle.std.proofs.lemmas.List.{length-replicate}
use Rattle.std.proofs.lemmas.List.Elements.{Contains-append_left, Contains-append_right}
use Rattle.ir_types.specs.declared.names.Name.{Name}
use Rattle.ir_types.specs.declared.named.NamedTy.{NamedTy}
use Rattle.ir_types.specs.declared.ty.Ty.{Ty, Int, Ptr}
use Rattle.ir_types.specs.declared.ty.Ty.TheViews.{outs-Array, outs-Struct, outs-Named, outs-Void}
use Rattle.ir_types.specs.Layout.{of_int}
use Rattle.ir_types.specs.NameLaws.{all_true, same_name_refl}
use Rattle.ir_types.specs.Named.{found_in, layout_of_name, size_in, size_of}
use Rattle.ir_types.specs.Same.{same_name}
use Rattle.ir_types.proofs.Induction.{by_parts}
use Rattle.ir_types.proofs.Monotone as lies
use Rattle.ir_types.proofs.Powers.{next_power}
use Rattle.ir_core.specs.declared.expressions.Expr.TheVariants.{Plain}
use Rattle.ir_core.specs.declared.expressions.Reg.{Reg}
use Rattle.ir_core.specs.declared.expressions.Reg.TheVariants.{Now, Old, Ghost}
use Rattle.ir_core.specs.declared.functions.Alloca.{Alloca}
use Rattle.ir_core.specs.declared.functions.Instr.TheVariants as line
use Rattle.ir_core.specs.declared.operands.Atom.{Atom}
use Rattle.ir_core.specs.declared.operands.Atom.TheVariants.{Constant, Register}
use Rattle.ir_core.specs.declared.operands.Const.{Const}
use Rattle.ir_core.specs.declared.operands.Const.TheVariants as constant
use Rattle.ir_core.specs.declared.operands.Operand.{Operand}
use Rattle.ir_core.specs.declared.values.Byte.{Byte}
use Rattle.ir_core.specs.declared.values.Byte.TheVariants as byte
use Rattle.ir_core.specs.declared.values.Kind.{Kind}
use Rattle.ir_core.specs.declared.values.Kind.TheVariants as kind
use Rattle.ir_core.specs.declared.values.Value.{Value}
use Rattle.ir_core.specs.declared.values.Value.TheVariants as value
use Rattle.ir_core.specs.Expressions.{Expr0, expr_has}
use Rattle.ir_core.specs.Same.{same_reg}
use Rattle.ir_core.specs.Types.{is_first_class, is_pointer, is_pointer_at_level, kind_of}
use Rattle.ir_values.specs.Constants.{Scope, constant_value}
use Rattle.ir_values.specs.Constants as values
use Rattle.ir_values.specs.declared.operations.Outcome.{Outcome}
use Rattle.ir_values.specs.declared.operations.Outcome.TheVariants.{Gives, Trap}
use Rattle.ir_values.specs.Operations.{IsOutcomeLessDefined}
use Rattle.ir_values.proofs.ConstantValues.{is_pointer_to, no_pointer_int, pointer_kind}
use Rattle.ir_values.proofs.ConstantWalks.{of_undef, worth_undef}
use Rattle.ir_values.proofs.KindLaws.{kind_has_width}
use Rattle.block_memory.specs.Bytes.{IsByte, byte_count, value_of}
use Rattle.block_memory.specs.Memory.{Cell, Memory, bytes_at, can_access, cell_at, filled, fits_maybe, loaded, loaded_of, new_cell}
use Rattle.block_memory.proofs.ReadValues.{fresh_undef}
use Rattle.ir_machine.specs.Keeps.{AreRegistersAmong, IsAmong, IsByteAmong, IsHeldAmong, IsMade, IsNameAmong}
use Rattle.ir_machine.specs.Machine.{count_made, made_block}
use Rattle.ir_machine.specs.Registers.{Held, align_or, atom_value, constant_at, operand_value, register_value}
use Rattle.ir_machine.proofs.Holding.{byte_more, registers_more, set_among}
use Rattle.ir_machine.proofs.Keeping.{OfBytes, all_joined, all_on, length_more, more_lives}
use Rattle.ir_machine.proofs.KeptSteps.{moved_on}
use Rattle.ir_machine.proofs.Runs.{read_set_same, read_set_other, set_in_kind}
use Rattle.erhl_assert.specs.declared.facts.Fact.{Fact}
use Rattle.erhl_assert.specs.declared.facts.Fact.TheVariants.{LessDef, Unique, Private, NoAlias, Ok}
use Rattle.erhl_assert.specs.Facts.{Holds}
use Rattle.erhl_assert.specs.Holding.{AreNoAliases, CanAccess, HoldsAlone, IfBlock, IsNot, IsPrivate, block_held, block_of}
use Rattle.erhl_assert.specs.Kills.{loads_in}
use Rattle.erhl_assert.specs.Postcondition.{line_kills, load_through, now_at, private_if, slot_adds, store_adds}
use Rattle.erhl_assert.specs.Sides.{IsFine, SideState, read_reg, worth}
use Rattle.erhl_soundness.specs.MemoryLaws.{AllocasKeepWhatHolds, side_made}
use Rattle.erhl_soundness.specs.TwoSides.{HoldsMade}
use Rattle.erhl_soundness.proofs.Facts.{both_ways_hold, if_block}
use Rattle.erhl_soundness.proofs.Holders.{set_others}
use Rattle.erhl_soundness.proofs.Kills.{AreLeft, held_at_among, killed_hold, same_name_apart}
use Rattle.erhl_soundness.proofs.Made.{all_up, constants_made, names_up, registers_up}
use Rattle.erhl_soundness.proofs.Readings.{outcome_same}
use Rattle.erhl_soundness.proofs.Stores.{wide_enough}
use Rattle.erhl_soundness.proofs.Untouched.{SameLoads, can_stay, cell_behind, loads_stay, sizes_stay, untouched}

-- ---- sizes of types that have values

module _ (types : List NamedTy) where
  pointer_size : (t : Ty) → is_pointer t ≡ true → 8 ≤ size_of types t
  pointer_size = by_parts (λ t. is_pointer t ≡ true → 8 ≤ size_of types t)
      (λ w h. absurd (false≢true (sym (no_pointer_int w) ∙ h)))
      (λ t more h. (let size : size_of types (Ptr t) ≡ 8 = ap size_in (lies.at_ptr (layout_of_name (found_in types)) t) in omega (arith, size)))
      (λ n t more h. absurd (false≢true (sym (ap is_pointer_at_level (outs-Array n t)) ∙ h)))
      (λ ts more h. absurd (false≢true (sym (ap is_pointer_at_level (outs-Struct ts)) ∙ h)))
      (λ x h. absurd (false≢true (sym (ap is_pointer_at_level (outs-Named x)) ∙ h)))
      (λ h. absurd (false≢true (sym (ap is_pointer_at_level outs-Void) ∙ h)))

  other_fits : (t : Ty) (pointer : Bool) → is_pointer t ≡ pointer → (k : Kind) → cond pointer (Some kind.Ptr) None ≡ Some k → byte_count k ≤ size_of types t
  other_fits t true is k e = let same : kind.Ptr ≡ k = cc in subst (λ j. byte_count j ≤ size_of types t) same (pointer_size t is)
  other_fits t false is k e = absurd (cc)

  number_fits : (w : ℕ) (wide : Bool) (k : Kind) → cond wide (Some (kind.Int w)) None ≡ Some k → byte_count k ≤ size_of types (Int w)
  number_fits w true k e =
      let same : kind.Int w ≡ k = cc in
      let size : size_of types (Int w) ≡ (of_int w).size = ap size_in (lies.at_int (layout_of_name (found_in types)) w) in
      let power = next_power (byte_count (kind.Int w)) in
      subst (λ j. byte_count j ≤ size_of types (Int w)) same (subst (λ n. byte_count (kind.Int w) ≤ n) (sym size) power.1)
  number_fits w false k e = absurd (cc)

  value_fits : (t : Ty) (k : Kind) → kind_of t ≡ Some k → byte_count k ≤ size_of types t
  value_fits (Int w) k e = number_fits w _ k e
  value_fits t k e = other_fits t (is_pointer t) refl k e

-- undef at a type that has values
first_class : (t : Ty) (k : Kind) → kind_of t ≡ Some k → is_first_class t ≡ true
first_class (Int w) k e = refl
first_class t k e = at (is_pointer t) e
  where
    at : (b : Bool) → cond b (Some kind.Ptr) None ≡ Some k → b ≡ true
    at true e = refl
    at false e = absurd (cc)

undef_at : (scope : Scope) (t : Ty) (k : Kind) → kind_of t ≡ Some k → constant_value scope t constant.Undef ≡ value.Undef
undef_at scope t k e = ap (λ b. cond b (values.worth scope constant.Undef t) value.Poison) (of_undef scope t ∙ first_class t k e) ∙ worth_undef scope t

-- ---- new bytes

filled_undef : (n : ℕ) → filled n [] ≡ replicate n byte.Undef
filled_undef zero = refl
filled_undef (suc n) = ap (λ bs. byte.Undef ∷ bs) (filled_undef n)

filled_among : (Q : Byte → Type 0) → Q byte.Undef → (n : ℕ) → AllByRecursion Q (filled n [])
filled_among Q h zero = tt
filled_among Q h (suc n) = (h, filled_among Q h n)

-- what holds made blocks holds no other
module _ (m : Memory) (b : ℕ) (new : length m ≤ b) where
  made_apart : (c : ℕ) → IsMade m c → IsNot b c
  made_apart c made e = omega (arith, made, e, new)

  name_apart : (o : Option ℕ) → IsNameAmong (IsMade m) o → IsNameAmong (IsNot b) o
  name_apart None h = tt
  name_apart (Some c) h = made_apart c h

  bytes_apart : (memory : Memory) → OfBytes (IsByteAmong (IsMade m)) memory → OfBytes (IsByteAmong (IsNot b)) memory
  bytes_apart memory h =
      all_on (λ (c : Cell). AllByRecursion (IsByteAmong (IsMade m)) c.bytes) (λ (c : Cell). AllByRecursion (IsByteAmong (IsNot b)) c.bytes)
      (λ c k. all_on (IsByteAmong (IsMade m)) (IsByteAmong (IsNot b)) (byte_more (IsMade m) (IsNot b) made_apart) c.bytes k) memory h

module _ (side : SideState) (a : Alloca) (paired : ℕ → Bool) (fine : IsFine side) (held : HoldsMade side)
    (stay : (b : ℕ) → IsMade side.world.memory b → paired b ≡ side.paired b) where
  abbrev after : SideState
  after = side_made a paired side

  abbrev before_it : Memory
  before_it = side.world.memory

  abbrev new : ℕ
  new = length before_it

  abbrev pointer : Value
  pointer = value.Ptr new (pos 0)

  abbrev align : ℕ
  align = align_or side.scope.types a.of a.align

  abbrev size : ℕ
  size = size_of side.scope.types a.of * count_made a.count

  abbrev cell : Cell
  cell = new_cell size align []

  abbrev made : ℕ → Type 0
  made = IsMade before_it

  -- ---- what operands are worth is made

  constant_made : (t : Ty) (o : Option Kind) (c : Const) → IsAmong made (constant_at side.scope t o c)
  constant_made t None c = tt
  constant_made t (Some k) c = constants_made side fine.named held.names t c

  read_made : (k : Kind) (r : Reg) → IsAmong made (read_reg side k r)
  read_made k (Now x) = held_at_among made k (side.files.now x) (held.now x)
  read_made k (Old x) = held_at_among made k (side.files.old x) (held.old x)
  read_made k (Ghost x) = held_at_among made k (side.files.ghost x) (held.ghost x)

  register_made : (o : Option Kind) (r : Reg) → IsAmong made (register_value (read_reg side) o r)
  register_made None r = tt
  register_made (Some k) r = read_made k r

  value_made : (t : Ty) (x : Atom Reg) → IsAmong made (atom_value side.scope (read_reg side) t x)
  value_made t (Constant c) = constant_made t (kind_of t) c
  value_made t (Register r) = register_made (kind_of t) r

  -- ---- what names the register not

  abbrev changed : Reg → Bool
  changed = same_reg (Now a.name)

  reads_other : (k : Kind) (r : Reg) → changed r ≡ false → read_reg after k r ≡ read_reg side k r
  reads_other k (Now y) h = read_set_other side.files.now a.name y (Some kind.Ptr) k pointer h
  reads_other k (Old y) h = refl
  reads_other k (Ghost y) h = refl

  loads_on : (ps : List (Operand Reg)) → AllByRecursion (λ (p : Operand Reg). SameLoads side.scope (read_reg side) before_it after.world.memory (operand_value side.scope (read_reg side) p)) ps
  loads_on [] = tt
  loads_on (p ∷ ps) = (loads_stay before_it (cell ∷ []) (operand_value side.scope (read_reg side) p) (value_made p.ty p.atom), loads_on ps)

  worth_on : (e : Expr0) → expr_has changed e ≡ false → worth after e ≡ worth side e
  worth_on e h =
      outcome_same side.scope (read_reg side) (read_reg after) changed reads_other after.world.memory e h
      ∙ untouched side.scope (read_reg side) before_it after.world.memory (λ t x. sizes_stay before_it (cell ∷ []) (atom_value side.scope (read_reg side) t x) (value_made t x)) e (loads_on (loads_in e))

  access_on : (j : Option Kind) (o : Outcome) (other : ℕ) → CanAccess side j o other → CanAccess after j o other
  access_on None o other h = h
  access_on (Some j) Trap other h = h
  access_on (Some j) (Gives v) other h = can_stay before_it (cell ∷ []) v j other h

  held_on : (y : Name) → same_name a.name y ≡ false → after.files.now y ≡ side.files.now y
  held_on y h = rw h refl

  -- a register of now holds a block that is made
  block_made : (o : Option Held) (b : ℕ) → IsHeldAmong made o → block_held o ≡ Some b → made b
  block_made None b h e = absurd (cc)
  block_made (Some there) b h e = value_block there.value h e
    where
      value_block : (v : Value) → IsAmong made v → block_of v ≡ Some b → made b
      value_block (value.Ptr c offset) h e = let same : c ≡ b = cc in subst made same h
      value_block (value.Num n) h e = absurd (cc)
      value_block (value.Bare n) h e = absurd (cc)
      value_block value.Undef h e = absurd (cc)
      value_block value.Poison h e = absurd (cc)

  bytes_on : (b : ℕ) → OfBytes (IsByteAmong (IsNot b)) before_it → OfBytes (IsByteAmong (IsNot b)) after.world.memory
  bytes_on b h = all_joined (λ (c : Cell). AllByRecursion (IsByteAmong (IsNot b)) c.bytes) before_it (cell ∷ []) h (filled_among (IsByteAmong (IsNot b)) tt size, tt)

  alone_on : (y : Name) (b : ℕ) → made b → HoldsAlone side y b → HoldsAlone after y b
  alone_on y b there only = record {
    now = set_others (IsNot b) y side.files.now a.name (Some kind.Ptr) pointer only.now (λ e. omega (arith, there, e));
    others = only.others;
    bytes = bytes_on b only.bytes;
    names = only.names;
  }

  private_on : (b : ℕ) → made b → IsPrivate side b → IsPrivate after b
  private_on b there own = record { unpaired = stay b there ∙ own.unpaired; own = Contains-append_left side.own (new ∷ []) b own.own }

  -- EACH FACT that is left
  leaves : (f : Fact) → Holds side f → AreLeft side (line_kills (line.Alloca a)) f → Holds after f
  leaves (LessDef d e) known h =
      let parts = or_parts (expr_has changed d) (expr_has changed e) h.0 in
      (known.0, subst₂ IsOutcomeLessDefined (sym (worth_on d parts.0)) (sym (worth_on e parts.1)) known.1)
  leaves (NoAlias d e) known h =
      let parts = or_parts (expr_has changed d) (expr_has changed e) h.0 in
      subst₂ AreNoAliases (sym (worth_on d parts.0)) (sym (worth_on e parts.1)) known
  leaves (Ok e t other) known h =
      subst (λ o. CanAccess after (kind_of t) o other) (sym (worth_on e h.0)) (access_on (kind_of t) (worth side e) other known)
  leaves (Unique (Now y)) known h =
      subst (λ o. IfBlock (block_held o) (HoldsAlone after y)) (sym (held_on y h.0))
      (if_block (block_held (side.files.now y)) (HoldsAlone side y) (HoldsAlone after y) (λ b is only. alone_on y b (block_made (side.files.now y) b (held.now y) is) only) known)
  leaves (Unique (Old y)) known h = known
  leaves (Unique (Ghost y)) known h = known
  leaves (Private (Now y)) known h =
      subst (λ o. IfBlock (block_held o) (IsPrivate after)) (sym (held_on y h.0))
      (if_block (block_held (side.files.now y)) (IsPrivate side) (IsPrivate after) (λ b is own. private_on b (block_made (side.files.now y) b (held.now y) is) own) known)
  leaves (Private (Old y)) known h = known
  leaves (Private (Ghost y)) known h = known

  -- ---- the new pointer

  new_held : after.files.now a.name ≡ Some (record { kind = kind.Ptr; value = pointer })
  new_held = rw (same_name_refl a.name) refl

  -- each other register holds what is made
  others_apart : (y : Name) → same_name y a.name ≡ false → IsHeldAmong (IsNot new) (after.files.now y)
  others_apart y h =
      subst (IsHeldAmong (IsNot new)) (sym (held_on y (same_name_apart y a.name h)))
      (registers_more made (IsNot new) (made_apart before_it new (omega arith)) side.files.now held.now y)

  new_alone : HoldsAlone after a.name new
  new_alone = record {
    now = others_apart;
    others = all_on (AreRegistersAmong made) (AreRegistersAmong (IsNot new)) (λ registers h. registers_more made (IsNot new) (made_apart before_it new (omega arith)) registers h) side.others held.others;
    bytes = bytes_on new (bytes_apart before_it new (omega arith) before_it held.bytes);
    names = all_on (IsNameAmong made) (IsNameAmong (IsNot new)) (name_apart before_it new (omega arith)) side.world.names held.names;
  }

  unique_holds : Holds after (Unique (Now a.name))
  unique_holds = subst (λ o. IfBlock (block_held o) (HoldsAlone after a.name)) (sym new_held) new_alone

  private_holds : (one_sided : Bool) → (one_sided ≡ true → paired new ≡ false) → AllByRecursion (Holds after) (private_if one_sided a.name)
  private_holds false free = tt
  private_holds true free = (
    subst (λ o. IfBlock (block_held o) (IsPrivate after)) (sym new_held)
        (record { unpaired = free refl; own = Contains-append_right side.own (new ∷ []) new (zero, omega arith, refl) }),
    tt,
  )

  -- ---- the slot

  abbrev slot : Operand Reg
  slot = now_at (Ptr a.of) a.name

  slot_value : operand_value side.scope (read_reg after) slot ≡ pointer
  slot_value =
      ap (λ o. register_value (read_reg after) o (Now a.name)) (pointer_kind (Ptr a.of) (is_pointer_to a.of))
      ∙ read_set_same side.files.now a.name kind.Ptr pointer

  module _ (k : Kind) (is : kind_of a.of ≡ Some k) (count : ℕ) (counted : count_made a.count ≡ suc count) (positive : nat_lt 0 align ≡ true) where
    room : byte_count k ≤ size
    room =
        let fits = value_fits side.scope.types a.of k is in
        subst (λ n. byte_count k ≤ size_of side.scope.types a.of * n) (sym counted) (more (byte_count k) (size_of side.scope.types a.of) count fits)
      where
        more : (n s c : ℕ) → n ≤ s → n ≤ s * suc c
        more n s c h = grind arith

    there : cell_at after.world.memory new ≡ Some cell
    there = cell_behind before_it cell

    long : length (filled size []) ≡ size
    long = ap length (filled_undef size) ∙ length-replicate size byte.Undef

    fits : can_access after.world.memory k pointer align ≡ true
    fits =
        ap (λ c. fits_maybe c (byte_count k) 0 align) there
        ∙ all_true positive
        (all_true (eq-eqb (align % align) 0 (mod_self align))
        (all_true (eq-eqb (0 % align) 0 (zero-mod align))
        (le-leb (0 + byte_count k) (length (filled size [])) (let l = long in let r = room in omega (arith, l, r)))))

    loads_undef : loaded after.world.memory k pointer align ≡ Gives value.Undef
    loads_undef =
        ap (λ b. cond b (Gives (value_of k (bytes_at (cell_at after.world.memory new) 0 (byte_count k)))) Trap) fits
        ∙ ap (λ c. Gives (value_of k (bytes_at c 0 (byte_count k)))) there
        ∙ ap (λ bs. Gives (value_of k (take (byte_count k) bs))) (filled_undef size)
        ∙ ap Gives (fresh_undef k size (wide_enough k (kind_has_width a.of k is)) room)

    undef_worth : worth after (Plain (record { ty = a.of; atom = Constant constant.Undef })) ≡ Gives value.Undef
    undef_worth = ap (λ o. Gives (constant_at side.scope a.of o constant.Undef)) is ∙ ap Gives (undef_at side.scope a.of k is)

    load_worth : worth after (load_through a.of slot align) ≡ Gives value.Undef
    load_worth =
        ap (λ v. loaded_of after.world.memory (kind_of a.of) v align) slot_value
        ∙ ap (λ o. loaded_of after.world.memory o pointer align) is
        ∙ loads_undef

    slot_holds : AllByRecursion (Holds after) (store_adds a.of (record { ty = a.of; atom = Constant constant.Undef }) slot align)
    slot_holds = (
      subst (λ v. CanAccess after (kind_of a.of) (Gives v) align) (sym slot_value) (subst (λ o. CanAccess after o (Gives pointer) align) (sym is) fits),
      both_ways_hold after (load_through a.of slot align) (Plain (record { ty = a.of; atom = Constant constant.Undef })) value.Undef refl load_worth undef_worth,
    )

  slots_hold : (o : Option Kind) → kind_of a.of ≡ o → (n : ℕ) → count_made a.count ≡ n → AllByRecursion (Holds after) (slot_adds o n a.of slot align)
  slots_hold None is n counted = tt
  slots_hold (Some k) is zero counted = tt
  slots_hold (Some k) is (suc n) counted =
      cond_both (nat_lt 0 align) (store_adds a.of (record { ty = a.of; atom = Constant constant.Undef }) slot align) [] (AllByRecursion (Holds after))
      (λ positive. slot_holds k is n counted positive) (λ none. tt)

  -- ---- the side after it

  still_fine : IsFine after
  still_fine = record {
    now = set_in_kind side.files.now a.name (Some kind.Ptr) pointer fine.now (record { sfits = omega arith });
    old = fine.old;
    ghost = fine.ghost;
    bytes = all_joined (λ (c : Cell). AllByRecursion IsByte c.bytes) before_it (cell ∷ []) fine.bytes (filled_among IsByte tt size, tt);
    globals = λ k g got leads.
        more_lives before_it (cell ∷ []) k (align_or side.scope.types g.ty g.align) (size_of side.scope.types g.ty) (fine.globals k g got leads);
    named = fine.named;
    once = fine.once;
  }

  still_made : HoldsMade after
  still_made =
      let later = after.world.memory in
      let long : length later ≡ suc new = length_more before_it cell in
      let more : new ≤ length later = omega (arith, long) in
      record {
        now = set_among (IsMade later) side.files.now a.name (Some kind.Ptr) pointer (registers_up before_it later more side.files.now held.now) (omega (arith, long));
        old = registers_up before_it later more side.files.old held.old;
        ghost = registers_up before_it later more side.files.ghost held.ghost;
        others = all_up before_it later more side.others held.others;
        bytes = all_joined (λ (c : Cell). AllByRecursion (IsByteAmong (IsMade later)) c.bytes) before_it (cell ∷ []) (moved_on before_it later more before_it held.bytes)
            (filled_among (IsByteAmong (IsMade later)) tt size, tt);
        names = names_up before_it later more side.world.names held.names;
      }

pub allocas_keep : AllocasKeepWhatHolds
allocas_keep side a paired one_sided fine held stay free =
    let after = side_made a paired side in
    record {
      leads = λ m frame rest scope.
          ap (λ (here : Scope). made_block here a (record frame { registers = side.files.now; own = side.own }) rest side.world) scope;
      fine = still_fine side a paired fine held stay;
      made = λ h. still_made side a paired fine held stay;
      left = λ known all. killed_hold side fine.named after (line_kills (line.Alloca a)) (leaves side a paired fine held stay) known all;
      added = (
        unique_holds side a paired fine held stay,
        all_joined (Holds after) (private_if one_sided a.name) (slot_adds (kind_of a.of) (count_made a.count) a.of (now_at (Ptr a.of) a.name) (align_or side.scope.types a.of a.align))
            (private_holds side a paired fine held stay one_sided free)
            (slots_hold side a paired fine held stay (kind_of a.of) refl (count_made a.count) refl),
      );
    }
