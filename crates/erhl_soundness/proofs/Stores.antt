-- What one side knows over a store that doesn't trap.
use Rattle.std.proofs.Common.{◌≡◌, ◌∙◌, ◌≤◌, ℕ, length, arith, true, List, [], ◌∷◌, Option, None, Some, refl, sym, ap, subst, subst₂}
use Rattle.std.specs.List.{AllByRecursion, flat_map}
use Rattle.ir_types.specs.declared.names.Name.{Name}
use Rattle.ir_types.specs.Named.{size_of}
use Rattle.ir_core.specs.declared.expressions.Expr.TheVariants.{Plain}
use Rattle.ir_core.specs.declared.expressions.Reg.{Reg}
use Rattle.ir_core.specs.declared.expressions.Reg.TheVariants.{Now, Old, Ghost}
use Rattle.ir_core.specs.declared.functions.Instr.TheVariants as line
use Rattle.ir_core.specs.declared.functions.Store.{Store}
use Rattle.ir_core.specs.declared.operands.Operand.{Operand}
use Rattle.ir_core.specs.declared.values.Kind.{Kind}
use Rattle.ir_core.specs.declared.values.Kind.TheVariants.{Int, Ptr}
use Rattle.ir_core.specs.declared.values.Value.{Value}
use Rattle.ir_core.specs.Expressions.{Expr0}
use Rattle.ir_core.specs.Types.{kind_of}
use Rattle.ir_values.specs.Constants.{Scope}
use Rattle.ir_values.specs.declared.operations.Outcome.{Outcome}
use Rattle.ir_values.specs.declared.operations.Outcome.TheVariants.{Gives, Trap}
use Rattle.ir_values.specs.Operations.{IsOutcomeLessDefined}
use Rattle.ir_values.specs.Values.{HasWidth, IsInKind, IsInKindOf}
use Rattle.ir_values.proofs.KindLaws.{kind_has_width}
use Rattle.block_memory.specs.Bytes.{IsWide, byte_count, bytes_of}
use Rattle.block_memory.specs.Memory.{Memory, can_access, loaded_of, overwritten, stored, stored_of}
use Rattle.block_memory.proofs.Accesses.{stored_loaded, stores_keep_bytes}
use Rattle.ir_machine.specs.Keeps.{IsAmong, IsByteAmong, IsLive, IsMade}
use Rattle.ir_machine.specs.Machine.{stored_by, with_memory}
use Rattle.ir_machine.specs.Registers.{align_or, atom_value, operand_value, outcome, read}
use Rattle.ir_machine.proofs.Holding.{bytes_among, operand_among, value_more}
use Rattle.ir_machine.proofs.InKind.{operand_in_kind}
use Rattle.ir_machine.proofs.Keeping.{OfBytes}
use Rattle.ir_machine.proofs.KeptSteps.{moved_on}
use Rattle.erhl_assert.specs.declared.fact_set.Kill.TheVariants as kill
use Rattle.erhl_assert.specs.declared.facts.Fact.{Fact}
use Rattle.erhl_assert.specs.declared.facts.Fact.TheVariants.{LessDef, Unique, Private, NoAlias, Ok}
use Rattle.erhl_assert.specs.Facts.{Holds}
use Rattle.erhl_assert.specs.Holding.{AreNoAliases, CanAccess, HoldsAlone, IsNot, IsPrivate, block_held, block_of}
use Rattle.erhl_assert.specs.Kills.{loads_in, unique_of}
use Rattle.erhl_assert.specs.Matched.{now_operand}
use Rattle.erhl_assert.specs.Postcondition.{line_kills, load_through, store_adds}
use Rattle.erhl_assert.specs.Sides.{IsFine, SideState, read_reg, worth}
use Rattle.erhl_soundness.specs.MemoryLaws.{StoresKeepWhatHolds, side_stored}
use Rattle.erhl_soundness.specs.TwoSides.{HoldsMade}
use Rattle.erhl_soundness.proofs.Facts.{IsNotIt, all_split, both_ways_hold, if_block}
use Rattle.erhl_soundness.proofs.Holders.{atom_among, constants_apart}
use Rattle.erhl_soundness.proofs.Kills.{AreLeft, IsLeft, IsSpared, killed_hold, none_unique, value_at}
use Rattle.erhl_soundness.proofs.Made.{all_up, constants_made, names_up, over_bytes, over_lives, over_long, registers_up}
use Rattle.erhl_soundness.proofs.Readings.{atom_mapped}
use Rattle.erhl_soundness.proofs.Untouched.{SameLoads, stored_can, stored_loads, stored_parts, stored_sizes, untouched}

pub wide_enough : (k : Kind) → HasWidth k → IsWide k
wide_enough (Int width) h = h.0
wide_enough Ptr h = tt

-- a store that doesn't trap is of a kind
pub of_kind : (memory after : Memory) (o : Option Kind) (v a : Value) (align : ℕ) → stored_of memory o v a align ≡ Some after → (k : Kind) × (o ≡ Some k)
of_kind memory after None v a align is = absurd (cc)
of_kind memory after (Some k) v a align is = (k, refl)

module _ (side : SideState) (fine : IsFine side) (s : Store) (memory : Memory) where
  abbrev after : SideState
  after = side_stored memory side

  abbrev before_it : Memory
  before_it = side.world.memory

  abbrev given : Value
  given = operand_value side.scope (read side.files.now) s.value

  abbrev at : Value
  at = operand_value side.scope (read side.files.now) s.pointer

  abbrev align : ℕ
  align = align_or side.scope.types s.value.ty s.align

  abbrev address : Operand Reg
  address = now_operand s.pointer

  -- an operand of the function in the logic
  now_worth : (o : Operand Name) → value_at side o.ty (now_operand o).atom ≡ operand_value side.scope (read side.files.now) o
  now_worth o = atom_mapped side.scope Now (read_reg side) o.ty o.atom

  reads_same : read_reg after ≡ read_reg side
  reads_same = λ i k r. same k r i
    where
      same : (k : Kind) (r : Reg) → read_reg after k r ≡ read_reg side k r
      same k (Now x) = refl
      same k (Old x) = refl
      same k (Ghost x) = refl

  module _ (k : Kind) (kind : kind_of s.value.ty ≡ Some k) (is : stored before_it k given at align ≡ Some memory) where
    can : can_access before_it k at align ≡ true
    can = (stored_parts before_it memory k given at align is).0

    -- WHAT IS SPARED
    spared_loads : (ps : List (Operand Reg)) → AllByRecursion (IsSpared side address) ps
        → AllByRecursion (λ (p : Operand Reg). SameLoads side.scope (read_reg side) before_it memory (operand_value side.scope (read_reg side) p)) ps
    spared_loads [] h = tt
    spared_loads (p ∷ ps) h = (
      stored_loads before_it memory k given at align is (operand_value side.scope (read_reg side) p)
          (λ b is_at is_p. h.0 b (ap block_of (now_worth s.pointer) ∙ is_at) is_p),
      spared_loads ps h.1,
    )

    worth_spared : (e : Expr0) → AllByRecursion (IsSpared side address) (loads_in e) → worth after e ≡ worth side e
    worth_spared e h =
        ap (λ reading. outcome side.scope reading memory e) reads_same
        ∙ untouched side.scope (read_reg side) before_it memory (λ t a. stored_sizes before_it memory k given at align is (atom_value side.scope (read_reg side) t a)) e (spared_loads (loads_in e) h)

    access_after : (j : Option Kind) (o : Outcome) (other : ℕ) → CanAccess side j o other → CanAccess after j o other
    access_after None o other h = h
    access_after (Some j) Trap other h = h
    access_after (Some j) (Gives v) other h = stored_can before_it memory k given at align is v j other ∙ h

    alone_after : (x : Name) (b : ℕ) → IsNotIt x s.value.atom → HoldsAlone side x b → HoldsAlone after x b
    alone_after x b other only = record {
      now = only.now;
      others = only.others;
      bytes = subst (OfBytes (IsByteAmong (IsNot b))) (sym (stored_parts before_it memory k given at align is).1)
          (over_bytes (IsByteAmong (IsNot b)) before_it at (bytes_of (byte_count k) given) only.bytes
          (bytes_among (IsNot b) given 0 (byte_count k)
          (atom_among (IsNot b) x side.scope (constants_apart side fine.named x b only) side.files.now only.now s.value.ty s.value.atom other)));
      names = only.names;
    }

    leaves : (f : Fact) → Holds side f → AreLeft side (line_kills (line.Store s)) f → Holds after f
    leaves (LessDef a b) known h =
        let parts = all_split (λ k. IsLeft side k (LessDef a b)) (flat_map unique_of (s.value.atom ∷ [])) (kill.Stored address s.value.ty ∷ []) h in
        let loads = all_split (IsSpared side address) (loads_in a) (loads_in b) parts.1.0 in
        (known.0, subst₂ IsOutcomeLessDefined (sym (worth_spared a loads.0)) (sym (worth_spared b loads.1)) known.1)
    leaves (NoAlias a b) known h =
        let parts = all_split (λ k. IsLeft side k (NoAlias a b)) (flat_map unique_of (s.value.atom ∷ [])) (kill.Stored address s.value.ty ∷ []) h in
        let loads = all_split (IsSpared side address) (loads_in a) (loads_in b) parts.1.0 in
        subst₂ AreNoAliases (sym (worth_spared a loads.0)) (sym (worth_spared b loads.1)) known
    leaves (Ok e t other) known h =
        let parts = all_split (λ k. IsLeft side k (Ok e t other)) (flat_map unique_of (s.value.atom ∷ [])) (kill.Stored address s.value.ty ∷ []) h in
        subst (λ o. CanAccess after (kind_of t) o other) (sym (worth_spared e parts.1.0)) (access_after (kind_of t) (worth side e) other known)
    leaves (Unique (Now x)) known h =
        let parts = all_split (λ k. IsLeft side k (Unique (Now x))) (flat_map unique_of (s.value.atom ∷ [])) (kill.Stored address s.value.ty ∷ []) h in
        let others = none_unique side x (s.value.atom ∷ []) parts.0 in
        if_block (block_held (side.files.now x)) (HoldsAlone side x) (HoldsAlone after x) (λ b holds only. alone_after x b others.0 only) known
    leaves (Unique (Old x)) known h = known
    leaves (Unique (Ghost x)) known h = known
    leaves (Private (Now x)) known h =
        if_block (block_held (side.files.now x)) (IsPrivate side) (IsPrivate after) (λ b holds own. record { unpaired = own.unpaired; own = own.own }) known
    leaves (Private (Old x)) known h = known
    leaves (Private (Ghost x)) known h = known

    -- WHAT IS ADDED
    after_worth : (o : Operand Name) → worth after (Plain (now_operand o)) ≡ Gives (operand_value side.scope (read side.files.now) o)
    after_worth o = ap (λ reading. Gives (atom_value side.scope reading o.ty (now_operand o).atom)) reads_same ∙ ap Gives (now_worth o)

    in_kind : IsInKind k given
    in_kind = subst (λ o. IsInKindOf o given) kind (operand_in_kind side.scope (read side.files.now) (λ j x. fine.now x j) s.value)

    load_worth : worth after (load_through s.value.ty address align) ≡ Gives given
    load_worth =
        ap (λ reading. loaded_of memory (kind_of s.value.ty) (operand_value side.scope reading address) align) reads_same
        ∙ ap (λ v. loaded_of memory (kind_of s.value.ty) v align) (now_worth s.pointer)
        ∙ ap (λ j. loaded_of memory j at align) kind
        ∙ stored_loaded before_it memory k given at align (wide_enough k (kind_has_width s.value.ty k kind)) in_kind is

    adds : AllByRecursion (Holds after) (store_adds s.value.ty (now_operand s.value) address align)
    adds = (
      subst (λ o. CanAccess after (kind_of s.value.ty) o align) (sym (after_worth s.pointer))
          (subst (λ j. CanAccess after j (Gives at) align) (sym kind) (stored_can before_it memory k given at align is at k align ∙ can)),
      both_ways_hold after (load_through s.value.ty address align) (Plain (now_operand s.value)) given refl load_worth (after_worth s.value),
    )

    -- THE SIDE after it
    abbrev written : Memory
    written = overwritten before_it at (bytes_of (byte_count k) given)

    is_written : memory ≡ written
    is_written = (stored_parts before_it memory k given at align is).1

    still_fine : IsFine after
    still_fine = record {
      now = fine.now;
      old = fine.old;
      ghost = fine.ghost;
      bytes = stores_keep_bytes before_it memory k given at align in_kind fine.bytes is;
      globals = λ j g got leads.
          subst (λ (m : Memory). IsLive m j (align_or side.scope.types g.ty g.align) (size_of side.scope.types g.ty)) (sym is_written)
          (over_lives before_it at (bytes_of (byte_count k) given) j (align_or side.scope.types g.ty g.align) (size_of side.scope.types g.ty) (fine.globals j g got leads));
      named = fine.named;
      once = fine.once;
    }

    -- in what is written
    abbrev MadeIn : Memory → Type 0
    MadeIn m = HoldsMade (side_stored m side)

    made_in : HoldsMade side → MadeIn written
    made_in held =
        let long : length written ≡ length before_it = over_long before_it at (bytes_of (byte_count k) given) in
        let more : length before_it ≤ length written = omega (arith, long) in
        let given_made : IsAmong (IsMade before_it) given =
        operand_among (IsMade before_it) side.scope (constants_made side fine.named held.names) side.files.now held.now s.value in
        record {
          now = registers_up before_it written more side.files.now held.now;
          old = registers_up before_it written more side.files.old held.old;
          ghost = registers_up before_it written more side.files.ghost held.ghost;
          others = all_up before_it written more side.others held.others;
          bytes = over_bytes (IsByteAmong (IsMade written)) before_it at (bytes_of (byte_count k) given) (moved_on before_it written more before_it held.bytes)
              (bytes_among (IsMade written) given 0 (byte_count k) (value_more (IsMade before_it) (IsMade written) (λ b there. omega (arith, there, more)) given given_made));
          names = names_up before_it written more side.world.names held.names;
        }

    still_made : HoldsMade side → HoldsMade after
    still_made held = subst MadeIn (sym is_written) (made_in held)

pub stores_keep : StoresKeepWhatHolds
stores_keep side s memory one_sided fine is =
    let given = operand_value side.scope (read side.files.now) s.value in
    let at = operand_value side.scope (read side.files.now) s.pointer in
    let align = align_or side.scope.types s.value.ty s.align in
    let k = of_kind side.world.memory memory (kind_of s.value.ty) given at align is in
    let stores : stored side.world.memory k.0 given at align ≡ Some memory = subst (λ o. stored_of side.world.memory o given at align ≡ Some memory) k.1 is in
    record {
      leads = λ m frame rest scope.
          ap (λ (here : Scope). with_memory (stored_by here s side.files.now side.world.memory) (record frame { registers = side.files.now; own = side.own }) rest side.world) scope
          ∙ ap (λ o. with_memory o (record frame { registers = side.files.now; own = side.own }) rest side.world) is;
      fine = still_fine side fine s memory k.0 k.1 stores;
      made = still_made side fine s memory k.0 k.1 stores;
      left = λ known all. killed_hold side fine.named (side_stored memory side) (line_kills (line.Store s)) (leaves side fine s memory k.0 k.1 stores) known all;
      added = adds side fine s memory k.0 k.1 stores;
    }
