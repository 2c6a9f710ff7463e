-- Allocas and stores of both sides, and of one: what is known after them holds, by pairs of blocks.
use Rattle.std.proofs.Common.{◌&&◌, ◌≡◌, ◌∙◌, ℕ, pos, Bool, true, false, cond, nat_eq, nat_lt, List, [], ◌∷◌, length, Option, None, Some, inl, refl, sym, ap, subst, subst₂}
use Rattle.std.specs.Prelude.{◌%◌}
use Rattle.std.specs.List.{AllByRecursion}
use Rattle.std.proofs.lemmas.Bool.{and_parts, cond_both, false≢true, ltb-true}
use Rattle.ir_types.specs.declared.named.NamedTy.{NamedTy}
use Rattle.ir_types.specs.declared.names.Name.{Name}
use Rattle.ir_types.specs.declared.ty.Ty.{Ty}
use Rattle.ir_types.specs.NameLaws.{same_name_true}
use Rattle.ir_types.specs.Same.{same_name, same_ty}
use Rattle.ir_types.proofs.SameLaws.{same_ty_true}
use Rattle.ir_core.specs.declared.expressions.Expr.TheVariants.{Plain}
use Rattle.ir_core.specs.declared.expressions.Reg.{Reg}
use Rattle.ir_core.specs.declared.expressions.Reg.TheVariants.{Ghost, Now, Old}
use Rattle.ir_core.specs.declared.functions.Alloca.{Alloca}
use Rattle.ir_core.specs.declared.functions.Instr.{Instr}
use Rattle.ir_core.specs.declared.functions.Instr.TheVariants as line
use Rattle.ir_core.specs.declared.functions.Store.{Store}
use Rattle.ir_core.specs.declared.operands.Atom.{Atom}
use Rattle.ir_core.specs.declared.operands.Atom.TheVariants.{Constant, Register}
use Rattle.ir_core.specs.declared.values.Kind.{Kind}
use Rattle.ir_core.specs.declared.values.Kind.TheVariants as kind
use Rattle.ir_core.specs.declared.values.Value.{Value}
use Rattle.ir_core.specs.declared.values.Value.TheVariants as value
use Rattle.ir_core.specs.Expressions.{map_atom}
use Rattle.ir_core.specs.Types.{is_pointer, kind_of}
use Rattle.ir_values.specs.Constants.{Scope}
use Rattle.ir_values.specs.declared.operations.Outcome.TheVariants.{Gives}
use Rattle.ir_values.specs.Related.{IsRelated, Pairing}
use Rattle.block_memory.specs.Bytes.{byte_count, bytes_of}
use Rattle.block_memory.specs.Memory.{Memory, can_access, overwritten, stored_of}
use Rattle.block_memory.specs.Related.{AreMemoriesRelated}
use Rattle.block_memory.proofs.Accesses.{access_alike}
use Rattle.ir_machine.specs.Machine.{stored_by}
use Rattle.ir_machine.specs.Registers.{align_or, atom_value, operand_value, read, register_value}
use Rattle.erhl_assert.specs.declared.facts.Assertion.{Assertion}
use Rattle.erhl_assert.specs.declared.facts.Fact.{Fact}
use Rattle.erhl_assert.specs.declared.facts.Fact.TheVariants.{Ok, Private}
use Rattle.erhl_assert.specs.declared.verdict.Reason.{Reason}
use Rattle.erhl_assert.specs.declared.verdict.Reason.TheVariants.{KindsDiffer, NotPrivate, TargetMayTrap, Unmatched}
use Rattle.erhl_assert.specs.Allowed.{divides, first_unmatched, is_known_to_store, is_to_private, line_fault_of, same_access, same_slot}
use Rattle.erhl_assert.specs.Facts.{AssertionHolds, Holds}
use Rattle.erhl_assert.specs.Holding.{CanAccess, HoldsPrivate, IfBlock, IsPrivate, block_held, block_of}
use Rattle.erhl_assert.specs.Kills.{all_killed, is_private}
use Rattle.erhl_assert.specs.Matched.{matched, now_operand}
use Rattle.erhl_assert.specs.Postcondition.{after_line, diff_after, facts_after, line_adds, line_kills, with_reg, without_reg}
use Rattle.erhl_assert.specs.Sides.{AreRelated, RegisterFiles, SideState, no_ghost, read_reg}
use Rattle.erhl_soundness.specs.MemoryLaws.{LineKeeps, side_made, side_stored}
use Rattle.erhl_soundness.specs.TwoSides.{AreCommon, ArePairsMore, AreSides, Keeps}
use Rattle.erhl_soundness.proofs.Allocas as allocas
use Rattle.erhl_soundness.proofs.Changing.{related_both, related_source, related_target}
use Rattle.erhl_soundness.proofs.Facts.{has_fact_holds, with_facts_hold}
use Rattle.erhl_soundness.proofs.Kills.{holds_block}
use Rattle.erhl_soundness.proofs.Leading.{line_after, paired_after, stored_in}
use Rattle.erhl_soundness.proofs.Lines.{set_now}
use Rattle.erhl_soundness.proofs.Loads.{divides_on}
use Rattle.erhl_soundness.proofs.Matched.{matched_related}
use Rattle.erhl_soundness.proofs.Pairs.{both_written, next_free, pair_new, paired_stays, registers_more, slot_is_new, slots_common, source_slot_common, source_written, target_slot_common, target_written, with_pair}
use Rattle.erhl_soundness.proofs.Readings.{outcome_mapped}
use Rattle.erhl_soundness.proofs.Stores as stores
use Rattle.erhl_soundness.proofs.Stores.{of_kind}
use Rattle.erhl_soundness.proofs.Untouched.{stored_parts}

-- ---- faults that aren't there

passed : (b : Bool) (o : Option Reason) (r : Reason) → cond b o (Some r) ≡ None → (b ≡ true) × (o ≡ None)
passed true o r h = (refl, h)
passed false o r h = absurd (cc)

-- ---- one side

-- what is known after a line holds
facts_hold : (side after : SideState) (i : Instr) (one_sided : Bool) → LineKeeps side after i one_sided → (fs : List Fact) → AllByRecursion (Holds side) fs
    → AllByRecursion (Holds after) (facts_after side.scope.types one_sided (Some i) fs)
facts_hold side after i one_sided keeps fs all =
    with_facts_hold after (line_adds side.scope.types one_sided i) (all_killed (line_kills i) fs) keeps.added (keeps.left fs all)

-- a store that doesn't trap is of a kind, may access its address, and writes there
pub record IsStored (side : SideState) (s : Store) (memory : Memory) : Type 0 where
  pub stored_kind : Kind
  pub is_kind : kind_of s.value.ty ≡ Some stored_kind
  pub can : can_access side.world.memory stored_kind (operand_value side.scope (read side.files.now) s.pointer) (align_or side.scope.types s.value.ty s.align) ≡ true
  pub written : memory ≡ overwritten side.world.memory (operand_value side.scope (read side.files.now) s.pointer)
      (bytes_of (byte_count stored_kind) (operand_value side.scope (read side.files.now) s.value))

module _ (side : SideState) (s : Store) where
  abbrev given : Value
  given = operand_value side.scope (read side.files.now) s.value

  abbrev at : Value
  at = operand_value side.scope (read side.files.now) s.pointer

  abbrev align : ℕ
  align = align_or side.scope.types s.value.ty s.align

  is_stored : (memory : Memory) → stored_by side.scope s side.files.now side.world.memory ≡ Some memory → IsStored side s memory
  is_stored memory is =
      let before = side.world.memory in
      let k = of_kind before memory (kind_of s.value.ty) given at align is in
      let parts = stored_parts before memory k.0 given at align (subst (λ o. stored_of before o given at align ≡ Some memory) k.1 is) in
      record { stored_kind = k.0; is_kind = k.1; can = parts.0; written = parts.1 }

  -- where the address may be accessed it doesn't trap
  stores_there : (k : Kind) → kind_of s.value.ty ≡ Some k → can_access side.world.memory k at align ≡ true
      → stored_by side.scope s side.files.now side.world.memory ≡ Some (overwritten side.world.memory at (bytes_of (byte_count k) given))
  stores_there k kind can =
      ap (λ o. stored_of side.world.memory o given at align) kind
      ∙ ap (λ b. cond b (Some (overwritten side.world.memory at (bytes_of (byte_count k) given))) None) can

  -- by a fact it doesn't trap
  known_to_store : (fs : List Fact) → AllByRecursion (Holds side) fs → is_known_to_store side.scope.types fs s ≡ true
      → (memory : Memory) × (stored_by side.scope s side.files.now side.world.memory ≡ Some memory)
  known_to_store fs all known =
      accessible (kind_of s.value.ty) refl
      (subst (λ o. CanAccess side (kind_of s.value.ty) o align) (outcome_mapped side.scope Now (read_reg side) side.world.memory (Plain s.pointer))
      (has_fact_holds side (Ok (Plain (now_operand s.pointer)) s.value.ty align) fs known all))
    where
      accessible : (o : Option Kind) → kind_of s.value.ty ≡ o → CanAccess side o (Gives at) align → (memory : Memory) × (stored_by side.scope s side.files.now side.world.memory ≡ Some memory)
      accessible None kind can = absurd can
      accessible (Some k) kind can = (overwritten side.world.memory at (bytes_of (byte_count k) given), stores_there k kind can)

-- ---- private blocks

module _ (side : SideState) (fs : List Fact) (all : AllByRecursion (Holds side) fs) where
  register_block : (o : Option Kind) (x : Name) (b : ℕ) → block_of (register_value (read side.files.now) o x) ≡ Some b → block_held (side.files.now x) ≡ Some b
  register_block None x b is = absurd (cc)
  register_block (Some k) x b is = holds_block k (side.files.now x) b is

  register_free : (x : Name) (b : ℕ) → block_held (side.files.now x) ≡ Some b → HoldsPrivate side (Now x) → side.paired b ≡ false
  register_free x b is known = (let own : IsPrivate side b = subst (λ o. IfBlock o (IsPrivate side)) is known in own.unpaired)

  atom_free : (t : Ty) (a : Atom Name) → is_private fs (map_atom Now a) ≡ true → (b : ℕ) → block_of (atom_value side.scope (read side.files.now) t a) ≡ Some b → side.paired b ≡ false
  atom_free t (Constant c) known b is = absurd (false≢true known)
  atom_free t (Register x) known b is = register_free x b (register_block (kind_of t) x b is) (has_fact_holds side (Private (Now x)) fs known all)

  -- an address that is a private register points to a block that is in no pair
  address_free : (s : Store) → is_to_private fs s ≡ true → (b : ℕ) → block_of (operand_value side.scope (read side.files.now) s.pointer) ≡ Some b → side.paired b ≡ false
  address_free s known b is = atom_free s.pointer.ty s.pointer.atom known b is

-- ---- two sides

-- registers alone tell
same_files : (ps : Pairing) (diff : List Reg) (source target before after : SideState) → before.files ≡ source.files → after.files ≡ target.files
    → AreRelated ps no_ghost diff source target → AreRelated ps no_ghost diff before after
same_files ps diff source target before after p q h = record {
  outside = λ r k out. subst₂ (IsRelated ps) (sym (reads source before p k r)) (sym (reads target after q k r)) (h.outside r k out);
  ghosts = λ g k both. subst₂ (IsRelated ps) (sym (ap (λ (files : RegisterFiles). read files.ghost k g) p)) (sym (ap (λ (files : RegisterFiles). read files.ghost k g) q)) (h.ghosts g k both);
}
  where
    reads : (side other : SideState) → other.files ≡ side.files → (k : Kind) (r : Reg) → read_reg other k r ≡ read_reg side k r
    reads side other e k (Now x) = ap (λ (files : RegisterFiles). read files.now k x) e
    reads side other e k (Old x) = ap (λ (files : RegisterFiles). read files.old k x) e
    reads side other e k (Ghost x) = ap (λ (files : RegisterFiles). read files.ghost k x) e

no_more : (ps : Pairing) (source target : SideState) → ArePairsMore ps ps source.world.memory target.world.memory
no_more ps source target = record { kept = λ b c pair. pair; new = λ b c pair. inl pair }

module _ (ps : Pairing) (known : Assertion) (source target : SideState) (sides : AreSides ps source target) (holds : AssertionHolds ps no_ghost known source target) where
  abbrev types : List NamedTy
  types = source.scope.types

  abbrev common : AreCommon ps source target
  common = sides.common

  source_hold : (after : SideState) (i : Instr) (one_sided : Bool) → LineKeeps source after i one_sided → AllByRecursion (Holds after) (facts_after types one_sided (Some i) known.src)
  source_hold after i one_sided keeps = facts_hold source after i one_sided keeps known.src holds.source_facts

  target_hold : (after : SideState) (i : Instr) (one_sided : Bool) → LineKeeps target after i one_sided → AllByRecursion (Holds after) (facts_after types one_sided (Some i) known.tgt)
  target_hold after i one_sided keeps =
      subst (λ (scope : Scope). AllByRecursion (Holds after) (facts_after scope.types one_sided (Some i) known.tgt)) (sym common.scope)
      (facts_hold target after i one_sided keeps known.tgt holds.target_facts)

  -- ---- allocas

  source_line : (one_sided : Bool) (a : Alloca) → LineKeeps source (side_made a (paired_after one_sided source) source) (line.Alloca a) one_sided
  source_line one_sided a =
      allocas.allocas_keep source a (paired_after one_sided source) one_sided sides.source_fine sides.source_made (paired_stays one_sided source) (next_free one_sided source)

  target_line : (one_sided : Bool) (a : Alloca) → LineKeeps target (side_made a (paired_after one_sided target) target) (line.Alloca a) one_sided
  target_line one_sided a =
      allocas.allocas_keep target a (paired_after one_sided target) one_sided sides.target_fine sides.target_made (paired_stays one_sided target) (next_free one_sided target)

  abbrev source_pointer : Value
  source_pointer = value.Ptr (length source.world.memory) (pos 0)

  abbrev target_pointer : Value
  target_pointer = value.Ptr (length target.world.memory) (pos 0)

  abbrev grown : Pairing
  grown = with_pair ps (length source.world.memory) (length target.world.memory)

  pointers_related : IsRelated grown source_pointer target_pointer
  pointers_related = (length target.world.memory, pair_new ps source.world.memory target.world.memory common.memories, refl)

  -- registers after two allocas
  slots_related : (s t : Alloca) → AreRelated grown no_ghost (diff_after known (Some (line.Alloca s)) (Some (line.Alloca t)))
      (set_now source s.name (Some kind.Ptr) source_pointer) (set_now target t.name (Some kind.Ptr) target_pointer)
  slots_related s t =
      let before = registers_more ps grown (slot_is_new ps source target sides).kept no_ghost known.diff source target holds.related in
      let set = set_now source s.name (Some kind.Ptr) source_pointer in
      cond_both (same_name s.name t.name) (without_reg (Now s.name) known.diff) (with_reg (Now t.name) (with_reg (Now s.name) known.diff))
      (λ diff. AreRelated grown no_ghost diff set (set_now target t.name (Some kind.Ptr) target_pointer))
      (λ e.
      subst (λ x. AreRelated grown no_ghost (without_reg (Now s.name) known.diff) set (set_now target x (Some kind.Ptr) target_pointer)) (same_name_true s.name t.name e)
      (related_both grown known.diff source target s.name (Some kind.Ptr) source_pointer target_pointer pointers_related before))
      (λ e.
      related_target grown (with_reg (Now s.name) known.diff) set target
      (related_source grown known.diff source target before s.name (Some kind.Ptr) source_pointer)
      t.name (Some kind.Ptr) target_pointer)

  pub allocas_keep : (s t : Alloca) → line_fault_of types known (Some (line.Alloca s)) (Some (line.Alloca t)) ≡ None
      → Keeps ps (after_line types known (record { source = Some (line.Alloca s); target = Some (line.Alloca t) })) source target
      (line_after false (line.Alloca s) source) (line_after false (line.Alloca t) target)
  allocas_keep s t allowed =
      let before = side_made s (paired_after false source) source in
      let after = side_made t (paired_after false target) target in
      let of_source = source_line false s in
      let of_target = target_line false t in (
        grown,
        slot_is_new ps source target sides,
        record {
          common = slots_common ps source target sides s t (and_parts (is_pointer s.to) (same_slot types s t) (passed (is_pointer s.to && same_slot types s t) None KindsDiffer allowed).0).1;
          source_fine = of_source.fine;
          target_fine = of_target.fine;
          source_made = of_source.made sides.source_made;
          target_made = of_target.made sides.target_made;
        },
        record {
          source_facts = source_hold before (line.Alloca s) false of_source;
          target_facts = target_hold after (line.Alloca t) false of_target;
          related = same_files grown (diff_after known (Some (line.Alloca s)) (Some (line.Alloca t))) (set_now source s.name (Some kind.Ptr) source_pointer)
              (set_now target t.name (Some kind.Ptr) target_pointer) before after refl refl (slots_related s t);
        },
      )

  pub source_alloca_keeps : (s : Alloca)
      → Keeps ps (after_line types known (record { source = Some (line.Alloca s); target = None })) source target (line_after true (line.Alloca s) source) (Some target)
  source_alloca_keeps s =
      let before = side_made s (paired_after true source) source in
      let of_source = source_line true s in (
        ps,
        no_more ps source target,
        record {
          common = source_slot_common ps source target sides s;
          source_fine = of_source.fine;
          target_fine = sides.target_fine;
          source_made = of_source.made sides.source_made;
          target_made = sides.target_made;
        },
        record {
          source_facts = source_hold before (line.Alloca s) true of_source;
          target_facts = holds.target_facts;
          related = same_files ps (with_reg (Now s.name) known.diff) (set_now source s.name (Some kind.Ptr) source_pointer) target before target refl refl
              (related_source ps known.diff source target holds.related s.name (Some kind.Ptr) source_pointer);
        },
      )

  pub target_alloca_keeps : (t : Alloca)
      → Keeps ps (after_line types known (record { source = None; target = Some (line.Alloca t) })) source target (Some source) (line_after true (line.Alloca t) target)
  target_alloca_keeps t =
      let after = side_made t (paired_after true target) target in
      let of_target = target_line true t in (
        ps,
        no_more ps source target,
        record {
          common = target_slot_common ps source target sides t;
          source_fine = sides.source_fine;
          target_fine = of_target.fine;
          source_made = sides.source_made;
          target_made = of_target.made sides.target_made;
        },
        record {
          source_facts = holds.source_facts;
          target_facts = target_hold after (line.Alloca t) true of_target;
          related = same_files ps (with_reg (Now t.name) known.diff) source (set_now target t.name (Some kind.Ptr) target_pointer) source after refl refl
              (related_target ps known.diff source target holds.related t.name (Some kind.Ptr) target_pointer);
        },
      )

  -- ---- stores

  -- the sides after bytes have changed
  bytes_common : (before after : Memory) → AreMemoriesRelated ps before after → AreCommon ps (side_stored before source) (side_stored after target)
  bytes_common before after memories = record {
    scope = common.scope;
    memories = memories;
    names = common.names;
    globals = common.globals;
    source_paired = common.source_paired;
    target_paired = common.target_paired;
  }

  abbrev Written : Memory → Memory → Type 0
  Written before after = AreMemoriesRelated ps before after

  -- two stores that are allowed
  module _ (s t : Store) (allowed : line_fault_of types known (Some (line.Store s)) (Some (line.Store t)) ≡ None) where
    abbrev few : ℕ
    few = align_or types t.value.ty t.align

    abbrev many : ℕ
    many = align_or types s.value.ty s.align

    accesses : (same_ty s.value.ty t.value.ty ≡ true) × (divides few many ≡ true)
    accesses =
        and_parts (same_ty s.value.ty t.value.ty) (divides few many)
        (passed (same_access types s t) (first_unmatched known (s.value ∷ s.pointer ∷ []) (t.value ∷ t.pointer ∷ [])) KindsDiffer allowed).0

    operands : (matched known s.value t.value ≡ true) × (matched known s.pointer t.pointer ≡ true)
    operands =
        let none = (passed (same_access types s t) (first_unmatched known (s.value ∷ s.pointer ∷ []) (t.value ∷ t.pointer ∷ [])) KindsDiffer allowed).1 in
        let first = passed (matched known s.value t.value) (first_unmatched known (s.pointer ∷ []) (t.pointer ∷ [])) (Unmatched s.value t.value) none in
        (first.0, (passed (matched known s.pointer t.pointer) None (Unmatched s.pointer t.pointer) first.1).0)

    values : IsRelated ps (given source s) (given target t)
    values = matched_related ps known source target common holds s.value t.value operands.0

    addresses : IsRelated ps (at source s) (at target t)
    addresses = matched_related ps known source target common holds s.pointer t.pointer operands.1

    same_kinds : kind_of t.value.ty ≡ kind_of s.value.ty
    same_kinds = ap kind_of (sym (same_ty_true s.value.ty t.value.ty accesses.0))

    -- where the source's may access its address the target's may
    access_too : (k : Kind) → can_access source.world.memory k (at source s) many ≡ true → can_access target.world.memory k (at target t) (align target t) ≡ true
    access_too k can =
        subst (λ (scope : Scope). can_access target.world.memory k (at target t) (align_or scope.types t.value.ty t.align) ≡ true) common.scope
        (access_alike ps source.world.memory target.world.memory common.memories k many few (ltb-true 0 few (and_parts (nat_lt 0 few) (nat_eq (many % few) 0) accesses.1).0)
        (λ n e. divides_on few many n accesses.1 e) (at source s) (at target t) addresses can)

    target_stores : (before : Memory) (is : IsStored source s before)
        → stored_by target.scope t target.files.now target.world.memory ≡ Some (overwritten target.world.memory (at target t) (bytes_of (byte_count is.stored_kind) (given target t)))
    target_stores before is = stores_there target t is.stored_kind (same_kinds ∙ is.is_kind) (access_too is.stored_kind is.can)

    written_related : (before after : Memory) → IsStored source s before → stored_by target.scope t target.files.now target.world.memory ≡ Some after → AreMemoriesRelated ps before after
    written_related before after is too =
        let same : overwritten target.world.memory (at target t) (bytes_of (byte_count is.stored_kind) (given target t)) ≡ after =
        (let e = sym (target_stores before is) ∙ too in cc) in
        subst₂ Written (sym is.written) same
        (both_written ps source.world.memory target.world.memory common.memories is.stored_kind (at source s) (at target t) (given source s) (given target t) many is.can addresses values)

    both_stored : (o p : Option Memory) → stored_by source.scope s source.files.now source.world.memory ≡ o → stored_by target.scope t target.files.now target.world.memory ≡ p
        → Keeps ps (after_line types known (record { source = Some (line.Store s); target = Some (line.Store t) })) source target (stored_in o source) (stored_in p target)
    both_stored None p is too = tt
    both_stored (Some before) None is too = (let e = sym (target_stores before (is_stored source s before is)) ∙ too in absurd (cc))
    both_stored (Some before) (Some after) is too =
        let of_source = stores.stores_keep source s before false sides.source_fine is in
        let of_target = stores.stores_keep target t after false sides.target_fine too in (
          ps,
          no_more ps source target,
          record {
            common = bytes_common before after (written_related before after (is_stored source s before is) too);
            source_fine = of_source.fine;
            target_fine = of_target.fine;
            source_made = of_source.made sides.source_made;
            target_made = of_target.made sides.target_made;
          },
          record {
            source_facts = source_hold (side_stored before source) (line.Store s) false of_source;
            target_facts = target_hold (side_stored after target) (line.Store t) false of_target;
            related = same_files ps known.diff source target (side_stored before source) (side_stored after target) refl refl holds.related;
          },
        )

  pub stores_keep : (s t : Store) → line_fault_of types known (Some (line.Store s)) (Some (line.Store t)) ≡ None
      → Keeps ps (after_line types known (record { source = Some (line.Store s); target = Some (line.Store t) })) source target
      (line_after false (line.Store s) source) (line_after false (line.Store t) target)
  stores_keep s t allowed =
      both_stored s t allowed (stored_by source.scope s source.files.now source.world.memory) (stored_by target.scope t target.files.now target.world.memory) refl refl

  source_stored : (s : Store) → is_to_private known.src s ≡ true → (o : Option Memory) → stored_by source.scope s source.files.now source.world.memory ≡ o
      → Keeps ps (after_line types known (record { source = Some (line.Store s); target = None })) source target (stored_in o source) (Some target)
  source_stored s private None is = tt
  source_stored s private (Some before) is =
      let of_source = stores.stores_keep source s before true sides.source_fine is in
      let parts = is_stored source s before is in
      let memories : AreMemoriesRelated ps before target.world.memory =
      subst (λ memory. Written memory target.world.memory) (sym parts.written)
      (source_written ps source.world.memory target.world.memory common.memories (at source s) (bytes_of (byte_count parts.stored_kind) (given source s))
      (λ b into c pair. false≢true (sym (address_free source known.src holds.source_facts s private b into) ∙ common.source_paired b c pair))) in (
        ps,
        no_more ps source target,
        record {
          common = bytes_common before target.world.memory memories;
          source_fine = of_source.fine;
          target_fine = sides.target_fine;
          source_made = of_source.made sides.source_made;
          target_made = sides.target_made;
        },
        record {
          source_facts = source_hold (side_stored before source) (line.Store s) true of_source;
          target_facts = holds.target_facts;
          related = same_files ps known.diff source target (side_stored before source) target refl refl holds.related;
        },
      )

  pub source_store_keeps : (s : Store) → line_fault_of types known (Some (line.Store s)) None ≡ None
      → Keeps ps (after_line types known (record { source = Some (line.Store s); target = None })) source target (line_after true (line.Store s) source) (Some target)
  source_store_keeps s allowed =
      source_stored s (passed (is_to_private known.src s) None (NotPrivate s.pointer) allowed).0 (stored_by source.scope s source.files.now source.world.memory) refl

  target_stored : (t : Store) → is_to_private known.tgt t ≡ true → is_known_to_store target.scope.types known.tgt t ≡ true
      → (o : Option Memory) → stored_by target.scope t target.files.now target.world.memory ≡ o
      → Keeps ps (after_line types known (record { source = None; target = Some (line.Store t) })) source target (Some source) (stored_in o target)
  target_stored t private safe None is = (let there = known_to_store target t known.tgt holds.target_facts safe in let e = sym there.1 ∙ is in absurd (cc))
  target_stored t private safe (Some after) is =
      let of_target = stores.stores_keep target t after true sides.target_fine is in
      let parts = is_stored target t after is in
      let memories : AreMemoriesRelated ps source.world.memory after =
      subst (λ memory. Written source.world.memory memory) (sym parts.written)
      (target_written ps source.world.memory target.world.memory common.memories (at target t) (bytes_of (byte_count parts.stored_kind) (given target t))
      (λ c into b pair. false≢true (sym (address_free target known.tgt holds.target_facts t private c into) ∙ common.target_paired b c pair))) in (
        ps,
        no_more ps source target,
        record {
          common = bytes_common source.world.memory after memories;
          source_fine = sides.source_fine;
          target_fine = of_target.fine;
          source_made = sides.source_made;
          target_made = of_target.made sides.target_made;
        },
        record {
          source_facts = holds.source_facts;
          target_facts = target_hold (side_stored after target) (line.Store t) true of_target;
          related = same_files ps known.diff source target source (side_stored after target) refl refl holds.related;
        },
      )

  pub target_store_keeps : (t : Store) → line_fault_of types known None (Some (line.Store t)) ≡ None
      → Keeps ps (after_line types known (record { source = None; target = Some (line.Store t) })) source target (Some source) (line_after true (line.Store t) target)
  target_store_keeps t allowed =
      let first = passed (is_to_private known.tgt t) (cond (is_known_to_store types known.tgt t) None (Some TargetMayTrap)) (NotPrivate t.pointer) allowed in
      let safe = (passed (is_known_to_store types known.tgt t) None TargetMayTrap first.1).0 in
      target_stored t first.0 (subst (λ (scope : Scope). is_known_to_store scope.types known.tgt t ≡ true) common.scope safe)
      (stored_by target.scope t target.files.now target.world.memory) refl
