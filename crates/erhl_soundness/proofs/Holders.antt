-- What registers of now hold after a line or a phi that gives no pointer into a block: none of its operands that are copied holds the block.
use Rattle.std.proofs.Common.{◌≡◌, ℕ, zero, suc, pos, negsuc, Bool, false, cond, ◌||◌, List, [], ◌∷◌, drop, take, Option, None, Some, refl, sym, subst, map}
use Rattle.std.specs.List.{AllByRecursion, list_any}
use Rattle.std.proofs.lemmas.Bool.{cond_both, or_from}
use Rattle.ir_types.specs.declared.names.Name.{Name}
use Rattle.ir_types.specs.declared.ty.Ty.{Ty}
use Rattle.ir_types.specs.Same.{same_name}
use Rattle.ir_core.specs.declared.expressions.Expr.{Expr}
use Rattle.ir_core.specs.declared.expressions.Expr.TheVariants as expr
use Rattle.ir_core.specs.declared.functions.Entry.{Entry}
use Rattle.ir_core.specs.declared.functions.Phi.{Phi}
use Rattle.ir_core.specs.declared.operands.Atom.{Atom}
use Rattle.ir_core.specs.declared.operands.Const.{Const}
use Rattle.ir_core.specs.declared.operands.Operand.{Operand}
use Rattle.ir_core.specs.declared.values.Byte.{Byte}
use Rattle.ir_core.specs.declared.values.Byte.TheVariants as byte
use Rattle.ir_core.specs.declared.values.Kind.{Kind}
use Rattle.ir_core.specs.declared.values.Kind.TheVariants.{Int, Ptr}
use Rattle.ir_core.specs.declared.values.Value.{Value}
use Rattle.ir_core.specs.declared.values.Value.TheVariants as value
use Rattle.ir_core.specs.Expressions.{atom_has, expr_has}
use Rattle.ir_core.specs.Types.{kind_of}
use Rattle.ir_values.specs.declared.operations.Outcome.{Outcome}
use Rattle.ir_values.specs.declared.operations.Outcome.TheVariants.{Gives, Trap}
use Rattle.ir_values.specs.Constants.{Scope, constant_value}
use Rattle.ir_values.specs.Operations.{GivesInKind}
use Rattle.ir_values.specs.Values.{IsInKind}
use Rattle.block_memory.specs.Bytes.{are_fragments, byte_count, defined_value, is_poison_byte, is_undef_byte, number_of, pointer_of, value_of}
use Rattle.block_memory.specs.Memory.{Memory, can_access, loaded_of, read_at}
use Rattle.ir_machine.specs.Keeps.{AreRegistersAmong, IsAmong, IsByteAmong, IsHeldAmong, IsNameAmong}
use Rattle.ir_machine.specs.Machine.{entry_from, entry_value, phi_value, with_phis}
use Rattle.ir_machine.specs.Registers.{Registers, align_or, atom_value, holding, operand_value, outcome, read, set}
use Rattle.ir_machine.proofs.HeldConstants.{constant_good}
use Rattle.ir_machine.proofs.Holding.{AreBytesAmong, GivesAmong, all_dropped, all_taken, either_among, outcome_among}
use Rattle.ir_machine.proofs.InKind.{icmp_in_kind}
use Rattle.ir_machine.proofs.Keeping.{got_all}
use Rattle.erhl_assert.specs.Holding.{HoldsAlone, IsNot}
use Rattle.erhl_assert.specs.Postcondition.{copied_in}
use Rattle.erhl_assert.specs.Sides.{SideState}
use Rattle.erhl_soundness.specs.TwoSides.{AreGlobalsNamed}
use Rattle.erhl_soundness.proofs.Facts.{IsNotIt}
use Rattle.erhl_soundness.proofs.Readings.{outcome_same}

-- ---- what is loaded, and what is compared

module _ (among : ℕ → Type 0) where
  pointer_among : (bytes : List Byte) → AllByRecursion (IsByteAmong among) bytes → IsAmong among (pointer_of bytes)
  pointer_among [] h = tt
  pointer_among (byte.Frag b offset place ∷ bytes) h =
      either_among among (are_fragments b offset 0 (byte.Frag b offset place ∷ bytes)) (value.Ptr b offset) value.Undef h.0 tt
  pointer_among (byte.Num n ∷ bytes) h = tt
  pointer_among (byte.Undef ∷ bytes) h = tt
  pointer_among (byte.Poison ∷ bytes) h = tt

  defined_among : (k : Kind) (bytes : List Byte) (n : Option ℕ) → AllByRecursion (IsByteAmong among) bytes → IsAmong among (defined_value k bytes n)
  defined_among (Int width) bytes (Some n) h = either_among among _ (value.Num n) value.Undef tt tt
  defined_among (Int width) bytes None h = tt
  defined_among Ptr bytes (Some n) h = tt
  defined_among Ptr bytes None h = pointer_among bytes h

  value_among : (k : Kind) (bytes : List Byte) → AllByRecursion (IsByteAmong among) bytes → IsAmong among (value_of k bytes)
  value_among k bytes h =
      let defined = defined_value k bytes (number_of bytes) in
      either_among among (list_any is_poison_byte bytes) value.Poison (cond (list_any is_undef_byte bytes) value.Undef defined) tt
      (either_among among (list_any is_undef_byte bytes) value.Undef defined tt (defined_among k bytes (number_of bytes) h))

  read_in_among : (memory : Memory) (k : Kind) (b o : ℕ) → AreBytesAmong among memory → IsAmong among (read_at memory k (value.Ptr b (pos o)))
  read_in_among [] k b o h = value_among k [] tt
  read_in_among (c ∷ cs) k zero o h =
      value_among k (take (byte_count k) (drop o c.bytes)) (all_taken (IsByteAmong among) (byte_count k) (drop o c.bytes) (all_dropped (IsByteAmong among) o c.bytes h.0))
  read_in_among (c ∷ cs) k (suc b) o h = read_in_among cs k b o h.1

  read_among : (memory : Memory) (k : Kind) (a : Value) → AreBytesAmong among memory → IsAmong among (read_at memory k a)
  read_among memory k (value.Ptr b (pos o)) h = read_in_among memory k b o h
  read_among memory k (value.Ptr b (negsuc o)) h = tt
  read_among memory k (value.Num n) h = tt
  read_among memory k (value.Bare address) h = tt
  read_among memory k value.Undef h = tt
  read_among memory k value.Poison h = tt

  -- whatever the address is
  load_among : (memory : Memory) (k : Option Kind) (a : Value) (align : ℕ) → AreBytesAmong among memory → GivesAmong among (loaded_of memory k a align)
  load_among memory None a align h = tt
  load_among memory (Some k) a align h =
      cond_both (can_access memory k a align) (Gives (read_at memory k a)) Trap (GivesAmong among) (λ e. read_among memory k a h) (λ e. tt)

  number_among : (width : ℕ) (v : Value) → IsInKind (Int width) v → IsAmong among v
  number_among width (value.Num n) h = tt
  number_among width (value.Ptr b offset) h = absurd h
  number_among width (value.Bare address) h = tt
  number_among width value.Undef h = tt
  number_among width value.Poison h = tt

  gives_number : (width : ℕ) (o : Outcome) → GivesInKind (Some (Int width)) o → GivesAmong among o
  gives_number width (Gives v) h = number_among width v h
  gives_number width Trap h = tt

-- ---- operands other than one register

-- the phi is given another operand on the edge from that block
abbrev pub IsNotGiven : Name → Name → Phi → Type 0
IsNotGiven x from p = (e : Entry) → entry_from from p.entries ≡ Some e → IsNotIt x e.value

-- each other register holds blocks among those alone
module _ (among : ℕ → Type 0) (x : Name) where
  abbrev pub AreOthersAmong : Registers → Type 0
  AreOthersAmong registers = (y : Name) → same_name y x ≡ false → IsHeldAmong among (registers y)

  held_among : (k : Option Kind) (v : Value) → IsAmong among v → IsHeldAmong among (holding k v)
  held_among None v h = tt
  held_among (Some k) v h = h

  pub set_others : (registers : Registers) (z : Name) (k : Option Kind) (v : Value) → AreOthersAmong registers → IsAmong among v → AreOthersAmong (set registers z k v)
  set_others registers z k v h is y other =
      cond_both (same_name z y) (holding k v) (registers y) (IsHeldAmong among) (λ e. held_among k v is) (λ e. h y other)

  module _ (scope : Scope) (constants : (t : Ty) (c : Const) → IsAmong among (constant_value scope t c)) (registers : Registers) (h : AreOthersAmong registers) where
    abbrev is_it : Name → Bool
    is_it y = same_name y x

    abbrev cleared : Registers
    cleared y = cond (is_it y) None (registers y)

    cleared_among : AreRegistersAmong among cleared
    cleared_among y = cond_both (is_it y) None (registers y) (IsHeldAmong among) (λ e. tt) (λ e. h y e)

    reads_cleared : (k : Kind) (y : Name) → is_it y ≡ false → read registers k y ≡ read cleared k y
    reads_cleared k y e = rw e refl

    among_without : (memory : Memory) → AreBytesAmong among memory → (e : Expr Name) → expr_has is_it e ≡ false → GivesAmong among (outcome scope (read registers) memory e)
    among_without memory bytes e none =
        subst (GivesAmong among) (sym (outcome_same scope (read cleared) (read registers) is_it reads_cleared memory e none))
        (outcome_among among scope constants cleared cleared_among memory bytes e)

    pub atom_among : (t : Ty) (a : Atom Name) → IsNotIt x a → IsAmong among (atom_value scope (read registers) t a)
    atom_among t a none = among_without [] tt (expr.Plain (record { ty = t; atom = a })) none

    indices_not_it : (os : List (Operand Name)) → AllByRecursion (IsNotIt x) (map (λ (o : Operand Name). o.atom) os) → list_any (λ (o : Operand Name). atom_has is_it o.atom) os ≡ false
    indices_not_it [] none = refl
    indices_not_it (o ∷ os) none = or_from (atom_has is_it o.atom) (list_any (λ (q : Operand Name). atom_has is_it q.atom) os) none.0 (indices_not_it os none.1)

    -- a right side gives no other block, where its operands that are copied aren't the register
    pub gives_among : (memory : Memory) → AreBytesAmong among memory → (e : Expr Name) → AllByRecursion (IsNotIt x) (copied_in e) → GivesAmong among (outcome scope (read registers) memory e)
    gives_among memory bytes (expr.Plain o) none = among_without memory bytes (expr.Plain o) none.0
    gives_among memory bytes (expr.Binary b) none =
        among_without memory bytes (expr.Binary b) (or_from (atom_has is_it b.left) (atom_has is_it b.right) none.0 none.1.0)
    gives_among memory bytes (expr.Icmp c) none = gives_number among 1 _ (icmp_in_kind memory c.pred (kind_of c.ty) _ _)
    gives_among memory bytes (expr.Cast c) none = among_without memory bytes (expr.Cast c) none.0
    gives_among memory bytes (expr.Select s) none =
        among_without memory bytes (expr.Select s)
        (or_from (atom_has is_it s.condition.atom || atom_has is_it s.left.atom) (atom_has is_it s.right.atom)
        (or_from (atom_has is_it s.condition.atom) (atom_has is_it s.left.atom) none.0 none.1.0) none.1.1.0)
    gives_among memory bytes (expr.Element e) none =
        among_without memory bytes (expr.Element e)
        (or_from (atom_has is_it e.base.atom) (list_any (λ (o : Operand Name). atom_has is_it o.atom) e.indices) none.0 (indices_not_it e.indices none.1))
    gives_among memory bytes (expr.Load l) none =
        load_among among memory (kind_of l.of) (operand_value scope (read registers) l.pointer) (align_or scope.types l.of l.align) bytes

    entry_among : (t : Ty) (o : Option Entry) → ((e : Entry) → o ≡ Some e → IsNotIt x e.value) → IsAmong among (entry_value scope registers t o)
    entry_among t None none = tt
    entry_among t (Some e) none = atom_among t e.value (none e refl)

    pub phis_among : (from : Name) (ps : List Phi) → AllByRecursion (IsNotGiven x from) ps → (after : Registers) → AreOthersAmong after → AreOthersAmong (with_phis scope registers from ps after)
    phis_among from [] none after is = is
    phis_among from (p ∷ ps) none after is =
        phis_among from ps none.1 (set after p.name (kind_of p.ty) (phi_value scope registers from p))
        (set_others after p.name (kind_of p.ty) (phi_value scope registers from p) is (entry_among p.ty (entry_from from p.entries) none.0))

-- ---- a block that a register alone holds

-- no constant points into it, since each global's block has a name
pub constants_apart : (side : SideState) → AreGlobalsNamed side → (x : Name) (b : ℕ) → HoldsAlone side x b → (t : Ty) (c : Const) → IsAmong (IsNot b) (constant_value side.scope t c)
constants_apart side named x b only t c =
    (constant_good (IsNot b) side.scope (λ k below. got_all (IsNameAmong (IsNot b)) side.world.names k (Some k) only.names (named k below)) t c).1
