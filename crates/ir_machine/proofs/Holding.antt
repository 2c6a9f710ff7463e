-- What a line gives holds blocks alone that its operands and memory hold.
use Rattle.std.proofs.Common.{ℕ, zero, suc, ℤ, pos, negsuc, Bool, true, false, ◌&&◌, ◌||◌, cond, List, [], ◌∷◌, map, take, drop, Option, None, Some}
use Rattle.std.specs.List.{AllByRecursion, list_any}
use Rattle.ir_types.specs.declared.named.NamedTy.{NamedTy}
use Rattle.ir_types.specs.declared.names.Name.{Name}
use Rattle.ir_types.specs.declared.ty.Ty.{Ty}
use Rattle.ir_types.specs.Same.{same_name}
use Rattle.ir_core.specs.declared.expressions.Expr.{Expr}
use Rattle.ir_core.specs.declared.expressions.Expr.TheVariants as expr
use Rattle.ir_core.specs.declared.functions.Argument.{Argument}
use Rattle.ir_core.specs.declared.functions.Entry.{Entry}
use Rattle.ir_core.specs.declared.functions.Param.{Param}
use Rattle.ir_core.specs.declared.functions.Phi.{Phi}
use Rattle.ir_core.specs.declared.operands.Atom.{Atom}
use Rattle.ir_core.specs.declared.operands.Atom.TheVariants.{Constant, Register}
use Rattle.ir_core.specs.declared.operands.BinOp.{BinOp}
use Rattle.ir_core.specs.declared.operands.CastOp.{CastOp}
use Rattle.ir_core.specs.declared.operands.Const.{Const}
use Rattle.ir_core.specs.declared.operands.Flags.{Flags}
use Rattle.ir_core.specs.declared.operands.Operand.{Operand}
use Rattle.ir_core.specs.declared.values.Byte.{Byte}
use Rattle.ir_core.specs.declared.values.Byte.TheVariants as byte
use Rattle.ir_core.specs.declared.values.Kind.{Kind}
use Rattle.ir_core.specs.declared.values.Kind.TheVariants.{Int, Ptr}
use Rattle.ir_core.specs.declared.values.Value.{Value}
use Rattle.ir_core.specs.declared.values.Value.TheVariants as value
use Rattle.ir_core.specs.Types.{converts, kind_of}
use Rattle.ir_values.specs.declared.operations.Outcome.{Outcome}
use Rattle.ir_values.specs.declared.operations.Outcome.TheVariants.{Gives, Trap}
use Rattle.ir_values.specs.Addresses.{GivenIndex, are_entered_small, distances, gep_value, leaves, led_address, moved_address, moved_by, undef_inside, wrapped}
use Rattle.ir_values.specs.Constants.{Scope, constant_value}
use Rattle.ir_values.specs.Conversions.{cast_value, recast_value}
use Rattle.ir_values.specs.Operations.{GivesInKind}
use Rattle.ir_values.specs.Selections.{select_value}
use Rattle.ir_values.specs.Values.{IsInKind, is_poison, same_kind}
use Rattle.block_memory.specs.Bytes.{are_fragments, byte_at, byte_count, bytes_from, defined_value, is_poison_byte, is_undef_byte, number_of, number_within, pointer_of, value_of}
use Rattle.block_memory.specs.Memory.{Cell, Memory, can_access, loaded_of, read_at}
use Rattle.ir_machine.specs.Keeps.{AreRegistersAmong, IsAmong, IsByteAmong, IsHeldAmong}
use Rattle.ir_machine.specs.Machine.{arguments_of, at_kind, entry_from, entry_value, passed, phi_value, set_into, with_phis}
use Rattle.ir_machine.specs.Registers.{Held, Registers, align_or, atom_value, binary_at, cast_at, constant_at, held_at, holding, index_value, is_stated, operand_value, outcome, read, register_value, selects, set, size_at}
use Rattle.ir_machine.proofs.InKind as kinds

pub all_taken : {A : Type 0} (P : A → Type 0) (n : ℕ) (xs : List A) → AllByRecursion P xs → AllByRecursion P (take n xs)
all_taken P zero xs h = tt
all_taken P (suc n) [] h = tt
all_taken P (suc n) (x ∷ xs) h = (h.0, all_taken P n xs h.1)

pub all_dropped : {A : Type 0} (P : A → Type 0) (n : ℕ) (xs : List A) → AllByRecursion P xs → AllByRecursion P (drop n xs)
all_dropped P zero xs h = h
all_dropped P (suc n) [] h = tt
all_dropped P (suc n) (x ∷ xs) h = all_dropped P n xs h.1

module _ (among : ℕ → Type 0) where
  abbrev pub GivesAmong : Outcome → Type 0
  GivesAmong (Gives v) = IsAmong among v
  GivesAmong Trap = Unit {0}

  pub either_among : (b : Bool) (v w : Value) → IsAmong among v → IsAmong among w → IsAmong among (cond b v w)
  either_among true v w h k = h
  either_among false v w h k = k

  gives_either : (b : Bool) (o : Outcome) → GivesAmong o → GivesAmong (cond b o (Gives value.Poison))
  gives_either true o h = h
  gives_either false o h = tt

  -- a number is no pointer
  number_among : (width : ℕ) (v : Value) → IsInKind (Int width) v → IsAmong among v
  number_among width (value.Num n) h = tt
  number_among width (value.Ptr b offset) h = absurd h
  number_among width (value.Bare address) h = tt
  number_among width value.Undef h = tt
  number_among width value.Poison h = tt

  gives_number : (width : ℕ) (o : Outcome) → GivesInKind (Some (Int width)) o → GivesAmong o
  gives_number width (Gives v) h = number_among width v h
  gives_number width Trap h = tt

  binary_among : (op : BinOp) (flags : Flags) (k : Option Kind) (a b : Value) → GivesAmong (binary_at op flags k a b)
  binary_among op flags None a b = tt
  binary_among op flags (Some (Int width)) a b = gives_number width (binary_at op flags (Some (Int width)) a b) (kinds.binary_in_kind op flags (Some (Int width)) a b)
  binary_among op flags (Some Ptr) a b = tt

  recast_among : (v : Value) → IsAmong among v → IsAmong among (recast_value v)
  recast_among (value.Num n) h = tt
  recast_among (value.Ptr b offset) h = h
  recast_among (value.Bare address) h = tt
  recast_among value.Undef h = tt
  recast_among value.Poison h = tt

  cast_among : (op : CastOp) (from to : ℕ) (v : Value) → IsAmong among (cast_value op from to v)
  cast_among op from to (value.Num n) = tt
  cast_among op from to (value.Ptr b offset) = tt
  cast_among op from to (value.Bare address) = tt
  cast_among op from to value.Undef = tt
  cast_among op from to value.Poison = tt

  cast_at_among : (op : CastOp) (from to : Option Kind) (v : Value) → IsAmong among v → GivesAmong (cast_at op from to v)
  cast_at_among op None to v h = tt
  cast_at_among op (Some from) None v h = tt
  cast_at_among op (Some (Int from)) (Some (Int to)) v h = cast_among op from to v
  cast_at_among op (Some (Int from)) (Some Ptr) v h = tt
  cast_at_among op (Some Ptr) (Some (Int to)) v h = tt
  cast_at_among op (Some Ptr) (Some Ptr) v h = recast_among v h

  select_among : (c a b : Value) → IsAmong among a → IsAmong among b → IsAmong among (select_value c a b)
  select_among value.Poison a b h k = tt
  select_among value.Undef a b h k = either_among (is_poison a || is_poison b) value.Poison value.Undef tt tt
  select_among (value.Num n) a b h k = either_among _ a b h k
  select_among (value.Ptr d offset) a b h k = either_among (is_poison a || is_poison b) value.Poison value.Undef tt tt
  select_among (value.Bare address) a b h k = either_among (is_poison a || is_poison b) value.Poison value.Undef tt tt

  -- ---- addresses

  inside_among : (inbounds : Bool) → IsAmong among (undef_inside inbounds)
  inside_among true = tt
  inside_among false = tt

  moved_among : (inbounds : Bool) (base : Value) (size : ℕ) (ds : List ℤ) → IsAmong among base → IsAmong among (moved_address inbounds base size ds)
  moved_among inbounds (value.Ptr b o) size ds h = either_among (inbounds && leaves size o ds) value.Poison (value.Ptr b (wrapped (moved_by o ds))) tt h
  moved_among inbounds (value.Bare a) size ds h = either_among inbounds value.Poison _ tt tt
  moved_among inbounds (value.Num n) size ds h = inside_among inbounds
  moved_among inbounds value.Undef size ds h = inside_among inbounds
  moved_among inbounds value.Poison size ds h = inside_among inbounds

  led_among : (inbounds : Bool) (base : Value) (size : ℕ) (is : List GivenIndex) (o : Option (List ℤ)) → IsAmong among base → IsAmong among (led_address inbounds base size is o)
  led_among inbounds base size is None h = tt
  led_among inbounds base size is (Some ds) h = either_among _ (moved_address inbounds base size ds) (undef_inside inbounds) (moved_among inbounds base size ds h) (inside_among inbounds)

  pub gep_among : (inbounds : Bool) (types : List NamedTy) (of : Ty) (base : Value) (size : ℕ) (is : List GivenIndex) → IsAmong among base
      → IsAmong among (gep_value inbounds types of base size is)
  gep_among inbounds types of base size is h =
      let led = led_address inbounds base size is (distances types of is) in
      either_among (is_poison base || list_any (λ i. is_poison i.1) is) value.Poison (cond (are_entered_small types of is) led value.Poison) tt
      (either_among (are_entered_small types of is) led value.Poison (led_among inbounds base size is (distances types of is) h) tt)

  -- ---- bytes

  within_among : (width n : ℕ) → IsAmong among (number_within width n)
  within_among width n = either_among _ (value.Num n) value.Undef tt tt

  pointer_among : (bytes : List Byte) → AllByRecursion (IsByteAmong among) bytes → IsAmong among (pointer_of bytes)
  pointer_among [] h = tt
  pointer_among (byte.Frag b offset place ∷ bytes) h =
      either_among (are_fragments b offset 0 (byte.Frag b offset place ∷ bytes)) (value.Ptr b offset) value.Undef h.0 tt
  pointer_among (byte.Num n ∷ bytes) h = tt
  pointer_among (byte.Undef ∷ bytes) h = tt
  pointer_among (byte.Poison ∷ bytes) h = tt

  defined_among : (k : Kind) (bytes : List Byte) (n : Option ℕ) → AllByRecursion (IsByteAmong among) bytes → IsAmong among (defined_value k bytes n)
  defined_among (Int width) bytes (Some n) h = within_among width n
  defined_among (Int width) bytes None h = tt
  defined_among Ptr bytes (Some n) h = tt
  defined_among Ptr bytes None h = pointer_among bytes h

  value_among : (k : Kind) (bytes : List Byte) → AllByRecursion (IsByteAmong among) bytes → IsAmong among (value_of k bytes)
  value_among k bytes h =
      let defined = defined_value k bytes (number_of bytes) in
      either_among (list_any is_poison_byte bytes) value.Poison (cond (list_any is_undef_byte bytes) value.Undef defined) tt
      (either_among (list_any is_undef_byte bytes) value.Undef defined tt (defined_among k bytes (number_of bytes) h))

  abbrev pub AreBytesAmong : Memory → Type 0
  AreBytesAmong = AllByRecursion (λ (c : Cell). AllByRecursion (IsByteAmong among) c.bytes)

  read_at_among : (memory : Memory) (k : Kind) (b o : ℕ) → AreBytesAmong memory → IsAmong among (read_at memory k (value.Ptr b (pos o)))
  read_at_among [] k b o h = value_among k [] tt
  read_at_among (c ∷ cs) k zero o h =
      value_among k (take (byte_count k) (drop o c.bytes)) (all_taken (IsByteAmong among) (byte_count k) (drop o c.bytes) (all_dropped (IsByteAmong among) o c.bytes h.0))
  read_at_among (c ∷ cs) k (suc b) o h = read_at_among cs k b o h.1

  read_among : (memory : Memory) (k : Kind) (a : Value) → AreBytesAmong memory → IsAmong among (read_at memory k a)
  read_among memory k (value.Ptr b (pos o)) h = read_at_among memory k b o h
  read_among memory k (value.Ptr b (negsuc o)) h = tt
  read_among memory k (value.Num n) h = tt
  read_among memory k (value.Bare address) h = tt
  read_among memory k value.Undef h = tt
  read_among memory k value.Poison h = tt

  load_among : (memory : Memory) (k : Option Kind) (a : Value) (align : ℕ) → AreBytesAmong memory → GivesAmong (loaded_of memory k a align)
  load_among memory None a align h = tt
  load_among memory (Some k) a align h = at (can_access memory k a align)
    where
      at : (b : Bool) → GivesAmong (cond b (Gives (read_at memory k a)) Trap)
      at true = read_among memory k a h
      at false = tt

  pub byte_at_among : (v : Value) (place : ℕ) → IsAmong among v → IsByteAmong among (byte_at v place)
  byte_at_among (value.Num n) place h = tt
  byte_at_among (value.Ptr b offset) place h = h
  byte_at_among (value.Bare address) place h = tt
  byte_at_among value.Undef place h = tt
  byte_at_among value.Poison place h = tt

  pub bytes_among : (v : Value) (place count : ℕ) → IsAmong among v → AllByRecursion (IsByteAmong among) (bytes_from v place count)
  bytes_among v place zero h = tt
  bytes_among v place (suc count) h = (byte_at_among v place h, bytes_among v (suc place) count h)

  -- ---- registers

  pub read_register : (registers : Registers) → AreRegistersAmong among registers → (k : Kind) (x : Name) → IsAmong among (read registers k x)
  read_register registers h k x = at (registers x) (h x)
    where
      at : (held : Option Held) → IsHeldAmong among held → IsAmong among (held_at k held)
      at None is = tt
      at (Some held) is = either_among (same_kind held.kind k) held.value value.Poison is tt

  held_either : (b : Bool) (k : Option Kind) (v : Value) (before : Option Held) → IsAmong among v → IsHeldAmong among before → IsHeldAmong among (cond b (holding k v) before)
  held_either true None v before h is = tt
  held_either true (Some k) v before h is = h
  held_either false k v before h is = is

  pub set_among : (registers : Registers) (x : Name) (k : Option Kind) (v : Value) → AreRegistersAmong among registers → IsAmong among v → AreRegistersAmong among (set registers x k v)
  set_among registers x k v h is y = held_either (same_name x y) k v (registers y) is (h y)

  pub at_kind_among : (own k : Option Kind) (v : Value) → IsAmong among v → IsAmong among (at_kind own k v)
  at_kind_among None k v h = tt
  at_kind_among (Some j) None v h = tt
  at_kind_among (Some j) (Some k) v h = either_among (same_kind k j) v value.Poison h tt

  pub passed_among : (ps : List Param) (vs : List (Option Kind × Value)) (registers : Registers) → AllByRecursion (λ (v : Option Kind × Value). IsAmong among v.1) vs
      → AreRegistersAmong among registers → AreRegistersAmong among (passed ps vs registers)
  passed_among [] vs registers all h = h
  passed_among (p ∷ ps) [] registers all h = h
  passed_among (p ∷ ps) (v ∷ vs) registers all h =
      passed_among ps vs _ all.1 (set_among registers p.name (kind_of p.ty) _ h (at_kind_among (kind_of p.ty) v.0 v.1 all.0))

  pub into_among : (registers : Registers) (into : Option Name) (own k : Option Kind) (v : Value) → AreRegistersAmong among registers → IsAmong among v
      → AreRegistersAmong among (set_into registers into own k v)
  into_among registers None own k v h is = h
  into_among registers (Some x) own k v h is = set_among registers x own (at_kind own k v) h (at_kind_among own k v is)

  -- ---- lines, beside constants that are among those blocks
  module _ (scope : Scope) (constants : (t : Ty) (c : Const) → IsAmong among (constant_value scope t c)) where
    constant_among : (t : Ty) (k : Option Kind) (c : Const) → IsAmong among (constant_at scope t k c)
    constant_among t None c = tt
    constant_among t (Some k) c = constants t c

    module _ (registers : Registers) (h : AreRegistersAmong among registers) where
      register_among : (k : Option Kind) (x : Name) → IsAmong among (register_value (read registers) k x)
      register_among None x = tt
      register_among (Some k) x = read_register registers h k x

      pub atom_among : (t : Ty) (a : Atom Name) → IsAmong among (atom_value scope (read registers) t a)
      atom_among t (Constant c) = constant_among t (kind_of t) c
      atom_among t (Register x) = register_among (kind_of t) x

      pub operand_among : (o : Operand Name) → IsAmong among (operand_value scope (read registers) o)
      operand_among o = atom_among o.ty o.atom

      pub outcome_among : (memory : Memory) → AreBytesAmong memory → (e : Expr Name) → GivesAmong (outcome scope (read registers) memory e)
      outcome_among memory bytes (expr.Plain o) = operand_among o
      outcome_among memory bytes (expr.Binary b) = binary_among b.op b.flags (kind_of b.ty) _ _
      outcome_among memory bytes (expr.Icmp c) = gives_number 1 _ (kinds.icmp_in_kind memory c.pred (kind_of c.ty) _ _)
      outcome_among memory bytes (expr.Cast c) = gives_either (converts c.op c.operand.ty c.to) _ (cast_at_among c.op (kind_of c.operand.ty) (kind_of c.to) _ (operand_among c.operand))
      outcome_among memory bytes (expr.Select s) =
          gives_either (selects s.condition.ty s.left.ty s.right.ty) _ (select_among (operand_value scope (read registers) s.condition) _ _ (operand_among s.left) (operand_among s.right))
      outcome_among memory bytes (expr.Element e) =
          gives_either (is_stated scope.types e) _ (gep_among e.inbounds scope.types e.of (operand_value scope (read registers) e.base)
          (size_at memory (operand_value scope (read registers) e.base)) (map (index_value scope (read registers)) e.indices) (operand_among e.base))
      outcome_among memory bytes (expr.Load l) = load_among memory (kind_of l.of) (operand_value scope (read registers) l.pointer) (align_or scope.types l.of l.align) bytes

      entry_among : (t : Ty) (o : Option Entry) → IsAmong among (entry_value scope registers t o)
      entry_among t None = tt
      entry_among t (Some e) = atom_among t e.value

      pub phis_among : (from : Name) (ps : List Phi) (after : Registers) → AreRegistersAmong among after → AreRegistersAmong among (with_phis scope registers from ps after)
      phis_among from [] after is = is
      phis_among from (p ∷ ps) after is =
          phis_among from ps _ (set_among after p.name (kind_of p.ty) (phi_value scope registers from p) is (entry_among p.ty (entry_from from p.entries)))

      pub arguments_among : (args : List Argument) → AllByRecursion (λ (v : Option Kind × Value). IsAmong among v.1) (arguments_of scope registers args)
      arguments_among [] = tt
      arguments_among (a ∷ args) = (operand_among a.operand, arguments_among args)

-- what is among some blocks is among more
module _ (few many : ℕ → Type 0) (more : (b : ℕ) → few b → many b) where
  pub value_more : (v : Value) → IsAmong few v → IsAmong many v
  value_more (value.Num n) h = tt
  value_more (value.Ptr b offset) h = more b h
  value_more (value.Bare address) h = tt
  value_more value.Undef h = tt
  value_more value.Poison h = tt

  pub byte_more : (x : Byte) → IsByteAmong few x → IsByteAmong many x
  byte_more (byte.Num n) h = tt
  byte_more (byte.Frag b offset place) h = more b h
  byte_more byte.Undef h = tt
  byte_more byte.Poison h = tt

  held_more : (held : Option Held) → IsHeldAmong few held → IsHeldAmong many held
  held_more None h = tt
  held_more (Some held) h = value_more held.value h

  pub registers_more : (registers : Registers) → AreRegistersAmong few registers → AreRegistersAmong many registers
  registers_more registers h x = held_more (registers x) (h x)
