-- Accesses that don't trap, and what loads give.
use Rattle.std.proofs.Common.{◌≡◌, ◌∙◌, ◌+◌, ◌*◌, ◌/◌, ◌%◌, ℕ, pos, negsuc, Bool, true, false, ◌&&◌, cond, nat_eq, List, [], ◌∷◌, length, Option, None, Some, refl, sym, ap, subst, arith}
use Rattle.std.specs.Prelude.{nat_le, nat_lt}
use Rattle.std.specs.List.{AllByRecursion}
use Rattle.std.proofs.lemmas.Bool.{eq-eqb}
use Rattle.std.proofs.Math.Nat.{div-add-mod, mul-mod_left, zero-mod}
use Rattle.ir_types.specs.declared.names.Name.{Name}
use Rattle.ir_types.specs.declared.ty.Ty.{Ty}
use Rattle.ir_types.specs.NameLaws.{all_true, left_true, right_true, same_nat_true}
use Rattle.ir_types.specs.Named.{size_of}
use Rattle.ir_types.specs.Same.{same_ty}
use Rattle.ir_types.proofs.SameLaws.{same_ty_true}
use Rattle.ir_core.specs.declared.modules.GlobalVar.{GlobalVar}
use Rattle.ir_core.specs.declared.operands.Atom.{Atom}
use Rattle.ir_core.specs.declared.operands.Atom.TheVariants as atom
use Rattle.ir_core.specs.declared.operands.Const.TheVariants as constant
use Rattle.ir_core.specs.declared.operands.Operand.{Operand}
use Rattle.ir_core.specs.declared.expressions.Expr.TheVariants.{Plain, Cast, Load}
use Rattle.ir_core.specs.declared.expressions.Load.{Load as LoadOf}
use Rattle.ir_core.specs.declared.expressions.Reg.{Reg}
use Rattle.ir_core.specs.declared.values.Kind.{Kind}
use Rattle.ir_core.specs.declared.values.Value.{Value}
use Rattle.ir_core.specs.declared.values.Value.TheVariants.{Num, Ptr, Bare, Undef, Poison}
use Rattle.ir_core.specs.Types.{converts, kind_of}
use Rattle.ir_core.proofs.SameLaws.{same_reg_operand_true}
use Rattle.ir_values.specs.declared.operations.Outcome.{Outcome}
use Rattle.ir_values.specs.declared.operations.Outcome.TheVariants.{Gives, Trap}
use Rattle.ir_values.specs.Constants.{global_at}
use Rattle.ir_values.specs.Operations.{IsOutcomeLessDefined}
use Rattle.ir_values.specs.Values.{IsLessDefined}
use Rattle.ir_values.proofs.OperationLaws.{less_defined_refl}
use Rattle.block_memory.specs.Bytes.{byte_count}
use Rattle.block_memory.specs.Memory.{Cell, Memory, can_access, cell_at, fits_in, fits_maybe, loaded_of, read_at}
use Rattle.ir_machine.specs.Keeps.{IsLive}
use Rattle.ir_machine.specs.Registers.{align_or, atom_value}
use Rattle.erhl_assert.specs.declared.facts.Fact.{Fact}
use Rattle.erhl_assert.specs.declared.facts.Fact.TheVariants.{LessDef, Ok}
use Rattle.erhl_assert.specs.Facts.{Holds}
use Rattle.erhl_assert.specs.Holding.{CanAccess, block_of}
use Rattle.erhl_assert.specs.Sides.{SideState, IsFine, read_reg, worth}
use Rattle.erhl_assert.specs.Typed.{atom_fits, has_type, has_values, is_known, may_stand, operand_fits}
use Rattle.rule_base.specs.OneType.{one_type}
use Rattle.rule_base.specs.Rows.{have_one_type, is_typed}
use Rattle.rules_memory.specs.Rows.{alignment, are_of_one, divides, global_behind, global_in, global_named, is_load_align, is_load_ok, is_ok_align, is_ok_cast, is_ok_global, is_recast, lies_in, same}
use Rattle.rules_memory.specs.OperandLaws.{value_in_kind, value_on}
use Rattle.rules_memory.specs.GlobalLaws.{IsNamed, global_worth, named_at}
use Rattle.rules_memory.specs.AddressLaws.{recast_gives}

-- ---- alignments

divided : (n a b : ℕ) → a % b ≡ 0 → n % a ≡ 0 → n % b ≡ 0
divided n a b h e =
    let whole : a * (n / a) + n % a ≡ n = div-add-mod n a in
    let parts : b * (a / b) + a % b ≡ a = div-add-mod a b in
    let first : n ≡ a * (n / a) = omega arith in
    let second : a ≡ b * (a / b) = omega arith in
    let turned : b * (a / b) * (n / a) ≡ (n / a) * (a / b) * b = omega arith in
    let is : n ≡ (n / a) * (a / b) * b = first ∙ ap (λ (k : ℕ). k * (n / a)) second ∙ turned in
    subst (λ (k : ℕ). k % b ≡ 0) (sym is) (mul-mod_left ((n / a) * (a / b)) b)

still_zero : (n a b : ℕ) → divides b a ≡ true → nat_eq (n % a) 0 ≡ true → nat_eq (n % b) 0 ≡ true
still_zero n a b d h =
    eq-eqb (n % b) 0 (divided n a b (same_nat_true (a % b) 0 (right_true (nat_lt 0 b) (nat_eq (a % b) 0) d)) (same_nat_true (n % a) 0 h))

fits_as : (c : Cell) (count o a b : ℕ) → divides b a ≡ true → fits_in c count o a ≡ true → fits_in c count o b ≡ true
fits_as c count o a b d h =
    let inside = nat_le (o + count) (length c.bytes) in
    let offset = nat_eq (o % a) 0 && inside in
    let start = nat_eq (c.align % a) 0 && offset in
    let h1 : (c.live && start) ≡ true = right_true (nat_lt 0 a) (c.live && start) h in
    let h2 : start ≡ true = right_true c.live start h1 in
    let h3 : offset ≡ true = right_true (nat_eq (c.align % a) 0) offset h2 in
    all_true (left_true (nat_lt 0 b) (nat_eq (a % b) 0) d)
    (all_true (left_true c.live start h1)
    (all_true (still_zero c.align a b d (left_true (nat_eq (c.align % a) 0) offset h2))
    (all_true (still_zero o a b d (left_true (nat_eq (o % a) 0) inside h3)) (right_true (nat_eq (o % a) 0) inside h3))))

access_as : (m : Memory) (k : Kind) (v : Value) (a b : ℕ) → divides b a ≡ true → can_access m k v a ≡ true → can_access m k v b ≡ true
access_as m k (Ptr block (pos o)) a b d h = at (cell_at m block) h
  where
    at : (c : Option Cell) → fits_maybe c (byte_count k) o a ≡ true → fits_maybe c (byte_count k) o b ≡ true
    at None h = h
    at (Some c) h = fits_as c (byte_count k) o a b d h
access_as m k (Ptr block (negsuc o)) a b d h = h
access_as m k (Num n) a b d h = h
access_as m k (Bare address) a b d h = h
access_as m k Undef a b d h = h
access_as m k Poison a b d h = h

-- ---- what is accessed is a pointer

pub record IsAddress (v : Value) : Type 0 where
  pub block : ℕ
  pub into : block_of v ≡ Some block

accessed : (m : Memory) (k : Kind) (v : Value) (a : ℕ) → can_access m k v a ≡ true → IsAddress v
accessed m k (Ptr block offset) a h = record { block = block; into = refl }
accessed m k (Num n) a h = absurd (cc)
accessed m k (Bare address) a h = absurd (cc)
accessed m k Undef a h = absurd (cc)
accessed m k Poison a h = absurd (cc)

-- what is more defined than an address is the same one
same_below : (v w : Value) → IsAddress v → IsLessDefined v w → v ≡ w
same_below (Ptr block offset) w is h = sym h
same_below (Num n) w is h = sym h
same_below (Bare address) w is h = sym h
same_below Undef w is h = let no : None ≡ Some is.block = is.into in absurd (cc)
same_below Poison w is h = let no : None ≡ Some is.block = is.into in absurd (cc)

module _ (side : SideState) where
  -- of the same operand, type and alignment
  access_of : (v w : Value) (t u : Ty) (a b : ℕ) → v ≡ w → t ≡ u → a ≡ b → CanAccess side (kind_of t) (Gives v) a → CanAccess side (kind_of u) (Gives w) b
  access_of v w t u a b e f g h =
      subst (λ (n : ℕ). CanAccess side (kind_of u) (Gives w) n) g
      (subst (λ (s : Ty). CanAccess side (kind_of s) (Gives w) a) f (subst (λ (x : Value). CanAccess side (kind_of t) (Gives x) a) e h))

  through : (k : Option Kind) (v : Value) (a : ℕ) → CanAccess side k (Gives v) a → IsAddress v
  through None v a h = absurd h
  through (Some k) v a h = accessed side.world.memory k v a h

  -- ---- `ok`

  pub ok_align_is_sound : (from : List Fact) (to : Fact) → is_ok_align side.scope from to ≡ true → AllByRecursion (Holds side) from → Holds side to
  ok_align_is_sound (Ok (Plain p) t a ∷ []) (Ok (Plain q) u b) h all =
      let typed = is_typed side.scope (Plain p) in
      let one = typed && same p q in
      let both = one && same_ty t u in
      let to_both : both ≡ true = left_true both (divides b a) h in
      let to_one : one ≡ true = left_true one (same_ty t u) to_both in
      let is : p ≡ q = same_reg_operand_true p q (right_true typed (same p q) to_one) in
      access_of (value_on side p) (value_on side q) t u b b (ap (value_on side) is) (same_ty_true t u (right_true one (same_ty t u) to_both)) refl
      (at (kind_of t) (right_true both (divides b a) h) all.0)
    where
      at : (k : Option Kind) → divides b a ≡ true → CanAccess side k (Gives (value_on side p)) a → CanAccess side k (Gives (value_on side p)) b
      at None d h = h
      at (Some k) d h = access_as side.world.memory k (value_on side p) a b d h
  ok_align_is_sound from to h all = absurd (cc)

  -- ---- globals

  -- a live block of a global that has room for the access
  room : (k : Kind) (n a align size : ℕ) → IsLive side.world.memory n align size → (nat_le (byte_count k) size && divides a align) ≡ true
      → can_access side.world.memory k (Ptr n (pos 0)) a ≡ true
  room k n a align size live h =
      let d : divides a align ≡ true = right_true (nat_le (byte_count k) size) (divides a align) h in
      let count : 0 + byte_count k ≡ byte_count k = omega arith in
      ap (λ (c : Option Cell). fits_maybe c (byte_count k) 0 a) live.there
      ∙ all_true (left_true (nat_lt 0 a) (nat_eq (align % a) 0) d)
      (all_true live.live
      (all_true (ap (λ (m : ℕ). nat_eq (m % a) 0) live.align_is ∙ right_true (nat_lt 0 a) (nat_eq (align % a) 0) d)
      (all_true (eq-eqb (0 % a) 0 (zero-mod a))
      (ap (λ (m : ℕ). nat_le m (length live.cell.bytes)) count ∙ ap (nat_le (byte_count k)) live.size_is ∙ left_true (nat_le (byte_count k) size) (divides a align) h))))

  module _ (fine : IsFine side) where
    global_access : (x : Name) (k : Option Kind) (a : ℕ) → lies_in side.scope k a (global_named side.scope.globals x) ≡ true
        → CanAccess side k (Gives (global_at 0 side.scope.globals x)) a
    global_access x None a h = absurd (cc)
    global_access x (Some k) a h = at (global_named side.scope.globals x) refl h
      where
        at : (o : Option GlobalVar) → global_named side.scope.globals x ≡ o → lies_in side.scope (Some k) a o ≡ true
            → can_access side.world.memory k (global_at 0 side.scope.globals x) a ≡ true
        at None e h = absurd (cc)
        at (Some g) e h =
            let n : IsNamed 0 side.scope.globals x g = named_at 0 side.scope.globals x g e in
            let start : 0 + n.place ≡ n.place = omega arith in
            let leads : global_at 0 side.scope.globals x ≡ Ptr n.place (pos 0) = n.leads ∙ ap (λ (m : ℕ). Ptr m (pos 0)) start in
            let own : global_at 0 side.scope.globals g.name ≡ Ptr n.place (pos 0) = ap (global_at 0 side.scope.globals) n.name ∙ leads in
            subst (λ (v : Value). can_access side.world.memory k v a ≡ true) (sym leads)
            (room k n.place a (align_or side.scope.types g.ty g.align) (size_of side.scope.types g.ty) (fine.globals n.place g n.got own) h)

    pub ok_global_is_sound : (from : List Fact) (to : Fact) → is_ok_global side.scope from to ≡ true → Holds side to
    ok_global_is_sound [] (Ok (Plain p) t a) h =
        let typed = is_typed side.scope (Plain p) in
        let lies = lies_in side.scope (kind_of t) a (global_behind side.scope (global_in p.atom)) in
        let fits = operand_fits side.scope p in
        at p.atom (right_true (has_type side.scope (Plain p)) fits (left_true typed lies h)) (right_true typed lies h)
      where
        nothing : (k : Option Kind) → lies_in side.scope k a None ≡ true → ⊥
        nothing None h = cc
        nothing (Some k) h = cc

        at : (c : Atom Reg) → atom_fits side.scope p.ty c ≡ true → lies_in side.scope (kind_of t) a (global_behind side.scope (global_in c)) ≡ true
            → CanAccess side (kind_of t) (Gives (atom_value side.scope (read_reg side) p.ty c)) a
        at (atom.Constant (constant.Global x)) f h =
            subst (λ (v : Value). CanAccess side (kind_of t) (Gives v) a) (sym (global_worth side.scope p.ty x f)) (global_access x (kind_of t) a h)
        at (atom.Constant c) f h = absurd (nothing (kind_of t) h)
        at (atom.Register r) f h = absurd (nothing (kind_of t) h)
    ok_global_is_sound from to h = absurd (cc)

    pub ok_cast_is_sound : (from : List Fact) (to : Fact) → is_ok_cast side.scope from to ≡ true → AllByRecursion (Holds side) from → Holds side to
    ok_cast_is_sound (Ok (Plain p) t a ∷ LessDef (Cast c) (Plain r) ∷ []) (Ok (Plain s) u b) h all =
        let typed = is_typed side.scope (Plain p) in
        let one = typed && have_one_type side.scope (Cast c) (Plain r) in
        let recast = one && is_recast c.op in
        let based = recast && same p c.operand in
        let concluded = based && same r s in
        let of = concluded && same_ty t u in
        let to_of : of ≡ true = left_true of (nat_eq a b) h in
        let to_concluded : concluded ≡ true = left_true concluded (same_ty t u) to_of in
        let to_based : based ≡ true = left_true based (same r s) to_concluded in
        let to_recast : recast ≡ true = left_true recast (same p c.operand) to_based in
        let to_one : one ≡ true = left_true one (is_recast c.op) to_recast in
        let types = one_type side.scope (Cast c) (Plain r) (right_true typed (have_one_type side.scope (Cast c) (Plain r)) to_one) in
        let is : p ≡ c.operand = same_reg_operand_true p c.operand (right_true recast (same p c.operand) to_based) in
        let address : IsAddress (value_on side p) = through (kind_of t) (value_on side p) a all.0 in
        let into : block_of (value_on side c.operand) ≡ Some address.block = subst (λ (o : Operand Reg). block_of (value_on side o) ≡ Some address.block) is address.into in
        let stand = may_stand side.scope.types c.operand.ty in
        let onto = may_stand side.scope.types c.to in
        let converted = converts c.op c.operand.ty c.to in
        let values : has_values c.operand.ty ≡ true =
        left_true (has_values c.operand.ty) (is_known side.scope.types c.operand.ty) (left_true stand onto (left_true (stand && onto) converted types.values)) in
        let gives : worth side (Cast c) ≡ Gives (value_on side c.operand) =
        recast_gives c.op c.operand.ty c.to (value_on side c.operand) address.block (right_true one (is_recast c.op) to_recast) (right_true (stand && onto) converted types.values) values
        (value_in_kind side fine c.operand) into in
        let less : IsOutcomeLessDefined (Gives (value_on side c.operand)) (Gives (value_on side r)) =
        subst (λ (o : Outcome). IsOutcomeLessDefined o (Gives (value_on side r))) gives all.1.0.1 in
        let pointer : value_on side c.operand ≡ value_on side r = same_below (value_on side c.operand) (value_on side r) (record { block = address.block; into = into }) less in
        let same_value : value_on side p ≡ value_on side s =
        ap (value_on side) is ∙ pointer ∙ ap (value_on side) (same_reg_operand_true r s (right_true based (same r s) to_concluded)) in
        access_of (value_on side p) (value_on side s) t u a b same_value (same_ty_true t u (right_true concluded (same_ty t u) to_of)) (same_nat_true a b (right_true of (nat_eq a b) h)) all.0
    ok_cast_is_sound from to h all = absurd (cc)

-- ---- loads

-- a load that traps more often is less defined
less_if : (s t : Bool) (v : Value) → (s ≡ true → t ≡ true) → IsOutcomeLessDefined (cond s (Gives v) Trap) (cond t (Gives v) Trap)
less_if true true v h = less_defined_refl v
less_if true false v h = let no : false ≡ true = h refl in absurd (cc)
less_if false t v h = tt

less_loaded : (m : Memory) (k : Option Kind) (v : Value) (a b : ℕ) → ((i : Kind) → k ≡ Some i → can_access m i v a ≡ true → can_access m i v b ≡ true)
    → IsOutcomeLessDefined (loaded_of m k v a) (loaded_of m k v b)
less_loaded m None v a b h = tt
less_loaded m (Some i) v a b h = less_if (can_access m i v a) (can_access m i v b) (read_at m i v) (h i refl)

module _ (side : SideState) where
  -- two loads of one type through one pointer, of which the first doesn't trap less often
  loads : (l m : LoadOf Reg) → are_of_one l m ≡ true
      → ((i : Kind) → kind_of m.of ≡ Some i → can_access side.world.memory i (value_on side m.pointer) (alignment side.scope l) ≡ true
      → can_access side.world.memory i (value_on side m.pointer) (alignment side.scope m) ≡ true)
      → IsOutcomeLessDefined (worth side (Load l)) (worth side (Load m))
  loads l m one h =
      let of : l.of ≡ m.of = same_ty_true l.of m.of (left_true (same_ty l.of m.of) (same l.pointer m.pointer) one) in
      let pointer : l.pointer ≡ m.pointer = same_reg_operand_true l.pointer m.pointer (right_true (same_ty l.of m.of) (same l.pointer m.pointer) one) in
      let first : worth side (Load l) ≡ loaded_of side.world.memory (kind_of m.of) (value_on side m.pointer) (alignment side.scope l) =
      ap (λ (t : Ty). loaded_of side.world.memory (kind_of t) (value_on side l.pointer) (alignment side.scope l)) of
      ∙ ap (λ (o : Operand Reg). loaded_of side.world.memory (kind_of m.of) (value_on side o) (alignment side.scope l)) pointer in
      subst (λ (o : Outcome). IsOutcomeLessDefined o (worth side (Load m))) (sym first)
      (less_loaded side.world.memory (kind_of m.of) (value_on side m.pointer) (alignment side.scope l) (alignment side.scope m) h)

  pub load_align_is_sound : (from : List Fact) (to : Fact) → is_load_align side.scope from to ≡ true → Holds side to
  load_align_is_sound [] (LessDef (Load l) (Load m)) h =
      let typed = have_one_type side.scope (Load l) (Load m) in
      let one = are_of_one l m in
      let d = divides (alignment side.scope m) (alignment side.scope l) in
      let h1 : (typed && one) ≡ true = left_true (typed && one) d h in (
        ap kind_of (one_type side.scope (Load l) (Load m) (left_true typed one h1)).type,
        loads l m (right_true typed one h1) (λ i e.
            access_as side.world.memory i (value_on side m.pointer) (alignment side.scope l) (alignment side.scope m) (right_true (typed && one) d h)),
      )
  load_align_is_sound from to h = absurd (cc)

  pub load_ok_is_sound : (from : List Fact) (to : Fact) → is_load_ok side.scope from to ≡ true → AllByRecursion (Holds side) from → Holds side to
  load_ok_is_sound (Ok (Plain p) t a ∷ []) (LessDef (Load l) (Load m)) h all =
      let typed = have_one_type side.scope (Load l) (Load m) in
      let loaded = typed && are_of_one l m in
      let based = loaded && same p m.pointer in
      let of = based && same_ty t m.of in
      let to_of : of ≡ true = left_true of (nat_eq a (alignment side.scope m)) h in
      let to_based : based ≡ true = left_true based (same_ty t m.of) to_of in
      let to_loaded : loaded ≡ true = left_true loaded (same p m.pointer) to_based in
      let is : p ≡ m.pointer = same_reg_operand_true p m.pointer (right_true loaded (same p m.pointer) to_based) in
      let can : CanAccess side (kind_of m.of) (Gives (value_on side m.pointer)) (alignment side.scope m) =
      access_of side (value_on side p) (value_on side m.pointer) t m.of a (alignment side.scope m) (ap (value_on side) is)
      (same_ty_true t m.of (right_true based (same_ty t m.of) to_of)) (same_nat_true a (alignment side.scope m) (right_true of (nat_eq a (alignment side.scope m)) h)) all.0 in (
        ap kind_of (one_type side.scope (Load l) (Load m) (left_true typed (are_of_one l m) to_loaded)).type,
        loads l m (right_true typed (are_of_one l m) to_loaded)
            (λ i e before. subst (λ (k : Option Kind). CanAccess side k (Gives (value_on side m.pointer)) (alignment side.scope m)) e can),
      )
  load_ok_is_sound from to h all = absurd (cc)
