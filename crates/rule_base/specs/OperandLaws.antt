-- More defined operands and fewer flags make an expression more defined.
use Rattle.std.proofs.Common.{◌≡◌, ℕ, ◌||◌, nat_eq, Bool, true, false, not, ◌&&◌, cond, List, [], ◌∷◌, map, Option, None, Some, refl, sym, ap, subst}
use Rattle.std.specs.List.{AllByRecursion, AllZip, list_all}
use Rattle.ir_core.specs.declared.values.Value.{Value}
use Rattle.ir_core.specs.declared.values.Value.TheVariants.{Num, Ptr, Bare, Undef, Poison}
use Rattle.ir_core.specs.declared.values.Kind.{Kind}
use Rattle.ir_core.specs.declared.values.Kind.TheVariants as kind
use Rattle.ir_types.specs.declared.ty.Ty.{Ty}
use Rattle.ir_core.specs.declared.operands.Operand.{Operand}
use Rattle.ir_core.specs.declared.operands.BinOp.{BinOp}
use Rattle.ir_core.specs.declared.operands.CastOp.{CastOp}
use Rattle.ir_core.specs.declared.operands.Flags.{Flags}
use Rattle.ir_core.specs.declared.operands.Pred.{Pred}
use Rattle.ir_core.specs.declared.expressions.Binary.{Binary as BinaryOf}
use Rattle.ir_core.specs.declared.expressions.Element.{Element as ElementOf}
use Rattle.ir_core.specs.declared.expressions.Reg.{Reg}
use Rattle.ir_core.specs.declared.expressions.Expr.TheVariants.{Plain, Binary, Icmp, Cast, Select, Element, Load}
use Rattle.ir_core.specs.Expressions.{Expr0, operands_in, type_of}
use Rattle.ir_types.specs.Same.{same_list, same_ty}
use Rattle.ir_core.specs.Same.{same_align, same_atom, same_bool, same_cast, same_flags, same_op, same_operand, same_reg}
use Rattle.ir_core.specs.Types.{converts, kind_of}
use Rattle.ir_types.specs.NameLaws.{all_true, left_true, right_true}
use Rattle.ir_types.proofs.SameLaws.{same_ty_true}
use Rattle.ir_core.proofs.SameLaws.{same_align_true, same_bool_true, same_cast_true, same_flags_true, same_op_true, same_pred_true, same_reg_atom_true, same_reg_operand_true}
use Rattle.ir_values.specs.declared.operations.Outcome.{Outcome}
use Rattle.ir_values.specs.declared.operations.Outcome.TheVariants.{Gives, Trap}
use Rattle.ir_values.specs.Constants.{Scope, width_of}
use Rattle.ir_values.specs.Comparisons.{icmp_outcome}
use Rattle.ir_values.specs.Laws.{flags_among}
use Rattle.ir_values.specs.Operations.{IsOutcomeLessDefined}
use Rattle.ir_core.specs.Sizes.{stepped}
use Rattle.ir_core.specs.Typing.{index_of}
use Rattle.ir_values.specs.Addresses.{gep_outcome, is_small}
use Rattle.ir_values.specs.PointerLaws.{AreIndicesRelated, IsOneSize}
use Rattle.ir_values.specs.Selections.{select_outcome}
use Rattle.ir_values.specs.Values.{IsLessDefined}
use Rattle.ir_values.proofs.OperationLaws.{less_defined_refl}
use Rattle.ir_values.proofs.Compared.{icmp_related}
use Rattle.ir_values.proofs.Moved.{gep_related}
use Rattle.ir_values.proofs.Monotone.{binary_monotone, cast_monotone, select_monotone}
use Rattle.ir_values.proofs.RelatedValues.{less_related, one_memory, outcome_less}
use Rattle.block_memory.specs.Memory.{Memory, loaded_of}
use Rattle.ir_machine.specs.Registers.{align_or, atom_value, binary_at, cast_at, element_from, icmp_at, index_value, is_stated, operand_value, selects, size_at}
use Rattle.erhl_assert.specs.declared.facts.Fact.{Fact}
use Rattle.erhl_assert.specs.declared.facts.Fact.TheVariants.{LessDef}
use Rattle.erhl_assert.specs.Sides.{SideState, read_reg, worth}
use Rattle.erhl_assert.specs.Facts.{Holds}
use Rattle.erhl_assert.specs.Typed.{has_type, has_values, is_addressed, is_known}
use Rattle.rule_base.specs.Rows.{are_alike, drops, drops_flags, drops_inbounds, have_one_type, is_drop_flags, is_subst, keeps_fields, one_made}
use Rattle.rule_base.specs.OneType.{one_type}

-- ---- operators on less defined operands

binary_less : (f g : BinOp) (many few : Flags) (j k : Option Kind) (a b c d : Value) → f ≡ g → flags_among few many ≡ true → j ≡ k
    → IsLessDefined a c → IsLessDefined b d → IsOutcomeLessDefined (binary_at f many j a b) (binary_at g few k c d)
binary_less f g many few None k a b c d p h q u v = rw (← q) tt
binary_less f g many few (Some (kind.Int width)) k a b c d p h q u v = rw (p, ← q) (binary_monotone g many few width h a b c d u v)
binary_less f g many few (Some kind.Ptr) k a b c d p h q u v = rw (← q) tt

-- a block that an address is in has one size
one_size : (m : Memory) (a b : Value) → IsLessDefined a b → IsOneSize a (size_at m a) (size_at m b)
one_size m (Ptr block offset) b h = ap (size_at m) h
one_size m (Num n) b h = tt
one_size m (Bare address) b h = tt
one_size m Undef b h = tt
one_size m Poison b h = tt

icmp_less : (m : Memory) (f g : Pred) (j k : Option Kind) (a b c d : Value) → f ≡ g → j ≡ k → IsLessDefined a c → IsLessDefined b d
    → IsOutcomeLessDefined (icmp_at m f j a b) (icmp_at m g k c d)
icmp_less m f g None k a b c d p q u v = rw (← q) tt
icmp_less m f g (Some j) k a b c d p q u v =
    rw (p, ← q) (outcome_less (icmp_outcome g j a b (size_at m a) (size_at m b)) (icmp_outcome g j c d (size_at m c) (size_at m d))
    (icmp_related nat_eq one_memory g j a b c d (size_at m a) (size_at m b) (size_at m c) (size_at m d) (less_related a c u) (less_related b d v)
    (one_size m a c u) (one_size m b d v)))

-- one choice between outcomes
chosen_less : (b : Bool) (o p : Outcome) → IsOutcomeLessDefined o p → IsOutcomeLessDefined (cond b o (Gives Poison)) (cond b p (Gives Poison))
chosen_less true o p h = h
chosen_less false o p h = tt

cast_at_less : (f : CastOp) (j k : Option Kind) (a b : Value) → IsLessDefined a b → IsOutcomeLessDefined (cast_at f j k a) (cast_at f j k b)
cast_at_less f None k a b u = tt
cast_at_less f (Some j) None a b u = tt
cast_at_less f (Some j) (Some k) a b u = cast_monotone f j k a b u

cast_less : (f g : CastOp) (from into to onto : Ty) (a b : Value) → f ≡ g → from ≡ into → to ≡ onto → IsLessDefined a b
    → IsOutcomeLessDefined (cond (converts f from to) (cast_at f (kind_of from) (kind_of to) a) (Gives Poison))
    (cond (converts g into onto) (cast_at g (kind_of into) (kind_of onto) b) (Gives Poison))
cast_less f g from into to onto a b p q r u =
    rw (p, q, r) (chosen_less (converts g into onto) (cast_at g (kind_of into) (kind_of onto) a) (cast_at g (kind_of into) (kind_of onto) b)
    (cast_at_less g (kind_of into) (kind_of onto) a b u))

select_less : (r s t x y z : Ty) (a b c d e f : Value) → r ≡ x → s ≡ y → t ≡ z → IsLessDefined a d → IsLessDefined b e → IsLessDefined c f
    → IsOutcomeLessDefined (cond (selects r s t) (select_outcome a b c) (Gives Poison)) (cond (selects x y z) (select_outcome d e f) (Gives Poison))
select_less r s t x y z a b c d e f p q h u v w =
    rw (p, q, h) (chosen_less (selects x y z) (select_outcome a b c) (select_outcome d e f) (select_monotone a d u b c e f v w))

pub less_itself : (o : Outcome) → IsOutcomeLessDefined o o
less_itself Trap = tt
less_itself (Gives v) = less_defined_refl v

-- through what is no address in a block each access traps
through_less : (m : Memory) (k : Option Kind) (align : ℕ) (a b : Value) → IsLessDefined a b → IsOutcomeLessDefined (loaded_of m k a align) (loaded_of m k b align)
through_less m None align a b u = tt
through_less m (Some k) align Undef b u = tt
through_less m (Some k) align Poison b u = tt
through_less m (Some k) align (Ptr block offset) b u =
    subst (λ x. IsOutcomeLessDefined (loaded_of m (Some k) (Ptr block offset) align) (loaded_of m (Some k) x align)) (sym u)
    (less_itself (loaded_of m (Some k) (Ptr block offset) align))
through_less m (Some k) align (Num n) b u = tt
through_less m (Some k) align (Bare address) b u = tt

load_less : (scope : Scope) (m : Memory) (s t : Ty) (e f : Option ℕ) (a b : Value) → s ≡ t → e ≡ f → IsLessDefined a b
    → IsOutcomeLessDefined (loaded_of m (kind_of s) a (align_or scope.types s e)) (loaded_of m (kind_of t) b (align_or scope.types t f))
load_less scope m s t e f a b p q u = rw (p, q) (through_less m (kind_of t) (align_or scope.types t f) a b u)

own_flag : (b : Bool) → (not b || b) ≡ true
own_flag true = refl
own_flag false = refl

own_flags : (flags : Flags) → flags_among flags flags ≡ true
own_flags flags = all_true (all_true (own_flag flags.nuw) (own_flag flags.nsw)) (own_flag flags.exact)

either : (p q : Bool) (P : Type 0) → (p ≡ true → P) → (q ≡ true → P) → (p || q) ≡ true → P
either true q P f g h = f refl
either false q P f g h = g h

module _ (side : SideState) where
  -- the first of two operands of one type is less defined
  record IsBelow (x y : Operand Reg) : Type 0 where
    type : x.ty ≡ y.ty
    less : IsLessDefined (operand_value side.scope (read_reg side) x) (operand_value side.scope (read_reg side) y)

  abbrev AreBelow : List (Operand Reg) → List (Operand Reg) → Type 0
  AreBelow [] [] = Unit {0}
  AreBelow (x ∷ xs) (y ∷ ys) = IsBelow x y × AreBelow xs ys
  AreBelow xs ys = ⊥

  below_itself : (x y : Operand Reg) → same_operand same_reg x y ≡ true → IsBelow x y
  below_itself x y h =
      let e : x ≡ y = same_reg_operand_true x y h in
      rw (← e) (record { type = refl; less = less_defined_refl (operand_value side.scope (read_reg side) x) })

  all_below_themselves : (xs ys : List (Operand Reg)) → same_list (same_operand same_reg) xs ys ≡ true → AreBelow xs ys
  all_below_themselves [] [] h = tt
  all_below_themselves (x ∷ xs) (y ∷ ys) h =
      let s = same_operand same_reg x y in
      let ss = same_list (same_operand same_reg) xs ys in
      (below_itself x y (left_true s ss h), all_below_themselves xs ys (right_true s ss h))
  all_below_themselves [] (y ∷ ys) h = absurd (cc)
  all_below_themselves (x ∷ xs) [] h = absurd (cc)

  below_as : (a b x y : Operand Reg) → IsBelow a b → same_operand same_reg x a ≡ true → same_operand same_reg y b ≡ true → IsBelow x y
  below_as a b x y h p q = rw (same_reg_operand_true x a p, same_reg_operand_true y b q) h

  made_below : (a b : Operand Reg) → IsBelow a b → (xs ys : List (Operand Reg)) → one_made a b xs ys ≡ true → AreBelow xs ys
  made_below a b h (x ∷ xs) (y ∷ ys) e =
      let p = same_operand same_reg x a in
      let q = same_operand same_reg y b in
      let rest = same_list (same_operand same_reg) xs ys in
      let s = same_operand same_reg x y in
      let later = one_made a b xs ys in
      either (p && q && rest) (s && later) (AreBelow (x ∷ xs) (y ∷ ys))
      (λ here. (
        below_as a b x y h (left_true p q (left_true (p && q) rest here)) (right_true p q (left_true (p && q) rest here)),
        all_below_themselves xs ys (right_true (p && q) rest here),
      ))
      (λ there. (below_itself x y (left_true s later there), made_below a b h xs ys (right_true s later there))) e
  made_below a b h [] ys e = absurd (cc)
  made_below a b h (x ∷ xs) [] e = absurd (cc)

  -- indices of addresses, each less defined
  indices_below : (xs ys : List (Operand Reg)) → AreBelow xs ys
      → AllZip (AreIndicesRelated nat_eq) (map (index_value side.scope (read_reg side)) xs) (map (index_value side.scope (read_reg side)) ys)
  indices_below [] [] h = tt
  indices_below (x ∷ xs) (y ∷ ys) h =
      ((sym (ap width_of h.0.type), less_related (operand_value side.scope (read_reg side) x) (operand_value side.scope (read_reg side) y) h.0.less), indices_below xs ys h.1)
  indices_below [] (y ∷ ys) h = absurd h
  indices_below (x ∷ xs) [] h = absurd h

  led_less : (x y : ElementOf Reg) → (y.inbounds ≡ true → x.inbounds ≡ true) → x.of ≡ y.of → AreBelow (x.base ∷ x.indices) (y.base ∷ y.indices)
      → IsOutcomeLessDefined (element_from side.scope (read_reg side) side.world.memory x (operand_value side.scope (read_reg side) x.base))
      (element_from side.scope (read_reg side) side.world.memory y (operand_value side.scope (read_reg side) y.base))
  led_less x y few of all =
      let a = operand_value side.scope (read_reg side) x.base in
      let b = operand_value side.scope (read_reg side) y.base in
      let is = map (index_value side.scope (read_reg side)) x.indices in
      let js = map (index_value side.scope (read_reg side)) y.indices in
      rw of (outcome_less (gep_outcome x.inbounds side.scope.types y.of a (size_at side.world.memory a) is)
      (gep_outcome y.inbounds side.scope.types y.of b (size_at side.world.memory b) js)
      (gep_related nat_eq x.inbounds y.inbounds few side.scope.types y.of a b (size_at side.world.memory a) (size_at side.world.memory b) is js
      (less_related a b all.0.less) (one_size side.world.memory a b all.0.less) (indices_below x.indices y.indices all.1)))

  element_less : (x y : ElementOf Reg) → (y.inbounds ≡ true → x.inbounds ≡ true) → x.of ≡ y.of → is_stated side.scope.types y ≡ true
      → AreBelow (x.base ∷ x.indices) (y.base ∷ y.indices) → IsOutcomeLessDefined (worth side (Element x)) (worth side (Element y))
  element_less x y few of stated all = rw stated (at (is_stated side.scope.types x))
    where
      at : (b : Bool)
          → IsOutcomeLessDefined (cond b (element_from side.scope (read_reg side) side.world.memory x (operand_value side.scope (read_reg side) x.base)) (Gives Poison))
          (element_from side.scope (read_reg side) side.world.memory y (operand_value side.scope (read_reg side) y.base))
      at true = led_less x y few of all
      at false = tt

  stated_of : (y : ElementOf Reg) → is_addressed side.scope.types y ≡ true → is_stated side.scope.types y ≡ true
  stated_of y h =
      let types = side.scope.types in
      let stated = is_stated types y in
      let known = is_known types y.of in
      let small = list_all (is_small types) (stepped types y.of (map index_of y.indices)) in
      left_true stated known (left_true (stated && known) small (left_true (stated && known && small) (list_all (λ (i : Operand Reg). has_values i.ty) y.indices) h))

  worth_less : (e f : Expr0) → are_alike e f ≡ true → has_type side.scope f ≡ true → AreBelow (operands_in e) (operands_in f) → IsOutcomeLessDefined (worth side e) (worth side f)
  worth_less (Plain x) (Plain y) h t all = all.0.less
  worth_less (Binary x) (Binary y) h t all =
      let o = same_op x.op y.op in
      let g = same_flags x.flags y.flags in
      let same : x.flags ≡ y.flags = same_flags_true x.flags y.flags (right_true o g h) in
      binary_less x.op y.op x.flags y.flags (kind_of x.ty) (kind_of y.ty) _ _ _ _ (same_op_true x.op y.op (left_true o g h)) (rw same (own_flags y.flags))
      (ap kind_of all.0.type) all.0.less all.1.0.less
  worth_less (Icmp x) (Icmp y) h t all =
      icmp_less side.world.memory x.pred y.pred (kind_of x.ty) (kind_of y.ty) _ _ _ _ (same_pred_true x.pred y.pred h) (ap kind_of all.0.type) all.0.less all.1.0.less
  worth_less (Cast x) (Cast y) h t all =
      let o = same_cast x.op y.op in
      let to = same_ty x.to y.to in
      cast_less x.op y.op x.operand.ty y.operand.ty x.to y.to _ _ (same_cast_true x.op y.op (left_true o to h)) all.0.type
      (same_ty_true x.to y.to (right_true o to h)) all.0.less
  worth_less (Select x) (Select y) h t all =
      select_less x.condition.ty x.left.ty x.right.ty y.condition.ty y.left.ty y.right.ty _ _ _ _ _ _ all.0.type all.1.0.type all.1.1.0.type
      all.0.less all.1.0.less all.1.1.0.less
  worth_less (Load x) (Load y) h t all =
      let of = same_ty x.of y.of in
      let g = same_align x.align y.align in
      load_less side.scope side.world.memory x.of y.of x.align y.align _ _ (same_ty_true x.of y.of (left_true of g h)) (same_align_true x.align y.align (right_true of g h)) all.0.less
  worth_less (Element x) (Element y) h t all =
      let i = same_bool x.inbounds y.inbounds in
      let o = same_ty x.of y.of in
      let l = same_ty x.to y.to in
      let same = same_bool_true x.inbounds y.inbounds (left_true i o (left_true (i && o) l h)) in
      element_less x y (λ few. subst (λ b. b ≡ true) (sym same) few) (same_ty_true x.of y.of (right_true i o (left_true (i && o) l h))) (stated_of y t) all
  worth_less e f h t all = absurd (cc)

  pub subst_is_sound : (from : List Fact) (to : Fact) → is_subst side.scope from to ≡ true → AllByRecursion (Holds side) from → Holds side to
  subst_is_sound (LessDef (Plain a) (Plain b) ∷ []) (LessDef e f) h all =
      let operands = have_one_type side.scope (Plain a) (Plain b) in
      let both = have_one_type side.scope e f in
      let alike = are_alike e f in
      let made = one_made a b (operands_in e) (operands_in f) in
      let fields = keeps_fields side.scope.types e f in
      let h1 : (operands && both) ≡ true = left_true (operands && both) (alike && made && fields) h in
      let h2 : (alike && made) ≡ true = left_true (alike && made) fields (right_true (operands && both) (alike && made && fields) h) in
      let typed = one_type side.scope e f (right_true operands both h1) in
      let below : IsBelow a b = record { type = (one_type side.scope (Plain a) (Plain b) (left_true operands both h1)).type; less = all.0.1 } in (
        ap kind_of typed.type,
        worth_less e f (left_true alike made h2) typed.target (made_below a b below (operands_in e) (operands_in f) (right_true alike made h2)),
      )
  subst_is_sound from to h all = absurd (cc)

  binary_drops : (x y : BinaryOf Reg) → x.ty ≡ y.ty → drops_flags x y ≡ true → IsOutcomeLessDefined (worth side (Binary x)) (worth side (Binary y))
  binary_drops x y t h =
      let o = same_op x.op y.op in
      let l = same_atom same_reg x.left y.left in
      let r = same_atom same_reg x.right y.right in
      let among = flags_among y.flags x.flags in
      let h1 : (o && l && r) ≡ true = left_true (o && l && r) among h in
      let h2 : (o && l) ≡ true = left_true (o && l) r h1 in
      let left : x.left ≡ y.left = same_reg_atom_true x.left y.left (right_true o l h2) in
      let right : x.right ≡ y.right = same_reg_atom_true x.right y.right (right_true (o && l) r h1) in
      binary_less x.op y.op x.flags y.flags (kind_of x.ty) (kind_of y.ty) _ _ _ _ (same_op_true x.op y.op (left_true o l h2))
      (right_true (o && l && r) among h) (ap kind_of t)
      (rw (t, left) (less_defined_refl (atom_value side.scope (read_reg side) y.ty y.left)))
      (rw (t, right) (less_defined_refl (atom_value side.scope (read_reg side) y.ty y.right)))

  few_among : (few many : Bool) → (not few || many) ≡ true → few ≡ true → many ≡ true
  few_among true many h e = h
  few_among false many h e = absurd (cc)

  element_drops : (x y : ElementOf Reg) → is_addressed side.scope.types y ≡ true → drops_inbounds x y ≡ true
      → IsOutcomeLessDefined (worth side (Element x)) (worth side (Element y))
  element_drops x y typed h =
      let o = same_ty x.of y.of in
      let b = same_operand same_reg x.base y.base in
      let i = same_list (same_operand same_reg) x.indices y.indices in
      let among = not y.inbounds || x.inbounds in
      let h1 : (o && b && i) ≡ true = left_true (o && b && i) among h in
      let h2 : (o && b) ≡ true = left_true (o && b) i h1 in
      element_less x y (few_among y.inbounds x.inbounds (right_true (o && b && i) among h)) (same_ty_true x.of y.of (left_true o b h2)) (stated_of y typed)
      (below_itself x.base y.base (right_true o b h2), all_below_themselves x.indices y.indices (right_true (o && b) i h1))

  drops_less : (a b : Expr0) → has_type side.scope b ≡ true → type_of a ≡ type_of b → drops a b ≡ true → IsOutcomeLessDefined (worth side a) (worth side b)
  drops_less (Binary x) (Binary y) typed t h = binary_drops x y t h
  drops_less (Element x) (Element y) typed t h = element_drops x y typed h
  drops_less a b typed t h = absurd (cc)

  pub drop_flags_is_sound : (from : List Fact) (to : Fact) → is_drop_flags side.scope from to ≡ true → Holds side to
  drop_flags_is_sound [] (LessDef a b) h =
      let both = have_one_type side.scope a b in
      let typed = one_type side.scope a b (left_true both (drops a b) h) in (
        ap kind_of typed.type,
        drops_less a b typed.target typed.type (right_true both (drops a b) h),
      )
  drop_flags_is_sound from to h = absurd (cc)
