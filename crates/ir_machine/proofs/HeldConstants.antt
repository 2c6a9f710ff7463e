-- Constants, and what initialisers tell, hold globals alone, at offsets in range.
use Rattle.std.proofs.Common.{◌≡◌, ◌-◌, ◌+◌, ◌<◌, ℕ, suc, pos, Bool, true, false, List, [], ◌∷◌, map, length, sym, subst, arith, cond}
use Rattle.std.specs.List.{AllByRecursion, flat_map, range_with_len, zip}
use Rattle.std.proofs.lemmas.Bool.{cond_both}
use Rattle.ir_types.specs.declared.names.Name.{Name}
use Rattle.ir_types.specs.declared.ty.Ty.{Ty, Int}
use Rattle.ir_types.specs.Named.{size_of}
use Rattle.ir_types.specs.Same.{same_name}
use Rattle.ir_core.specs.declared.modules.GlobalVar.{GlobalVar}
use Rattle.ir_core.specs.declared.modules.Init.{Init, Zero, Bytes, roll-Init, map-Init, ind-Init}
use Rattle.ir_core.specs.declared.modules.Init as init
use Rattle.ir_core.specs.declared.modules.Init.TheOpen.{Init-F}
use Rattle.ir_core.specs.declared.modules.Init.TheOpen as level
use Rattle.ir_core.specs.declared.modules.Init.TheViews.{rolls-Const, rolls-Zero, rolls-Bytes, rolls-Array, rolls-Struct}
use Rattle.ir_core.specs.declared.operands.Const.{Const, Number, Undef, Null, Global, Element, Cast}
use Rattle.ir_core.specs.declared.operands.Const.TheOpen.{Const-F}
use Rattle.ir_core.specs.declared.operands.Const.TheOpen as part
use Rattle.ir_core.specs.declared.values.Byte.{Byte}
use Rattle.ir_core.specs.declared.values.Kind.{Kind}
use Rattle.ir_core.specs.declared.values.Kind.TheVariants as kind
use Rattle.ir_core.specs.declared.values.Value.{Value}
use Rattle.ir_core.specs.declared.values.Value.TheVariants as value
use Rattle.ir_core.specs.Types.{fits}
use Rattle.ir_core.proofs.Constants as constants
use Rattle.ir_core.proofs.Constants.{EachOf}
use Rattle.ir_core.proofs.Inits as inits
use Rattle.ir_values.specs.Constants.{Scope, address_of_part, constant_value, global_at, index_in, is_of_type, number_value, recast_part, size_behind, worth, worth_at_level}
use Rattle.ir_values.proofs.Moved.{gep_in_kind}
use Rattle.block_memory.specs.Bytes.{IsByte, IsRanged, byte_at}
use Rattle.block_memory.proofs.ReadValues.{bytes_are_bytes, kind_ranged}
use Rattle.ir_machine.specs.declared.scalars.Scalar.{Scalar}
use Rattle.ir_machine.specs.Scalars.{byte_among, held_value, initial_bytes, is_in, scalars_of, values_level, values_of, zero_of}
use Rattle.ir_machine.specs.Keeps.{IsAmong, IsByteAmong}
use Rattle.ir_machine.proofs.Keeping.{all_joined}
use Rattle.ir_machine.proofs.Holding.{byte_at_among, gep_among}

pub each_mapped : {A B : Type 0} (P : B → Type 0) (f : A → B) → ((x : A) → P (f x)) → (xs : List A) → AllByRecursion P (map f xs)
each_mapped P f h [] = tt
each_mapped P f h (x ∷ xs) = (h x, each_mapped P f h xs)

module _ (among : ℕ → Type 0) where
  -- a value whose offset is in range, and whose block is among those
  abbrev pub IsGood : Value → Type 0
  IsGood v = IsRanged v × IsAmong among v

  abbrev pub IsGoodByte : Byte → Type 0
  IsGoodByte b = IsByte b × IsByteAmong among b

  either_good : (b : Bool) (v w : Value) → IsGood v → IsGood w → IsGood (cond b v w)
  either_good true v w h k = h
  either_good false v w h k = k

  number_good : (n : ℕ) (t : Ty) → IsGood (number_value n t)
  number_good n (Int width) = either_good (fits n width) (value.Num n) value.Poison (tt, tt) (tt, tt)
  number_good n t = (tt, tt)

  global_good : (place : ℕ) (globals : List GlobalVar) (x : Name) → ((k : ℕ) → k < length globals → among (place + k)) → IsGood (global_at place globals x)
  global_good place [] x those = (tt, tt)
  global_good place (g ∷ gs) x those =
      either_good (same_name g.name x) (value.Ptr place (pos 0)) (global_at (suc place) gs x)
      (record { sfits = omega arith }, (let is : place + 0 ≡ place = omega arith in subst among is (those 0 (omega arith))))
      (global_good (suc place) gs x (λ k below. (let is : place + suc k ≡ suc place + k = omega arith in subst among is (those (suc k) (omega (arith, below))))))

  module _ (scope : Scope) (those : (k : ℕ) → k < length scope.globals → among k) where
    abbrev step : Const-F (Ty → Value) → Ty → Value
    step = worth_at_level scope

    abbrev IsWorthGood : Const → Type 0
    IsWorthGood c = (t : Ty) → IsGood (worth scope c t)

    worth_by_level : (c : Const) (f : Ty → Value) → worth scope c ≡ f → ((t : Ty) → IsGood (f t)) → IsWorthGood c
    worth_by_level c f is h t = subst (λ (g : Ty → Value). IsGood (g t)) (sym is) (h t)

    part_good : (inbounds : Bool) (of : Ty) (cs : List (Ty × Const)) → EachOf IsWorthGood cs → IsGood (address_of_part scope inbounds of (constants.folded_parts (Ty → Value) step cs))
    part_good inbounds of [] each = (tt, tt)
    part_good inbounds of (c ∷ cs) each =
        let indices = map index_in (constants.folded_parts (Ty → Value) step cs) in
        let base = worth scope c.1 c.0 in (
          kind_ranged kind.Ptr _ (gep_in_kind inbounds scope.types of base (size_behind scope base) indices),
          gep_among among inbounds scope.types of base (size_behind scope base) indices (each.0 c.0).1,
        )

    recast_good : (cs : List (Ty × Const)) → EachOf IsWorthGood cs → IsGood (recast_part (constants.folded_parts (Ty → Value) step cs))
    recast_good [] each = (tt, tt)
    recast_good (c ∷ []) each = each.0 c.0
    recast_good (c ∷ d ∷ cs) each = (tt, tt)

    worth_good : (c : Const) → IsWorthGood c
    worth_good = constants.by_parts IsWorthGood
        (λ n. worth_by_level (Number n) (step (part.Number n)) (constants.at_number (Ty → Value) step n) (number_good n))
        (worth_by_level Undef (step part.Undef) (constants.at_undef (Ty → Value) step) (λ t. (tt, tt)))
        (worth_by_level Null (step part.Null) (constants.at_null (Ty → Value) step) (λ t. (tt, tt)))
        (λ x. worth_by_level (Global x) (step (part.Global x)) (constants.at_global (Ty → Value) step x) (λ t. global_good 0 scope.globals x (λ k below. (let is : k ≡ 0 + k = omega arith in subst among is (those k below)))))
        (λ inbounds of cs each. worth_by_level (Element (inbounds, of, cs)) (step (part.Element (inbounds, of, constants.folded_parts (Ty → Value) step cs)))
        (constants.at_element (Ty → Value) step inbounds of cs) (λ t. part_good inbounds of cs each))
        (λ to cs each. worth_by_level (Cast (to, cs)) (step (part.Cast (to, constants.folded_parts (Ty → Value) step cs)))
        (constants.at_cast (Ty → Value) step to cs) (λ t. recast_good cs each))

    pub constant_good : (t : Ty) (c : Const) → IsGood (constant_value scope t c)
    constant_good t c = either_good (is_of_type scope t c) (worth scope c t) value.Poison (worth_good c t) (tt, tt)

    held_good : (t : Ty) (c : Const) → IsGood (held_value scope t c)
    held_good t Undef = (tt, tt)
    held_good t c = constant_good t c

    zero_good : (k : Kind) → IsGood (zero_of k)
    zero_good (kind.Int width) = (tt, tt)
    zero_good kind.Ptr = (tt, tt)

    -- ---- initialisers

    abbrev AreGood : List Value → Type 0
    AreGood = AllByRecursion IsGood

    abbrev Gives : Type 0
    Gives = Ty → List Value

    abbrev init_step : Init-F Gives → Gives
    init_step = values_level scope

    abbrev GivesGood : Init → Type 0
    GivesGood i = (t : Ty) → AreGood (values_of scope i t)

    init_by_level : (i : Init) (f : Gives) → values_of scope i ≡ f → ((t : Ty) → AreGood (f t)) → GivesGood i
    init_by_level i f is h t = subst (λ (g : Gives). AreGood (g t)) (sym is) (h t)

    parts_good : (ps : List (Ty × Init)) → AllByRecursion (λ (p : Ty × Init). GivesGood p.1) ps
        → AreGood (flat_map (λ (p : Ty × Gives). p.1 p.0) (inits.folded_parts Gives init_step ps))
    parts_good [] each = tt
    parts_good (p ∷ ps) each =
        all_joined IsGood (values_of scope p.1 p.0) (flat_map (λ (q : Ty × Gives). q.1 q.0) (inits.folded_parts Gives init_step ps))
        (each.0 p.0) (parts_good ps each.1)

    abbrev Known : Type 0
    Known = (i : Init) × GivesGood i

    abbrev of_known : List (Ty × Known) → List (Ty × Init)
    of_known = map (λ e. (e.0, e.1.0))

    all_known : (es : List (Ty × Known)) → AllByRecursion (λ (p : Ty × Init). GivesGood p.1) (of_known es)
    all_known [] = tt
    all_known (e ∷ es) = (e.1.1, all_known es)

    of_level : (y : Init-F Known) → GivesGood (roll-Init (map-Init Known Init (λ e. e.0) y))
    of_level (level.Const c) = subst GivesGood (sym (rolls-Const c))
        (init_by_level (init.Const c) (init_step (level.Const c)) (inits.at_const Gives init_step c)
        (λ t. each_mapped IsGood (λ (s : Scalar). held_value scope t c) (λ s. held_good t c) (scalars_of scope.types t)))
    of_level level.Zero = subst GivesGood (sym rolls-Zero)
        (init_by_level Zero (init_step level.Zero) (inits.at_zero Gives init_step)
        (λ t. each_mapped IsGood (λ (s : Scalar). zero_of s.kind) (λ s. zero_good s.kind) (scalars_of scope.types t)))
    of_level (level.Bytes bytes) = subst GivesGood (sym (rolls-Bytes bytes))
        (init_by_level (Bytes bytes) (init_step (level.Bytes bytes)) (inits.at_bytes Gives init_step bytes)
        (λ t. each_mapped IsGood value.Num (λ n. (tt, tt)) bytes))
    of_level (level.Array es) = subst GivesGood (sym (rolls-Array (of_known es)))
        (init_by_level (init.Array (of_known es)) (init_step (level.Array (inits.folded_parts Gives init_step (of_known es))))
        (inits.at_array Gives init_step (of_known es)) (λ t. parts_good (of_known es) (all_known es)))
    of_level (level.Struct es) = subst GivesGood (sym (rolls-Struct (of_known es)))
        (init_by_level (init.Struct (of_known es)) (init_step (level.Struct (inits.folded_parts Gives init_step (of_known es))))
        (inits.at_struct Gives init_step (of_known es)) (λ t. parts_good (of_known es) (all_known es)))

    values_good : (i : Init) → GivesGood i
    values_good = ind-Init GivesGood (λ x y is. subst (λ z. GivesGood (roll-Init z)) is (of_level y))

    zipped_good : (ss : List Scalar) (vs : List Value) → AreGood vs → AllByRecursion (λ (h : Scalar × Value). IsGood h.1) (zip ss vs)
    zipped_good [] vs h = tt
    zipped_good (s ∷ ss) [] h = tt
    zipped_good (s ∷ ss) (v ∷ vs) h = (h.0, zipped_good ss vs h.1)

    among_is_good : (held : List (Scalar × Value)) → AllByRecursion (λ (h : Scalar × Value). IsGood h.1) held → (place : ℕ) → IsGoodByte (byte_among held place)
    among_is_good [] all place = (tt, tt)
    among_is_good (h ∷ rest) all place =
        cond_both (is_in place h.0) (byte_at h.1 (place - h.0.at)) (byte_among rest place) IsGoodByte
        (λ e. ((bytes_are_bytes h.1 (place - h.0.at) 1 all.0.0).0, byte_at_among among h.1 (place - h.0.at) all.0.1)) (λ e. among_is_good rest all.1 place)

    pub initial_good : (t : Ty) (i : Init) → AllByRecursion IsGoodByte (initial_bytes scope t i)
    initial_good t i =
        let held = zip (scalars_of scope.types t) (values_of scope i t) in
        each_mapped IsGoodByte (byte_among held) (among_is_good held (zipped_good (scalars_of scope.types t) (values_of scope i t) (values_good i t)))
        (range_with_len 0 (size_of scope.types t))
