-- What a body line sets its register to, and the side after it, with its facts.
use Rattle.std.proofs.Common.{◌≡◌, ◌≢◌, ℕ, Bool, true, false, cond, List, [], ◌∷◌, Option, None, Some, refl, sym, ap, subst, ◌∙◌}
use Rattle.std.specs.List.{AllByRecursion, flat_map}
use Rattle.std.proofs.lemmas.Bool.{cond_both}
use Rattle.ir_types.specs.declared.named.NamedTy.{NamedTy}
use Rattle.ir_types.specs.declared.names.Name.{Name}
use Rattle.ir_types.specs.Same.{same_name}
use Rattle.ir_core.specs.declared.values.Value.{Value}
use Rattle.ir_core.specs.declared.values.Value.TheVariants.{Poison}
use Rattle.ir_core.specs.declared.values.Kind.{Kind}
use Rattle.ir_core.specs.declared.functions.Calm.{Calm}
use Rattle.ir_core.specs.declared.functions.Instr.TheVariants as line
use Rattle.ir_core.specs.declared.expressions.Expr.{Expr}
use Rattle.ir_core.specs.declared.expressions.Expr.TheVariants as expr
use Rattle.ir_core.specs.declared.expressions.Load.{Load}
use Rattle.ir_core.specs.declared.expressions.Reg.{Reg}
use Rattle.ir_core.specs.declared.expressions.Reg.TheVariants as reg
use Rattle.ir_core.specs.Same.{same_reg}
use Rattle.ir_core.specs.Types.{kind_of}
use Rattle.ir_core.specs.Expressions.{Expr0, atom_has, map_expr, type_of}
use Rattle.ir_values.specs.Constants.{Scope}
use Rattle.ir_values.specs.declared.operations.Outcome.{Outcome}
use Rattle.ir_values.specs.declared.operations.Outcome.TheVariants.{Gives, Trap}
use Rattle.block_memory.specs.Memory.{Memory, can_access, loaded, loaded_of, read_at}
use Rattle.ir_machine.specs.Keeps.{IsHeldAmong}
use Rattle.ir_machine.specs.Registers.{align_or, operand_value, read, set, register_value, outcome}
use Rattle.ir_machine.proofs.Holding.{GivesAmong}
use Rattle.ir_machine.proofs.Keeping.{all_joined}
use Rattle.ir_machine.proofs.Runs.{read_set_same, read_set_other}
use Rattle.erhl_assert.specs.Sides.{SideState, read_reg, worth}
use Rattle.erhl_assert.specs.declared.facts.Fact.{Fact}
use Rattle.erhl_assert.specs.declared.facts.Fact.TheVariants.{LessDef, Unique, Private, NoAlias, Ok}
use Rattle.erhl_assert.specs.Facts.{Holds, both_ways, expr_names}
use Rattle.erhl_assert.specs.Holding.{CanAccess, HoldsAlone, IsNot}
use Rattle.erhl_assert.specs.Kills.{all_killed, unique_of}
use Rattle.erhl_assert.specs.Matched.{now_operand}
use Rattle.erhl_assert.specs.Postcondition.{accessed, accessed_by, calm_adds, copied_in, facts_after, left_side, line_kills, right_side, with_align}
use Rattle.erhl_soundness.specs.TwoSides.{AreGlobalsNamed}
use Rattle.erhl_soundness.proofs.Readings.{outcome_mapped, type_mapped, poison_without_kind}
use Rattle.erhl_soundness.proofs.Facts.{IsNotIt, IsStillAlone, all_split, both_ways_hold, holds_kept, stays_so, with_facts_hold, worth_kept}
use Rattle.erhl_soundness.proofs.Kills.{AreLeft, IsLeft, killed_hold, none_unique}
use Rattle.erhl_soundness.proofs.Holders.{constants_apart, gives_among, set_others}

-- what a right side gives over the registers of a side
abbrev pub gives_on : SideState → Expr Name → Outcome
gives_on side e = outcome side.scope (read side.files.now) side.world.memory e

-- a side of which a register is set: old and ghost registers stay
abbrev pub set_now : SideState → Name → Option Kind → Value → SideState
set_now side x o v = record side { files = record side.files { now = set side.files.now x o v } }

-- every other register reads as before
pub read_reg_other : (side : SideState) (x : Name) (o : Option Kind) (v : Value) (k : Kind) (r : Reg) → same_reg (reg.Now x) r ≡ false
    → read_reg (set_now side x o v) k r ≡ read_reg side k r
read_reg_other side x o v k (reg.Now y) h = read_set_other side.files.now x y o k v h
read_reg_other side x o v k (reg.Old y) h = refl
read_reg_other side x o v k (reg.Ghost y) h = refl

-- a side after a line that gave a value
abbrev pub side_after : SideState → Calm → Value → SideState
side_after side l v = set_now side l.name (kind_of (type_of l.right)) v

aligned_worth : (scope : Scope) (reading : Kind → Reg → Value) (memory : Memory) (e : Expr0) → outcome scope reading memory (with_align scope.types e) ≡ outcome scope reading memory e
aligned_worth scope reading memory (expr.Plain o) = refl
aligned_worth scope reading memory (expr.Binary b) = refl
aligned_worth scope reading memory (expr.Icmp c) = refl
aligned_worth scope reading memory (expr.Cast c) = refl
aligned_worth scope reading memory (expr.Select s) = refl
aligned_worth scope reading memory (expr.Element e) = refl
aligned_worth scope reading memory (expr.Load l) = refl

aligned_type : (types : List NamedTy) (e : Expr0) → type_of (with_align types e) ≡ type_of e
aligned_type types (expr.Plain o) = refl
aligned_type types (expr.Binary b) = refl
aligned_type types (expr.Icmp c) = refl
aligned_type types (expr.Cast c) = refl
aligned_type types (expr.Select s) = refl
aligned_type types (expr.Element e) = refl
aligned_type types (expr.Load l) = refl

-- an access that gave something doesn't trap
can_be : (memory : Memory) (k : Kind) (a : Value) (align : ℕ) (v : Value) → loaded memory k a align ≡ Gives v → can_access memory k a align ≡ true
can_be memory k a align v gives = at (can_access memory k a align) gives
  where
    at : (b : Bool) → cond b (Gives (read_at memory k a)) Trap ≡ Gives v → b ≡ true
    at true e = refl
    at false e = absurd (cc)

module _ (side : SideState) (l : Calm) (v : Value) (gives : gives_on side l.right ≡ Gives v) where
  -- at a type without values it gave poison
  poison_of_none : kind_of (type_of l.right) ≡ None → v ≡ Poison
  poison_of_none h = let same : Gives v ≡ Gives Poison = sym gives ∙ poison_without_kind side.scope (read side.files.now) side.world.memory l.right h in cc

  reads_back : (o : Option Kind) → (o ≡ None → v ≡ Poison) → register_value (read_reg (set_now side l.name o v)) o (reg.Now l.name) ≡ v
  reads_back None h = sym (h refl)
  reads_back (Some k) h = read_set_same side.files.now l.name k v

  -- the register of the line holds that value
  pub register_gives : worth (side_after side l v) (left_side l) ≡ Gives v
  register_gives = ap Gives (reads_back (kind_of (type_of l.right)) poison_of_none)

  abbrev after : SideState
  after = side_after side l v

  abbrev right : Expr0
  right = right_side side.scope.types l

  -- what names the register not is worth the same after the line
  others_worth : (e : Expr0) → expr_names (reg.Now l.name) e ≡ false → worth after e ≡ worth side e
  others_worth e apart =
      worth_kept (same_reg (reg.Now l.name)) side after (stays_so side after.files) (read_reg_other side l.name (kind_of (type_of l.right)) v) e apart

  -- and its right side is worth it, where the register isn't in it
  right_side_gives : expr_names (reg.Now l.name) right ≡ false → worth after right ≡ Gives v
  right_side_gives apart =
      others_worth right apart
      ∙ aligned_worth side.scope (read_reg side) side.world.memory (map_expr reg.Now l.right)
      ∙ outcome_mapped side.scope reg.Now (read_reg side) side.world.memory l.right ∙ gives

  right_kind : kind_of (type_of l.right) ≡ kind_of (type_of right)
  right_kind = sym (ap kind_of (aligned_type side.scope.types (map_expr reg.Now l.right) ∙ type_mapped reg.Now l.right))

  -- where it was a load, an access there doesn't trap
  accessed_there : (a : Load Name) → l.right ≡ expr.Load a → atom_has (same_reg (reg.Now l.name)) (now_operand a.pointer).atom ≡ false
      → (k : Option Kind) → kind_of a.of ≡ k → k ≢ None → CanAccess after k (worth after (expr.Plain (now_operand a.pointer))) (align_or side.scope.types a.of a.align)
  accessed_there a is apart None kind some = absurd (some refl)
  accessed_there a is apart (Some k) kind some =
      let p = operand_value side.scope (read side.files.now) a.pointer in
      let align = align_or side.scope.types a.of a.align in
      let loads : loaded_of side.world.memory (kind_of a.of) p align ≡ Gives v = sym (ap (gives_on side) is) ∙ gives in
      let there : worth after (expr.Plain (now_operand a.pointer)) ≡ Gives p =
      others_worth (expr.Plain (now_operand a.pointer)) apart ∙ outcome_mapped side.scope reg.Now (read_reg side) side.world.memory (expr.Plain a.pointer) in
      subst (λ o. CanAccess after (Some k) o align) (sym there)
      (can_be side.world.memory k p align v (subst (λ j. loaded_of side.world.memory j p align ≡ Gives v) kind loads))

  accessed_hold : (a : Load Name) → l.right ≡ expr.Load a → (k : Option Kind) → kind_of a.of ≡ k
      → AllByRecursion (Holds after) (accessed k l.name a.of (now_operand a.pointer) (align_or side.scope.types a.of a.align))
  accessed_hold a is None kind = tt
  accessed_hold a is (Some k) kind =
      let p = now_operand a.pointer in
      let align = align_or side.scope.types a.of a.align in
      cond_both (atom_has (same_reg (reg.Now l.name)) p.atom) [] (Ok (expr.Plain p) a.of align ∷ []) (AllByRecursion (Holds after))
      (λ e. tt)
      (λ e. (subst (λ j. CanAccess after j (worth after (expr.Plain p)) align) (sym kind) (accessed_there a is e (Some k) kind (λ none. cc)), tt))

  accessed_by_hold : (e : Expr Name) → l.right ≡ e → AllByRecursion (Holds after) (accessed_by side.scope.types l e)
  accessed_by_hold (expr.Load a) is = accessed_hold a is (kind_of a.of) refl
  accessed_by_hold (expr.Plain o) is = tt
  accessed_by_hold (expr.Binary b) is = tt
  accessed_by_hold (expr.Icmp c) is = tt
  accessed_by_hold (expr.Cast c) is = tt
  accessed_by_hold (expr.Select s) is = tt
  accessed_by_hold (expr.Element e) is = tt

  -- WHAT A LINE ADDS
  pub adds_hold : AllByRecursion (Holds after) (calm_adds side.scope.types l)
  adds_hold =
      let both = both_ways (left_side l) right in
      all_joined (Holds after) (cond (expr_names (reg.Now l.name) right) [] both) (accessed_by side.scope.types l l.right)
      (cond_both (expr_names (reg.Now l.name) right) [] both (AllByRecursion (Holds after)) (λ e. tt)
      (λ e. both_ways_hold after (left_side l) right v right_kind register_gives (right_side_gives e)))
      (accessed_by_hold l.right refl)

  -- WHAT IT LEAVES
  module _ (named : AreGlobalsNamed side) where
    abbrev changed : Reg → Bool
    changed = same_reg (reg.Now l.name)

    -- no other register gets a pointer into a block that one alone holds, unless that one is copied
    alone_on : (x : Name) → AllByRecursion (IsNotIt x) (copied_in l.right) → (b : ℕ) → HoldsAlone side x b → (y : Name) → same_name y x ≡ false → IsHeldAmong (IsNot b) (after.files.now y)
    alone_on x none b only =
        set_others (IsNot b) x side.files.now l.name (kind_of (type_of l.right)) v only.now
        (subst (GivesAmong (IsNot b)) gives
        (gives_among (IsNot b) x side.scope (constants_apart side named x b only) side.files.now only.now side.world.memory only.bytes l.right none))

    abbrev AloneOn : Fact → Type 0
    AloneOn = IsStillAlone changed side after (stays_so side after.files) (read_reg_other side l.name (kind_of (type_of l.right)) v)

    alone_still : (f : Fact) → AreLeft side (line_kills (line.Calm l)) f → AloneOn f
    alone_still (Unique (reg.Now x)) h =
        alone_on x (none_unique side x (copied_in l.right) (all_split (λ k. IsLeft side k (Unique (reg.Now x))) (flat_map unique_of (copied_in l.right)) [] h.1).0)
    alone_still (Unique (reg.Old x)) h = tt
    alone_still (Unique (reg.Ghost x)) h = tt
    alone_still (Private r) h = tt
    alone_still (LessDef a b) h = tt
    alone_still (NoAlias a b) h = tt
    alone_still (Ok e t align) h = tt

    held_on : (y : Name) → same_name l.name y ≡ false → after.files.now y ≡ side.files.now y
    held_on y e = rw e refl

    pub leaves : (f : Fact) → Holds side f → AreLeft side (line_kills (line.Calm l)) f → Holds after f
    leaves f known h =
        holds_kept changed side after (stays_so side after.files) (read_reg_other side l.name (kind_of (type_of l.right)) v) held_on f h.0 (alone_still f h) known

    -- the facts after a line hold after it, whether it is of one side alone
    pub facts_after_hold : (one_sided : Bool) (fs : List Fact) → AllByRecursion (Holds side) fs
        → AllByRecursion (Holds after) (facts_after side.scope.types one_sided (Some (line.Calm l)) fs)
    facts_after_hold one_sided fs all =
        with_facts_hold after (calm_adds side.scope.types l) (all_killed (line_kills (line.Calm l)) fs) adds_hold
        (killed_hold side named after (line_kills (line.Calm l)) leaves fs all)
