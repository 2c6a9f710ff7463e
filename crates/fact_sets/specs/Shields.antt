-- Words of private functions. Facts by which a store or a call leaves what is loaded, and facts with loads.
use Rattle.std.specs.Prelude.{◌≡◌, Bool, true, false, ◌&&◌, ◌||◌, filter, List}
use Rattle.std.specs.List.{list_any}
use Rattle.ir_core.specs.declared.expressions.Expr.TheVariants.{Plain, Load}
use Rattle.ir_core.specs.Expressions.{Expr0}
use Rattle.ir_core.specs.declared.expressions.Reg.{Reg}
use Rattle.ir_core.specs.declared.operands.Operand.{Operand}
use Rattle.erhl_assert.specs.declared.facts.Fact.{Fact}
use Rattle.erhl_assert.specs.declared.facts.Fact.TheVariants.{LessDef, Unique, Private, NoAlias, Ok}
use Rattle.erhl_assert.specs.Kills.{are_no_aliases, is_now_or_constant, is_other, is_unique}
use Rattle.fact_sets.specs.declared.fact_key.FactKey.{FactKey}
use Rattle.fact_sets.specs.declared.fact_key.FactKey.TheVariants as key

-- A fact without loads of which a kill asks whether it is known.
abbrev pub shields : Fact → Bool
shields (Unique r) = true
shields (Private r) = true
shields (NoAlias (Plain p) (Plain q)) = true
shields (NoAlias a b) = false
shields (LessDef a b) = false
shields (Ok e t align) = false

-- the fact that a key stands for
abbrev pub fact_of : FactKey → Fact
fact_of (key.Unique r) = Unique r.now
fact_of (key.Private r) = Private r.now
fact_of (key.NoAlias p q) = NoAlias (Plain p.now) (Plain q.now)

abbrev pub is_load : Expr0 → Bool
is_load (Load l) = true
is_load e = false

abbrev pub has_load : Fact → Bool
has_load (LessDef a b) = is_load a || is_load b
has_load (NoAlias a b) = is_load a || is_load b
has_load (Ok e t align) = is_load e
has_load (Unique r) = false
has_load (Private r) = false

-- the fact that two operands, as they stand there, aren't both pointers into one block
abbrev pub parts : Fact → Bool
parts (NoAlias (Plain p) (Plain q)) = true
parts (NoAlias a b) = false
parts (LessDef a b) = false
parts (Unique r) = false
parts (Private r) = false
parts (Ok e t align) = false

-- A store through q leaves what is loaded from p: as `spares` says it, where it is known of q whether it is unique and whether it is a register
-- of now or a constant, and where facts that part two operands are asked for only if there may be one.
abbrev pub spares_by : (q_is_unique q_is_now may_part : Bool) → List Fact → Operand Reg → Operand Reg → Bool
spares_by q_is_unique q_is_now may_part fs q p = is_other q.atom p.atom
    && ((q_is_unique && is_now_or_constant p.atom) || (q_is_now && is_unique fs p.atom) || (may_part && are_no_aliases fs p q))

-- The first are exactly those facts that shield; where none may have a load, none has; and where none may part two operands, none does.
pub record AreShields (some : List Fact) (may_load may_part : Bool) (fs : List Fact) : Type 0 where
  pub all : some ≡ filter shields fs
  pub loads : may_load ≡ false → list_any has_load fs ≡ false
  pub apart : may_part ≡ false → list_any parts fs ≡ false
