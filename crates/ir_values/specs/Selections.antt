-- What a selection gives (LangRef 3.7, select Instruction).
use Rattle.std.specs.Prelude.{◌||◌, cond, nat_eq}
use Rattle.ir_core.specs.declared.values.Value.{Value}
use Rattle.ir_core.specs.declared.values.Value.TheVariants.{Num, Ptr, Bare, Undef, Poison}
use Rattle.ir_values.specs.declared.operations.Outcome.{Outcome}
use Rattle.ir_values.specs.declared.operations.Outcome.TheVariants.{Gives}
use Rattle.ir_values.specs.Values.{is_poison}

-- The condition 1 gives the first arm and 0 the second, whatever the other one is. Poison gives poison; undef gives poison where an arm
-- is poison, and undef else, also where both arms are one number. An address counts as undef.
abbrev pub select_value : Value → Value → Value → Value
select_value Poison a b = Poison
select_value Undef a b = cond (is_poison a || is_poison b) Poison Undef
select_value (Num n) a b = cond (nat_eq n 1) a b
select_value (Ptr block offset) a b = cond (is_poison a || is_poison b) Poison Undef
select_value (Bare address) a b = cond (is_poison a || is_poison b) Poison Undef

abbrev pub select_outcome : Value → Value → Value → Outcome
select_outcome c a b = Gives (select_value c a b)
