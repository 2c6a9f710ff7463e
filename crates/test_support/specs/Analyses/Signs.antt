-- The sign of a number: `Any` lies below each sign, and each sign below `Unseen`.
use Rattle.std.specs.Prelude.{◌≡◌, ℕ, zero, suc, List, slice_index_or}
use Rattle.flow_solver.specs.Frameworks.{Framework}
use Rattle.test_support.specs.declared.analyses.signs.Sign.{Sign}
use Rattle.test_support.specs.declared.analyses.signs.Sign.TheVariants.{Negative, Zero, Positive}
use Rattle.test_support.specs.declared.analyses.signs.Known.{Known}
use Rattle.test_support.specs.declared.analyses.signs.Known.TheVariants.{Unseen, One, Any}
use Rattle.test_support.specs.declared.analyses.signs.Act.{Act}
use Rattle.test_support.specs.declared.analyses.signs.Act.TheVariants.{Keep, Negate, Make}

abbrev pub IsBelow : Known → Known → Type 0
IsBelow Any y = Unit {0}
IsBelow (One s) Any = ⊥
IsBelow (One s) (One t) = s ≡ t
IsBelow (One s) Unseen = Unit {0}
IsBelow Unseen Any = ⊥
IsBelow Unseen (One t) = ⊥
IsBelow Unseen Unseen = Unit {0}

abbrev pub met_signs : Sign → Sign → Known
met_signs Negative Negative = One Negative
met_signs Negative Zero = Any
met_signs Negative Positive = Any
met_signs Zero Negative = Any
met_signs Zero Zero = One Zero
met_signs Zero Positive = Any
met_signs Positive Negative = Any
met_signs Positive Zero = Any
met_signs Positive Positive = One Positive

abbrev pub met : Known → Known → Known
met Unseen y = y
met (One s) Unseen = One s
met (One s) (One t) = met_signs s t
met (One s) Any = Any
met Any y = Any

abbrev pub negated : Sign → Sign
negated Negative = Positive
negated Zero = Zero
negated Positive = Negative

abbrev pub made : Act → Known → Known
made act Unseen = Unseen
made Keep (One s) = One s
made Keep Any = Any
made Negate (One s) = One (negated s)
made Negate Any = Any
made (Make sign) (One s) = One sign
made (Make sign) Any = One sign

-- at the first node nothing is known of it
abbrev pub start_of : ℕ → Known
start_of zero = Any
start_of (suc n) = Unseen

abbrev pub height : Known → ℕ
height Any = 0
height (One s) = 1
height Unseen = 2

abbrev pub signs : List Act → Framework Known
signs acts = record {
  IsValue = λ _. Unit {0};
  IsBelow = IsBelow;
  top = Unseen;
  start = start_of;
  meet = met;
  transfer = λ n. made (slice_index_or acts n Keep);
  height = height;
}
