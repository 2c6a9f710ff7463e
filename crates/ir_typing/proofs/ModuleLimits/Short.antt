-- The test of the limit on lines says what it is to be within it.
use Rattle.std.proofs.Common.{◌≡◌, ◌↔◌, true, false, List}
use Rattle.std.proofs.lemmas.Bool.{le-leb, leb-true}
use Rattle.std.specs.List.{list_all}
use Rattle.ir_core.specs.declared.functions.Function.{Function}
use Rattle.ir_core.specs.Functions.{line_count}
use Rattle.ir_core.specs.Limits.{line_limit}
use Rattle.ir_typing.specs.ModuleLimits.Lines.{is_short}
use Rattle.ir_typing.specs.ModuleLimits.Passed.{AreShort, IsShort}
use Rattle.ir_typing.proofs.OperandTests.Tests.{all_tested}

pub one_by : (f : Function) → is_short f ≡ true → IsShort f
one_by f e = leb-true (line_count f) line_limit e

pub one_is : (f : Function) → IsShort f → is_short f ≡ true
one_is f is = le-leb (line_count f) line_limit is

pub one_not : (f : Function) → is_short f ≡ false → IsShort f → ⊥
one_not f e is = let yes : is_short f ≡ true = one_is f is in cc

short_where : (fs : List Function) → (list_all is_short fs ≡ true) ↔ AreShort fs
short_where = all_tested is_short IsShort (λ f. (one_by f, one_is f))

pub short_by : (fs : List Function) → list_all is_short fs ≡ true → AreShort fs
short_by fs = (short_where fs).0

pub short_not : (fs : List Function) → list_all is_short fs ≡ false → AreShort fs → ⊥
short_not fs e all = let yes : list_all is_short fs ≡ true = (short_where fs).1 all in cc
