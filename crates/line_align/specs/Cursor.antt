-- A place in two bodies that are gone through letter by letter: the lines that stand there, and those that are left.
use Rattle.std.specs.Prelude.{zero, Bool, true, false, ◌&&◌, not, cond, List, [], ◌∷◌, slice_get, Option, None, Some}
use Rattle.ir_core.specs.declared.functions.Instr.{Instr}
use Rattle.erhl_assert.specs.declared.hints.Letter.{Letter}
use Rattle.erhl_assert.specs.declared.hints.Letter.TheVariants.{Both, Source, Target}
use Rattle.erhl_assert.specs.Alignment.{Line}

abbrev pub on_source : Letter → Bool
on_source Both = true
on_source Source = true
on_source Target = false

abbrev pub on_target : Letter → Bool
on_target Both = true
on_target Source = false
on_target Target = true

-- the first line, where one is taken
abbrev pub taken : Bool → List Instr → Option Instr
taken take xs = cond take (slice_get xs zero) None

-- the lines after it
abbrev pub left : Bool → List Instr → List Instr
left take [] = []
left take (x ∷ xs) = cond take xs (x ∷ xs)

abbrev pub is_none : List Instr → Bool
is_none [] = true
is_none (x ∷ xs) = false

-- there is a line on each side that the letter takes one of
abbrev pub stands : Letter → List Instr → List Instr → Bool
stands l xs ys = not (on_source l && is_none xs) && not (on_target l && is_none ys)

abbrev pub aligned_line : Letter → List Instr → List Instr → Line
aligned_line l xs ys = record { source = taken (on_source l) xs; target = taken (on_target l) ys }

abbrev pub is_aligned : Option (List Line) → Bool
is_aligned None = false
is_aligned (Some ls) = true
