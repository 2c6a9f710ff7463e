-- Each type that is written has a derivation.
use Rattle.std.proofs.Common.{ℕ, Bool, true, false, List, [], ◌∷◌, Option, Some, None, refl}
use Rattle.std.specs.List.{AllByRecursion}
use Rattle.ir_types.specs.declared.names.Name.{Name}
use Rattle.ir_lexer.specs.declared.token.Number.{Number}
use Rattle.module_grammar.specs.declared.places.Placed.{Placed}
use Rattle.module_grammar.specs.declared.types.CalledText.{CalledText}
use Rattle.module_grammar.specs.declared.types.NextCalledText.TheVariants as next
use Rattle.module_grammar.specs.declared.types.TypeText.{TypeText, Int, Named, Array, Struct}
use Rattle.module_grammar.specs.Joined.{pointers_to}
use Rattle.module_grammar.specs.Rules.{meaning}
use Rattle.module_grammar.proofs.Lawful.{by}
use Rattle.module_grammar.proofs.TypeFolds.{by_parts, each}
use Rattle.predictive.specs.Made.{Made}

stars : (x : List ℕ) → Made meaning 35 x
stars [] = by 79 refl _ tt
stars (at ∷ more) = by 80 refl _ (stars more, tt)

-- with any stars behind it
abbrev WithStars : TypeText → Type 0
WithStars t = (more : List ℕ) → Made meaning 33 (pointers_to t more)

int : (width : Placed ℕ) → WithStars (Int width)
int width more = by 74 refl (Int width, (more, tt)) (by 75 refl (width, tt) tt, (stars more, tt))

named : (name : Placed Name) → WithStars (Named name)
named name more = by 74 refl (Named name, (more, tt)) (by 76 refl (name, tt) tt, (stars more, tt))

array : (at : ℕ) (count : Placed Number) (t : TypeText) → WithStars t → WithStars (Array at (count, t))
array at count t made more =
    by 74 refl (Array at (count, t), (more, tt)) (by 77 refl (at, (count, (tt, (t, (tt, tt))))) (made [], tt), (stars more, tt))

more_types_by : (ts : List TypeText) → AllByRecursion WithStars ts → Made meaning 37 ts
more_types_by [] made = by 83 refl _ tt
more_types_by (t ∷ ts) made = by 84 refl (tt, (t, (ts, tt))) (made.0 [], (more_types_by ts made.1, tt))

types_by : (ts : List TypeText) → AllByRecursion WithStars ts → Made meaning 36 ts
types_by [] made = by 81 refl _ tt
types_by (t ∷ ts) made = by 82 refl (t, (ts, tt)) (made.0 [], (more_types_by ts made.1, tt))

struct : (at : ℕ) (ts : List TypeText) → AllByRecursion WithStars ts → WithStars (Struct at ts)
struct at ts made more =
    by 74 refl (Struct at ts, (more, tt)) (by 78 refl (at, (ts, (tt, tt))) (types_by ts made, tt), (stars more, tt))

with_stars : (t : TypeText) → WithStars t
with_stars = by_parts WithStars int named (λ at t made more. made (at ∷ more)) array struct

pub ty : (t : TypeText) → Made meaning 33 t
ty t = with_stars t []

pub types : (ts : List TypeText) → Made meaning 36 ts
types ts = types_by ts (each WithStars with_stars ts)

more_called : (ts : List TypeText) (is_open : Bool) → Made meaning 39 (record { types = ts; is_open = is_open })
more_called [] false = by 87 refl _ tt
more_called [] true = by 88 refl (tt, (next.Open, tt)) (by 89 refl _ tt, tt)
more_called (t ∷ ts) is_open =
    by 88 refl (tt, (next.Type t (record { types = ts; is_open = is_open }), tt))
    (by 90 refl _ (ty t, (more_called ts is_open, tt)), tt)

called_parts : (ts : List TypeText) (is_open : Bool) → Made meaning 38 (record { types = ts; is_open = is_open })
called_parts [] false = by 85 refl _ tt
called_parts [] true = by 86 refl (next.Open, tt) (by 89 refl _ tt, tt)
called_parts (t ∷ ts) is_open =
    by 86 refl (next.Type t (record { types = ts; is_open = is_open }), tt) (by 90 refl _ (ty t, (more_called ts is_open, tt)), tt)

pub called : (x : CalledText) → Made meaning 38 x
called c = called_parts c.types c.is_open

pub function_type : (x : Option CalledText) → Made meaning 41 x
function_type None = by 91 refl _ tt
function_type (Some c) = by 92 refl _ (called c, tt)

pub result : (x : Option TypeText) → Made meaning 12 x
result None = by 28 refl _ tt
result (Some t) = by 29 refl _ (ty t, tt)
