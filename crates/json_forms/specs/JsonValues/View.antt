-- The data that a value stands for.
use Rattle.std.specs.Prelude.{ℕ, List, [], ◌∷◌, map}
use Rattle.std.specs.Borrow.{Bor}
use Rattle.serde_json.specs.Data.{Data, null, boolean, number, string, array, object, Items, Members, no_members, member, put}
use Rattle.serde_json.specs.View.{number_view, items_of}
use Rattle.json_forms.specs.declared.json_values.value.Value.{Value, fold-Value}
use Rattle.json_forms.specs.declared.json_values.value.Value.TheOpen.{Value-F}

-- The members go in one after another, so that the last of a key counts: of `{"a":1,"b":2,"a":3}` they are `a`, which is 3, and `b`.
abbrev pub put_all : List (Bor (List ℕ) × Data) → Members → Members
put_all [] found = found
put_all (m ∷ ms) found = put_all ms (put m.0.now m.1 found)

-- one level, with each value inside already seen as its data
abbrev pub view_step : Value-F Data → Data
view_step Value-F.Null = null
view_step (Value-F.Bool b) = boolean b
view_step (Value-F.Number n) = number (number_view n)
view_step (Value-F.Text s) = string s.now
view_step (Value-F.Array v) = array (items_of v.items)
view_step (Value-F.Object v) = object (put_all v.items no_members)

abbrev pub view : Value → Data
view = fold-Value Data view_step

abbrev pub items_view : List Value → Items
items_view vs = items_of (map view vs)

abbrev pub members_view : List (Bor (List ℕ) × Value) → Members
members_view ms = put_all (map (λ m. (m.0, view m.1)) ms) no_members

-- entries in the order in which they stand
abbrev pub sorted_view : List (Bor (List ℕ) × Bor Value) → Members
sorted_view [] = no_members
sorted_view (e ∷ es) = member e.0.now (view e.1.now) (sorted_view es)
