-- What a table of rows is: an array of JSON.
use Rattle.std.specs.Prelude.{ℕ, suc, List, codes, Option, None, Some, option_and_then}
use Rattle.serde_json.specs.Data.{Data, Items, no_items, item}
use Rattle.serde_json.specs.Find.{get, as_array, as_str}

abbrev pub count_items : Items → ℕ
count_items no_items = 0
count_items (item d ds) = suc (count_items ds)

abbrev pub count_in : Option Items → ℕ
count_in None = 0
count_in (Some items) = count_items items

-- how many rows a table has
abbrev pub count_rows : Data → ℕ
count_rows d = count_in (as_array d)

-- what is shown in place of a name that isn't there
abbrev pub no_name : List ℕ
no_name = codes "a row without a name"

abbrev pub name_or_none : Option (List ℕ) → List ℕ
name_or_none None = no_name
name_or_none (Some name) = name

-- the name of a row that may be absent: its member `name`, where that is a text
abbrev pub name_of_row : Option Data → List ℕ
name_of_row row = name_or_none (option_and_then as_str (option_and_then (get (codes "name")) row))
