-- The parts that forms are made of. A form gives a value's meaning, or what is first at fault in it: a value before what it holds,
-- items in order, members in the order in which the form names them, which is to be that of their bytes.
use Rattle.std.specs.Prelude.{ℕ, ◌&&◌, ◌||◌, Bool, true, false, List, [], ◌∷◌, ◌++◌, length, Option, Some, None, is_some, option_and_then, Result, Ok, Err}
use Rattle.std.specs.Borrow.{Bor}
use Rattle.std.specs.List.{list_all, list_any}
use Rattle.std.specs.Option.{option_map_or}
use Rattle.std.specs.Str.{bytes_eq}
use Rattle.serde_json.specs.Data.{Data, Items, no_items, item, Members, no_members, member}
use Rattle.serde_json.specs.Find.{get, at, as_str, as_number, as_u64, as_array, as_object}
use Rattle.json_forms.specs.declared.failure.Fault.{Fault}
use Rattle.json_forms.specs.Faults.{here, key_step, index_step, within}

-- what a value means, or what is first at fault: under a form of numbers `7` gives `Ok 7`, and `"7"` gives `Err here`
abbrev pub Reading : Type 0 → Type 0
Reading A = Result A Fault

-- the reading that goes on with what was read; a fault stops it
abbrev pub read_then : {A B : Type 0} → Reading A → (A → Reading B) → Reading B
read_then (Ok a) next = next a
read_then (Err fault) next = Err fault

-- the reading of what lies there, seen from outside: a fault at `/0` under `/from` is one at `/from/0`
abbrev pub under : {A : Type 0} → List ℕ → Reading A → Reading A
under step (Ok a) = Ok a
under step (Err fault) = Err (within step fault)

-- what is there is read; where nothing is, the value itself is at fault
abbrev pub or_unfit : {X A : Type 0} → (X → Reading A) → Option X → Reading A
or_unfit read None = Err here
or_unfit read (Some x) = read x

-- ---- objects

-- the texts that the references point to
abbrev pub texts : List (Bor (List ℕ)) → List (List ℕ)
texts [] = []
texts (k ∷ ks) = k.now ∷ texts ks

abbrev pub is_one_of : List (List ℕ) → List ℕ → Bool
is_one_of keys key = list_any (λ k. bytes_eq k key) keys

abbrev pub all_keys : (List ℕ → Bool) → Members → Bool
all_keys test no_members = true
all_keys test (member key d ms) = test key && all_keys test ms

abbrev pub only_keys : (List ℕ → Bool) → Data → Bool
only_keys test d = option_map_or (λ ms. all_keys test ms) (as_object d) false

-- An object with each needed member, and no others than these and the optional ones. With `at` needed and `lines` optional,
-- `{"at":1}` and `{"at":1,"lines":2}` are such; `{"lines":2}`, `{"at":1,"x":2}` and `[]` aren't.
abbrev pub has_members : List (List ℕ) → List (List ℕ) → Data → Bool
has_members needed others d = list_all (λ key. is_some (get key d)) needed
    && only_keys (λ key. is_one_of needed key || is_one_of others key) d

-- The member of that key, in whose place a fault lies: with the form of numbers for `at`, `{"at":"7"}` is at fault at `/at`.
abbrev pub member_of : {A : Type 0} → List ℕ → (Data → Reading A) → Data → Reading A
member_of key form d = or_unfit (λ found. under (key_step key) (form found)) (get key d)

-- the same, of a member that need not be there
abbrev pub optional_of : {A : Type 0} → List ℕ → (Data → Reading A) → Data → Reading (Option A)
optional_of key form d = option_map_or (λ found. read_then (under (key_step key) (form found)) (λ a. Ok (Some a))) (get key d) (Ok None)

-- ---- arrays

abbrev pub items_list : Items → List Data
items_list no_items = []
items_list (item d ds) = d ∷ items_list ds

-- how many items an array has: `[7,8]` has 2, and what is no array has none
abbrev pub count_of : Data → ℕ
count_of d = option_map_or (λ ds. length (items_list ds)) (as_array d) 0

-- the item at an index: with the form of numbers for item 1, `[7,"8"]` is at fault at `/1`
abbrev pub item_of : {A : Type 0} → ℕ → (Data → Reading A) → Data → Reading A
item_of i form d = or_unfit (λ found. under (index_step i) (form found)) (at i d)

-- What is read already, with the items that follow. A form of an item may look at the items before it, as one by which no item
-- may stand twice: by it `[7,8,7]` is at fault at `/2`.
abbrev pub items_of : {A : Type 0} → (List A → Data → Reading A) → List A → Items → Reading (List A)
items_of form before no_items = Ok before
items_of form before (item d ds) = read_then (under (index_step (length before)) (form before d)) (λ a. items_of form (before ++ a ∷ []) ds)

-- an array of items of a form that looks at those before
abbrev pub rows_of : {A : Type 0} → (List A → Data → Reading A) → Data → Reading (List A)
rows_of form d = or_unfit (λ ds. items_of form [] ds) (as_array d)

-- an array of items of that form: `[7,"8",null]`, of numbers, is at fault at `/1`
abbrev pub list_of : {A : Type 0} → (Data → Reading A) → Data → Reading (List A)
list_of form d = rows_of (λ before. form) d

-- the list in a member that need not be there, or the list without items
abbrev pub optional_list_of : {A : Type 0} → List ℕ → (Data → Reading A) → Data → Reading (List A)
optional_list_of key form d = option_map_or (λ found. under (key_step key) (list_of form found)) (get key d) (Ok [])

-- ---- objects whose keys are names: a key at fault is the object's own fault, before all that it holds

-- each key has its form
abbrev pub keys_of : (List ℕ → Reading (Unit {0})) → Members → Reading (Unit {0})
keys_of key_form no_members = Ok tt
keys_of key_form (member key d ms) = read_then (key_form key) (λ _. keys_of key_form ms)

-- what is read already, with the members that follow
abbrev pub entries_of : {A : Type 0} → (List ℕ → Data → Reading A) → List A → Members → Reading (List A)
entries_of form before no_members = Ok before
entries_of form before (member key d ms) = read_then (under (key_step key) (form key d)) (λ a. entries_of form (before ++ a ∷ []) ms)

-- An object of such members. With keys that begin with `@` and numbers as values `{"@f":7}` is such; `{"@f":"7","x":8}` is itself
-- at fault, for its key `x`, and `{"@f":"7"}` is at fault at `/@f`.
abbrev pub map_of : {A : Type 0} → (List ℕ → Reading (Unit {0})) → (List ℕ → Data → Reading A) → Data → Reading (List A)
map_of key_form form d = or_unfit (λ ms. read_then (keys_of key_form ms) (λ _. entries_of form [] ms)) (as_object d)

-- ---- leaves

-- a text of that form
abbrev pub text_of : {A : Type 0} → (List ℕ → Reading A) → Data → Reading A
text_of form d = or_unfit form (as_str d)

-- an integer of 64 bits without sign: `7` and no `-7`, `7.0` or `"7"`
abbrev pub u64_of : Data → Reading ℕ
u64_of d = or_unfit (λ n. Ok n) (option_and_then as_u64 (as_number d))
