-- Words of private functions: edges as they are collected, and what is compared of entries.
use Rattle.std.specs.Prelude.{◌≡◌, ℕ, ◌++◌, ◌||◌, Bool, not, true, List, [], ◌∷◌, length, map, nat_eq, nat_lt, slice_index_or, slice_set, Option, None, Some}
use Rattle.std.specs.List.{filter, flat_map}
use Rattle.ir_core.specs.declared.functions.Block.{Block}
use Rattle.ir_core.specs.declared.functions.Entry.{Entry}
use Rattle.ir_types.specs.declared.names.Name.{Name}
use Rattle.ir_core.specs.Functions.{successors_of}
use Rattle.ir_types.specs.Same.{same_name}
use Rattle.ir_core.specs.Same.{same_atom}
use Rattle.ir_core.specs.NameIndexes.Among.{place_among}
use Rattle.ir_shape.specs.declared.shape_tests.row.Row.{Row}
use Rattle.ir_shape.specs.declared.shape_tests.row.Row.TheVariants as row
use Rattle.ir_shape.specs.ShapeTests.Kinds.{count_of}
pub use Rattle.ir_typing.specs.ShapeKinds.Names.{named}

-- one for each of the labels that is that name
abbrev pub edges_from : Name → Name → List Name → List Name
edges_from name from labels = map (λ _. from) (filter (same_name name) labels)

abbrev pub edges_among : Name → List Block → List Name
edges_among name = flat_map (λ (b : Block). edges_from name b.name (successors_of b.term))

-- ---- as they are collected: at the place of each label the blocks from which an edge leads to it

abbrev pub names_on : Row → List Name
names_on row.Empty = []
names_on (row.One single) = named single.names
names_on (row.Two pair) = named pair.names
names_on (row.More names) = named names.items

abbrev pub rows_of : List Row → List (List Name)
rows_of = map names_on

-- a row without names for each block
abbrev pub no_rows : List Block → List (List Name)
no_rows = map (λ _. [])

abbrev pub with_edge_at : List (List Name) → ℕ → Name → List (List Name)
with_edge_at rows place from = slice_set rows place (slice_index_or rows place [] ++ from ∷ [])

abbrev pub edge_at : Option ℕ → Name → List (List Name) → List (List Name)
edge_at None from rows = rows
edge_at (Some place) from rows = with_edge_at rows place from

abbrev pub with_edge : List Name → Name → List (List Name) → Name → List (List Name)
with_edge labels from rows label = edge_at (place_among label labels) from rows

abbrev pub with_edges : List Name → Name → List (List Name) → List Name → List (List Name)
with_edges labels from rows [] = rows
with_edges labels from rows (l ∷ ls) = with_edges labels from (with_edge labels from rows l) ls

abbrev pub with_block : List Name → List (List Name) → Block → List (List Name)
with_block labels rows b = with_edges labels b.name rows (successors_of b.term)

abbrev pub with_blocks : List Name → List (List Name) → List Block → List (List Name)
with_blocks labels rows [] = rows
with_blocks labels rows (b ∷ bs) = with_blocks labels (with_block labels rows b) bs

abbrev pub row_by : Option ℕ → List (List Name) → List Name
row_by None rows = []
row_by (Some place) rows = slice_index_or rows place []

abbrev pub row_at : List Name → List (List Name) → Name → List Name
row_at labels rows name = row_by (place_among name labels) rows

abbrev pub row_kept : Option Row → List Name
row_kept None = []
row_kept (Some r) = names_on r

abbrev pub has_phis : Block → Bool
has_phis b = nat_lt 0 (length b.phis)

-- where a block has phis, the edges that enter it are collected
abbrev pub HasEdges : List Name → List (List Name) → List Block → Block → Type 0
HasEdges labels rows blocks b = has_phis b ≡ true → row_at labels rows b.name ≡ edges_among b.name blocks

abbrev pub agrees : List Name → List Name → Name → Bool
agrees names others name = nat_eq (count_of name names) (count_of name others)

abbrev pub alike_with : Entry → Entry → Bool
alike_with d e = not (same_name d.from e.from) || same_atom same_name d.value e.value
