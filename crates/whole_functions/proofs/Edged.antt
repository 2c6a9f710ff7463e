-- The edges of blocks of different names.
use Rattle.std.proofs.Common.{◌≡◌, ◌∙◌, ⊎_elim, ℕ, suc, zero, ◌+◌, ◌<◌, ◌≤◌, nat_lt, true, List, [], ◌∷◌, ◌++◌, length, map, drop, get_or, Option, None, Some, refl, sym, ap, subst, append_assoc, arith}
use Rattle.std.proofs.lemmas.List.{append-nil, drop_all, drop_more, get_or-map}
use Rattle.std.proofs.lemmas.List.Elements.{Contains-append_left, Contains-push, Contains-push_cases}
use Rattle.std.specs.List.{AllByRecursion, Contains, cons_option, flat_map}
use Rattle.ir_core.specs.declared.functions.Block.{Block}
use Rattle.ir_core.specs.declared.functions.Case.{Case}
use Rattle.ir_core.specs.declared.functions.Function.{Function}
use Rattle.ir_core.specs.declared.functions.Phi.{Phi}
use Rattle.ir_types.specs.declared.names.Name.{Name}
use Rattle.ir_core.specs.Functions.{block_names, names_in, names_of, params_of, registers_of}
use Rattle.ir_core.specs.Order.{AreNew}
use Rattle.ir_core.specs.NameIndexes.Among.{place_among}
use Rattle.flow_solver.specs.Ways.{LeadsWithin}
use Rattle.definedness.specs.Graph.{graph_in, labels_in, places_in}
use Rattle.definedness.specs.Settled.{IsNamed}
use Rattle.definedness.proofs.Graphs.{graph_within}
use Rattle.definedness.proofs.Names.{place_at}
use Rattle.ir_shape.specs.ShapeTests.Edges.{HasEdges, edge_at, no_rows, row_at, row_by, with_blocks, with_edge, with_edge_at}
use Rattle.ir_shape.proofs.ShapeTests.Rows.{none_need_edges}
use Rattle.ir_shape.proofs.ShapeTests.Tests.{all_there}
use Rattle.whole_shapes.specs.Whole.{bare_rows}
use Rattle.whole_shapes.proofs.Sighted.{edges_kept}
use Rattle.whole_functions.specs.Fine.{AreStartRows, IsBlockAt}

many : (bs : List Block) → length (labels_in bs) ≡ length bs
many [] = refl
many (b ∷ bs) = ap suc (many bs)

-- ---- a label is the name of a block

label_at : (bs : List Block) (to : ℕ) (name : Name) → IsNamed bs to name → (to < length (labels_in bs)) × (get_or (labels_in bs) to name ≡ name)
label_at [] to name named = absurd (cc)
label_at (b ∷ bs) zero name named = let e : Some b.name ≡ Some name = named in (omega arith, cc)
label_at (b ∷ bs) (suc to) name named = let more = label_at bs to name named in (omega (arith, more.0), more.1)

module _ (bs : List Block) (to : ℕ) (label : Name) (named : IsNamed bs to label) where
  pub label_known : Contains (labels_in bs) label
  label_known = (to, (label_at bs to label named).0, (label_at bs to label named).1)

  placed : AreNew [] (labels_in bs) → place_among label (labels_in bs) ≡ Some to
  placed new = place_at (labels_in bs) new label to (label_at bs to label named).0 (label_at bs to label named).1

  pub label_edge : AreNew [] (labels_in bs) → (from : Name) (rows : List (List Name)) → with_edge_at rows to from ≡ with_edge (labels_in bs) from rows label
  label_edge new from rows = ap (λ o. edge_at o from rows) (sym (placed new))

  pub label_place : AreNew [] (labels_in bs) → to ∷ [] ≡ places_in (labels_in bs) (label ∷ [])
  label_place new = ap (λ o. cons_option o []) (sym (placed new))

-- ---- places

split : (labels : List Name) (l : Name) (ls : List Name) → places_in labels (l ∷ ls) ≡ places_in labels (l ∷ []) ++ places_in labels ls
split labels l ls = go (place_among l labels)
  where
    go : (o : Option ℕ) → cons_option o (places_in labels ls) ≡ cons_option o [] ++ places_in labels ls
    go None = refl
    go (Some n) = refl

pub places_joined : (labels : List Name) (l : Name) (ls : List Name) (old mid new : List ℕ) → mid ≡ old ++ places_in labels (l ∷ []) → new ≡ mid ++ places_in labels ls
    → new ≡ old ++ places_in labels (l ∷ ls)
places_joined labels l ls old mid new first more =
    more ∙ ap (λ (ns : List ℕ). ns ++ places_in labels ls) first ∙ append_assoc old (places_in labels (l ∷ [])) (places_in labels ls)
    ∙ ap (λ (ns : List ℕ). old ++ ns) (sym (split labels l ls))

pub places_more : (labels : List Name) (cs : List Case) (k : ℕ) (c : Case) (old new : List ℕ) → k < length cs → c ≡ get_or cs k c → new ≡ old ++ places_in labels (c.label ∷ [])
    → new ++ places_in labels (map (λ (d : Case). d.label) (drop (k + 1) cs)) ≡ old ++ places_in labels (map (λ (d : Case). d.label) (drop k cs))
places_more labels cs k c old new within is grown =
    places_joined labels c.label (map (λ (d : Case). d.label) (drop (k + 1) cs)) old new _ grown refl
    ∙ ap (λ (ds : List Case). old ++ places_in labels (map (λ (d : Case). d.label) ds)) (sym (drop_more cs k c within ∙ ap (λ (d : Case). d ∷ drop (k + 1) cs) (sym is)))

-- rows of places up to the end are the graph
pub whole_within : (rows : List (List ℕ)) (bs : List Block) (k : ℕ) → length bs ≤ k → rows ++ graph_in (labels_in bs) (drop k bs) ≡ graph_in (labels_in bs) bs → LeadsWithin rows
whole_within rows bs k past is =
    subst LeadsWithin (sym (sym (append-nil rows) ∙ sym (ap (λ (ds : List Block). rows ++ graph_in (labels_in bs) ds) (drop_all k bs past)) ∙ is)) (graph_within bs)

-- ---- rows

bare : (bs : List Block) → bare_rows (labels_in bs) ≡ no_rows bs
bare [] = refl
bare (b ∷ bs) = ap (λ (rows : List (List Name)). [] ∷ rows) (bare bs)

all_labels : (bs : List Block) → AllByRecursion (λ (b : Block). Contains (labels_in bs) b.name) bs
all_labels bs =
    all_there (λ (b : Block). Contains (labels_in bs) b.name) bs
    (λ b there. (there.0, omega (arith, there.1, many bs), get_or-map (λ (c : Block). c.name) bs there.0 b b.name there.1 ∙ ap (λ (c : Block). c.name) there.2))

pub rows_kept : (bs : List Block) (start rows : List (List Name)) → AreStartRows bs start → rows ≡ with_blocks (labels_in bs) start bs
    → AllByRecursion (HasEdges (labels_in bs) rows bs) bs
rows_kept bs start rows begun is =
    ⊎_elim (λ none. edges_kept (labels_in bs) rows bs (all_labels bs) (is ∙ ap (λ (rs : List (List Name)). with_blocks (labels_in bs) rs bs) (none ∙ sym (bare bs))))
    (λ never. none_need_edges (labels_in bs) rows bs never) begun

pub has_some : (ps : List Phi) → (ps ≡ [] → ⊥) → nat_lt 0 (length ps) ≡ true
has_some [] some = absurd (some refl)
has_some (p ∷ ps) some = grind arith

-- the edges of a block are kept at its place
pub row_there : (bs : List Block) (k : ℕ) (b : Block) (rows : List (List Name)) → AreNew [] (labels_in bs) → IsBlockAt bs k b → row_at (labels_in bs) rows b.name ≡ get_or rows k []
row_there bs k b rows new there =
    ap (λ o. row_by o rows)
    (place_at (labels_in bs) new b.name k (omega (arith, there.0, many bs)) (get_or-map (λ (c : Block). c.name) bs k b b.name there.0 ∙ ap (λ (c : Block). c.name) (sym there.1)))

-- ---- where all names of a function differ, those of its blocks do

-- these are among the others
abbrev Among : List Name → List Name → Type 0
Among names others = (n : Name) → Contains names n → Contains others n

one_more_among : (names others : List Name) (x : Name) → Among names others → Among (names ++ x ∷ []) (others ++ x ∷ [])
one_more_among names others x among n there =
    ⊎_elim (λ old. Contains-append_left others (x ∷ []) n (among n old)) (λ new. subst (Contains (others ++ x ∷ [])) new (Contains-push others x))
    (Contains-push_cases names x n there)

new_behind : (xs ys taken : List Name) → AreNew taken (xs ++ ys) → AreNew (taken ++ xs) ys
new_behind [] ys taken new = subst (λ ts. AreNew ts ys) (sym (append-nil taken)) new
new_behind (x ∷ xs) ys taken new = subst (λ ts. AreNew ts ys) (append_assoc taken (x ∷ []) xs) (new_behind xs ys (taken ++ x ∷ []) new.1)

new_labels : (bs : List Block) (taken fewer : List Name) → Among fewer taken → AreNew taken (flat_map block_names bs) → AreNew fewer (labels_in bs)
new_labels [] taken fewer among new = tt
new_labels (b ∷ bs) taken fewer among new = (
  λ there. new.0 (among b.name there),
  new_labels bs ((taken ++ b.name ∷ []) ++ names_in (registers_of b)) (fewer ++ b.name ∷ [])
      (λ n there. Contains-append_left (taken ++ b.name ∷ []) (names_in (registers_of b)) n (one_more_among fewer taken b.name among n there))
      (new_behind (names_in (registers_of b)) (flat_map block_names bs) (taken ++ b.name ∷ []) new.1),
)

pub labels_differ : (f : Function) → AreNew [] (names_of f) → AreNew [] (labels_in f.blocks)
labels_differ f new =
    new_labels f.blocks ([] ++ names_in (params_of f)) [] (λ n there. Contains-append_left [] (names_in (params_of f)) n there)
    (new_behind (names_in (params_of f)) (flat_map block_names f.blocks) [] new)
