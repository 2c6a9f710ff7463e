-- Edges that are collected at the places of labels are those that enter each block.
use Rattle.std.proofs.Common.{◌≡◌, ◌∙◌, ℕ, zero, suc, ◌+◌, ◌<◌, ◌≤◌, Bool, true, false, ◌||◌, List, [], ◌∷◌, ◌++◌, length, map, get_or, Option, None, Some, refl, sym, ap, subst, append_assoc, arith, if◌then◌else◌, is_some, ltb, IfSome}
use Rattle.std.proofs.lemmas.Bool.{ltb-false, ltb-true}
use Rattle.std.proofs.lemmas.List.{append-nil, get_or-map, get_or_past, get_or-set_other, get_or-set_same, length-set}
use Rattle.std.specs.Borrow.{Bor}
use Rattle.std.specs.List.{AllByRecursion, Contains, filter, list_any}
use Rattle.std.specs.Option.{option_copied}
use Rattle.ir_core.specs.declared.functions.Block.{Block}
use Rattle.ir_types.specs.declared.names.Name.{Name}
use Rattle.ir_core.specs.Functions.{successors_of}
use Rattle.ir_types.specs.NameLaws.{same_name_refl, same_name_true}
use Rattle.ir_types.specs.Same.{same_name}
use Rattle.ir_core.specs.NameIndexes.Among.{is_among, place_among}
use Rattle.ir_core.proofs.NameIndexes.FirstPlaces.{no_place, place_is}
use Rattle.ir_shape.specs.declared.shape_tests.row.Row.{Row}
use Rattle.ir_shape.specs.ShapeTests.Edges.{HasEdges, edge_at, edges_among, edges_from, has_phis, named, names_on, no_rows, row_kept, rows_of, row_at, row_by, with_block, with_blocks, with_edge, with_edge_at, with_edges}
use Rattle.ir_shape.specs.ShapeTests.Kinds.{with_name, with_names}
use Rattle.ir_shape.proofs.ShapeTests.Taken.{all_put}
use Rattle.ir_shape.proofs.ShapeTests.Tests.{all_there, one_there}

edges_cons : (name from l : Name) (ls : List Name) → edges_from name from (l ∷ ls) ≡ edges_from name from (l ∷ []) ++ edges_from name from ls
edges_cons name from l ls = go (same_name name l) refl
  where
    go : (b : Bool) → same_name name l ≡ b → map (λ (_ : Name). from) (if b then (l ∷ filter (same_name name) ls) else filter (same_name name) ls) ≡ map (λ (_ : Name). from) (if b then (l ∷ []) else []) ++ edges_from name from ls
    go true e = refl
    go false e = refl

one_edge : (name from l : Name) → same_name name l ≡ true → edges_from name from (l ∷ []) ≡ from ∷ []
one_edge name from l e = ap (λ b. map (λ (_ : Name). from) (if b then (l ∷ []) else [])) e

no_edge : (name from l : Name) → same_name name l ≡ false → edges_from name from (l ∷ []) ≡ []
no_edge name from l e = ap (λ b. map (λ (_ : Name). from) (if b then (l ∷ []) else [])) e

module _ (labels : List Name) where
  edge_many : (o : Option ℕ) (from : Name) (rows : List (List Name)) → length (edge_at o from rows) ≡ length rows
  edge_many None from rows = refl
  edge_many (Some p) from rows = length-set rows p (get_or rows p [] ++ from ∷ [])

  edges_many : (from : Name) (rows : List (List Name)) (ls : List Name) → length (with_edges labels from rows ls) ≡ length rows
  edges_many from rows [] = refl
  edges_many from rows (l ∷ ls) = edges_many from (with_edge labels from rows l) ls ∙ edge_many (place_among l labels) from rows

  -- another name has another place
  two_places : (n l : Name) (p q : ℕ) → place_among n labels ≡ Some q → place_among l labels ≡ Some p → same_name n l ≡ false → q ≡ p → ⊥
  two_places n l p q at_n at_l differ same =
      let this = place_is n labels q at_n in
      let that = place_is l labels p at_l in
      let here : same_name n (get_or labels q n) ≡ true = ap (same_name n) this.1 ∙ same_name_refl n in
      let there : same_name l (get_or labels p l) ≡ true = ap (same_name l) that.1 ∙ same_name_refl l in
      let one : get_or labels q n ≡ get_or labels p l = default_same labels q n p l this.0 same in
      let both : n ≡ l = sym this.1 ∙ one ∙ that.1 in
      let yes : same_name n l ≡ true = ap (same_name n) (sym both) ∙ same_name_refl n in
      absurd (cc)
    where
      default_same : (xs : List Name) (q : ℕ) (n : Name) (p : ℕ) (l : Name) → q < length xs → q ≡ p → get_or xs q n ≡ get_or xs p l
      default_same [] q n p l within same = absurd (omega arith)
      default_same (x ∷ xs) zero n zero l within same = refl
      default_same (x ∷ xs) zero n (suc p) l within same = absurd (omega (arith, same))
      default_same (x ∷ xs) (suc q) n zero l within same = absurd (omega (arith, same))
      default_same (x ∷ xs) (suc q) n (suc p) l within same = default_same xs q n p l (omega arith) (omega (arith, same))

  same_row : (n l : Name) → same_name n l ≡ true → place_among n labels ≡ place_among l labels
  same_row n l e = ap (λ x. place_among x labels) (same_name_true n l e)

  edge_row : (from l n : Name) (rows : List (List Name)) → length labels ≤ length rows → Contains labels n
      → row_at labels (with_edge labels from rows l) n ≡ row_at labels rows n ++ edges_from n from (l ∷ [])
  edge_row from l n rows many there = at_n (place_among n labels) refl (place_among l labels) refl
    where
      at_n : (o : Option ℕ) → place_among n labels ≡ o → (p : Option ℕ) → place_among l labels ≡ p
          → row_by o (edge_at p from rows) ≡ row_by o rows ++ edges_from n from (l ∷ [])
      at_n None none p at_l = absurd (no_place n labels none there)
      at_n (Some q) at None none = by (same_name n l) refl
        where
          by : (b : Bool) → same_name n l ≡ b → get_or rows q [] ≡ get_or rows q [] ++ edges_from n from (l ∷ [])
          by true e = let both : Some q ≡ None = sym at ∙ same_row n l e ∙ none in absurd (cc)
          by false e = sym (ap (λ es. get_or rows q [] ++ es) (no_edge n from l e) ∙ append-nil (get_or rows q []))
      at_n (Some q) at (Some p) at_l = by (same_name n l) refl
        where
          inside : p < length rows
          inside = omega (arith, (place_is l labels p at_l).0, many)

          by : (b : Bool) → same_name n l ≡ b → get_or (with_edge_at rows p from) q [] ≡ get_or rows q [] ++ edges_from n from (l ∷ [])
          by true e =
              let both : Some q ≡ Some p = sym at ∙ same_row n l e ∙ at_l in
              let one : q ≡ p = cc in
              ap (λ k. get_or (with_edge_at rows p from) k []) one ∙ get_or-set_same rows p (get_or rows p [] ++ from ∷ []) [] inside
              ∙ ap (λ k. get_or rows k [] ++ from ∷ []) (sym one) ∙ ap (λ es. get_or rows q [] ++ es) (sym (one_edge n from l e))
          by false e =
              get_or-set_other rows p q (get_or rows p [] ++ from ∷ []) [] (two_places n l p q at at_l e)
              ∙ sym (ap (λ es. get_or rows q [] ++ es) (no_edge n from l e) ∙ append-nil (get_or rows q []))

  edges_row : (from n : Name) (rows : List (List Name)) (ls : List Name) → length labels ≤ length rows → Contains labels n
      → row_at labels (with_edges labels from rows ls) n ≡ row_at labels rows n ++ edges_from n from ls
  edges_row from n rows [] many there = sym (append-nil (row_at labels rows n))
  edges_row from n rows (l ∷ ls) many there =
      edges_row from n (with_edge labels from rows l) ls (omega (arith, many, edge_many (place_among l labels) from rows)) there
      ∙ ap (λ es. es ++ edges_from n from ls) (edge_row from l n rows many there)
      ∙ append_assoc (row_at labels rows n) (edges_from n from (l ∷ [])) (edges_from n from ls)
      ∙ ap (λ es. row_at labels rows n ++ es) (sym (edges_cons n from l ls))

  pub blocks_row : (n : Name) (rows : List (List Name)) (bs : List Block) → length labels ≤ length rows → Contains labels n
      → row_at labels (with_blocks labels rows bs) n ≡ row_at labels rows n ++ edges_among n bs
  blocks_row n rows [] many there = sym (append-nil (row_at labels rows n))
  blocks_row n rows (b ∷ bs) many there =
      blocks_row n (with_block labels rows b) bs (omega (arith, many, edges_many b.name rows (successors_of b.term))) there
      ∙ ap (λ es. es ++ edges_among n bs) (edges_row b.name n rows (successors_of b.term) many there)
      ∙ append_assoc (row_at labels rows n) (edges_from n b.name (successors_of b.term)) (edges_among n bs)

empty_row : (bs : List Block) (k : ℕ) → get_or (no_rows bs) k [] ≡ []
empty_row [] k = refl
empty_row (b ∷ bs) zero = refl
empty_row (b ∷ bs) (suc k) = empty_row bs k

no_row : (bs : List Block) (o : Option ℕ) → row_by o (no_rows bs) ≡ []
no_row bs None = refl
no_row bs (Some k) = empty_row bs k

-- ---- the labels of blocks

one_longer : (ys : List Name) (y : Name) → length (ys ++ y ∷ []) ≡ length ys + 1
one_longer [] y = refl
one_longer (z ∷ ys) y = let more = one_longer ys y in omega (arith, more)

one_at_most : (taken : List Name) (x : Name) → length (with_name taken x) ≤ length taken + 1
one_at_most taken x = by (is_among x taken)
  where
    by : (b : Bool) → length (if b then taken else (taken ++ x ∷ [])) ≤ length taken + 1
    by true = omega arith
    by false = omega (arith, one_longer taken x)

at_most : (taken xs : List Name) → length (with_names taken xs) ≤ length taken + length xs
at_most taken [] = omega arith
at_most taken (x ∷ xs) =
    let more = at_most (with_name taken x) xs in
    let one = one_at_most taken x in
    omega (arith, more, one)

label_there : (bs : List Block) (b : Block) → Contains bs b → Contains (with_names [] (map (λ (c : Block). c.name) bs)) b.name
label_there bs b there =
    one_there (Contains (with_names [] (map (λ (c : Block). c.name) bs))) (map (λ (c : Block). c.name) bs) b.name (all_put (map (λ (c : Block). c.name) bs) [])
    (there.0, omega (arith, there.1, many bs), at bs there.0 there.1 ∙ ap (λ (c : Block). c.name) there.2)
  where
    many : (bs : List Block) → length (map (λ (c : Block). c.name) bs) ≡ length bs
    many [] = refl
    many (c ∷ bs) = ap suc (many bs)

    at : (bs : List Block) (k : ℕ) → k < length bs → get_or (map (λ (c : Block). c.name) bs) k b.name ≡ (get_or bs k b).name
    at bs k within = get_or-map (λ (c : Block). c.name) bs k b b.name within

-- each block's edges are collected
pub all_have_edges : (labels : List Name) (rows : List (List Name)) (bs : List Block) → labels ≡ with_names [] (map (λ (b : Block). b.name) bs)
    → rows ≡ with_blocks labels (no_rows bs) bs → AllByRecursion (HasEdges labels rows bs) bs
all_have_edges labels rows bs are is =
    all_there (HasEdges labels rows bs) bs
    (λ b there _.
    ap (λ rs. row_at labels rs b.name) is
    ∙ blocks_row labels b.name (no_rows bs) bs (omega (arith, at_most [] (map (λ (b : Block). b.name) bs), ap length are, length-map (λ (b : Block). b.name) bs, many_rows bs))
    (subst (λ ls. Contains ls b.name) (sym are) (label_there bs b there))
    ∙ ap (λ es. es ++ edges_among b.name bs) (no_row bs (place_among b.name labels)))
  where
    many_rows : (xs : List Block) → length (no_rows xs) ≡ length xs
    many_rows [] = refl
    many_rows (x ∷ xs) = ap suc (many_rows xs)

    length-map : {A : Type 0} (f : Block → A) (xs : List Block) → length (map f xs) ≡ length xs
    length-map f [] = refl
    length-map f (x ∷ xs) = ap suc (length-map f xs)

-- where no block has phis, none is needed
pub none_need_edges : (labels : List Name) (rows : List (List Name)) (bs : List Block) → list_any has_phis bs ≡ false → AllByRecursion (HasEdges labels rows bs) bs
none_need_edges labels rows bs none = go bs bs none
  where
    left_false : (a b : Bool) → (a || b) ≡ false → a ≡ false
    left_false true b e = cc
    left_false false b e = refl

    right_false : (a b : Bool) → (a || b) ≡ false → b ≡ false
    right_false true b e = cc
    right_false false b e = e

    go : (all : List Block) (cs : List Block) → list_any has_phis cs ≡ false → AllByRecursion (HasEdges labels rows all) cs
    go all [] none = tt
    go all (c ∷ cs) none = (
      λ some. let not_some = left_false (has_phis c) (list_any has_phis cs) none in absurd (cc),
      go all cs (right_false (has_phis c) (list_any has_phis cs) none),
    )

-- ---- rows of names that are lent

pub named_more : (xs : List (Bor Name)) (x : Bor Name) → named (xs ++ x ∷ []) ≡ named xs ++ x.now ∷ []
named_more [] x = refl
named_more (y ∷ xs) x = ap (λ (names : List Name). y.now ∷ names) (named_more xs x)

pub row_there : (rows : List Row) (p : ℕ) (o : Option (Bor Row)) → is_some o ≡ ltb p (length rows)
    → IfSome o (λ r. r.now ≡ get_or rows p r.now) → row_kept (option_copied o) ≡ get_or (rows_of rows) p []
row_there rows p None some is = sym (get_or_past (rows_of rows) p [] (omega (arith, ltb-false p (length rows) (sym some), rows_many rows)))
  where
    rows_many : (rows : List Row) → length (rows_of rows) ≡ length rows
    rows_many [] = refl
    rows_many (r ∷ rows) = ap suc (rows_many rows)
row_there rows p (Some r) some is = ap names_on is ∙ sym (get_or-map names_on rows p r.now [] (ltb-true p (length rows) (sym some)))
