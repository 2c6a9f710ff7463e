-- Blocks that are marked exactly where a path reaches them: from a marked block every label leads to a marked one. No name need be unique.
use Rattle.std.proofs.Common.{◌≡◌, ◌⊎◌, inl, inr, Bool, true, false, ℕ, zero, suc, ◌+◌, List, [], ◌∷◌, ◌++◌, map, length, Option, None, Some, refl, sym, ap, ◌∙◌, subst, arith, ⊎_elim}
use Rattle.std.specs.Prelude.{slice_index_or}
use Rattle.std.specs.List.{AllByRecursion, Contains, cons_option, position_from, range_with_len}
use Rattle.std.proofs.lemmas.Bool.{cases_Bool, cond-true, cond-false, false≢true, false_from_ne_true}
use Rattle.std.proofs.lemmas.List.Elements.{Contains-append_right}
use Rattle.std.proofs.lemmas.Iterator.Adapters.{position_from-zero}
use Rattle.ir_types.specs.declared.names.Name.{Name}
use Rattle.ir_core.specs.declared.functions.Block.{Block}
use Rattle.ir_core.specs.Functions.{successors_of}
use Rattle.ir_types.specs.Same.{same_name}
use Rattle.ir_types.specs.NameLaws.{same_name_true, same_name_refl}
use Rattle.ir_core.specs.NameIndexes.Among.{place_among}
use Rattle.flow_solver.specs.Ways.{led_to, IsPath, last_of}
use Rattle.flow_solver.specs.Near.{is_reached}
use Rattle.flow_solver.proofs.Near.{tested}
use Rattle.definedness.specs.Graph.{labels_in, places_in, graph_in}
use Rattle.erhl_assert.specs.Alignment.{AlignedBlock}
use Rattle.erhl_assert.specs.Course.{IsGood}
use Rattle.erhl_assert.specs.Steps.{Beside}
use Rattle.erhl_assert.specs.Acceptance.{block_judged, blocks_judged}
use Rattle.erhl_assert.proofs.Courses.{both_good}
use Rattle.erhl_soundness.proofs.Relation.{Marked, mark_of, LeadsOn}

-- ---- one edge more

path_on : (g : List (List ℕ)) (n m : ℕ) (path : List ℕ) → IsPath g n path → Contains (led_to g (last_of n path)) m
    → IsPath g n (path ++ m ∷ []) × (last_of n (path ++ m ∷ []) ≡ m)
path_on g n m [] is edge = ((edge, tt), refl)
path_on g n m (k ∷ path) is edge = let more = path_on g k m path is.1 edge in ((is.0, more.0), more.1)

reached_on : (g : List (List ℕ)) (m n : ℕ) → is_reached g m ≡ true → Contains (led_to g m) n → is_reached g n ≡ true
reached_on g m n there edge =
    let at = (tested g m).0 there in
    let on = path_on g 0 n at.0 at.1 (subst (λ i. Contains (led_to g i) n) (sym at.2) edge) in
    (tested g n).1 (at.0 ++ n ∷ [], on.0, on.1)

pub first_reached : (g : List (List ℕ)) → is_reached g 0 ≡ true
first_reached g = (tested g 0).1 ([], tt, refl)

-- ---- the places of names

same_name_turned : (x y : Name) → same_name x y ≡ true → same_name y x ≡ true
same_name_turned x y h = subst (λ z. same_name z x ≡ true) (same_name_true x y h) (same_name_refl x)

other_turned : (x y : Name) → same_name x y ≡ false → same_name y x ≡ false
other_turned x y h = false_from_ne_true (same_name y x) (λ e. false≢true (sym h ∙ same_name_turned y x e))

place_is_first : (x : Name) (labels : List Name) → place_among x labels ≡ position_from (same_name x) 0 labels
place_is_first x labels = position_from-zero (same_name x) labels

-- where the graph leads: to the place of each label
abbrev AllPlaced : List Name → List Name → List ℕ → Type 0
AllPlaced labels names row = AllByRecursion (λ to. (j : ℕ) → place_among to labels ≡ Some j → Contains row j) names

contains_option : (o : Option ℕ) (xs : List ℕ) (j : ℕ) → Contains xs j → Contains (cons_option o xs) j
contains_option None xs j h = h
contains_option (Some y) xs j h = Contains-append_right (y ∷ []) xs j h

more_placed : (labels names : List Name) (o : Option ℕ) (row : List ℕ) → AllPlaced labels names row → AllPlaced labels names (cons_option o row)
more_placed labels [] o row h = tt
more_placed labels (x ∷ names) o row h = (λ j e. contains_option o row j (h.0 j e), more_placed labels names o row h.1)

all_placed : (labels names : List Name) → AllPlaced labels names (places_in labels names)
all_placed labels [] = tt
all_placed labels (x ∷ names) = (
  λ j e. subst (λ o. Contains (cons_option o (places_in labels names)) j) (sym e) (0, omega arith, refl),
  more_placed labels names (place_among x labels) (places_in labels names) (all_placed labels names),
)

-- ---- marks

module _ (g : List (List ℕ)) where
  -- the blocks from place i on, each with whether a path reaches it
  abbrev pub marked : ℕ → List AlignedBlock → List Marked
  marked i [] = []
  marked i (b ∷ bs) = (is_reached g i, b) ∷ marked (i + 1) bs

  pub marked_blocks : {A : Type 0} (f : AlignedBlock → A) (i : ℕ) (bs : List AlignedBlock) → map (λ (z : Marked). f z.1) (marked i bs) ≡ map f bs
  marked_blocks f i [] = refl
  marked_blocks f i (b ∷ bs) = ap (λ rest. f b ∷ rest) (marked_blocks f (i + 1) bs)

  pub all_marked : (P : AlignedBlock → Type 0) (i : ℕ) (bs : List AlignedBlock) → AllByRecursion P bs → AllByRecursion (λ (z : Marked). P z.1) (marked i bs)
  all_marked P i [] h = tt
  all_marked P i (b ∷ bs) h = (h.0, all_marked P (i + 1) bs h.1)

  -- the blocks that are marked are judged good
  module _ (w : Beside) where
    abbrev GoodWhereMarked : List Marked → Type 0
    GoodWhereMarked zs = AllByRecursion (λ (z : Marked). z.0 ≡ true → IsGood (block_judged w z.1)) zs

    one_more : (m : Bool) (n : Bool) (marks : List Bool) (b : AlignedBlock) (bs : List AlignedBlock) (zs : List Marked) → n ≡ m
        → (IsGood (blocks_judged w marks bs) → GoodWhereMarked zs) → IsGood (blocks_judged w (m ∷ marks) (b ∷ bs)) → GoodWhereMarked ((n, b) ∷ zs)
    one_more true n marks b bs zs is rest good =
        let both = both_good (block_judged w b) (blocks_judged w marks bs) good in (λ h. both.0, rest both.1)
    one_more false n marks b bs zs is rest good = (λ h. absurd (false≢true (sym is ∙ h)), rest good)

    pub marked_good : (i n : ℕ) (bs : List AlignedBlock) → n ≡ length bs → IsGood (blocks_judged w (map (is_reached g) (range_with_len i n)) bs) → GoodWhereMarked (marked i bs)
    marked_good i n [] long good = tt
    marked_good i zero (b ∷ bs) long good = absurd (omega (arith, long))
    marked_good i (suc n) (b ∷ bs) long good =
        one_more (is_reached g i) (is_reached g i) (map (is_reached g) (range_with_len (i + 1) n)) b bs (marked (i + 1) bs) refl
        (marked_good (i + 1) n bs (omega (arith, long))) good

  -- the mark of a name is that of the block at its place
  abbrev sources : List AlignedBlock → List Block
  sources bs = map (λ (b : AlignedBlock). b.source) bs

  abbrev MarkFound : Name → ℕ → List AlignedBlock → Type 0
  MarkFound to i bs = (mark_of to (marked i bs) ≡ true)
      ⊎ ((j : ℕ) × (position_from (same_name to) i (labels_in (sources bs)) ≡ Some j) × (mark_of to (marked i bs) ≡ is_reached g j))

  mark_found : (to : Name) (i : ℕ) (bs : List AlignedBlock) → MarkFound to i bs
  mark_found to i [] = inl refl
  mark_found to i (b ∷ bs) =
      let later = position_from (same_name to) (i + 1) (labels_in (sources bs)) in
      ⊎_elim
      (λ (e : same_name b.source.name to ≡ true). inr (
        i,
        cond-true (same_name to b.source.name) (Some i) later (same_name_turned b.source.name to e),
        cond-true (same_name b.source.name to) (is_reached g i) (mark_of to (marked (i + 1) bs)) e,
      ))
      (λ (e : same_name b.source.name to ≡ false).
      let mark : mark_of to (marked i (b ∷ bs)) ≡ mark_of to (marked (i + 1) bs) = cond-false (same_name b.source.name to) (is_reached g i) (mark_of to (marked (i + 1) bs)) e in
      ⊎_elim (λ h. inl (mark ∙ h))
      (λ h. inr (h.0, cond-false (same_name to b.source.name) (Some i) later (other_turned b.source.name to e) ∙ h.1, mark ∙ h.2))
      (mark_found to (i + 1) bs))
      (cases_Bool (same_name b.source.name to))

  -- from a marked block one comes to marked ones
  module _ (w : Beside) (bs : List AlignedBlock) where
    abbrev blocks : List Block
    blocks = sources bs

    abbrev labels : List Name
    labels = labels_in blocks

    abbrev row_of : AlignedBlock → List ℕ
    row_of b = places_in labels (successors_of b.source.term)

    abbrev leads_on : Block → Type 0
    leads_on = LeadsOn w (λ to. mark_of to (marked 0 bs))

    labels_marked : (n : ℕ) (names : List Name) → is_reached g n ≡ true → AllPlaced labels names (led_to g n) → AllByRecursion (λ to. mark_of to (marked 0 bs) ≡ true) names
    labels_marked n [] there placed = tt
    labels_marked n (to ∷ names) there placed = (
      ⊎_elim (λ h. h) (λ h. h.2 ∙ reached_on g n h.0 there (placed.0 h.0 (place_is_first to labels ∙ h.1))) (mark_found to 0 bs),
      labels_marked n names there placed.1,
    )

    from_place : (i : ℕ) (rest : List AlignedBlock) → ((k : ℕ) → led_to g (i + k) ≡ slice_index_or (map row_of rest) k [])
        → AllByRecursion (λ (z : Marked). z.0 ≡ true → leads_on z.1.source) (marked i rest)
    from_place i [] rows = tt
    from_place i (b ∷ rest) rows =
        let here : led_to g i ≡ row_of b = subst (λ n. led_to g n ≡ row_of b) (omega arith) (rows 0) in (
          λ there. labels_marked i (successors_of b.source.term) there (subst (AllPlaced labels (successors_of b.source.term)) (sym here) (all_placed labels (successors_of b.source.term))),
          from_place (i + 1) rest (λ k. subst (λ n. led_to g n ≡ slice_index_or (map row_of rest) k []) (omega arith) (rows (suc k))),
        )

    rows_mapped : (rest : List AlignedBlock) → graph_in labels (sources rest) ≡ map row_of rest
    rows_mapped [] = refl
    rows_mapped (b ∷ rest) = ap (λ rows. row_of b ∷ rows) (rows_mapped rest)

    pub marked_lead_on : g ≡ graph_in labels blocks → AllByRecursion (λ (z : Marked). z.0 ≡ true → leads_on z.1.source) (marked 0 bs)
    marked_lead_on is = from_place 0 bs (λ k. subst (λ n. led_to g n ≡ slice_index_or (map row_of bs) k []) (omega arith) (ap (λ rows. led_to rows k) (is ∙ rows_mapped bs)))
