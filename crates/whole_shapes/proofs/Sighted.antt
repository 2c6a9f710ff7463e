-- Functions that are seen to have shape.
use Rattle.std.proofs.Common.{◌≡◌, ◌∙◌, ◌&&◌, ℕ, suc, zero, ◌+◌, ◌<◌, true, false, List, [], ◌∷◌, ◌++◌, length, map, drop, get_or, Option, None, Some, refl, sym, ap, subst, arith}
use Rattle.std.proofs.lemmas.List.{drop_more, get_or-map}
use Rattle.std.proofs.lemmas.List.Elements.{Contains-append_left, Contains-append_right}
use Rattle.std.specs.List.{AllByRecursion, Contains, flat_map}
use Rattle.ir_core.specs.declared.functions.Block.{Block}
use Rattle.ir_core.specs.declared.functions.Calm.{Calm}
use Rattle.ir_core.specs.declared.functions.Instr.{Instr}
use Rattle.ir_core.specs.declared.functions.Instr.TheVariants as instr
use Rattle.ir_types.specs.declared.names.Name.{Name}
use Rattle.ir_types.specs.declared.ty.Ty.{Ty}
use Rattle.ir_core.specs.Expressions.{type_of}
use Rattle.ir_core.specs.Functions.{block_names, names_in, registers_of, set_by}
use Rattle.ir_core.proofs.Lines.{names_more, set_more}
use Rattle.ir_types.specs.NameLaws.{same_name_true}
use Rattle.ir_types.specs.Same.{same_name, same_ty}
use Rattle.ir_types.proofs.SameLaws.{same_ty_true}
use Rattle.ir_core.specs.NameIndexes.Among.{place_among}
use Rattle.ir_shape.specs.ShapeTests.Edges.{HasEdges, edges_among, row_by, with_blocks}
use Rattle.ir_shape.specs.ShapeTests.Kinds.{are_new, with_names}
use Rattle.whole_shapes.specs.Whole.{bare_rows}
use Rattle.ir_shape.proofs.ShapeTests.Rows.{blocks_row}
use Rattle.ir_shape.proofs.ShapeTests.Taken.{names_joined, new_joined}
use Rattle.ir_shape.proofs.ShapeTests.Tests.{all_there}

-- ---- names

module _ (bs : List Block) (k : ℕ) (b : Block) (within : k < length bs) (is : b ≡ get_or bs k b) where
  abbrev rest : List Name
  rest = flat_map block_names (drop (k + 1) bs)

  left : flat_map block_names (drop k bs) ≡ block_names b ++ rest
  left = ap (flat_map block_names) (drop_more bs k b within ∙ ap (λ (c : Block). c ∷ drop (k + 1) bs) (sym is))

  pub block_new : (taken next : List Name) → are_new taken (block_names b) ≡ true → next ≡ with_names taken (block_names b)
      → are_new taken (flat_map block_names (drop k bs)) ≡ are_new next rest
  block_new taken next new grown =
      ap (are_new taken) left ∙ new_joined taken (block_names b) rest ∙ ap (λ v. v && are_new (with_names taken (block_names b)) rest) new
      ∙ ap (λ (ns : List Name). are_new ns rest) (sym grown)

  pub block_old : (taken : List Name) → are_new taken (block_names b) ≡ false → are_new taken (flat_map block_names (drop k bs)) ≡ false
  block_old taken old =
      ap (are_new taken) left ∙ new_joined taken (block_names b) rest ∙ ap (λ v. v && are_new (with_names taken (block_names b)) rest) old

  pub block_put : (taken next : List Name) → next ≡ with_names taken (block_names b) → with_names taken (flat_map block_names (drop k bs)) ≡ with_names next rest
  block_put taken next grown =
      ap (with_names taken) left ∙ names_joined taken (block_names b) rest ∙ ap (λ (ns : List Name). with_names ns rest) (sym grown)

-- the same of lines
module _ (ls : List Instr) (k : ℕ) (l : Instr) (within : k < length ls) (is : l ≡ get_or ls k l) where
  abbrev own : List Name
  own = names_in (set_by (l ∷ []))

  abbrev others : List Name
  others = names_in (set_by (drop (k + 1) ls))

  parted : names_in (set_by (drop k ls)) ≡ own ++ others
  parted = ap (λ (is : List Instr). names_in (set_by is)) (drop_more ls k l within ∙ ap (λ (i : Instr). i ∷ drop (k + 1) ls) (sym is)) ∙ names_more l (drop (k + 1) ls)

  pub line_new : (taken next : List Name) → are_new taken own ≡ true → next ≡ with_names taken own → are_new taken (names_in (set_by (drop k ls))) ≡ are_new next others
  line_new taken next new grown =
      ap (are_new taken) parted ∙ new_joined taken own others ∙ ap (λ v. v && are_new (with_names taken own) others) new
      ∙ ap (λ (ns : List Name). are_new ns others) (sym grown)

  pub line_old : (taken : List Name) → are_new taken own ≡ false → are_new taken (names_in (set_by (drop k ls))) ≡ false
  line_old taken old = ap (are_new taken) parted ∙ new_joined taken own others ∙ ap (λ v. v && are_new (with_names taken own) others) old

  pub line_put : (taken next : List Name) → next ≡ with_names taken own → with_names taken (names_in (set_by (drop k ls))) ≡ with_names next others
  line_put taken next grown = ap (with_names taken) parted ∙ names_joined taken own others ∙ ap (λ (ns : List Name). with_names ns others) (sym grown)

-- ---- where names stand

length-map : {A B : Type 0} (f : A → B) (xs : List A) → length (map f xs) ≡ length xs
length-map f [] = refl
length-map f (x ∷ xs) = ap suc (length-map f xs)

there : {A B : Type 0} (g : A → B) (xs : List A) (k : ℕ) (x : A) (y : B) → k < length xs → x ≡ get_or xs k x → g x ≡ y → Contains (map g xs) y
there g xs k x y within is e = (k, omega (arith, within, length-map g xs), get_or-map g xs k x y within ∙ ap g (sym is) ∙ e)

pub name_there : {A : Type 0} (g : A → Name) (xs : List A) (k : ℕ) (x : A) (name : Name) → k < length xs → x ≡ get_or xs k x → same_name name (g x) ≡ true
    → Contains (map g xs) name
name_there g xs k x name within is same = there g xs k x name within is (sym (same_name_true name (g x) same))

pub typed_there : {A : Type 0} (g : A → Name × Ty) (xs : List A) (k : ℕ) (x : A) (name : Name) (t : Ty) → k < length xs → x ≡ get_or xs k x
    → same_name name (g x).0 ≡ true → same_ty t (g x).1 ≡ true → Contains (map g xs) (name, t)
typed_there g xs k x name t within is same also =
    let a = same_name_true name (g x).0 same in
    let b = same_ty_true t (g x).1 also in
    there g xs k x (name, t) within is (λ i. (sym a i, sym b i))

pub line_typed : (body : List Instr) (k : ℕ) (line : Instr) (r : Name × Ty) → k < length body → line ≡ get_or body k line → Contains (set_by (line ∷ [])) r
    → Contains (set_by body) r
line_typed [] k line r within is sets = absurd (omega arith)
line_typed (l ∷ body) zero line r within is sets =
    subst (λ (rs : List (Name × Ty)). Contains rs r) (sym (set_more l body))
    (Contains-append_left (set_by (l ∷ [])) (set_by body) r (subst (λ (i : Instr). Contains (set_by (i ∷ [])) r) is sets))
line_typed (l ∷ body) (suc k) line r within is sets =
    subst (λ (rs : List (Name × Ty)). Contains rs r) (sym (set_more l body))
    (Contains-append_right (set_by (l ∷ [])) (set_by body) r (line_typed body k line r (omega arith) is sets))

pub block_typed : (bs : List Block) (k : ℕ) (b : Block) (r : Name × Ty) → k < length bs → b ≡ get_or bs k b → Contains (registers_of b) r
    → Contains (flat_map registers_of bs) r
block_typed [] k b r within is there = absurd (omega arith)
block_typed (c ∷ bs) zero b r within is there =
    Contains-append_left (registers_of c) (flat_map registers_of bs) r (subst (λ (d : Block). Contains (registers_of d) r) is there)
block_typed (c ∷ bs) (suc k) b r within is there =
    Contains-append_right (registers_of c) (flat_map registers_of bs) r (block_typed bs k b r (omega arith) is there)

-- ---- edges

bare_row : (names : List Name) (k : ℕ) → get_or (bare_rows names) k [] ≡ []
bare_row [] k = refl
bare_row (n ∷ names) zero = refl
bare_row (n ∷ names) (suc k) = bare_row names k

bare_at : (names : List Name) (o : Option ℕ) → row_by o (bare_rows names) ≡ []
bare_at names None = refl
bare_at names (Some k) = bare_row names k

pub edges_kept : (names : List Name) (rows : List (List Name)) (bs : List Block) → AllByRecursion (λ (b : Block). Contains names b.name) bs
    → rows ≡ with_blocks names (bare_rows names) bs → AllByRecursion (HasEdges names rows bs) bs
edges_kept names rows bs known is =
    all_there (HasEdges names rows bs) bs
    (λ b there _.
    ap (λ (rs : List (List Name)). row_by (place_among b.name names) rs) is
    ∙ blocks_row names b.name (bare_rows names) bs (omega (arith, length-map {B = List Name} (λ (_ : Name). []) names)) (at bs known b there)
    ∙ ap (λ (es : List Name). es ++ edges_among b.name bs) (bare_at names (place_among b.name names)))
  where
    at : (cs : List Block) → AllByRecursion (λ (c : Block). Contains names c.name) cs → (b : Block) → Contains cs b → Contains names b.name
    at cs all b there = go cs all b there.0 there.1 there.2
      where
        go : (cs : List Block) → AllByRecursion (λ (c : Block). Contains names c.name) cs → (b : Block) (k : ℕ) → k < length cs → get_or cs k b ≡ b → Contains names b.name
        go [] all b k within is = absurd (omega arith)
        go (c ∷ cs) all b zero within is = subst (λ (d : Block). Contains names d.name) is all.0
        go (c ∷ cs) all b (suc k) within is = go cs all.1 b k (omega arith) is

-- a line sets the register of that name and type, where the tests say that they are its own
pub calm_sets : (c : Calm) (name : Name) (ty : Ty) → same_name name c.name ≡ true → same_ty ty (type_of c.right) ≡ true → Contains (set_by (instr.Calm c ∷ [])) (name, ty)
calm_sets c name ty n t =
    let one : (c.name, type_of c.right) ≡ (name, ty) = cc (same_name_true name c.name n, same_ty_true ty (type_of c.right) t) in
    (zero, omega arith, one)
