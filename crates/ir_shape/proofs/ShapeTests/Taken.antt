-- Lists of names: which are taken, which are new, and which are labels.
use Rattle.std.proofs.Common.{◌≡◌, ◌∙◌, ◌⊎◌, ⊎_elim, inl, ◌&&◌, Bool, true, false, not, List, [], ◌∷◌, ◌++◌, refl, sym, ap, subst, append_assoc, if◌then◌else◌}
use Rattle.std.proofs.lemmas.List.{append-nil}
use Rattle.std.proofs.lemmas.List.Elements.{Contains-append_left, Contains-push, Contains-push_cases}
use Rattle.std.specs.List.{AllByRecursion, Contains, flat_map}
use Rattle.ir_core.specs.declared.functions.Block.{Block}
use Rattle.ir_types.specs.declared.names.Name.{Name}
use Rattle.ir_types.specs.declared.ty.Ty.{Ty}
use Rattle.ir_core.specs.Functions.{block_names, names_in, registers_of}
use Rattle.ir_core.specs.Order.{AreNew}
use Rattle.ir_core.specs.NameIndexes.Among.{is_among}
use Rattle.ir_core.proofs.NameIndexes.Among.{among_is, is_there, not_there}
use Rattle.ir_shape.specs.ShapeTests.Kinds.{are_labels, are_new, with_name, with_names}
use Rattle.ir_shape.proofs.ShapeTests.Tests.{all_tested, both_assoc, both_hold, both_left, both_right, each_tested, mapped_all, not_true, one_there}

-- these are among the others
abbrev pub Among : List Name → List Name → Type 0
Among names others = (n : Name) → Contains names n → Contains others n

pub not_among : (n : Name) (taken : List Name) → (Contains taken n → ⊥) → is_among n taken ≡ false
not_among n taken never = go (is_among n taken) refl
  where
    go : (b : Bool) → is_among n taken ≡ b → is_among n taken ≡ false
    go true e = absurd (never (among_is n taken e))
    go false e = e

grows : (m : Name) (taken : List Name) → is_among m taken ≡ false → with_name taken m ≡ taken ++ m ∷ []
grows m taken e = ap (λ b. if b then taken else (taken ++ m ∷ [])) e

stays : (m : Name) (taken : List Name) → is_among m taken ≡ true → with_name taken m ≡ taken
stays m taken e = ap (λ b. if b then taken else (taken ++ m ∷ [])) e

-- ---- a name more

pub kept : (m : Name) (taken : List Name) → Among taken (with_name taken m)
kept m taken n there = go (is_among m taken) refl
  where
    go : (b : Bool) → is_among m taken ≡ b → Contains (with_name taken m) n
    go true e = subst (λ ns. Contains ns n) (sym (stays m taken e)) there
    go false e = subst (λ ns. Contains ns n) (sym (grows m taken e)) (Contains-append_left taken (m ∷ []) n there)

pub put : (m : Name) (taken : List Name) → Contains (with_name taken m) m
put m taken = go (is_among m taken) refl
  where
    go : (b : Bool) → is_among m taken ≡ b → Contains (with_name taken m) m
    go true e = subst (λ ns. Contains ns m) (sym (stays m taken e)) (among_is m taken e)
    go false e = subst (λ ns. Contains ns m) (sym (grows m taken e)) (Contains-push taken m)

pub old_or_new : (m : Name) (taken : List Name) (n : Name) → Contains (with_name taken m) n → Contains taken n ⊎ (m ≡ n)
old_or_new m taken n there = go (is_among m taken) refl
  where
    go : (b : Bool) → is_among m taken ≡ b → Contains taken n ⊎ (m ≡ n)
    go true e = inl (subst (λ ns. Contains ns n) (stays m taken e) there)
    go false e = Contains-push_cases taken m n (subst (λ ns. Contains ns n) (grows m taken e) there)

pub all_kept : (ns taken : List Name) → Among taken (with_names taken ns)
all_kept [] taken n there = there
all_kept (m ∷ ns) taken n there = all_kept ns (with_name taken m) n (kept m taken n there)

pub all_put : (ns taken : List Name) → AllByRecursion (Contains (with_names taken ns)) ns
all_put [] taken = tt
all_put (m ∷ ns) taken = (all_kept ns (with_name taken m) m (put m taken), all_put ns (with_name taken m))

all_old_or_new : (ns taken known : List Name) → Among taken known → Among (with_names taken ns) (known ++ ns)
all_old_or_new [] taken known among = λ n there. subst (λ xs. Contains xs n) (sym (append-nil known)) (among n there)
all_old_or_new (m ∷ ns) taken known among =
    λ n there. subst (λ xs. Contains xs n) (append_assoc known (m ∷ []) ns)
    (all_old_or_new ns (with_name taken m) (known ++ m ∷ [])
    (λ x this. ⊎_elim (λ old. Contains-append_left known (m ∷ []) x (among x old)) (λ new. subst (Contains (known ++ m ∷ [])) new (Contains-push known m)) (old_or_new m taken x this))
    n there)

-- ---- labels

pub labels_by : (names ls : List Name) → are_labels (with_names [] names) ls ≡ true → AllByRecursion (Contains names) ls
labels_by names ls e =
    mapped_all (λ l. is_among l (with_names [] names) ≡ true) (Contains names) (λ l is. all_old_or_new names [] [] (λ n there. there) l (among_is l (with_names [] names) is)) ls
    (each_tested (λ l. is_among l (with_names [] names)) ls e)

-- ---- names that are new

pub new_by : (taken ns : List Name) → are_new taken ns ≡ true → AreNew taken ns
new_by taken [] e = tt
new_by taken (n ∷ ns) e =
    let fresh = not_true (is_among n taken) (both_left (not (is_among n taken)) (are_new (with_name taken n) ns) e) in (
      not_there n taken fresh,
      subst (λ ts. AreNew ts ns) (grows n taken fresh) (new_by (with_name taken n) ns (both_right (not (is_among n taken)) (are_new (with_name taken n) ns) e)),
    )

pub new_is : (taken ns : List Name) → AreNew taken ns → are_new taken ns ≡ true
new_is taken [] new = refl
new_is taken (n ∷ ns) new =
    let fresh = not_among n taken new.0 in
    both_hold (not (is_among n taken)) (are_new (with_name taken n) ns) (ap not fresh)
    (subst (λ ts. are_new ts ns ≡ true) (sym (grows n taken fresh)) (new_is (taken ++ n ∷ []) ns new.1))

pub new_joined : (taken xs ys : List Name) → are_new taken (xs ++ ys) ≡ (are_new taken xs && are_new (with_names taken xs) ys)
new_joined taken [] ys = refl
new_joined taken (x ∷ xs) ys =
    ap (λ b. not (is_among x taken) && b) (new_joined (with_name taken x) xs ys)
    ∙ sym (both_assoc (not (is_among x taken)) (are_new (with_name taken x) xs) (are_new (with_names (with_name taken x) xs) ys))

pub names_joined : (taken xs ys : List Name) → with_names taken (xs ++ ys) ≡ with_names (with_names taken xs) ys
names_joined taken [] ys = refl
names_joined taken (x ∷ xs) ys = names_joined (with_name taken x) xs ys

pub registers_joined : (xs ys : List (Name × Ty)) → names_in (xs ++ ys) ≡ names_in xs ++ names_in ys
registers_joined [] ys = refl
registers_joined (x ∷ xs) ys = ap (λ ns. x.0 ∷ ns) (registers_joined xs ys)

-- ---- fewer names

one_more_among : (names others : List Name) (x : Name) → Among names others → Among (names ++ x ∷ []) (others ++ x ∷ [])
one_more_among names others x among n there =
    ⊎_elim (λ old. Contains-append_left others (x ∷ []) n (among n old)) (λ new. subst (Contains (others ++ x ∷ [])) new (Contains-push others x))
    (Contains-push_cases names x n there)

more_among : (xs names others : List Name) → Among names others → Among (names ++ xs) (others ++ xs)
more_among [] names others among =
    λ n there. subst (λ ns. Contains ns n) (sym (append-nil others)) (among n (subst (λ ns. Contains ns n) (append-nil names) there))
more_among (x ∷ xs) names others among =
    λ n there. subst (λ ns. Contains ns n) (append_assoc others (x ∷ []) xs)
    (more_among xs (names ++ x ∷ []) (others ++ x ∷ []) (one_more_among names others x among) n (subst (λ ns. Contains ns n) (sym (append_assoc names (x ∷ []) xs)) there))

fewer_new : (xs taken fewer : List Name) → Among fewer taken → AreNew taken xs → AreNew fewer xs
fewer_new [] taken fewer among new = tt
fewer_new (x ∷ xs) taken fewer among new =
    (λ there. new.0 (among x there), fewer_new xs (taken ++ x ∷ []) (fewer ++ x ∷ []) (one_more_among fewer taken x among) new.1)

pub new_front : (xs ys taken : List Name) → AreNew taken (xs ++ ys) → AreNew taken xs
new_front [] ys taken new = tt
new_front (x ∷ xs) ys taken new = (new.0, new_front xs ys (taken ++ x ∷ []) new.1)

pub new_behind : (xs ys taken : List Name) → AreNew taken (xs ++ ys) → AreNew (taken ++ xs) ys
new_behind [] ys taken new = subst (λ ts. AreNew ts ys) (sym (append-nil taken)) new
new_behind (x ∷ xs) ys taken new = subst (λ ts. AreNew ts ys) (append_assoc taken (x ∷ []) xs) (new_behind xs ys (taken ++ x ∷ []) new.1)

pub both_new : (xs ys taken : List Name) → AreNew taken xs → AreNew (taken ++ xs) ys → AreNew taken (xs ++ ys)
both_new [] ys taken this that = subst (λ ts. AreNew ts ys) (append-nil taken) that
both_new (x ∷ xs) ys taken this that =
    (this.0, both_new xs ys (taken ++ x ∷ []) this.1 (subst (λ ts. AreNew ts ys) (sym (append_assoc taken (x ∷ []) xs)) that))

block_registers : (bs : List Block) (taken fewer : List Name) → Among fewer taken → AreNew taken (flat_map block_names bs) → AreNew fewer (names_in (flat_map registers_of bs))
block_registers [] taken fewer among new = tt
block_registers (b ∷ bs) taken fewer among new =
    let own = names_in (registers_of b) in
    let here = λ (n : Name) (there : Contains fewer n). Contains-append_left taken (b.name ∷ []) n (among n there) in
    subst (AreNew fewer) (sym (registers_joined (registers_of b) (flat_map registers_of bs)))
    (both_new own (names_in (flat_map registers_of bs)) fewer (fewer_new own (taken ++ b.name ∷ []) fewer here (new_front own (flat_map block_names bs) (taken ++ b.name ∷ []) new.1))
    (block_registers bs ((taken ++ b.name ∷ []) ++ own) (fewer ++ own) (more_among own fewer (taken ++ b.name ∷ []) here) (new_behind own (flat_map block_names bs) (taken ++ b.name ∷ []) new.1)))

-- where all names are new, those of registers are
pub registers_new : (ps : List (Name × Ty)) (bs : List Block) → AreNew [] (names_in ps ++ flat_map block_names bs) → AreNew [] (names_in (ps ++ flat_map registers_of bs))
registers_new ps bs new =
    subst (AreNew []) (sym (registers_joined ps (flat_map registers_of bs)))
    (both_new (names_in ps) (names_in (flat_map registers_of bs)) [] (new_front (names_in ps) (flat_map block_names bs) [] new)
    (block_registers bs ([] ++ names_in ps) ([] ++ names_in ps) (λ n there. there) (new_behind (names_in ps) (flat_map block_names bs) [] new)))

pub not_taken : (n : Name) (taken fewer : List Name) → Among fewer taken → is_among n taken ≡ false → is_among n fewer ≡ false
not_taken n taken fewer among e = not_among n fewer (λ there. not_there n taken e (among n there))

pub labels_are : (names ls : List Name) → AllByRecursion (Contains names) ls → are_labels (with_names [] names) ls ≡ true
labels_are names ls all =
    all_tested (λ l. is_among l (with_names [] names)) ls
    (mapped_all (Contains names) (λ l. is_among l (with_names [] names) ≡ true)
    (λ l there. is_there l (with_names [] names) (one_there (Contains (with_names [] names)) names l (all_put names []) there)) ls all)
