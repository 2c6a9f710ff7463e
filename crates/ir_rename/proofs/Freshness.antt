-- Names with the fewest dots are fresh, and those of two numbers differ.
use Rattle.std.proofs.Common.{◌≡◌, ◌∙◌, ⊎_elim, ℕ, zero, suc, ◌<◌, ◌≤◌, ◌+◌, ◌%◌, ◌^◌, Bool, true, false, cond, List, [], ◌∷◌, ◌++◌, length, drop, replicate, refl, sym, ap, subst, append_assoc, length-append, arith}
use Rattle.std.specs.Fmt.{decimal}
use Rattle.std.proofs.lemmas.Fmt.{decimal_by_steps, decimal_injective}
use Rattle.std.proofs.lemmas.List.{append-nil}
use Rattle.std.proofs.lemmas.Map.Made.{length-le_from_is_member}
use Rattle.std.specs.List.{AllByRecursion, Contains, IsDistinct}
use Rattle.std.specs.Set.{is_member}
use Rattle.ir_types.specs.declared.names.Name.{Name}
use Rattle.ir_types.specs.declared.names.Name.TheVariants.{Text}
use Rattle.ir_types.specs.NameLaws.{name_equivalence}
use Rattle.ir_types.specs.Same.{same_name}
use Rattle.ir_core.specs.NameIndexes.Among.{is_among}
use Rattle.ir_core.proofs.NameIndexes.Among.{among_is, is_there, not_there}
use Rattle.ir_rename.specs.Named.{dotted, free_in, fresh, text_of}
use Rattle.ir_rename.proofs.Counting.{bytes_in}
use Rattle.ir_rename.proofs.Lists.{all_from, cases, differ, none_in}

-- ---- one is free

-- a text, and it with one, two .. dots: so many in all
abbrev texts : ℕ → List ℕ → List Name
texts zero text = []
texts (suc n) text = Text text ∷ texts n (text ++ 46 ∷ [])

length-texts : (n : ℕ) (text : List ℕ) → length (texts n text) ≡ n
length-texts zero text = refl
length-texts (suc n) text = ap suc (length-texts n (text ++ 46 ∷ []))

one_longer : (text : List ℕ) → length (text ++ 46 ∷ []) ≡ length text + 1
one_longer text = length-append text (46 ∷ [])

-- each is as long as the first of them at least
long : (n : ℕ) (text : List ℕ) (x : Name) → Contains (texts n text) x → length text ≤ length (bytes_in x)
long zero text x there = absurd (none_in x there)
long (suc n) text x there =
    ⊎_elim
    (λ e. let is : length text ≡ length (bytes_in x) = ap (λ y. length (bytes_in y)) e in omega (arith, is))
    (λ more. let later = long n (text ++ 46 ∷ []) x more in omega (arith, later, one_longer text))
    (cases (Text text) x (texts n (text ++ 46 ∷ [])) there)

texts_apart : (n : ℕ) (text : List ℕ) → IsDistinct same_name (texts n text)
unfolding IsDistinct
texts_apart zero text = tt
texts_apart (suc n) text = (
  all_from (λ y. same_name (Text text) y ≡ false) (texts n (text ++ 46 ∷ []))
      (λ y there.
      differ (Text text) y
      (λ e. let later = long n (text ++ 46 ∷ []) y there in let is : length text ≡ length (bytes_in y) = ap (λ z. length (bytes_in z)) e in omega (arith, later, is, one_longer text))),
  texts_apart n (text ++ 46 ∷ []),
)

-- where the text that is found is taken, so are all that were tried
all_taken : (tries : ℕ) (taken : List Name) (text : List ℕ) → Contains taken (Text (free_in tries taken text)) → (x : Name) → Contains (texts (suc tries) text) x → Contains taken x
all_taken zero taken text is x there =
    ⊎_elim (λ e. subst (Contains taken) e is) (λ more. absurd (none_in x more)) (cases (Text text) x [] there)
all_taken (suc tries) taken text is x there = by (is_among (Text text) taken) refl is (λ found more. all_taken tries taken (text ++ 46 ∷ []) found x more)
  where
    by : (b : Bool) → is_among (Text text) taken ≡ b → Contains taken (Text (cond b (free_in tries taken (text ++ 46 ∷ [])) text))
        → (Contains taken (Text (free_in tries taken (text ++ 46 ∷ []))) → Contains (texts (suc tries) (text ++ 46 ∷ [])) x → Contains taken x) → Contains taken x
    by true e found further =
        ⊎_elim
        (λ same. subst (Contains taken) same (among_is (Text text) taken e))
        (λ more. further found more)
        (cases (Text text) x (texts (suc tries) (text ++ 46 ∷ [])) there)
    by false e found further = absurd (not_there (Text text) taken e found)

member_is : (names : List Name) (x : Name) → is_member same_name names x ≡ true → Contains names x
member_is names x e = among_is x names e

is_member_of : (names : List Name) (x : Name) → Contains names x → is_member same_name names x ≡ true
is_member_of names x there = is_there x names there

pub is_free : (taken : List Name) (text : List ℕ) → Contains taken (Text (fresh taken text)) → ⊥
is_free taken text there =
    let all = texts (suc (length taken)) text in
    let many : length all ≤ length taken =
    length-le_from_is_member name_equivalence all taken (texts_apart (suc (length taken)) text)
    (λ x e. is_member_of taken x (all_taken (length taken) taken text there x (member_is all x e))) in
    omega (arith, many, length-texts (suc (length taken)) text)

-- ---- with the fewest dots

abbrev Fewest : ℕ → List Name → List ℕ → Type 0
Fewest tries taken text =
    (dots : ℕ) × (free_in tries taken text ≡ dotted text dots) × ((fewer : ℕ) → fewer < dots → Contains taken (Text (dotted text fewer)))

one_more : (text : List ℕ) (dots : ℕ) → dotted (text ++ 46 ∷ []) dots ≡ dotted text (suc dots)
one_more text dots = append_assoc text (46 ∷ []) (replicate dots 46)

below_more : (taken : List Name) (text : List ℕ) (dots : ℕ) → Contains taken (Text text) → ((fewer : ℕ) → fewer < dots → Contains taken (Text (dotted (text ++ 46 ∷ []) fewer)))
    → (fewer : ℕ) → fewer < suc dots → Contains taken (Text (dotted text fewer))
below_more taken text dots first each zero less = subst (λ t. Contains taken (Text t)) (sym (append-nil text)) first
below_more taken text dots first each (suc fewer) less = subst (λ t. Contains taken (Text t)) (one_more text fewer) (each fewer (omega (arith, less)))

pub fewest : (tries : ℕ) (taken : List Name) (text : List ℕ) → Fewest tries taken text
fewest zero taken text = (0, sym (append-nil text), λ fewer less. absurd (omega (arith, less)))
fewest (suc tries) taken text = by (is_among (Text text) taken) refl (fewest tries taken (text ++ 46 ∷ []))
  where
    by : (b : Bool) → is_among (Text text) taken ≡ b → Fewest tries taken (text ++ 46 ∷ [])
        → (dots : ℕ) × (cond b (free_in tries taken (text ++ 46 ∷ [])) text ≡ dotted text dots) × ((fewer : ℕ) → fewer < dots → Contains taken (Text (dotted text fewer)))
    by true e rest = (suc rest.0, rest.1 ∙ one_more text rest.0, below_more taken text rest.0 (among_is (Text text) taken e) rest.2)
    by false e rest = (0, sym (append-nil text), λ fewer less. absurd (omega (arith, less)))

-- ---- those of two numbers differ

abbrev NoDot : List ℕ → Type 0
NoDot = AllByRecursion (λ b. b ≡ 46 → ⊥)

no_dot_more : (xs ys : List ℕ) → NoDot xs → NoDot ys → NoDot (xs ++ ys)
no_dot_more [] ys front more = more
no_dot_more (x ∷ xs) ys front more = (front.0, no_dot_more xs ys front.1 more)

digit_no_dot : (d : ℕ) → NoDot ((48 + d) ∷ [])
digit_no_dot d = (λ e. omega (arith, e), tt)

no_dot : (n : ℕ) → n < 2 ^ 64 → NoDot (decimal n)
no_dot =
    decimal_by_steps (λ n ds. NoDot ds) (λ n small. digit_no_dot n) (λ n ds large front. no_dot_more ds ((48 + n % 10) ∷ []) front (digit_no_dot (n % 10)))

abbrev head : List ℕ → ℕ
head [] = 0
head (x ∷ xs) = x

before_dots : (xs ys : List ℕ) (a b : ℕ) → NoDot xs → NoDot ys → xs ++ replicate a 46 ≡ ys ++ replicate b 46 → xs ≡ ys
before_dots [] [] a b none_x none_y e = refl
before_dots [] (y ∷ ys) zero b none_x none_y e = cc
before_dots [] (y ∷ ys) (suc a) b none_x none_y e = absurd (none_y.0 (sym (ap head e)))
before_dots (x ∷ xs) [] a zero none_x none_y e = cc
before_dots (x ∷ xs) [] a (suc b) none_x none_y e = absurd (none_x.0 (ap head e))
before_dots (x ∷ xs) (y ∷ ys) a b none_x none_y e =
    ap (λ z. z ∷ xs) (ap head e) ∙ ap (λ zs. y ∷ zs) (before_dots xs ys a b none_x.1 none_y.1 (ap (drop 1) e))

pub number_is : (m n a b : ℕ) → m < 2 ^ 32 → n < 2 ^ 32 → dotted (text_of m) a ≡ dotted (text_of n) b → m ≡ n
number_is m n a b small_m small_n e =
    let wide_m : m < 2 ^ 64 = omega (arith, small_m) in
    let wide_n : n < 2 ^ 64 = omega (arith, small_n) in
    decimal_injective m n wide_m wide_n (before_dots (decimal m) (decimal n) a b (no_dot m wide_m) (no_dot n wide_n) (ap (drop 2) e))
