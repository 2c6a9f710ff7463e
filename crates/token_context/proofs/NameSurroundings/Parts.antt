-- Parts of lists.
use Rattle.std.proofs.Common.{◌≡◌, ◌<◌, ℕ, zero, suc, ◌+◌, ◌-◌, List, [], ◌∷◌, ◌++◌, length, map, take, drop, get_or, refl, ap, sym, ◌∙◌, append_assoc, arith}
use Rattle.std.proofs.Math.Seq.{drop-append_seam, take-append_seam}
use Rattle.std.proofs.lemmas.List.{drop-map, length-append, take-map}
use Rattle.std.specs.List.{slice_range}

-- what stands between two that stand behind what comes before
pub part_is :
    {T : Type 0} (front inside rest : List T) (o c : T) (place end : ℕ) → place ≡ length front → end ≡ length front + suc (suc (length inside))
    → slice_range (front ++ (o ∷ (inside ++ (c ∷ rest)))) (place + 1) (end - 1) ≡ inside
part_is front inside rest o c place end p q =
    let long : length (front ++ (o ∷ [])) ≡ length front + 1 = length-append front (o ∷ []) in
    let from : place + 1 ≡ length (front ++ (o ∷ [])) = omega arith in
    let count : (end - 1) - (place + 1) ≡ length inside = omega arith in
    ap (λ l. take ((end - 1) - (place + 1)) (drop (place + 1) l)) (sym (append_assoc front (o ∷ []) (inside ++ (c ∷ rest))))
    ∙ ap (λ n. take ((end - 1) - (place + 1)) (drop n ((front ++ (o ∷ [])) ++ (inside ++ (c ∷ rest))))) from
    ∙ ap (λ l. take ((end - 1) - (place + 1)) l) (drop-append_seam (front ++ (o ∷ [])) (inside ++ (c ∷ rest)))
    ∙ ap (λ n. take n (inside ++ (c ∷ rest))) count
    ∙ take-append_seam inside (c ∷ rest)

pub map-part : {S T : Type 0} (f : S → T) (xs : List S) (i j : ℕ) → map f (slice_range xs i j) ≡ slice_range (map f xs) i j
map-part f xs i j = sym (ap (λ l. take (j - i) l) (drop-map f i xs) ∙ take-map f (j - i) (drop i xs))

-- an item, and those before it and behind it
pub record At {T : Type 0} (xs : List T) (place : ℕ) : Type 0 where
  pub item : T
  pub rest : List T
  pub all : xs ≡ take place xs ++ (item ∷ rest)
  pub long : length (take place xs) ≡ place

pub item_at : {T : Type 0} (xs : List T) (place : ℕ) → place < length xs → At xs place
item_at [] place h = absurd (grind arith)
item_at (x ∷ xs) zero h = record { item = x; rest = xs; all = refl; long = refl }
item_at (x ∷ xs) (suc place) h =
    let a = item_at xs place (grind arith) in
    record { item = a.item; rest = a.rest; all = ap (λ l. x ∷ l) a.all; long = ap suc a.long }

pub get_at : {S : Type 0} (f : S → ℕ) (front rest : List S) (x : S) → get_or (map f (front ++ (x ∷ rest))) (length front) 0 ≡ f x
get_at f [] rest x = refl
get_at f (y ∷ front) rest x = get_at f front rest x

-- lists that are the same up to as many items
pub same_front : {T : Type 0} (a b c d : List T) → length a ≡ length b → a ++ c ≡ b ++ d → (a ≡ b) × (c ≡ d)
same_front [] [] c d n e = (refl, e)
same_front [] (y ∷ b) c d n e = cc
same_front (x ∷ a) [] c d n e = cc
same_front (x ∷ a) (y ∷ b) c d n e =
    let counts : length a ≡ length b = cc in
    let head : x ≡ y = cc in
    let tail : a ++ c ≡ b ++ d = cc in
    let r = same_front a b c d counts tail in
    (ap (λ z. z ∷ a) head ∙ ap (λ l. y ∷ l) r.0, r.1)

-- what a list is made of whose images are two lists
pub record Images {S T : Type 0} (f : S → T) (a b : List T) (xs : List S) : Type 0 where
  pub front : List S
  pub back : List S
  pub all : xs ≡ front ++ back
  pub of_front : map f front ≡ a
  pub of_back : map f back ≡ b

pub images : {S T : Type 0} (f : S → T) (a b : List T) (xs : List S) → map f xs ≡ a ++ b → Images f a b xs
images f [] b xs e = record { front = []; back = xs; all = refl; of_front = refl; of_back = e }
images f (y ∷ a) b [] e = cc
images f (y ∷ a) b (x ∷ xs) e =
    let head : f x ≡ y = cc in
    let tail : map f xs ≡ a ++ b = cc in
    let r = images f a b xs tail in
    record {
      front = x ∷ r.front;
      back = r.back;
      all = ap (λ l. x ∷ l) r.all;
      of_front = ap (λ z. z ∷ map f r.front) head ∙ ap (λ l. y ∷ l) r.of_front;
      of_back = r.of_back;
    }
