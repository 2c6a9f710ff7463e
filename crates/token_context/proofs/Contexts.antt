-- What tokens are where they stand, with one more behind them.
use Rattle.std.proofs.Common.{◌≡◌, ◌<◌, ◌≤◌, ℕ, zero, suc, ◌+◌, Bool, true, false, cond, nat_eq, nat_lt, List, [], ◌∷◌, ◌++◌, length, map, reverse, take, Some, refl, ap, sym, ◌∙◌, append_assoc, subst, arith, ◌⊎◌, inl, inr}
use Rattle.std.proofs.Math.Seq.{take-append_seam}
use Rattle.std.proofs.lemmas.Bool.{eq-eqb, eqb-true, ltb-false, ltb-true}
use Rattle.std.proofs.lemmas.List.{append-nil, length-append, map-append, reverse-append, take-append-le}
use Rattle.std.proofs.lemmas.List.Elements.{Contains-append_left, Contains-push, Contains-push_cases}
use Rattle.std.proofs.lemmas.Option.{slice_get_within}
use Rattle.std.specs.List.{Contains, slice_get}
use Rattle.module_grammar.specs.Symbols.{Symbol, foreign, kind_of}
use Rattle.module_spelling.specs.Context.{AreBehind, StandsFor, all_seen, seen_as}
use Rattle.module_spelling.specs.Faults.{IsDeepAt, IsDeepBehind}
use Rattle.token_context.proofs.Classes.{symbol_is}
use Rattle.token_context.specs.Readings.{IsContext, IsSeen, deep_seen, kind_seen}
use Rattle.token_context.specs.declared.reading.Reading.{Reading}
use Rattle.token_context.specs.declared.reading.Reading.TheVariants.{Whole, Deep, Other}

-- ---- a token by its kind

pub seen_itself : (s : Symbol) → seen_as s (kind_of s) ≡ s
seen_itself s = ap (λ b. cond b s foreign) (eq-eqb (kind_of s) (kind_of s) refl)

seen_foreign : (s : Symbol) → seen_as s (kind_of foreign) ≡ foreign
seen_foreign s = go (nat_eq (kind_of s) (kind_of foreign)) refl
  where
    go : (b : Bool) → nat_eq (kind_of s) (kind_of foreign) ≡ b → cond b s foreign ≡ foreign
    go true e = sym (symbol_is (kind_of foreign) s (eqb-true (kind_of s) (kind_of foreign) e)).1
    go false e = refl

kind_kept : (s : Symbol) (r : Reading) → kind_of (seen_as s (kind_seen (kind_of s) r)) ≡ kind_seen (kind_of s) r
kind_kept s Whole = ap kind_of (seen_itself s)
kind_kept s Deep = ap kind_of (seen_foreign s)
kind_kept s Other = ap kind_of (seen_foreign s)

stands_seen : (before : List Symbol) (s : Symbol) (r : Reading) → IsSeen before s r → StandsFor before s (seen_as s (kind_seen (kind_of s) r))
stands_seen before s Whole h = subst (λ t. StandsFor before s t) (sym (seen_itself s)) h.0
stands_seen before s Deep h = subst (λ t. StandsFor before s t) (sym (seen_foreign s)) h.0
stands_seen before s Other h = subst (λ t. StandsFor before s t) (sym (seen_foreign s)) h.0

-- ---- one more

seen_more : (ss : List Symbol) (ks : List ℕ) (s : Symbol) (k : ℕ) → length ks ≡ length ss → all_seen (ss ++ (s ∷ [])) (ks ++ (k ∷ [])) ≡ all_seen ss ks ++ (seen_as s k ∷ [])
seen_more [] [] s k e = refl
seen_more [] (j ∷ ks) s k e = let none : suc (length ks) ≡ 0 = e in absurd (omega (arith, none))
seen_more (x ∷ ss) [] s k e = let none : 0 ≡ suc (length ss) = e in absurd (omega (arith, none))
seen_more (x ∷ ss) (j ∷ ks) s k e =
    let more : suc (length ks) ≡ suc (length ss) = e in
    ap (λ l. seen_as x j ∷ l) (seen_more ss ks s k (omega (arith, more)))

behind_more :
    (before ss ts : List Symbol) (s t : Symbol) → AreBehind before ss ts → StandsFor (reverse ss ++ before) s t
    → AreBehind before (ss ++ (s ∷ [])) (ts ++ (t ∷ []))
behind_more before [] [] s t h st = (st, tt)
behind_more before [] (y ∷ ts) s t h st = absurd h
behind_more before (x ∷ ss) [] s t h st = absurd h
behind_more before (x ∷ ss) (y ∷ ts) s t h st =
    let turned : reverse (x ∷ ss) ++ before ≡ reverse ss ++ (x ∷ before) =
    ap (λ l. l ++ before) (reverse-append (x ∷ []) ss) ∙ append_assoc (reverse ss) (x ∷ []) before in
    (h.0, behind_more (x ∷ before) ss ts s t h.1 (subst (λ b. StandsFor b s t) turned st))

-- ---- what is too deep

get_before : (xs ys : List Symbol) (k : ℕ) → k < length xs → slice_get (xs ++ ys) k ≡ slice_get xs k
get_before [] ys k h = absurd (grind arith)
get_before (x ∷ xs) ys zero h = refl
get_before (x ∷ xs) ys (suc k) h = get_before xs ys k (grind arith)

get_last : (xs : List Symbol) (y : Symbol) → slice_get (xs ++ (y ∷ [])) (length xs) ≡ Some y
get_last [] y = refl
get_last (x ∷ xs) y = get_last xs y

take_before : (xs ys : List Symbol) (k : ℕ) → k < length xs → take k (xs ++ ys) ≡ take k xs
take_before xs ys k h = take-append-le k xs ys (omega arith)

deep_before : (done more : List Symbol) (k : ℕ) → IsDeepAt done k → IsDeepAt (done ++ more) k
deep_before done more k h =
    let within : k < length done = slice_get_within done k h.0 h.1 in
    (h.0, get_before done more k within ∙ h.1, subst (λ l. IsDeepBehind (reverse l) h.0) (sym (take_before done more k within)) h.2)

deep_last : (done : List Symbol) (s : Symbol) → IsDeepBehind (reverse done) s → IsDeepAt (done ++ (s ∷ [])) (length done)
deep_last done s h = (s, get_last done s, subst (λ l. IsDeepBehind (reverse l) s) (sym (take-append_seam done (s ∷ []))) h)

deep_cases :
    (done : List Symbol) (s : Symbol) (k : ℕ) → IsDeepAt (done ++ (s ∷ [])) k → IsDeepAt done k ⊎ ((k ≡ length done) × IsDeepBehind (reverse done) s)
deep_cases done s k h = go (nat_lt k (length done)) refl
  where
    go : (b : Bool) → nat_lt k (length done) ≡ b → IsDeepAt done k ⊎ ((k ≡ length done) × IsDeepBehind (reverse done) s)
    go true e =
        let within : k < length done = ltb-true k (length done) e in
        inl (h.0, sym (get_before done (s ∷ []) k within) ∙ h.1, subst (λ l. IsDeepBehind (reverse l) h.0) (take_before done (s ∷ []) k within) h.2)
    go false e =
        let within : k < length (done ++ (s ∷ [])) = slice_get_within (done ++ (s ∷ [])) k h.0 h.1 in
        let whole : length (done ++ (s ∷ [])) ≡ length done + 1 = length-append done (s ∷ []) in
        let above : length done ≤ k = ltb-false k (length done) e in
        let is : k ≡ length done = omega (arith, within, whole, above) in
        let got : Some h.0 ≡ Some s = sym h.1 ∙ ap (λ j. slice_get (done ++ (s ∷ [])) j) is ∙ get_last done s in
        let same : h.0 ≡ s = cc in
        let behind : IsDeepBehind (reverse done) h.0 =
        subst (λ l. IsDeepBehind (reverse l) h.0) (ap (λ j. take j (done ++ (s ∷ []))) is ∙ take-append_seam done (s ∷ [])) h.2 in
        inr (is, subst (λ x. IsDeepBehind (reverse done) x) same behind)

-- a token that is too deep is one of those, and no other
pub not_within : {A : Type 0} (k : ℕ) → Contains {X = ℕ} [] k → A
not_within k h = let none : h.0 < 0 = h.1 in absurd (omega (arith, none))

deep_known :
    (done : List Symbol) (s : Symbol) (r : Reading) (places : List ℕ) (k : ℕ) → IsSeen (reverse done) s r
    → (Contains places k → IsDeepAt done k) → Contains (places ++ deep_seen (length done) r) k → IsDeepAt (done ++ (s ∷ [])) k
deep_known done s Whole places k h told at = deep_before done (s ∷ []) k (told (subst (λ l. Contains l k) (append-nil places) at))
deep_known done s Other places k h told at = deep_before done (s ∷ []) k (told (subst (λ l. Contains l k) (append-nil places) at))
deep_known done s Deep places k h told at = go (Contains-push_cases places (length done) k at)
  where
    go : Contains places k ⊎ (length done ≡ k) → IsDeepAt (done ++ (s ∷ [])) k
    go (inl old) = deep_before done (s ∷ []) k (told old)
    go (inr is) = subst (λ j. IsDeepAt (done ++ (s ∷ [])) j) is (deep_last done s h.1)

deep_told :
    (done : List Symbol) (s : Symbol) (r : Reading) (places : List ℕ) (k : ℕ) → IsSeen (reverse done) s r
    → (IsDeepAt done k → Contains places k) → IsDeepAt (done ++ (s ∷ [])) k → Contains (places ++ deep_seen (length done) r) k
deep_told done s r places k h told at = go r h (deep_cases done s k at)
  where
    go : (r : Reading) → IsSeen (reverse done) s r → IsDeepAt done k ⊎ ((k ≡ length done) × IsDeepBehind (reverse done) s) → Contains (places ++ deep_seen (length done) r) k
    go r h (inl old) = Contains-append_left places (deep_seen (length done) r) k (told old)
    go Whole h (inr new) = absurd (h.1 new.1)
    go Other h (inr new) = absurd (h.1 new.1)
    go Deep h (inr new) = subst (λ j. Contains (places ++ (length done ∷ [])) j) (sym new.0) (Contains-push places (length done))

-- ---- a token more

pub context_first : IsContext [] [] []
context_first = record { stand = tt; are_kinds = (refl, refl); deep = λ k. (λ h. not_within k h, λ h. cc) }

pub context_more :
    (done : List Symbol) (s : Symbol) (r : Reading) (kinds places : List ℕ) → IsSeen (reverse done) s r → IsContext done kinds places
    → IsContext (done ++ (s ∷ [])) (kinds ++ (kind_seen (kind_of s) r ∷ [])) (places ++ deep_seen (length done) r)
context_more done s r kinds places h old =
    let k : ℕ = kind_seen (kind_of s) r in
    let seen : all_seen (done ++ (s ∷ [])) (kinds ++ (k ∷ [])) ≡ all_seen done kinds ++ (seen_as s k ∷ []) = seen_more done kinds s k old.are_kinds.0 in
    let as_many : length kinds ≡ length done = old.are_kinds.0 in
    let more_kinds : length (kinds ++ (k ∷ [])) ≡ length kinds + 1 = length-append kinds (k ∷ []) in
    let more_tokens : length (done ++ (s ∷ [])) ≡ length done + 1 = length-append done (s ∷ []) in
    record {
      stand =
          subst (λ l. AreBehind [] (done ++ (s ∷ [])) l) (sym seen)
          (behind_more [] done (all_seen done kinds) s (seen_as s k) old.stand (subst (λ b. StandsFor b s (seen_as s k)) (sym (append-nil (reverse done))) (stands_seen (reverse done) s r h)));
      are_kinds = (
        omega (arith, as_many, more_kinds, more_tokens),
        ap (map kind_of) seen ∙ map-append kind_of (all_seen done kinds) (seen_as s k ∷ []) ∙ ap (λ l. l ++ (kind_of (seen_as s k) ∷ [])) old.are_kinds.1
            ∙ ap (λ j. kinds ++ (j ∷ [])) (kind_kept s r),
      );
      deep = λ j. (deep_known done s r places j h (old.deep j).0, deep_told done s r places j h (old.deep j).1);
    }
