-- Pieces of a text, written one after another.
use Rattle.std.proofs.Common.{◌≡◌, ◌≢◌, ◌++◌, ◌+◌, ◌≤◌, ◌<◌, ℕ, zero, suc, ◌-◌, List, [], ◌∷◌, Option, None, Some, length, take, drop, refl, sym, ◌∙◌, ap, inl, inr, append_assoc, zero-add, lt_of_not-le, arith}
use Rattle.std.proofs.Math.Seq.{take-length}
use Rattle.std.proofs.lemmas.List.{append-nil, take-append-drop, length-drop}
use Rattle.crell_io.specs.Count.{HasRisen}
use Rattle.crell_io.specs.Sink.{appended}

take_of_nothing : (n : ℕ) → take {A = ℕ} n [] ≡ []
take_of_nothing zero = refl
take_of_nothing (suc n) = refl

take_more : (d c : ℕ) (text : List ℕ) → take (d + c) text ≡ take d text ++ take c (drop d text)
take_more zero c text = ap (λ (n : ℕ). take n text) (zero-add c)
take_more (suc d) c [] = take_of_nothing (suc d + c) ∙ sym (take_of_nothing c)
take_more (suc d) c (x ∷ text) =
    let e : suc d + c ≡ suc (d + c) = omega arith in
    ap (λ (n : ℕ). take n (x ∷ text)) e ∙ ap (λ (l : List ℕ). x ∷ l) (take_more d c text)

appended_twice : (written : Option (List ℕ)) (a b : List ℕ) → appended (appended written a) b ≡ appended written (a ++ b)
appended_twice None a b = refl
appended_twice (Some bytes) a b = ap (λ (l : List ℕ). Some l) (append_assoc bytes a b)

-- what is left of a text, as the code cuts it
abbrev pub rest_from : ℕ → List ℕ → List ℕ
rest_from done text = take (length text - done) (drop done text)

rest_is : (text : List ℕ) (done : ℕ) → rest_from done text ≡ drop done text
rest_is text done = ap (λ (n : ℕ). take n (drop done text)) (sym (length-drop done text)) ∙ take-length (drop done text)

pub wrote_more : (old now after : Option (List ℕ)) (text : List ℕ) (done count : ℕ)
    → now ≡ appended old (take done text) → after ≡ appended now (take count (rest_from done text)) → after ≡ appended old (take (done + count) text)
wrote_more old now after text done count e f =
    f ∙ (ap (λ (l : List ℕ). appended now (take count l)) (rest_is text done) ∙ (ap (λ (w : Option (List ℕ)). appended w (take count (drop done text))) e
    ∙ (appended_twice old (take done text) (take count (drop done text)) ∙ ap (λ (l : List ℕ). appended old l) (sym (take_more done count text)))))

some_left : (text : List ℕ) (done : ℕ) → done < length text → drop done text ≢ []
some_left text done below e = let l = ap (λ (t : List ℕ). length t) e in absurd (omega (arith, length-drop done text))

pub some_in_rest : (text : List ℕ) (done : ℕ) → done < length text → rest_from done text ≢ []
some_in_rest text done below e = some_left text done below (sym (rest_is text done) ∙ e)

pub risen_after : (a b c : ℕ) → a ≤ b → HasRisen b c → HasRisen a c
risen_after a b c p (inl h) = inl (omega arith)
risen_after a b c p (inr h) = inr h

pub stopped : (old now after : Option (List ℕ)) (text : List ℕ) (done : ℕ) → done < length text
    → now ≡ appended old (take done text) → after ≡ now
    → (part : List ℕ) × (rest : List ℕ) × (rest ≢ []) × (text ≡ part ++ rest) × (after ≡ appended old part)
stopped old now after text done below e f = (take done text, drop done text, some_left text done below, sym (take-append-drop done text), f ∙ e)

appended_nothing : (written : Option (List ℕ)) → appended written [] ≡ written
appended_nothing None = refl
appended_nothing (Some bytes) = ap (λ (b : List ℕ). Some b) (append-nil bytes)

-- taking no bytes leaves what was written
pub took_none : (now after : Option (List ℕ)) (piece : List ℕ) (count : ℕ) → count ≡ 0 → after ≡ appended now (take count piece) → after ≡ now
took_none now after piece count e f = f ∙ (ap (λ (n : ℕ). appended now (take n piece)) e ∙ appended_nothing now)

-- What is kept while pieces of a text are written to a sink that is sure to take it: there is room for the rest, and no fault is counted.
abbrev pub HasRoomStill : (room faults now_room now_faults done : ℕ) (text : List ℕ) → Type 0
HasRoomStill room faults now_room now_faults done text =
    length text ≤ room → (length text ≤ now_room + done) × (now_faults ≡ faults)

-- there is room for the rest of the text
pub rest_has_room : (text : List ℕ) (done room : ℕ) → length text ≤ room + done → length (rest_from done text) ≤ room
rest_has_room text done room h =
    let e = ap (λ (l : List ℕ). length l) (rest_is text done) in omega (arith, length-drop done text)

pub room_after : (text : List ℕ) (room faults now_room now_faults after_room after_faults done count : ℕ)
    → HasRoomStill room faults now_room now_faults done text → done ≤ length text
    → (length (rest_from done text) ≤ now_room → (1 ≤ count) × (now_room ≤ after_room + count) × (after_faults ≡ now_faults))
    → HasRoomStill room faults after_room after_faults (done + count) text
room_after text room faults now_room now_faults after_room after_faults done count still within more = λ h.
    let s = still h in
    let m = more (rest_has_room text done now_room s.0) in
    (let kept : length text ≤ now_room + done = s.0 in let next : now_room ≤ after_room + count = m.1 in omega arith, m.2 ∙ s.1)

-- a sink that takes nothing of the rest wasn't sure to take the text
pub no_room : (text : List ℕ) (room faults now_room now_faults done : ℕ) → HasRoomStill room faults now_room now_faults done text
    → (length (rest_from done text) ≤ now_room → ⊥) → room < length text
no_room text room faults now_room now_faults done still refused =
    lt_of_not-le (λ h. refused (rest_has_room text done now_room (still h).0))
