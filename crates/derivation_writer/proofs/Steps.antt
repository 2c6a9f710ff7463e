-- Marks that are written down.
use Rattle.std.proofs.Common.{◌≡◌, ◌∙◌, ◌<◌, ◌+◌, ◌-◌, ℕ, suc, true, false, cond, nat_lt, List, [], ◌∷◌, ◌++◌, map, ap, sym, arith}
use Rattle.std.proofs.lemmas.Bool.{lt-ltb, le-ltb}
use Rattle.std.proofs.lemmas.List.{append-nil, map-append}
use Rattle.derivation_writer.specs.Writing.{begun, shifted, written_by}
use Rattle.module_derivations.specs.FlatMarks.Flat as flat
use Rattle.module_derivations.specs.FlatMarks.Flat.{Mark, mark_of}
use Rattle.module_derivations.specs.Ahead.{chosen}

-- a rule's number, and a token's
rule_number : (p : ℕ) → p < 65536 → mark_of p ≡ flat.Rule p
rule_number p h =
    let below : nat_lt p 2147483648 ≡ true = lt-ltb p 2147483648 (omega (arith, h)) in
    ap (λ b. cond b (flat.Rule p) (flat.Token (p - 2147483648))) below

token_number : (i : ℕ) → mark_of (2147483648 + i) ≡ flat.Token i
token_number i =
    let above : nat_lt (2147483648 + i) 2147483648 ≡ false = le-ltb (2147483648 + i) 2147483648 (omega arith) in
    let back : 2147483648 + i - 2147483648 ≡ i = omega arith in
    ap (λ b. cond b (flat.Rule (2147483648 + i)) (flat.Token (2147483648 + i - 2147483648))) above ∙ ap (λ j. flat.Token j) back

pub one_rule : (place : ℕ) (numbers : List ℕ) (p : ℕ) → p < 65536 → chosen p ≡ true → written_by place (numbers ++ (p ∷ [])) ≡ begun (written_by place numbers) p
one_rule place numbers p h is =
    ap (λ ms. record { place = place; marks = ms }) (map-append mark_of numbers (p ∷ []))
    ∙ ap (λ m. record { place = place; marks = map mark_of numbers ++ (m ∷ []) }) (rule_number p h)
    ∙ ap (λ b. record { place = place; marks = map mark_of numbers ++ cond b (flat.Rule p ∷ []) [] }) (sym is)

pub one_token : (place : ℕ) (numbers : List ℕ) (k : ℕ) → k < 23 → written_by (place + 1) (numbers ++ ((2147483648 + place) ∷ [])) ≡ shifted (written_by place numbers) k
one_token place numbers k h =
    let below : nat_lt k 23 ≡ true = lt-ltb k 23 h in
    let next : place + 1 ≡ suc place = omega arith in
    ap (λ i. written_by i (numbers ++ ((2147483648 + place) ∷ []))) next
    ∙ ap (λ ms. record { place = suc place; marks = ms }) (map-append mark_of numbers ((2147483648 + place) ∷ []))
    ∙ ap (λ m. record { place = suc place; marks = map mark_of numbers ++ (m ∷ []) }) (token_number place)
    ∙ ap (λ b. record { place = suc place; marks = map mark_of numbers ++ cond b (flat.Token place ∷ []) [] }) (sym below)

pub no_token : (place : ℕ) (numbers : List ℕ) (k : ℕ) → (k < 23 → ⊥) → written_by (place + 1) numbers ≡ shifted (written_by place numbers) k
no_token place numbers k h =
    let above : nat_lt k 23 ≡ false = le-ltb k 23 (grind arith) in
    let next : place + 1 ≡ suc place = omega arith in
    ap (λ i. written_by i numbers) next
    ∙ ap (λ ms. record { place = suc place; marks = ms }) (sym (append-nil (map mark_of numbers)))
    ∙ ap (λ b. record { place = suc place; marks = map mark_of numbers ++ cond b (flat.Token place ∷ []) [] }) (sym above)
