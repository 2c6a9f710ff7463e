-- What a run over brackets keeps.
use Rattle.std.proofs.Common.{◌≡◌, ℕ, suc, ◌+◌, Bool, true, false, cond, nat_eq, List, [], ◌∷◌, ◌++◌, length, map, Some, None, refl, ap, sym, ◌∙◌, append_assoc, arith}
use Rattle.std.proofs.lemmas.Bool.{eq-eqb}
use Rattle.std.proofs.lemmas.List.{map-append}
use Rattle.module_grammar.specs.Balanced.{IsBalanced, nothing, token, parens, brackets, braces}
use Rattle.module_grammar.specs.Symbols.{Symbol, Bracket, Brace, close_brace, close_bracket, close_paren, kind_of, open_paren}
use Rattle.token_context.proofs.Classes.{plain_class}
use Rattle.token_context.specs.Brackets.{State, after, after_all, class_of, closing, moved}
use Rattle.token_context.specs.declared.brackets.Class.{Class}
use Rattle.token_context.specs.declared.brackets.Class.TheVariants.{Opens, Closes, Plain, Outside}
use Rattle.token_context.specs.declared.brackets.Opened.{Opened}

pub run_append : (ks js : List ℕ) (s : State) (place : ℕ) → after_all s place (ks ++ js) ≡ after_all (after_all s place ks) (place + length ks) js
run_append [] js s place = ap (λ p. after_all s p js) (omega arith)
run_append (k ∷ ks) js s place =
    run_append ks js (after s place k) (suc place) ∙ ap (λ p. after_all (after_all (after s place k) (suc place) ks) p js) (omega arith)

-- ---- the last token

closing_last : (k kind : ℕ) (os : List Opened) → (closing k kind os).last ≡ k
closing_last k kind [] = refl
closing_last k kind (o ∷ os) = go (nat_eq o.kind kind)
  where
    go : (b : Bool) → (cond {A = State} b (record { opened = os; closed = Some o; last = k }) (record { opened = []; closed = None; last = k })).last ≡ k
    go true = refl
    go false = refl

moved_last : (c : Class) (s : State) (place k : ℕ) → (moved c s place k).last ≡ k
moved_last Opens s place k = refl
moved_last (Closes kind) s place k = closing_last k kind s.opened
moved_last Plain s place k = refl
moved_last Outside s place k = refl

pub after_last : (s : State) (place k : ℕ) → (after s place k).last ≡ k
after_last s place k = moved_last (class_of k) s place k

-- ---- what is balanced

-- what is open stays so
abbrev pub Keeps : List ℕ → Type 0
Keeps ks = (s : State) (place : ℕ) → (after_all s place ks).opened ≡ s.opened

abbrev pub entered : State → ℕ → ℕ → Opened
entered s place o = record { place = place; kind = o; behind = s.last }

pub closes_it : (c o : ℕ) (e : Opened) (os rest : List Opened) → os ≡ e ∷ rest → e.kind ≡ o → closing c o os ≡ record { opened = rest; closed = Some e; last = c }
closes_it c o e os rest at same =
    ap (closing c o) at ∙ ap (λ b. cond b (record { opened = rest; closed = Some e; last = c }) (record { opened = []; closed = None; last = c })) (eq-eqb e.kind o same)

-- a pair, with something inside that leaves what is open
pub pair_runs :
    (o c : ℕ) (inside : List ℕ) → class_of o ≡ Opens → class_of c ≡ Closes o → Keeps inside
    → (s : State) (place : ℕ) → after_all s place (o ∷ (inside ++ (c ∷ []))) ≡ record { opened = s.opened; closed = Some (entered s place o); last = c }
pair_runs o c inside opens closes keeps s place =
    let t : State = after s place o in
    let u : State = after_all t (suc place) inside in
    let open_is : t ≡ record { opened = entered s place o ∷ s.opened; closed = None; last = o } = ap (λ x. moved x s place o) opens in
    let top : u.opened ≡ entered s place o ∷ s.opened = keeps t (suc place) ∙ ap (λ (x : State). x.opened) open_is in
    run_append inside (c ∷ []) t (suc place)
    ∙ ap (λ x. moved x u (suc place + length inside) c) closes
    ∙ closes_it c o (entered s place o) u.opened s.opened top refl

pair_keeps :
    (o c : Symbol) (inside more : List Symbol) → class_of (kind_of o) ≡ Opens → class_of (kind_of c) ≡ Closes (kind_of o) → Keeps (map kind_of inside)
    → Keeps (map kind_of more) → Keeps (map kind_of (o ∷ (inside ++ (c ∷ more))))
pair_keeps o c inside more opens closes first second s place =
    let row : List ℕ = kind_of o ∷ (map kind_of inside ++ (kind_of c ∷ [])) in
    let split : map kind_of (o ∷ (inside ++ (c ∷ more))) ≡ row ++ map kind_of more =
    ap (λ l. kind_of o ∷ l) (map-append kind_of inside (c ∷ more)) ∙ ap (λ l. kind_of o ∷ l) (sym (append_assoc (map kind_of inside) (kind_of c ∷ []) (map kind_of more))) in
    ap (λ l. (after_all s place l).opened) split
    ∙ ap (λ (x : State). x.opened) (run_append row (map kind_of more) s place)
    ∙ second (after_all s place row) (place + length row)
    ∙ ap (λ (x : State). x.opened) (pair_runs (kind_of o) (kind_of c) (map kind_of inside) opens closes first s place)

pub balanced_keeps : (tokens : List Symbol) → IsBalanced tokens → Keeps (map kind_of tokens)
balanced_keeps tokens nothing s place = refl
balanced_keeps tokens (token t more plain b) s place =
    let is : class_of (kind_of t) ≡ Plain = plain_class (kind_of t) plain in
    balanced_keeps more b (after s place (kind_of t)) (suc place) ∙ ap (λ x. (moved x s place (kind_of t)).opened) is
balanced_keeps tokens (parens inside more a b) s place =
    pair_keeps open_paren close_paren inside more refl refl (balanced_keeps inside a) (balanced_keeps more b) s place
balanced_keeps tokens (brackets at inside more a b) s place =
    pair_keeps (Bracket at) close_bracket inside more refl refl (balanced_keeps inside a) (balanced_keeps more b) s place
balanced_keeps tokens (braces at inside more a b) s place =
    pair_keeps (Brace at) close_brace inside more refl refl (balanced_keeps inside a) (balanced_keeps more b) s place
