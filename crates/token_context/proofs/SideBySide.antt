-- What tokens are where they stand if no parentheses matter.
use Rattle.std.proofs.Common.{◌≡◌, ◌↔◌, ◌⊎◌, IsTrue, ◌||◌, ◌&&◌, ◌<◌, ℕ, zero, suc, Bool, true, false, nat_eq, List, [], ◌∷◌, ◌++◌, length, map, reverse, take, Some, refl, ap, sym, ◌∙◌, append_assoc, subst, arith, inl, inr}
use Rattle.std.proofs.lemmas.Bool.{eqb-false, eqb-true}
use Rattle.std.proofs.lemmas.List.{length-map, map-append, reverse-append}
use Rattle.std.proofs.lemmas.Option.{slice_get_within}
use Rattle.std.specs.List.{slice_get}
use Rattle.ir_types.specs.declared.names.Name.{Name}
use Rattle.module_grammar.specs.Symbols.{Symbol, Debug, Global, close_paren, kind_of, open_paren, unnamed_addr, void}
use Rattle.module_grammar.specs.declared.places.Placed.{Placed}
use Rattle.module_spelling.specs.Context.{AreBehind, StandsBehind, StandsFor, all_seen}
use Rattle.module_spelling.specs.Faults.{IsDeepAt, IsDeepBehind}
use Rattle.token_context.proofs.Classes.{symbol_is}
use Rattle.token_context.proofs.Contexts.{not_within, seen_itself}
use Rattle.token_context.proofs.Held.{Stands, from_behind}
use Rattle.token_context.proofs.Steps.{At, at}
use Rattle.token_context.specs.Readings.{IsContext}
use Rattle.token_context.specs.SideBySide.{AreSideBySide, DoParensMatter, HaveParens}

-- ---- side by side in a row, by its first token

none_in_none : (first second : ℕ) → AreSideBySide first second [] → ⊥
none_in_none first second h = go h.before h.same
  where
    go : (before : List ℕ) → [] ≡ before ++ (first ∷ second ∷ h.behind) → ⊥
    go [] e = cc
    go (x ∷ before) e = cc

-- tokens of these kinds stand side by side at the front
abbrev BeginSo : ℕ → ℕ → List ℕ → Type 0
BeginSo first second kinds = (behind : List ℕ) × (kinds ≡ first ∷ second ∷ behind)

in_front : (first second : ℕ) (ks : List ℕ) → BeginSo first second ks → AreSideBySide first second ks
in_front first second ks h = record { before = []; behind = h.0; same = h.1 }

-- where they don't stand at the front, they stand behind the first token, if anywhere
behind_first :
    (first second k : ℕ) (all ks : List ℕ) → all ≡ k ∷ ks → (BeginSo first second all → ⊥) → AreSideBySide first second all ↔ AreSideBySide first second ks
behind_first first second k all ks is none =
    (λ h. go h.before h.behind (sym is ∙ h.same), λ h. record { before = k ∷ h.before; behind = h.behind; same = is ∙ ap (λ l. k ∷ l) h.same })
  where
    go : (before behind : List ℕ) → (k ∷ ks) ≡ before ++ (first ∷ second ∷ behind) → AreSideBySide first second ks
    go [] behind e = absurd (none (behind, is ∙ e))
    go (x ∷ before) behind e =
        let more : ks ≡ before ++ (first ∷ second ∷ behind) = cc in
        record { before = before; behind = behind; same = more }

-- ---- told of a row from its front

-- they stand side by side if it is told already that they do, or in the rest
abbrev pub IsToldOf : ℕ → ℕ → List ℕ → Bool → List ℕ → Type 0
IsToldOf first second all told rest = AreSideBySide first second all ↔ (IsTrue told ⊎ AreSideBySide first second rest)

untold : (X : Type 0) → IsTrue false ⊎ X → X
untold X (inl e) = let none : false ≡ true = e in cc
untold X (inr x) = x

-- where a token of another kind stands in front of them all
pub told_first : (first second k : ℕ) (all : List ℕ) → nat_eq k first ≡ false → IsToldOf first second all false (k ∷ all)
told_first first second k all other =
    let same = behind_first first second k (k ∷ all) all refl (λ b. let is : k ≡ first = cc (b.1) in eqb-false k first other is) in
    (λ s. inr (same.1 s), λ t. same.0 (untold (AreSideBySide first second (k ∷ all)) t))

-- a token further
pub told_further :
    (first second : ℕ) (all : List ℕ) (told : Bool) (k next : ℕ) (left rest : List ℕ) → left ≡ next ∷ rest → IsToldOf first second all told (k ∷ left)
    → IsToldOf first second all (told || (nat_eq k first && nat_eq next second)) (next ∷ rest)
told_further first second all told k next left rest is h = go told (nat_eq k first) (nat_eq next second) refl refl h
  where
    later : IsToldOf first second all false (k ∷ left) → (BeginSo first second (k ∷ left) → ⊥) → IsToldOf first second all false (next ∷ rest)
    later h none =
        let same = behind_first first second k (k ∷ left) left refl none in (
          λ s. inr (subst (AreSideBySide first second) is (same.0 (untold (AreSideBySide first second (k ∷ left)) (h.0 s)))),
          λ t. h.1 (inr (same.1 (subst (AreSideBySide first second) (sym is) (untold (AreSideBySide first second (next ∷ rest)) t)))),
        )

    go :
        (told a b : Bool) → nat_eq k first ≡ a → nat_eq next second ≡ b → IsToldOf first second all told (k ∷ left)
        → IsToldOf first second all (told || (a && b)) (next ∷ rest)
    go true a b e f h = (λ s. inl refl, λ s. h.1 (inl refl))
    go false true true e f h =
        let one : k ≡ first = eqb-true k first e in
        let other : next ≡ second = eqb-true next second f in
        let row : k ∷ left ≡ first ∷ second ∷ rest = cc in
        (λ s. inl refl, λ s. h.1 (inr (in_front first second (k ∷ left) (rest, row))))
    go false true false e f h = later h (λ b. let other : next ≡ second = cc (b.1, is) in eqb-false next second f other)
    go false false b e f h = later h (λ b. let one : k ≡ first = cc (b.1) in eqb-false k first e one)

-- and where none is left
pub told_all :
    (first second : ℕ) (all : List ℕ) (told : Bool) (last : ℕ) (left : List ℕ) → left ≡ [] → IsToldOf first second all told (last ∷ left)
    → IsTrue told ↔ AreSideBySide first second all
told_all first second all told last left none h = (λ t. h.1 (inl t), λ s. go (h.0 s))
  where
    alone : (before behind : List ℕ) → (last ∷ left) ≡ before ++ (first ∷ second ∷ behind) → ⊥
    alone [] behind e = cc
    alone (x ∷ before) behind e =
        let more : [] ≡ before ++ (first ∷ second ∷ behind) = cc in
        none_in_none first second (record { before = before; behind = behind; same = more })

    go : IsTrue told ⊎ AreSideBySide first second (last ∷ left) → IsTrue told
    go (inl t) = t
    go (inr s) = absurd (alone s.before s.behind s.same)

-- no parentheses matter where it is told so
pub none_matter : (ks : List ℕ) (answer : Bool) → answer ≡ false → (DoParensMatter ks → IsTrue answer) → DoParensMatter ks → ⊥
none_matter ks answer untrue told h = let yes : answer ≡ true = told h in cc

-- ---- parentheses

side_by_side : (x y : Symbol) (before behind : List Symbol) (symbols : List Symbol) → symbols ≡ before ++ (x ∷ y ∷ behind) → AreSideBySide (kind_of x) (kind_of y) (map kind_of symbols)
side_by_side x y before behind symbols e =
    record { before = map kind_of before; behind = map kind_of behind; same = ap (map kind_of) e ∙ map-append kind_of before (x ∷ y ∷ behind) }

-- parentheses between two tokens
pub parens_between :
    (opener follower : Symbol) (before inside behind symbols : List Symbol)
    → symbols ≡ before ++ (opener ∷ open_paren ∷ (inside ++ (close_paren ∷ follower ∷ behind)))
    → HaveParens (kind_of opener) (kind_of follower) (map kind_of symbols)
parens_between opener follower before inside behind symbols e = (
  side_by_side opener open_paren before (inside ++ (close_paren ∷ follower ∷ behind)) symbols e,
  side_by_side close_paren follower (before ++ (opener ∷ open_paren ∷ inside)) behind symbols
      (e ∙ sym (append_assoc before (opener ∷ open_paren ∷ inside) (close_paren ∷ follower ∷ behind))),
)

-- and those that stand before a token
parens_behind :
    (opener s : Symbol) (inside done more : List Symbol) → StandsBehind opener inside (reverse done)
    → HaveParens (kind_of opener) (kind_of s) (map kind_of (done ++ (s ∷ more)))
parens_behind opener s inside done more h =
    let st : Stands opener inside done = from_behind opener inside done h in
    parens_between opener s st.front inside more (done ++ (s ∷ more))
    (
    ap (λ l. l ++ (s ∷ more)) st.same
    ∙ append_assoc st.front (opener ∷ open_paren ∷ (inside ++ (close_paren ∷ []))) (s ∷ more)
    ∙ ap (λ l. st.front ++ (opener ∷ open_paren ∷ l)) (append_assoc inside (close_paren ∷ []) (s ∷ more))
    )

-- ---- each token is itself

abbrev pub IsItself : List Symbol → Symbol → Type 0
IsItself before s = StandsFor before s s × (IsDeepBehind before s → ⊥)

itself :
    (done more : List Symbol) (s : Symbol) → (DoParensMatter (map kind_of (done ++ (s ∷ more))) → ⊥) → IsItself (reverse done) s
itself done more s none = go s (nat_eq (kind_of s) 1) (nat_eq (kind_of s) (kind_of unnamed_addr)) refl refl none
  where
    named : (x : Placed Name) → (DoParensMatter (map kind_of (done ++ (Global x ∷ more))) → ⊥) → IsItself (reverse done) (Global x)
    named x none = (
      inl (λ u. none (inl (parens_behind void (Global x) u.0 done more u.1)), refl),
      λ d. none (inl (parens_behind void (Global x) d.inside done more d.stands)),
    )

    addr : (DoParensMatter (map kind_of (done ++ (unnamed_addr ∷ more))) → ⊥) → IsItself (reverse done) unnamed_addr
    addr none = (
      inl (refl, inl (λ u. none (inr (parens_behind (Debug u.0) unnamed_addr u.1 done more u.2)), refl)),
      λ d. none (inr (parens_behind (Debug d.1.0) unnamed_addr d.1.1.inside done more d.1.1.stands)),
    )

    other_stands : (s : Symbol) → (kind_of s ≡ 1 → ⊥) → (kind_of s ≡ kind_of unnamed_addr → ⊥) → IsItself (reverse done) s
    other_stands (Global x) other addr = absurd (other refl)
    other_stands s other addr = (inr (addr, refl), λ d. addr d.0)

    go :
        (s : Symbol) (a b : Bool) → nat_eq (kind_of s) 1 ≡ a → nat_eq (kind_of s) (kind_of unnamed_addr) ≡ b
        → (DoParensMatter (map kind_of (done ++ (s ∷ more))) → ⊥) → IsItself (reverse done) s
    go s true b e f none =
        let x = symbol_is 1 s (eqb-true (kind_of s) 1 e) in
        subst (λ t. (DoParensMatter (map kind_of (done ++ (t ∷ more))) → ⊥) → IsItself (reverse done) t) x.1 (named x.0) none
    go s false true e f none =
        let x = symbol_is (kind_of unnamed_addr) s (eqb-true (kind_of s) (kind_of unnamed_addr) f) in
        subst (λ t. (DoParensMatter (map kind_of (done ++ (t ∷ more))) → ⊥) → IsItself (reverse done) t) x.1 addr none
    go s false false e f none = other_stands s (eqb-false (kind_of s) 1 e) (eqb-false (kind_of s) (kind_of unnamed_addr) f)

all_stand : (done more : List Symbol) → (DoParensMatter (map kind_of (done ++ more)) → ⊥) → AreBehind (reverse done) more more
all_stand done [] none = tt
all_stand done (s ∷ more) none =
    let turned : reverse (done ++ (s ∷ [])) ≡ s ∷ reverse done = reverse-append done (s ∷ []) in
    let row : (done ++ (s ∷ [])) ++ more ≡ done ++ (s ∷ more) = append_assoc done (s ∷ []) more in (
      (itself done more s none).0,
      subst (λ b. AreBehind b more more) turned
          (all_stand (done ++ (s ∷ [])) more (λ h. none (subst (λ l. DoParensMatter (map kind_of l)) row h))),
    )

all_seen_so : (own : List Symbol) → all_seen own (map kind_of own) ≡ own
all_seen_so [] = refl
all_seen_so (s ∷ own) = ap (λ t. t ∷ all_seen own (map kind_of own)) (seen_itself s) ∙ ap (λ l. s ∷ l) (all_seen_so own)

got_is : (own : List Symbol) (k : ℕ) (s : Symbol) (rest : List Symbol) → own ≡ take k own ++ (s ∷ rest) → length (take k own) ≡ k → slice_get own k ≡ Some s
got_is own k s rest e n = ap (λ l. slice_get l k) e ∙ get_behind (take k own) k n
  where
    get_behind : (front : List Symbol) (k : ℕ) → length front ≡ k → slice_get (front ++ (s ∷ rest)) k ≡ Some s
    get_behind [] zero n = refl
    get_behind [] (suc k) n = let none : 0 ≡ suc k = n in absurd (omega (arith, none))
    get_behind (x ∷ front) zero n = let some : suc (length front) ≡ 0 = n in absurd (omega (arith, some))
    get_behind (x ∷ front) (suc k) n = let fewer : suc (length front) ≡ suc k = n in get_behind front k (omega (arith, fewer))

none_deep : (own : List Symbol) → (DoParensMatter (map kind_of own) → ⊥) → (k : ℕ) → IsDeepAt own k → ⊥
none_deep own none k h =
    let within : k < length own = slice_get_within own k h.0 h.1 in
    let a : At own k = at own k within in
    let got : Some h.0 ≡ Some a.token = sym h.1 ∙ got_is own k a.token a.rest a.all a.long in
    let same : h.0 ≡ a.token = cc in
    (itself (take k own) a.rest a.token (λ m. none (subst (λ l. DoParensMatter (map kind_of l)) (sym a.all) m))).1
    (subst (λ s. IsDeepBehind (reverse (take k own)) s) same h.2)

-- where no parentheses matter tokens are by themselves what they are where they stand
pub by_themselves : (own : List Symbol) (kinds : List ℕ) → (DoParensMatter kinds → ⊥) → map kind_of own ≡ kinds → IsContext own kinds []
by_themselves own kinds none e =
    let seen : all_seen own (map kind_of own) ≡ own = all_seen_so own in
    let unmatched : DoParensMatter (map kind_of own) → ⊥ = λ m. none (subst DoParensMatter e m) in
    subst (λ ks. IsContext own ks [])
    e
    (record {
      stand = subst (λ l. AreBehind [] own l) (sym seen) (all_stand [] own unmatched);
      are_kinds = (length-map own kind_of, ap (map kind_of) seen);
      deep = λ k. (λ h. not_within k h, λ h. absurd (none_deep own unmatched k h));
    })
