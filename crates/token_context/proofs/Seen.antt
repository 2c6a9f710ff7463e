-- What a token is where it stands, by how what stands before it is read.
use Rattle.std.proofs.Common.{◌≡◌, ◌<◌, ℕ, suc, ◌+◌, Bool, true, false, cond, ◌&&◌, nat_eq, List, [], ◌∷◌, ◌++◌, length, map, reverse, Option, Some, None, refl, ap, sym, ◌∙◌, append_assoc, subst, arith, inl, inr}
use Rattle.std.proofs.lemmas.Bool.{eqb-false, eqb-true, ltb-true}
use Rattle.std.proofs.lemmas.List.{length-append, length-map, map-append}
use Rattle.ir_types.specs.declared.names.Name.{Name}
use Rattle.module_grammar.specs.Sets.{sets}
use Rattle.module_grammar.specs.Symbols.{Symbol, Global, Debug, close_paren, kind_of, open_paren, unnamed_addr, void}
use Rattle.module_grammar.specs.declared.places.Placed.{Placed}
use Rattle.module_spelling.specs.Context.{StandsBehind, StandsFor, called_number, declared_number}
use Rattle.module_spelling.specs.Faults.{IsDeepBehind}
use Rattle.predictive.specs.Predictive.{MayEnd}
use Rattle.token_context.proofs.Classes.{symbol_is}
use Rattle.token_context.proofs.Held.{Stands, closed_behind, closed_is, from_behind, stands, state, to_behind}
use Rattle.token_context.proofs.Readings.{deep, deep_not_whole, other_not_whole, whole, whole_not_deep}
use Rattle.token_context.specs.Brackets.{start}
use Rattle.token_context.specs.Readings.{IsRead, IsReadBehind, IsSeen, Reads, due, due_in_parens}
use Rattle.token_context.specs.declared.brackets.Opened.{Opened}
use Rattle.token_context.specs.declared.reading.Reading.{Reading}
use Rattle.token_context.specs.declared.reading.Reading.TheVariants.{Whole, Deep, Other}

-- ---- what stands in the pair is read

row_is :
    (opener a b : Symbol) (front inside done more : List Symbol) → done ≡ front ++ (opener ∷ a ∷ (inside ++ (b ∷ [])))
    → done ++ more ≡ (front ++ (opener ∷ [])) ++ (a ∷ (inside ++ (b ∷ more)))
row_is opener a b front inside done more e =
    ap (λ l. l ++ more) e
    ∙ append_assoc front (opener ∷ a ∷ (inside ++ (b ∷ []))) more
    ∙ ap (λ l. front ++ (opener ∷ a ∷ l)) (append_assoc inside (b ∷ []) more)
    ∙ sym (append_assoc front (opener ∷ []) (a ∷ (inside ++ (b ∷ more))))

kinds_are :
    (opener a b : Symbol) (front inside done more : List Symbol) → done ≡ front ++ (opener ∷ a ∷ (inside ++ (b ∷ [])))
    → map kind_of (done ++ more) ≡ map kind_of (front ++ (opener ∷ [])) ++ (kind_of a ∷ (map kind_of inside ++ (kind_of b ∷ map kind_of more)))
kinds_are opener a b front inside done more e =
    ap (map kind_of) (row_is opener a b front inside done more e)
    ∙ map-append kind_of (front ++ (opener ∷ [])) (a ∷ (inside ++ (b ∷ more)))
    ∙ ap (λ l. map kind_of (front ++ (opener ∷ [])) ++ (kind_of a ∷ l)) (map-append kind_of inside (b ∷ more))

length_is :
    (opener a b : Symbol) (front inside done : List Symbol) → done ≡ front ++ (opener ∷ a ∷ (inside ++ (b ∷ [])))
    → length done ≡ suc (length front) + suc (suc (length inside))
length_is opener a b front inside done e =
    let whole_length : length done ≡ length (front ++ (opener ∷ a ∷ (inside ++ (b ∷ [])))) = ap length e in
    let outer : length (front ++ (opener ∷ a ∷ (inside ++ (b ∷ [])))) ≡ length front + suc (suc (length (inside ++ (b ∷ [])))) =
    length-append front (opener ∷ a ∷ (inside ++ (b ∷ []))) in
    let inner : length (inside ++ (b ∷ [])) ≡ length inside + 1 = length-append inside (b ∷ []) in
    omega (arith, whole_length, outer, inner)

inside_read :
    (opener : Symbol) (n k : ℕ) (inside done more : List Symbol) (r : Reading)
    → IsReadBehind (state done).closed (map kind_of (done ++ more)) (length done) k r → due_in_parens (kind_of opener) k ≡ Some n
    → StandsBehind opener inside (reverse done) → Reads n (map kind_of inside) r
inside_read opener n k inside done more r h is behind =
    let st : Stands opener inside done = from_behind opener inside done behind in
    let pair : Opened = closed_behind st.front opener in
    let read : IsRead (due pair k) (map kind_of (done ++ more)) pair.place (length done) r =
    subst (λ o. IsReadBehind o (map kind_of (done ++ more)) (length done) k r) (closed_is opener inside done st) h in
    let at : IsRead (Some n) (map kind_of (done ++ more)) (suc (length st.front)) (length done) r =
    subst (λ o. IsRead o (map kind_of (done ++ more)) (suc (length st.front)) (length done) r) is read in
    let front_length : length (map kind_of (st.front ++ (opener ∷ []))) ≡ length st.front + 1 =
    length-map (st.front ++ (opener ∷ [])) kind_of ∙ length-append st.front (opener ∷ []) in
    let inside_length : length (map kind_of inside) ≡ length inside = length-map inside kind_of in
    let done_length : length done ≡ suc (length st.front) + suc (suc (length inside)) = length_is opener open_paren close_paren st.front inside done st.same in
    at (map kind_of (st.front ++ (opener ∷ []))) (map kind_of inside) (map kind_of more) (kind_of open_paren) (kind_of close_paren)
    (kinds_are opener open_paren close_paren st.front inside done more st.same)
    (omega (arith, front_length))
    (omega (arith, front_length, inside_length, done_length))

-- ---- where something is read, it stands there

abbrev Found : ℕ → Option Opened → Type 0
Found k closed = (pair : Opened) × (n : ℕ) × (closed ≡ Some pair) × (due pair k ≡ Some n)

found_due : (k end : ℕ) (kinds : List ℕ) (r : Reading) (pair : Opened) → (r ≡ Whole → ⊥) → IsRead (due pair k) kinds pair.place end r → Found k (Some pair)
found_due k end kinds r pair other h = go (due pair k) refl h
  where
    go : (o : Option ℕ) → due pair k ≡ o → IsRead o kinds pair.place end r → Found k (Some pair)
    go None is h = absurd (other h)
    go (Some n) is h = (pair, n, refl, is)

found : (k end : ℕ) (kinds : List ℕ) (r : Reading) (closed : Option Opened) → (r ≡ Whole → ⊥) → IsReadBehind closed kinds end k r → Found k closed
found k end kinds r None other h = absurd (other h)
found k end kinds r (Some pair) other h = found_due k end kinds r pair other h

in_parens : (pair : Opened) (k n : ℕ) → due pair k ≡ Some n → (pair.kind ≡ kind_of open_paren) × (due_in_parens pair.behind k ≡ Some n)
in_parens pair k n e = go (nat_eq pair.kind (kind_of open_paren)) refl e
  where
    go :
        (b : Bool) → nat_eq pair.kind (kind_of open_paren) ≡ b → cond b (due_in_parens pair.behind k) None ≡ Some n
        → (pair.kind ≡ kind_of open_paren) × (due_in_parens pair.behind k ≡ Some n)
    go true is e = (eqb-true pair.kind (kind_of open_paren) is, e)
    go false is e = cc

behind_void : (behind n : ℕ) → due_in_parens behind 1 ≡ Some n → behind ≡ kind_of void
behind_void behind n e = go (nat_eq behind (kind_of void)) refl e
  where
    go : (b : Bool) → nat_eq behind (kind_of void) ≡ b → cond b (Some called_number) None ≡ Some n → behind ≡ kind_of void
    go true is e = eqb-true behind (kind_of void) is
    go false is e = cc

behind_debug : (behind n : ℕ) → due_in_parens behind (kind_of unnamed_addr) ≡ Some n → behind ≡ 2
behind_debug behind n e = go (nat_eq behind 2) refl e
  where
    go : (b : Bool) → nat_eq behind 2 ≡ b → cond b (Some declared_number) None ≡ Some n → behind ≡ 2
    go true is e = eqb-true behind 2 is
    go false is e = cc

not_first : (behind k : ℕ) → behind ≡ k → (start.last ≡ k → ⊥) → start.last ≡ behind → ⊥
not_first behind k e other h = other (h ∙ e)

found_types :
    (done : List Symbol) (kinds : List ℕ) (end : ℕ) (r : Reading) → (r ≡ Whole → ⊥) → IsReadBehind (state done).closed kinds end 1 r
    → (inside : List Symbol) × StandsBehind void inside (reverse done)
found_types done kinds end r other h =
    let f = found 1 end kinds r (state done).closed other h in
    let parens = in_parens f.0 1 f.1 f.3 in
    let is : f.0.behind ≡ kind_of void = behind_void f.0.behind f.1 parens.1 in
    let st = stands done f.0 f.2 parens.0 (not_first f.0.behind (kind_of void) is (λ e. absurd (omega (arith, e)))) in
    let x = symbol_is (kind_of void) st.0 (st.3 ∙ is) in
    (st.1, subst (λ s. StandsBehind s st.1 (reverse done)) (sym x.1) (to_behind st.0 st.1 done st.2))

found_params :
    (done : List Symbol) (kinds : List ℕ) (end : ℕ) (r : Reading) → (r ≡ Whole → ⊥) → IsReadBehind (state done).closed kinds end (kind_of unnamed_addr) r
    → (x : Placed Name) × (inside : List Symbol) × StandsBehind (Debug x) inside (reverse done)
found_params done kinds end r other h =
    let f = found (kind_of unnamed_addr) end kinds r (state done).closed other h in
    let parens = in_parens f.0 (kind_of unnamed_addr) f.1 f.3 in
    let is : f.0.behind ≡ 2 = behind_debug f.0.behind f.1 parens.1 in
    let st = stands done f.0 f.2 parens.0 (not_first f.0.behind 2 is (λ e. absurd (omega (arith, e)))) in
    let x = symbol_is 2 st.0 (st.3 ∙ is) in
    (x.0, st.1, subst (λ s. StandsBehind s st.1 (reverse done)) (sym x.1) (to_behind st.0 st.1 done st.2))

-- ---- a name

called_small : 38 < 92
called_small = ltb-true 38 92 refl

called_may : MayEnd sets 38
called_may = (ltb-true 38 94 refl, refl)

seen_global :
    (x : Placed Name) (done more : List Symbol) (r : Reading) → IsReadBehind (state done).closed (map kind_of (done ++ more)) (length done) 1 r
    → IsSeen (reverse done) (Global x) r
seen_global x done more Whole h = (
  inl (λ u. u.2 (whole 38 called_small called_may u.0 (inside_read void 38 1 u.0 done more Whole h refl u.1)), refl),
  λ d. whole_not_deep 38 called_small called_may d.inside (inside_read void 38 1 d.inside done more Whole h refl d.stands) d.derivation d.formed d.same d.index d.passes,
)
seen_global x done more Deep h =
    let f = found_types done (map kind_of (done ++ more)) (length done) Deep (λ e. cc) h in
    let read = inside_read void 38 1 f.0 done more Deep h refl f.1 in
    let d = deep 38 called_small called_may f.0 read in (
      inr ((f.0, f.1, deep_not_whole 38 called_small called_may f.0 read), refl),
      record { inside = f.0; stands = f.1; tree = d.tree; written = d.written; derivation = d.derivation; formed = d.formed; same = d.same; index = d.index; passes = d.passes },
    )
seen_global x done more Other h =
    let f = found_types done (map kind_of (done ++ more)) (length done) Other (λ e. cc) h in
    let read = inside_read void 38 1 f.0 done more Other h refl f.1 in (
      inr ((f.0, f.1, other_not_whole 38 called_small called_may f.0 read), refl),
      λ d. inside_read void 38 1 d.inside done more Other h refl d.stands d.derivation d.formed d.same,
    )

-- ---- `unnamed_addr`

declared_small : 7 < 92
declared_small = ltb-true 7 92 refl

declared_may : MayEnd sets 7
declared_may = (ltb-true 7 94 refl, refl)

seen_addr :
    (done more : List Symbol) (r : Reading) → IsReadBehind (state done).closed (map kind_of (done ++ more)) (length done) (kind_of unnamed_addr) r
    → IsSeen (reverse done) unnamed_addr r
seen_addr done more Whole h = (
  inl (
    refl,
    inl (λ u. u.3 (whole 7 declared_small declared_may u.1 (inside_read (Debug u.0) 7 (kind_of unnamed_addr) u.1 done more Whole h refl u.2)), refl),
  ),
  λ d.
      whole_not_deep 7 declared_small declared_may d.1.1.inside (inside_read (Debug d.1.0) 7 (kind_of unnamed_addr) d.1.1.inside done more Whole h refl d.1.1.stands)
      d.1.1.derivation d.1.1.formed d.1.1.same d.1.1.index d.1.1.passes,
)
seen_addr done more Deep h =
    let f = found_params done (map kind_of (done ++ more)) (length done) Deep (λ e. cc) h in
    let read = inside_read (Debug f.0) 7 (kind_of unnamed_addr) f.1 done more Deep h refl f.2 in
    let d = deep 7 declared_small declared_may f.1 read in (
      inl (refl, inr ((f.0, f.1, f.2, deep_not_whole 7 declared_small declared_may f.1 read), refl)),
      (
        refl,
        (
          f.0,
          record { inside = f.1; stands = f.2; tree = d.tree; written = d.written; derivation = d.derivation; formed = d.formed; same = d.same; index = d.index; passes = d.passes },
        ),
      ),
    )
seen_addr done more Other h =
    let f = found_params done (map kind_of (done ++ more)) (length done) Other (λ e. cc) h in
    let read = inside_read (Debug f.0) 7 (kind_of unnamed_addr) f.1 done more Other h refl f.2 in (
      inl (refl, inr ((f.0, f.1, f.2, other_not_whole 7 declared_small declared_may f.1 read), refl)),
      λ d.
          inside_read (Debug d.1.0) 7 (kind_of unnamed_addr) d.1.1.inside done more Other h refl d.1.1.stands d.1.1.derivation d.1.1.formed d.1.1.same,
    )

-- ---- another token

other_stands : (before : List Symbol) (s : Symbol) → (kind_of s ≡ 1 → ⊥) → (kind_of s ≡ kind_of unnamed_addr → ⊥) → StandsFor before s s
other_stands before (Global x) other addr = absurd (other refl)
other_stands before s other addr = inr (addr, refl)

other_not_deep : (before : List Symbol) (s : Symbol) → (kind_of s ≡ 1 → ⊥) → (kind_of s ≡ kind_of unnamed_addr → ⊥) → IsDeepBehind before s → ⊥
other_not_deep before (Global x) other addr d = absurd (other refl)
other_not_deep before s other addr d = addr d.0

nothing_due : (k : ℕ) (pair : Opened) → nat_eq k 1 ≡ false → nat_eq k (kind_of unnamed_addr) ≡ false → due pair k ≡ None
nothing_due k pair e f =
    ap (λ a. cond (nat_eq pair.kind (kind_of open_paren)) (cond (a && nat_eq pair.behind (kind_of void)) (Some called_number) (cond (nat_eq k (kind_of unnamed_addr) && nat_eq pair.behind 2) (Some declared_number) None)) None) e
    ∙ ap (λ a. cond (nat_eq pair.kind (kind_of open_paren)) (cond (a && nat_eq pair.behind 2) (Some declared_number) None) None) f
    ∙ go (nat_eq pair.kind (kind_of open_paren))
  where
    go : (b : Bool) → cond {A = Option ℕ} b None None ≡ None
    go true = refl
    go false = refl

whole_read :
    (closed : Option Opened) (kinds : List ℕ) (end k : ℕ) (r : Reading) → nat_eq k 1 ≡ false → nat_eq k (kind_of unnamed_addr) ≡ false
    → IsReadBehind closed kinds end k r → r ≡ Whole
whole_read None kinds end k r e f h = h
whole_read (Some pair) kinds end k r e f h = subst (λ o. IsRead o kinds pair.place end r) (nothing_due k pair e f) h

-- ---- each token

pub seen :
    (done more : List Symbol) (s : Symbol) (r : Reading) → IsReadBehind (state done).closed (map kind_of (done ++ more)) (length done) (kind_of s) r
    → IsSeen (reverse done) s r
seen done more s r h = go (nat_eq (kind_of s) 1) (nat_eq (kind_of s) (kind_of unnamed_addr)) refl refl
  where
    go : (a b : Bool) → nat_eq (kind_of s) 1 ≡ a → nat_eq (kind_of s) (kind_of unnamed_addr) ≡ b → IsSeen (reverse done) s r
    go true b e f =
        let is : kind_of s ≡ 1 = eqb-true (kind_of s) 1 e in
        let x = symbol_is 1 s is in
        subst (λ t. IsSeen (reverse done) t r) x.1 (seen_global x.0 done more r (subst (λ k. IsReadBehind (state done).closed (map kind_of (done ++ more)) (length done) k r) is h))
    go false true e f =
        let is : kind_of s ≡ kind_of unnamed_addr = eqb-true (kind_of s) (kind_of unnamed_addr) f in
        let x = symbol_is (kind_of unnamed_addr) s is in
        subst (λ t. IsSeen (reverse done) t r) x.1 (seen_addr done more r (subst (λ k. IsReadBehind (state done).closed (map kind_of (done ++ more)) (length done) k r) is h))
    go false false e f =
        subst (λ q. IsSeen (reverse done) s q) (sym (whole_read (state done).closed (map kind_of (done ++ more)) (length done) (kind_of s) r e f h))
        (other_stands (reverse done) s (eqb-false (kind_of s) 1 e) (eqb-false (kind_of s) (kind_of unnamed_addr) f), other_not_deep (reverse done) s (eqb-false (kind_of s) 1 e) (eqb-false (kind_of s) (kind_of unnamed_addr) f))
