-- The pair of brackets that closes before a token.
use Rattle.std.proofs.Common.{◌≡◌, ◌≤◌, ◌<◌, ℕ, suc, ◌+◌, Bool, true, false, cond, ◌&&◌, nat_eq, List, [], ◌∷◌, ◌++◌, length, map, take, drop, get_or, Option, Some, None, refl, ap, sym, ◌∙◌, append_assoc, subst, arith}
use Rattle.std.proofs.Math.Seq.{take-append_seam}
use Rattle.std.proofs.lemmas.Bool.{eq-eqb, eqb-true}
use Rattle.std.proofs.lemmas.List.{length-append, length-take-le, take-append-drop, take-map}
use Rattle.module_grammar.specs.Symbols.{Symbol, Debug, close_paren, kind_of, open_paren, unnamed_addr}
use Rattle.ir_types.specs.declared.names.Name.{Name}
use Rattle.module_grammar.specs.declared.places.Placed.{Placed}
use Rattle.token_context.proofs.NameSurroundings.Parts.{get_at, item_at}
use Rattle.token_context.specs.NameSurroundings.Between.{Between, end_of, pair_if}
use Rattle.token_context.proofs.Classes.{symbol_is}
use Rattle.token_context.proofs.Held.{IsClosed, Stands, closed_behind, closed_is, known, stands, state}
use Rattle.token_context.specs.Brackets.{after_all, start}
use Rattle.token_context.specs.declared.brackets.Opened.{Opened}

-- ---- the pair that is looked at

pub pair_given :
    (opener follower kind : ℕ) (closed : Option Opened) (pair : Opened) → pair_if opener follower kind closed ≡ Some pair
    → (closed ≡ Some pair) × (kind ≡ follower) × (pair.kind ≡ kind_of open_paren) × (pair.behind ≡ opener)
pair_given opener follower kind None pair e = cc
pair_given opener follower kind (Some p) pair e = go (nat_eq kind follower) refl (nat_eq p.kind (kind_of open_paren)) refl (nat_eq p.behind opener) refl e
  where
    go :
        (a : Bool) → nat_eq kind follower ≡ a → (b : Bool) → nat_eq p.kind (kind_of open_paren) ≡ b → (d : Bool) → nat_eq p.behind opener ≡ d
        → cond (a && (b && d)) (Some p) None ≡ Some pair
        → (Some p ≡ Some pair) × (kind ≡ follower) × (pair.kind ≡ kind_of open_paren) × (pair.behind ≡ opener)
    go true k true o true b e =
        let same : p ≡ pair = cc in (
          e,
          eqb-true kind follower k,
          ap (λ (q : Opened). q.kind) (sym same) ∙ eqb-true p.kind (kind_of open_paren) o,
          ap (λ (q : Opened). q.behind) (sym same) ∙ eqb-true p.behind opener b,
        )
    go false k b o d q e = cc
    go true k false o d q e = cc
    go true k true o false q e = cc

pub pair_is :
    (opener follower kind : ℕ) (closed : Option Opened) (pair : Opened) → closed ≡ Some pair → kind ≡ follower → pair.kind ≡ kind_of open_paren
    → pair.behind ≡ opener → pair_if opener follower kind closed ≡ Some pair
pair_is opener follower kind closed pair is k o b =
    ap (pair_if opener follower kind) is
    ∙ ap (λ x. cond (x && (nat_eq pair.kind (kind_of open_paren) && nat_eq pair.behind opener)) (Some pair) None) (eq-eqb kind follower k)
    ∙ ap (λ x. cond (x && nat_eq pair.behind opener) (Some pair) None) (eq-eqb pair.kind (kind_of open_paren) o)
    ∙ ap (λ x. cond x (Some pair) None) (eq-eqb pair.behind opener b)

-- ---- the pair that closes, by the tokens before

closed_at : (symbols : List Symbol) (place : ℕ) → (after_all start 0 (take place (map kind_of symbols))).closed ≡ (state (take place symbols)).closed
closed_at symbols place = ap (λ ks. (after_all start 0 ks).closed) (take-map kind_of place symbols)

-- the tokens of a pair that closes directly before this index
pub record PairStands (symbols : List Symbol) (place : ℕ) (pair : Opened) : Type 0 where
  pub front : List Symbol
  pub opener : Symbol
  pub inside : List Symbol
  pub closer : Symbol
  pub rest : List Symbol
  pub same : symbols ≡ front ++ (opener ∷ (inside ++ (closer ∷ rest)))
  pub from : pair.place ≡ length front
  pub to : place ≡ length front + suc (suc (length inside))

pub pair_stands :
    (symbols : List Symbol) (place : ℕ) (closed : Option Opened) (pair : Opened) → place ≤ length symbols
    → closed ≡ (after_all start 0 (take place (map kind_of symbols))).closed → closed ≡ Some pair → PairStands symbols place pair
pair_stands symbols place closed pair within is e =
    go (subst (λ o. IsClosed o (take place symbols)) (sym (closed_at symbols place) ∙ sym is ∙ e) (known (take place symbols)).1)
  where
    go : IsClosed (Some pair) (take place symbols) → PairStands symbols place pair
    go h =
        let row : List Symbol = h.2 ++ (h.3 ∷ []) in
        let outer : length (h.0 ++ (h.1 ∷ row)) ≡ length h.0 + suc (length row) = length-append h.0 (h.1 ∷ row) in
        let inner : length row ≡ length h.2 + 1 = length-append h.2 (h.3 ∷ []) in
        let long : length (take place symbols) ≡ place = length-take-le place symbols within in
        let whole : length (take place symbols) ≡ length (h.0 ++ (h.1 ∷ row)) = ap length h.4 in
        record {
          front = h.0;
          opener = h.1;
          inside = h.2;
          closer = h.3;
          rest = drop place symbols;
          same =
              sym (take-append-drop place symbols) ∙ ap (λ l. l ++ drop place symbols) h.4 ∙ append_assoc h.0 (h.1 ∷ row) (drop place symbols)
              ∙ ap (λ l. h.0 ++ (h.1 ∷ l)) (append_assoc h.2 (h.3 ∷ []) (drop place symbols));
          from = ap (λ (p : Opened). p.place) h.5;
          to = omega (arith, outer, inner, long, whole);
        }

-- ---- what stands between is the pair's

pub front_is :
    (opener follower : Symbol) (symbols inside : List Symbol) (at : ℕ) (b : Between opener follower symbols inside at)
    → (symbols ≡ (b.before ++ (opener ∷ open_paren ∷ (inside ++ (close_paren ∷ [])))) ++ (follower ∷ b.behind))
    × (end_of at inside ≡ length (b.before ++ (opener ∷ open_paren ∷ (inside ++ (close_paren ∷ [])))))
front_is opener follower symbols inside at b =
    let row : List Symbol = inside ++ (close_paren ∷ []) in
    let outer : length (b.before ++ (opener ∷ open_paren ∷ row)) ≡ length b.before + suc (suc (length row)) = length-append b.before (opener ∷ open_paren ∷ row) in
    let inner : length row ≡ length inside + 1 = length-append inside (close_paren ∷ []) in
    let index = b.index in (
      b.same ∙ ap (λ l. b.before ++ (opener ∷ open_paren ∷ l)) (sym (append_assoc inside (close_paren ∷ []) (follower ∷ b.behind)))
          ∙ sym (append_assoc b.before (opener ∷ open_paren ∷ row) (follower ∷ b.behind)),
      omega (arith, outer, inner, index),
    )

abbrev stands_in :
    (opener follower : Symbol) (symbols inside : List Symbol) (at : ℕ) (b : Between opener follower symbols inside at)
    → Stands opener inside (take (end_of at inside) symbols)
stands_in opener follower symbols inside at b =
    let done : List Symbol = b.before ++ (opener ∷ open_paren ∷ (inside ++ (close_paren ∷ []))) in
    let f = front_is opener follower symbols inside at b in
    record {
      front = b.before;
      same = ap (λ l. take (end_of at inside) l) f.0 ∙ ap (λ n. take n (done ++ (follower ∷ b.behind))) f.1 ∙ take-append_seam done (follower ∷ b.behind);
      balanced = b.balanced;
    }

pub closed_between :
    (opener follower : Symbol) (symbols inside : List Symbol) (at : ℕ) (b : Between opener follower symbols inside at) (closed : Option Opened) (place : ℕ)
    → end_of at inside ≡ place → closed ≡ (after_all start 0 (take place (map kind_of symbols))).closed → closed ≡ Some (closed_behind b.before opener)
closed_between opener follower symbols inside at b closed place e is =
    is ∙ closed_at symbols place ∙ ap (λ n. (state (take n symbols)).closed) (sym e)
    ∙ closed_is opener inside (take (end_of at inside) symbols) (stands_in opener follower symbols inside at b)

-- the kind of what stands behind
pub kind_behind :
    (opener follower : Symbol) (symbols inside : List Symbol) (at : ℕ) → Between opener follower symbols inside at → (place : ℕ)
    → end_of at inside ≡ place → get_or (map kind_of symbols) place 0 ≡ kind_of follower
kind_behind opener follower symbols inside at b place e =
    let done : List Symbol = b.before ++ (opener ∷ open_paren ∷ (inside ++ (close_paren ∷ []))) in
    let f = front_is opener follower symbols inside at b in
    ap (λ l. get_or (map kind_of l) place 0) f.0 ∙ ap (λ n. get_or (map kind_of (done ++ (follower ∷ b.behind))) n 0) (sym e ∙ f.1)
    ∙ get_at kind_of done b.behind follower

-- it is the pair that is looked at
pub looked_at :
    (opener follower : Symbol) (symbols inside : List Symbol) (at : ℕ) (b : Between opener follower symbols inside at) (closed : Option Opened) (place kind : ℕ)
    → end_of at inside ≡ place → kind ≡ get_or (map kind_of symbols) place 0 → closed ≡ (after_all start 0 (take place (map kind_of symbols))).closed
    → pair_if (kind_of opener) (kind_of follower) kind closed ≡ Some (closed_behind b.before opener)
looked_at opener follower symbols inside at b closed place kind e k is =
    pair_is (kind_of opener) (kind_of follower) kind closed (closed_behind b.before opener)
    (closed_between opener follower symbols inside at b closed place e is)
    (k ∙ kind_behind opener follower symbols inside at b place e)
    refl
    refl

-- the end of what stands there
pub inside_text :
    (opener follower : Symbol) (symbols inside : List Symbol) (at : ℕ) → Between opener follower symbols inside at → end_of at inside < length symbols
inside_text opener follower symbols inside at b =
    let done : List Symbol = b.before ++ (opener ∷ open_paren ∷ (inside ++ (close_paren ∷ []))) in
    let f = front_is opener follower symbols inside at b in
    let whole : length symbols ≡ length (done ++ (follower ∷ b.behind)) = ap length f.0 in
    let parts : length (done ++ (follower ∷ b.behind)) ≡ length done + suc (length b.behind) = length-append done (follower ∷ b.behind) in
    let end = f.1 in
    omega (arith, whole, parts, end)

-- ---- what is looked at behind a name of debugging stands between

-- the tokens before this index, and the one there
between_of :
    (opener follower x y : Symbol) (symbols done inside rest : List Symbol) (place : ℕ) (st : Stands x inside done) → symbols ≡ done ++ (y ∷ rest) → length done ≡ place
    → opener ≡ x → follower ≡ y → Between opener follower symbols inside (length st.front) × (end_of (length st.front) inside ≡ place)
between_of opener follower x y symbols done inside rest place st all long is_x is_y =
    let front : List Symbol = st.front in
    let row : List Symbol = inside ++ (close_paren ∷ []) in
    let outer : length (front ++ (x ∷ open_paren ∷ row)) ≡ length front + suc (suc (length row)) = length-append front (x ∷ open_paren ∷ row) in
    let inner : length row ≡ length inside + 1 = length-append inside (close_paren ∷ []) in
    let whole : length done ≡ length (front ++ (x ∷ open_paren ∷ row)) = ap length st.same in (
      record {
        before = front;
        behind = rest;
        same =
            all ∙ ap (λ l. l ++ (y ∷ rest)) st.same
            ∙ append_assoc front (x ∷ open_paren ∷ row) (y ∷ rest)
            ∙ ap (λ l. front ++ (x ∷ open_paren ∷ l)) (append_assoc inside (close_paren ∷ []) (y ∷ rest))
            ∙ ap (λ s. front ++ (s ∷ open_paren ∷ (inside ++ (close_paren ∷ y ∷ rest)))) (sym is_x)
            ∙ ap (λ s. front ++ (opener ∷ open_paren ∷ (inside ++ (close_paren ∷ s ∷ rest)))) (sym is_y);
        index = refl;
        balanced = st.balanced;
      },
      omega (arith, outer, inner, long, whole),
    )

kind_at : (symbols done rest : List Symbol) (y : Symbol) (place : ℕ) → symbols ≡ done ++ (y ∷ rest) → length done ≡ place → get_or (map kind_of symbols) place 0 ≡ kind_of y
kind_at symbols done rest y place all long =
    ap (λ l. get_or (map kind_of l) place 0) all ∙ ap (λ n. get_or (map kind_of (done ++ (y ∷ rest))) n 0) (sym long) ∙ get_at kind_of done rest y

one_pair : (x : Symbol) (inside done : List Symbol) (st : Stands x inside done) (pair : Opened) → (state done).closed ≡ Some pair → pair.place ≡ suc (length st.front)
one_pair x inside done st pair here =
    let both : Some (closed_behind st.front x) ≡ Some pair = sym (closed_is x inside done st) ∙ here in
    let one : closed_behind st.front x ≡ pair = cc in
    sym (ap (λ (p : Opened). p.place) one)

pub found :
    (symbols : List Symbol) (place kind : ℕ) (closed : Option Opened) (pair : Opened) → place < length symbols → kind ≡ get_or (map kind_of symbols) place 0
    → closed ≡ (after_all start 0 (take place (map kind_of symbols))).closed → pair_if 2 (kind_of unnamed_addr) kind closed ≡ Some pair
    → (x : Placed Name) × (inside : List Symbol) × (at : ℕ) × Between (Debug x) unnamed_addr symbols inside at × (pair.place ≡ suc at) × (end_of at inside ≡ place)
found symbols place kind closed pair within k is e =
    let g = pair_given 2 (kind_of unnamed_addr) kind closed pair e in
    let here : (state (take place symbols)).closed ≡ Some pair = sym (closed_at symbols place) ∙ sym is ∙ g.0 in
    let st = stands (take place symbols) pair here g.2 (λ h. absurd (omega (arith, h ∙ g.3))) in
    let x = symbol_is 2 st.0 (st.3 ∙ g.3) in
    let a = item_at symbols place within in
    let addr = symbol_is (kind_of unnamed_addr) a.item (sym (kind_at symbols (take place symbols) a.rest a.item place a.all a.long) ∙ sym k ∙ g.1) in
    let b = between_of (Debug x.0) unnamed_addr st.0 a.item symbols (take place symbols) st.1 a.rest place st.2 a.all a.long x.1 addr.1 in
    (x.0, st.1, length st.2.front, b.0, one_pair st.0 st.1 (take place symbols) st.2 pair here, b.1)
