-- What stands between parentheses, by the tokens themselves.
use Rattle.std.proofs.Common.{◌≡◌, ℕ, suc, ◌+◌, ◌-◌, List, [], ◌∷◌, ◌++◌, length, map, reverse, refl, ap, sym, ◌∙◌, append_assoc, subst, inl, inr, arith}
use Rattle.std.proofs.lemmas.List.{length-append, length-map}
use Rattle.std.specs.List.{slice_range}
use Rattle.ir_lexer.specs.declared.token.Token.{Token}
use Rattle.ir_types.specs.declared.names.Name.{Name}
use Rattle.module_grammar.specs.Sorts.{Called, DeclaredParams}
use Rattle.module_grammar.specs.Spelled.{symbol_in}
use Rattle.module_grammar.specs.Symbols.{Symbol, Debug, Global, close_paren, foreign, kind_of, open_paren, unnamed_addr, void}
use Rattle.module_grammar.specs.declared.places.Placed.{Placed}
use Rattle.module_grammar.specs.declared.words.Language.TheVariants.{Ir}
use Rattle.module_spelling.specs.Context.{AreBehind, AreKinds, IsUndeclared, IsUnstated, IsWhole, StandsBehind, StandsFor, Unless, UnlessAddr, all_seen, called_number, declared_number}
use Rattle.token_context.proofs.NameSurroundings.Own.{around, are_kinds, as_many, balanced_own, itself, not_foreign, seen_all}
use Rattle.token_context.proofs.NameSurroundings.Pairs.{PairStands}
use Rattle.token_context.proofs.NameSurroundings.Parts.{map-part, part_is}
use Rattle.token_context.specs.NameSurroundings.Between.{Between, IsText, end_of, seen}
use Rattle.token_context.specs.declared.brackets.Opened.{Opened}

-- the next token
record Next (before own symbols : List Symbol) (t : Symbol) : Type 0 where
  pub token : Symbol
  pub back : List Symbol
  pub same : own ≡ token ∷ back
  pub stands : StandsFor before token t
  pub behind : AreBehind (token ∷ before) back symbols

next : (before own symbols : List Symbol) (t : Symbol) → AreBehind before own (t ∷ symbols) → Next before own symbols t
next before [] symbols t h = absurd h
next before (s ∷ own) symbols t h = record { token = s; back = own; same = refl; stands = h.0; behind = h.1 }

-- the tokens themselves of what stands between parentheses
pub record OwnBetween (opener follower : Symbol) (own inside : List Symbol) (at : ℕ) : Type 0 where
  pub front : List Symbol
  pub own_inside : List Symbol
  pub back : List Symbol
  pub same : own ≡ front ++ (opener ∷ open_paren ∷ (own_inside ++ (close_paren ∷ follower ∷ back)))
  pub long : length front ≡ at
  pub before : List Symbol
  pub stand : AreBehind before own_inside inside
  pub before_follower : List Symbol
  pub behind : StandsBehind opener own_inside before_follower
  pub follows : StandsFor before_follower follower follower

four :
    (front rest_1 rest_2 inside rest_3 rest_4 : List Symbol) (a b c d t u v w : Symbol) (own : List Symbol) → own ≡ front ++ (a ∷ rest_1) → a ≡ t → rest_1 ≡ b ∷ rest_2
    → b ≡ u → rest_2 ≡ inside ++ (c ∷ rest_3) → c ≡ v → rest_3 ≡ d ∷ rest_4 → d ≡ w → own ≡ front ++ (t ∷ u ∷ (inside ++ (v ∷ w ∷ rest_4)))
four front rest_1 rest_2 inside rest_3 rest_4 a b c d t u v w own e1 t1 e2 t2 e3 t3 e4 t4 =
    e1 ∙ ap (λ s. front ++ (s ∷ rest_1)) t1 ∙ ap (λ l. front ++ (t ∷ l)) e2 ∙ ap (λ s. front ++ (t ∷ s ∷ rest_2)) t2 ∙ ap (λ l. front ++ (t ∷ u ∷ l)) e3
    ∙ ap (λ s. front ++ (t ∷ u ∷ (inside ++ (s ∷ rest_3)))) t3 ∙ ap (λ l. front ++ (t ∷ u ∷ (inside ++ (v ∷ l)))) e4
    ∙ ap (λ s. front ++ (t ∷ u ∷ (inside ++ (v ∷ s ∷ rest_4)))) t4

pub own_between :
    (opener follower : Symbol) (symbols inside own : List Symbol) (at : ℕ) → Between opener follower symbols inside at → (opener ≡ foreign → ⊥)
    → (follower ≡ foreign → ⊥) → AreBehind [] own symbols → OwnBetween opener follower own inside at
own_between opener follower symbols inside own at b opens ends h =
    let a1 = around [] own b.before (open_paren ∷ (inside ++ (close_paren ∷ follower ∷ b.behind))) opener (subst (λ l. AreBehind [] own l) b.same h) in
    let t1 : a1.token ≡ opener = itself (reverse a1.front ++ []) a1.token opener a1.stands opens in
    let b1 : List Symbol = a1.token ∷ (reverse a1.front ++ []) in
    let n2 = next b1 a1.back (inside ++ (close_paren ∷ follower ∷ b.behind)) open_paren a1.behind in
    let t2 : n2.token ≡ open_paren = itself b1 n2.token open_paren n2.stands (not_foreign open_paren (λ e. absurd (omega (arith, e)))) in
    let b2 : List Symbol = n2.token ∷ b1 in
    let a3 = around b2 n2.back inside (follower ∷ b.behind) close_paren n2.behind in
    let t3 : a3.token ≡ close_paren = itself (reverse a3.front ++ b2) a3.token close_paren a3.stands (not_foreign close_paren (λ e. absurd (omega (arith, e)))) in
    let b3 : List Symbol = a3.token ∷ (reverse a3.front ++ b2) in
    let n4 = next b3 a3.back b.behind follower a3.behind in
    let t4 : n4.token ≡ follower = itself b3 n4.token follower n4.stands ends in
    record {
      front = a1.front;
      own_inside = a3.front;
      back = n4.back;
      same =
          four a1.front a1.back n2.back a3.front a3.back n4.back a1.token n2.token a3.token n4.token opener open_paren close_paren follower own a1.same t1 n2.same t2 a3.same t3
          n4.same t4;
      long = as_many [] a1.front b.before a1.in_front ∙ sym b.index;
      before = b2;
      stand = a3.in_front;
      before_follower = b3;
      behind =
          record {
            rest = reverse a1.front ++ [];
            same =
                ap (λ s. s ∷ (reverse a3.front ++ b2)) t3 ∙ ap (λ s. close_paren ∷ (reverse a3.front ++ (s ∷ b1))) t2
                ∙ ap (λ s. close_paren ∷ (reverse a3.front ++ (open_paren ∷ s ∷ (reverse a1.front ++ [])))) t1;
            balanced = balanced_own b2 a3.front inside b.balanced a3.in_front;
          };
      follows = subst (λ s. StandsFor b3 s follower) t4 n4.stands;
    }

-- ---- what stands there is the types of parameters, or parameters

of_name : (P : Type 0) (x : Placed Name) → Unless P (Global x) (Global x) → P → ⊥
of_name P x (inl h) p = h.0 p
of_name P x (inr h) p = let differ : Global x ≡ foreign = h.1 in cc

other_kind : (P : Type 0) → Unless P unnamed_addr unnamed_addr → P → ⊥
other_kind P (inl h) p = h.0 p
other_kind P (inr h) p = let differ : kind_of unnamed_addr ≡ kind_of foreign = ap kind_of h.1 in absurd (omega (arith, differ))

of_addr : (P : Type 0) → UnlessAddr P (kind_of unnamed_addr) unnamed_addr unnamed_addr → P → ⊥
of_addr P (inl h) p = other_kind P h.1 p
of_addr P (inr h) p = h.0 refl

pub are_types : (x : Placed Name) (own inside : List Symbol) (at : ℕ) (b : OwnBetween void (Global x) own inside at) → (IsWhole Called called_number b.own_inside → ⊥) → ⊥
are_types x own inside at b other = of_name (IsUnstated b.before_follower) x b.follows (b.own_inside, b.behind, other)

pub are_params :
    (x : Placed Name) (own inside : List Symbol) (at : ℕ) (b : OwnBetween (Debug x) unnamed_addr own inside at) → (IsWhole DeclaredParams declared_number b.own_inside → ⊥) → ⊥
are_params x own inside at b other = of_addr (IsUndeclared b.before_follower) b.follows (x, b.own_inside, b.behind, other)

-- ---- parts of the tokens and of their kinds

joined : (a b : Symbol) (front rest : List Symbol) → front ++ (a ∷ b ∷ rest) ≡ (front ++ (a ∷ [])) ++ (b ∷ rest)
joined a b front rest = sym (append_assoc front (a ∷ []) (b ∷ rest))

part_own :
    (opener follower : Symbol) (own inside : List Symbol) (at : ℕ) (b : OwnBetween opener follower own inside at) (from to : ℕ) → from ≡ suc at → to ≡ end_of at inside
    → slice_range own (from + 1) (to - 1) ≡ b.own_inside
part_own opener follower own inside at b from to p q =
    let long = b.long in
    let row : length (b.front ++ (opener ∷ [])) ≡ length b.front + 1 = length-append b.front (opener ∷ []) in
    let count : length b.own_inside ≡ length inside = as_many b.before b.own_inside inside b.stand in
    ap (λ l. slice_range l (from + 1) (to - 1)) (b.same ∙ joined opener open_paren b.front (b.own_inside ++ (close_paren ∷ follower ∷ b.back)))
    ∙ part_is (b.front ++ (opener ∷ [])) b.own_inside (follower ∷ b.back) open_paren close_paren from to (omega (arith, long, row, p)) (omega (arith, long, row, count, q))

part_seen :
    (opener follower : Symbol) (symbols inside : List Symbol) (at : ℕ) → Between opener follower symbols inside at → (from to : ℕ) → from ≡ suc at → to ≡ end_of at inside
    → slice_range symbols (from + 1) (to - 1) ≡ inside
part_seen opener follower symbols inside at b from to p q =
    let index = b.index in
    let row : length (b.before ++ (opener ∷ [])) ≡ length b.before + 1 = length-append b.before (opener ∷ []) in
    ap (λ l. slice_range l (from + 1) (to - 1)) (b.same ∙ joined opener open_paren b.before (inside ++ (close_paren ∷ follower ∷ b.behind)))
    ∙ part_is (b.before ++ (opener ∷ [])) inside (follower ∷ b.behind) open_paren close_paren from to (omega (arith, index, row, p)) (omega (arith, index, row, q))

module _ (text : List ℕ) (tokens : List Token) (kinds : List ℕ) (is : IsText text tokens kinds) where
  abbrev own : List Symbol
  own = map (symbol_in Ir text) tokens

  abbrev symbols : List Symbol
  symbols = seen text tokens kinds

  -- the tokens between parentheses, read as they are seen
  pub inside_seen :
      (opener follower : Symbol) (inside : List Symbol) (at : ℕ) → Between opener follower (seen text tokens kinds) inside at
      → (b : OwnBetween opener follower (map (symbol_in Ir text) tokens) inside at) (from to : ℕ) → from ≡ suc at → to ≡ end_of at inside
      → seen text (slice_range tokens (from + 1) (to - 1)) (slice_range kinds (from + 1) (to - 1)) ≡ inside
  inside_seen opener follower inside at s b from to p q =
      ap (λ l. all_seen l (slice_range kinds (from + 1) (to - 1)))
      (map-part (symbol_in Ir text) tokens (from + 1) (to - 1) ∙ part_own opener follower own inside at b from to p q)
      ∙ ap (λ l. all_seen b.own_inside (slice_range l (from + 1) (to - 1))) (sym is.are_kinds.1)
      ∙ ap (λ l. all_seen b.own_inside l) (sym (map-part kind_of symbols (from + 1) (to - 1)))
      ∙ ap (λ l. all_seen b.own_inside (map kind_of l)) (part_seen opener follower symbols inside at s from to p q)
      ∙ seen_all b.before b.own_inside inside b.stand

  -- there are as many of each
  pub as_many_kinds : length kinds ≡ length tokens
  as_many_kinds = is.are_kinds.0 ∙ length-map tokens (symbol_in Ir text)

  pub as_many_symbols : length (seen text tokens kinds) ≡ length kinds
  as_many_symbols = sym (as_many [] own symbols is.stand) ∙ sym is.are_kinds.0

  -- the tokens of a pair have their kinds
  pub inside_kinds :
      (place : ℕ) (pair : Opened) → PairStands (seen text tokens kinds) place pair
      → AreKinds (map (symbol_in Ir text) (slice_range tokens (pair.place + 1) (place - 1))) (slice_range kinds (pair.place + 1) (place - 1))
  inside_kinds place pair p =
      let i : ℕ = pair.place + 1 in
      let j : ℕ = place - 1 in
      let from = p.from in
      let to = p.to in
      let a = around [] own p.front (p.inside ++ (p.closer ∷ p.rest)) p.opener (subst (λ l. AreBehind [] own l) p.same is.stand) in
      let c = around (a.token ∷ (reverse a.front ++ [])) a.back p.inside p.rest p.closer a.behind in
      let n : length a.front ≡ length p.front = as_many [] a.front p.front a.in_front in
      let m : length c.front ≡ length p.inside = as_many (a.token ∷ (reverse a.front ++ [])) c.front p.inside c.in_front in
      let own_is : own ≡ a.front ++ (a.token ∷ (c.front ++ (c.token ∷ c.back))) = a.same ∙ ap (λ l. a.front ++ (a.token ∷ l)) c.same in
      let of_own : map (symbol_in Ir text) (slice_range tokens i j) ≡ c.front =
      map-part (symbol_in Ir text) tokens i j ∙ ap (λ l. slice_range l i j) own_is
      ∙ part_is a.front c.front c.back a.token c.token pair.place place (omega (arith, n, from)) (omega (arith, n, m, to)) in
      let of_kinds : slice_range kinds i j ≡ map kind_of p.inside =
      ap (λ l. slice_range l i j) (sym is.are_kinds.1) ∙ sym (map-part kind_of symbols i j) ∙ ap (λ l. map kind_of (slice_range l i j)) p.same
      ∙ ap (map kind_of) (part_is p.front p.inside p.rest p.opener p.closer pair.place place from to) in
      subst (λ l. AreKinds l (slice_range kinds i j)) (sym of_own)
      (subst (λ l. AreKinds c.front l) (sym of_kinds) (are_kinds (a.token ∷ (reverse a.front ++ [])) c.front p.inside c.in_front))
