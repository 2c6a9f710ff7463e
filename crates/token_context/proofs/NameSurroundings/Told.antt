-- What is told of names, token by token.
use Rattle.std.proofs.Common.{◌≡◌, ◌<◌, ℕ, ◌+◌, Bool, true, false, cond, nat_eq, List, [], ◌∷◌, ◌++◌, length, map, Option, Some, None, refl, ap, sym, ◌∙◌, subst, ◌⊎◌, inl, inr, arith}
use Rattle.std.proofs.lemmas.Bool.{cases_order, eq-eqb, eqb-false, eqb-true, ne_eqb}
use Rattle.std.specs.Option.{option_map}
use Rattle.ir_lexer.specs.declared.token.Token.{Token}
use Rattle.ir_types.specs.declared.names.Name.{Name}
use Rattle.module_grammar.specs.Sorts.{Called, DeclaredParams}
use Rattle.module_grammar.specs.Spelled.{symbol_in}
use Rattle.module_grammar.specs.Symbols.{Symbol, Debug, Global, close_paren, kind_of, open_paren, unnamed_addr, void}
use Rattle.module_grammar.specs.Texts.{IsWritten}
use Rattle.module_grammar.specs.declared.functions.DeclaredText.{DeclaredText}
use Rattle.module_grammar.specs.declared.places.Placed.{Placed}
use Rattle.module_grammar.specs.declared.types.CalledText.{CalledText}
use Rattle.module_grammar.specs.declared.words.Language.TheVariants.{Ir}
use Rattle.module_spelling.specs.Context.{AreBehind}
use Rattle.token_context.proofs.NameSurroundings.Order.{begins_at, in_order, one_start}
use Rattle.token_context.proofs.NameSurroundings.Pairs.{front_is}
use Rattle.token_context.proofs.NameSurroundings.Parts.{same_front}
use Rattle.token_context.proofs.NameSurroundings.Unique.{ends_once}
use Rattle.token_context.specs.NameSurroundings.Between.{Between, IsText, end_of, seen, start_at}
use Rattle.token_context.specs.NameSurroundings.Held.{AreParamsBefore, AreParamsTold, AreTypesBefore, AreTypesTold}

up_to : (end place : ℕ) → end < place + 1 → (end ≡ place) ⊎ (end < place)
up_to end place h = go (cases_order end place)
  where
    go : (end ≡ place) ⊎ ((end < place) ⊎ (place < end)) → (end ≡ place) ⊎ (end < place)
    go (inl e) = inl e
    go (inr (inl less)) = inr less
    go (inr (inr more)) = absurd (omega (arith, h, more))

-- what is told where one more is
abbrev pub IsOneMore : {X : Type 0} → (ℕ → Option X) → (ℕ → Option X) → ℕ → X → Type 0
IsOneMore old new key c = (q : ℕ) → new q ≡ cond (nat_eq key q) (Some c) (old q)

here : {X : Type 0} (old new : ℕ → Option X) (key q : ℕ) (c : X) → IsOneMore old new key c → key ≡ q → new q ≡ Some c
here old new key q c is e = is q ∙ ap (λ b. cond b (Some c) (old q)) (eq-eqb key q e)

elsewhere : {X : Type 0} (old new : ℕ → Option X) (key q : ℕ) (c : X) → IsOneMore old new key c → (key ≡ q → ⊥) → new q ≡ old q
elsewhere old new key q c is other = is q ∙ ap (λ b. cond b (Some c) (old q)) (ne_eqb key q other)

-- where more is made of what is told
pub made_of_more :
    {X Y : Type 0} (f : X → Y) (old new : ℕ → Option X) (key : ℕ) (c : X) → IsOneMore old new key c
    → IsOneMore (λ q. option_map f (old q)) (λ q. option_map f (new q)) key (f c)
made_of_more f old new key c is q = ap (option_map f) (is q) ∙ go (nat_eq key q)
  where
    go : (b : Bool) → option_map f (cond b (Some c) (old q)) ≡ cond b (Some (f c)) (option_map f (old q))
    go true = refl
    go false = refl

start_in : Option (ℕ × DeclaredText) → ℕ
start_in None = 0
start_in (Some p) = p.0

same_key : (p q : ℕ × DeclaredText) → Some p ≡ Some q → p.0 ≡ q.0
unfolding start_in
same_key p q e = ap start_in e

not_some : (p : ℕ × DeclaredText) → None ≡ Some p → ⊥
not_some p e = cc

module _ (text : List ℕ) (tokens : List Token) (kinds : List ℕ) (is : IsText text tokens kinds) where
  abbrev symbols : List Symbol
  symbols = seen text tokens kinds

  -- ---- types before names

  name_start :
      (x : Placed Name) (inside : List Symbol) (at : ℕ) → Between void (Global x) symbols inside at
      → (x.start ≡ start_at tokens (end_of at inside)) × (end_of at inside < length tokens)
  name_start x inside at b =
      let f = front_is void (Global x) symbols inside at b in
      let h = begins_at text tokens [] (b.before ++ (void ∷ open_paren ∷ (inside ++ (close_paren ∷ [])))) b.behind (Global x) (λ e. cc)
      (subst (λ l. AreBehind [] (map (symbol_in Ir text) tokens) l) f.0 is.stand) in
      let P : ℕ → Type 0 = λ n. (x.start ≡ start_at tokens n) × (n < length tokens) in
      subst P (sym f.1) h

  pub no_types_told :
      (place : ℕ) (told : ℕ → Option CalledText) → AreTypesBefore (seen text tokens kinds) place None → AreTypesTold (seen text tokens kinds) place told
      → AreTypesTold (seen text tokens kinds) (place + 1) told
  no_types_told place told none old x inside at b less = go (up_to (end_of at inside) place less)
    where
      go : (end_of at inside ≡ place) ⊎ (end_of at inside < place) → (c : CalledText) × (told x.start ≡ Some c) × IsWritten Called c inside
      go (inl e) = let n = none x inside at b e in let differ : None ≡ Some n.0 = n.1 in cc
      go (inr before) = old x inside at b before

  pub types_told :
      (place : ℕ) (old new : ℕ → Option CalledText) (key : ℕ) (c : CalledText) → AreTypesBefore (seen text tokens kinds) place (Some c) → key ≡ start_at tokens place
      → place < length tokens → IsOneMore old new key c → AreTypesTold (seen text tokens kinds) place old → AreTypesTold (seen text tokens kinds) (place + 1) new
  types_told place old new key c some k within more told x inside at b less = go (up_to (end_of at inside) place less)
    where
      start : (x.start ≡ start_at tokens (end_of at inside)) × (end_of at inside < length tokens)
      start = name_start x inside at b

      go : (end_of at inside ≡ place) ⊎ (end_of at inside < place) → (c : CalledText) × (new x.start ≡ Some c) × IsWritten Called c inside
      go (inl e) =
          let s = some x inside at b e in
          let same : key ≡ x.start = k ∙ ap (start_at tokens) (sym e) ∙ sym start.0 in
          (s.0, here old new key x.start c more same ∙ s.1, s.2)
      go (inr before) =
          let t = told x inside at b before in
          let order = in_order 0 (length text) tokens is.order (end_of at inside) place before within in
          let begins = start.0 in
          (t.0, elsewhere old new key x.start c more (λ e. absurd (omega (arith, e, k, begins, order))) ∙ t.1, t.2)

  -- ---- parameters behind names of debugging

  pub debug_start :
      (x : Placed Name) (inside : List Symbol) (at : ℕ) → Between (Debug x) unnamed_addr (seen text tokens kinds) inside at → (x.start ≡ start_at tokens at) × (at < length tokens)
  debug_start x inside at b =
      let h = begins_at text tokens [] b.before (open_paren ∷ (inside ++ (close_paren ∷ unnamed_addr ∷ b.behind))) (Debug x) (λ e. cc)
      (subst (λ l. AreBehind [] (map (symbol_in Ir text) tokens) l) b.same is.stand) in
      let P : ℕ → Type 0 = λ n. (x.start ≡ start_at tokens n) × (n < length tokens) in
      subst P (sym b.index) h

  -- behind one name one thing stands
  one_inside :
      (x y : Placed Name) (inside others : List Symbol) (at from : ℕ) → Between (Debug x) unnamed_addr symbols inside at → Between (Debug y) unnamed_addr symbols others from
      → x.start ≡ y.start → inside ≡ others
  one_inside x y inside others at from b d e =
      let s = debug_start x inside at b in
      let t = debug_start y others from d in
      let same : at ≡ from = one_start 0 (length text) tokens is.order at from s.1 t.1 (sym s.0 ∙ e ∙ t.0) in
      let rows = same_front b.before d.before (Debug x ∷ open_paren ∷ (inside ++ (close_paren ∷ unnamed_addr ∷ b.behind))) (Debug y ∷ open_paren ∷ (others ++ (close_paren ∷ unnamed_addr ∷ d.behind)))
      (sym b.index ∙ same ∙ d.index) (sym b.same ∙ d.same) in
      let back : Debug x ∷ open_paren ∷ (inside ++ (close_paren ∷ unnamed_addr ∷ b.behind)) ≡ Debug y ∷ open_paren ∷ (others ++ (close_paren ∷ unnamed_addr ∷ d.behind)) = rows.1 in
      let last : inside ++ (close_paren ∷ unnamed_addr ∷ b.behind) ≡ others ++ (close_paren ∷ unnamed_addr ∷ d.behind) = cc in
      ends_once inside others b.balanced d.balanced close_paren close_paren (unnamed_addr ∷ b.behind) (unnamed_addr ∷ d.behind) (kind_of open_paren, refl) (kind_of open_paren, refl) last

  pub no_params_told :
      (place : ℕ) (told : ℕ → Option DeclaredText) → AreParamsBefore (seen text tokens kinds) place None → AreParamsTold (seen text tokens kinds) place told
      → AreParamsTold (seen text tokens kinds) (place + 1) told
  no_params_told place told none old x inside at b less = go (up_to (end_of at inside) place less)
    where
      go : (end_of at inside ≡ place) ⊎ (end_of at inside < place) → (c : DeclaredText) × (told x.start ≡ Some c) × IsWritten DeclaredParams c inside
      go (inl e) = let n = none.complete x inside at b e in absurd (not_some (x.start, n.0) n.1)
      go (inr before) = old x inside at b before

  pub params_told :
      (place : ℕ) (old new : ℕ → Option DeclaredText) (key : ℕ) (c : DeclaredText) → AreParamsBefore (seen text tokens kinds) place (Some (key, c))
      → IsOneMore old new key c → AreParamsTold (seen text tokens kinds) place old → AreParamsTold (seen text tokens kinds) (place + 1) new
  params_told place old new key c some more told x inside at b less = go (nat_eq key x.start) refl
    where
      found : (y : Placed Name) × (others : List Symbol) × (from : ℕ) × Between (Debug y) unnamed_addr symbols others from × (key ≡ y.start) × IsWritten DeclaredParams c others
      found = some.sound key c refl

      late : (end_of at inside ≡ place) ⊎ (end_of at inside < place) → (key ≡ x.start → ⊥) → (c : DeclaredText) × (new x.start ≡ Some c) × IsWritten DeclaredParams c inside
      late (inl e) other =
          let s = some.complete x inside at b e in
          absurd (other (same_key (key, c) (x.start, s.0) s.1))
      late (inr before) other =
          let t = told x inside at b before in
          (t.0, elsewhere old new key x.start c more other ∙ t.1, t.2)

      go : (d : Bool) → nat_eq key x.start ≡ d → (c : DeclaredText) × (new x.start ≡ Some c) × IsWritten DeclaredParams c inside
      go true e =
          let same : key ≡ x.start = eqb-true key x.start e in
          let one = one_inside found.0 x found.1 inside found.2 at found.3 b (sym found.4 ∙ same) in
          (c, here old new key x.start c more same, subst (λ l. IsWritten DeclaredParams c l) one found.5)
      go false e = late (up_to (end_of at inside) place less) (eqb-false key x.start e)
