-- What is read before a token is what stands there.
use Rattle.std.proofs.Common.{◌≡◌, ◌≤◌, ◌<◌, ℕ, zero, suc, ◌+◌, ◌-◌, List, [], ◌∷◌, get_or, length, map, take, Option, Some, None, Result, Ok, Err, refl, ap, sym, ◌∙◌, subst, arith}
use Rattle.std.specs.List.{slice_range}
use Rattle.ir_lexer.specs.declared.token.Token.{Token}
use Rattle.ir_types.specs.declared.names.Name.{Name}
use Rattle.module_derivations.specs.FlatMarks.Flat.{mark_of}
use Rattle.module_derivations.specs.Ahead.{ahead}
use Rattle.module_derivations.specs.Empty.{made}
use Rattle.module_grammar.specs.Sorts.{Called, DeclaredParams}
use Rattle.module_grammar.specs.Spelled.{symbol_in}
use Rattle.module_grammar.specs.Symbols.{Symbol, Debug, Global, kind_of, unnamed_addr, void}
use Rattle.module_grammar.specs.Texts.{IsWritten}
use Rattle.module_grammar.specs.declared.functions.DeclaredText.{DeclaredText}
use Rattle.module_grammar.specs.declared.places.Placed.{Placed}
use Rattle.module_grammar.specs.declared.types.CalledText.{CalledText}
use Rattle.module_grammar.specs.declared.words.Language.TheVariants.{Ir}
use Rattle.module_spelling.specs.Context.{AreKinds}
use Rattle.token_context.proofs.NameSurroundings.Pairs.{PairStands, found, looked_at, pair_given, pair_stands}
use Rattle.token_context.proofs.NameSurroundings.Parens.{as_many_kinds, as_many_symbols, inside_kinds}
use Rattle.token_context.proofs.NameSurroundings.Read.{IsReadThing, params_read, types_read}
use Rattle.token_context.proofs.NameSurroundings.Told.{debug_start}
use Rattle.token_context.specs.NameSurroundings.Between.{Between, IsText, end_of, pair_if, seen, start_at}
use Rattle.token_context.specs.NameSurroundings.Held.{AreParamsBefore, AreTypesBefore}
use Rattle.derivation_writer.specs.ReadMarks.Reading.{IsMarked, IsReading, read_off}
use Rattle.derivation_writer.specs.declared.read_marks.unread.Unread.{Unread}
use Rattle.token_context.proofs.Held.{closed_behind}
use Rattle.token_context.specs.Brackets.{after_all, start}
use Rattle.token_context.specs.declared.brackets.Opened.{Opened}

-- the start of a token that is read
pub read_start : (tokens : List Token) (index : ℕ) (other : Token) → index < length tokens → (get_or tokens index other).start ≡ start_at tokens index
read_start [] index other h = absurd (grind arith)
read_start (t ∷ tokens) zero other h = refl
read_start (t ∷ tokens) (suc index) other h = read_start tokens index other (grind arith)

pub below_tokens : (text : List ℕ) (tokens : List Token) (kinds : List ℕ) → IsText text tokens kinds → (place : ℕ) → place < length kinds → place < length tokens
below_tokens text tokens kinds is place within = let same = as_many_kinds text tokens kinds is in omega (arith, within, same)

abbrev told_of : ℕ → DeclaredText → Option (ℕ × DeclaredText)
told_of start c = Some (start, c)

module _ (text : List ℕ) (tokens : List Token) (kinds : List ℕ) (is : IsText text tokens kinds) (place kind : ℕ) (closed : Option Opened)
    (within : place < length kinds) (kind_is : kind ≡ get_or kinds place 0) (closed_is : closed ≡ (after_all start 0 (take place kinds)).closed) where
  abbrev symbols : List Symbol
  symbols = seen text tokens kinds

  at_kinds : (ks : List ℕ) → kinds ≡ ks → (kind ≡ get_or ks place 0) × (closed ≡ (after_all start 0 (take place ks)).closed)
  at_kinds ks e = (kind_is ∙ ap (λ l. get_or l place 0) e, closed_is ∙ ap (λ l. (after_all start 0 (take place l)).closed) e)

  now : (kind ≡ get_or (map kind_of symbols) place 0) × (closed ≡ (after_all start 0 (take place (map kind_of symbols))).closed)
  now = at_kinds (map kind_of symbols) (sym is.are_kinds.1)

  inside : place < length symbols
  inside = let same = as_many_symbols text tokens kinds is in omega (arith, within, same)

  -- ---- the pair

  pub there : (opener follower : ℕ) (pair : Opened) → pair_if opener follower kind closed ≡ Some pair → PairStands (seen text tokens kinds) place pair
  there opener follower pair e =
      let h = inside in
      pair_stands symbols place closed pair (omega (arith, h)) now.1 (pair_given opener follower kind closed pair e).0

  pub in_order : (opener follower : ℕ) (pair : Opened) → pair_if opener follower kind closed ≡ Some pair → pair.place + 2 ≤ place
  in_order opener follower pair e =
      let p = there opener follower pair e in
      let from = p.from in
      let to = p.to in
      omega (arith, from, to)

  pub in_tokens : place ≤ length tokens
  in_tokens = let same = as_many_kinds text tokens kinds is in omega (arith, within, same)

  pub are_kinds :
      (opener follower : ℕ) (pair : Opened) → pair_if opener follower kind closed ≡ Some pair → (part : List Token) → part ≡ slice_range tokens (pair.place + 1) (place - 1)
      → (ks : List ℕ) → ks ≡ slice_range kinds (pair.place + 1) (place - 1) → AreKinds (map (symbol_in Ir text) part) ks
  are_kinds opener follower pair e part of_tokens ks of_kinds =
      subst (λ l. AreKinds (map (symbol_in Ir text) l) ks) (sym of_tokens)
      (subst (λ l. AreKinds (map (symbol_in Ir text) (slice_range tokens (pair.place + 1) (place - 1))) l) (sym of_kinds)
      (inside_kinds text tokens kinds is place pair (there opener follower pair e)))

  -- ---- types

  pub no_types : pair_if (kind_of void) 1 kind closed ≡ None → AreTypesBefore (seen text tokens kinds) place None
  no_types none x inside at b e =
      let both : Some (closed_behind b.before void) ≡ None = sym (looked_at void (Global x) symbols inside at b closed place kind e now.0 now.1) ∙ none in
      cc

  -- what is read where a pair is looked at
  read_part : (pair : Opened) (part : List Token) → part ≡ slice_range tokens (pair.place + 1) (place - 1) → (ks : List ℕ) → ks ≡ slice_range kinds (pair.place + 1) (place - 1)
      → seen text part ks ≡ seen text (slice_range tokens (pair.place + 1) (place - 1)) (slice_range kinds (pair.place + 1) (place - 1))
  read_part pair part of_tokens ks of_kinds =
      ap (λ l. seen text l ks) of_tokens ∙ ap (λ l. seen text (slice_range tokens (pair.place + 1) (place - 1)) l) of_kinds

  types_here :
      (pair : Opened) → pair_if (kind_of void) 1 kind closed ≡ Some pair → (part : List Token) → part ≡ slice_range tokens (pair.place + 1) (place - 1)
      → (ks : List ℕ) → ks ≡ slice_range kinds (pair.place + 1) (place - 1) → (r : Result CalledText Unread) → IsReading Called 38 (seen text part ks) r
      → (x : Placed Name) (inside : List Symbol) (at : ℕ) → Between void (Global x) symbols inside at → end_of at inside ≡ place → IsReadThing Called inside r
  types_here pair some part of_tokens ks of_kinds r read x inside at b e =
      let both : Some (closed_behind b.before void) ≡ Some pair = sym (looked_at void (Global x) symbols inside at b closed place kind e now.0 now.1) ∙ some in
      let one : closed_behind b.before void ≡ pair = cc in
      types_read text tokens kinds is x inside at b pair.place place (sym (ap (λ (p : Opened). p.place) one) ∙ ap suc (sym b.index)) (sym e) r
      (subst (λ l. IsReading Called 38 l r) (read_part pair part of_tokens ks of_kinds) read)

  pub types_of :
      (pair : Opened) → pair_if (kind_of void) 1 kind closed ≡ Some pair → (part : List Token) → part ≡ slice_range tokens (pair.place + 1) (place - 1)
      → (ks : List ℕ) → ks ≡ slice_range kinds (pair.place + 1) (place - 1) → (r : Result CalledText Unread) → IsReading Called 38 (seen text part ks) r
      → (c : CalledText) → r ≡ Ok c → AreTypesBefore (seen text tokens kinds) place (Some c)
  types_of pair some part of_tokens ks of_kinds r read c is_c x inside at b e =
      let t = types_here pair some part of_tokens ks of_kinds r read x inside at b e in
      let same : Ok c ≡ Ok t.0 = sym is_c ∙ t.1 in
      let one : c ≡ t.0 = cc in
      (t.0, ap Some one, t.2)

  pub types_unread :
      (pair : Opened) → pair_if (kind_of void) 1 kind closed ≡ Some pair → (part : List Token) → part ≡ slice_range tokens (pair.place + 1) (place - 1)
      → (ks : List ℕ) → ks ≡ slice_range kinds (pair.place + 1) (place - 1) → (r : Result CalledText Unread) → IsReading Called 38 (seen text part ks) r
      → (u : Unread) → r ≡ Err u → AreTypesBefore (seen text tokens kinds) place None
  types_unread pair some part of_tokens ks of_kinds r read u is_u x inside at b e =
      let t = types_here pair some part of_tokens ks of_kinds r read x inside at b e in
      let differ : Err u ≡ Ok t.0 = sym is_u ∙ t.1 in
      cc

  pub types_marked :
      (pair : Opened) → pair_if (kind_of void) 1 kind closed ≡ Some pair → (part : List Token) → part ≡ slice_range tokens (pair.place + 1) (place - 1)
      → (ks : List ℕ) → ks ≡ slice_range kinds (pair.place + 1) (place - 1) → (read : Result (List ℕ) Unread) → IsMarked Called 38 ks read
      → (numbers : List ℕ) → read ≡ Ok numbers
      → AreTypesBefore (seen text tokens kinds) place (Some (made (ahead (map (symbol_in Ir text) part) (map mark_of numbers))).called)
  types_marked pair some part of_tokens ks of_kinds read marked numbers is_read =
      let own : List Symbol = map (symbol_in Ir text) part in
      types_of pair some part of_tokens ks of_kinds (read_off Called own read)
      (marked own (are_kinds (kind_of void) 1 pair some part of_tokens ks of_kinds))
      (made (ahead own (map mark_of numbers))).called (ap (read_off Called own) is_read)

  pub types_unmarked :
      (pair : Opened) → pair_if (kind_of void) 1 kind closed ≡ Some pair → (part : List Token) → part ≡ slice_range tokens (pair.place + 1) (place - 1)
      → (ks : List ℕ) → ks ≡ slice_range kinds (pair.place + 1) (place - 1) → (read : Result (List ℕ) Unread) → IsMarked Called 38 ks read
      → (u : Unread) → read ≡ Err u → AreTypesBefore (seen text tokens kinds) place None
  types_unmarked pair some part of_tokens ks of_kinds read marked u is_read =
      let own : List Symbol = map (symbol_in Ir text) part in
      types_unread pair some part of_tokens ks of_kinds (read_off Called own read)
      (marked own (are_kinds (kind_of void) 1 pair some part of_tokens ks of_kinds)) u (ap (read_off Called own) is_read)

  -- ---- parameters

  pub no_params : pair_if 2 (kind_of unnamed_addr) kind closed ≡ None → AreParamsBefore (seen text tokens kinds) place None
  no_params none = record {
    complete = λ x inside at b e.
        let both : Some (closed_behind b.before (Debug x)) ≡ None = sym (looked_at (Debug x) unnamed_addr symbols inside at b closed place kind e now.0 now.1) ∙ none in
        cc;
    sound = λ from c e. absurd (not_some (from, c) e);
  }
    where
      not_some : (p : ℕ × DeclaredText) → None ≡ Some p → ⊥
      not_some p e = cc

  pub name_inside : (pair : Opened) → pair_if 2 (kind_of unnamed_addr) kind closed ≡ Some pair → (1 ≤ pair.place) × (pair.place - 1 < length tokens)
  name_inside pair some =
      let f = found symbols place kind closed pair inside now.0 now.1 some in
      let behind = f.4 in
      let order = in_order 2 (kind_of unnamed_addr) pair some in
      let all = in_tokens in
      (omega (arith, behind), omega (arith, behind, order, all))

  params_here :
      (pair : Opened) (part : List Token) → part ≡ slice_range tokens (pair.place + 1) (place - 1)
      → (ks : List ℕ) → ks ≡ slice_range kinds (pair.place + 1) (place - 1) → (r : Result DeclaredText Unread) → IsReading DeclaredParams 7 (seen text part ks) r
      → (x : Placed Name) (inside : List Symbol) (at : ℕ) → Between (Debug x) unnamed_addr symbols inside at → pair.place ≡ suc at → end_of at inside ≡ place
      → IsReadThing DeclaredParams inside r
  params_here pair part of_tokens ks of_kinds r read x inside at b from e =
      params_read text tokens kinds is x inside at b pair.place place from (sym e) r
      (subst (λ l. IsReading DeclaredParams 7 l r) (read_part pair part of_tokens ks of_kinds) read)

  pair_at :
      (pair : Opened) → pair_if 2 (kind_of unnamed_addr) kind closed ≡ Some pair → (x : Placed Name) (inside : List Symbol) (at : ℕ)
      → Between (Debug x) unnamed_addr symbols inside at → end_of at inside ≡ place → pair.place ≡ suc at
  pair_at pair some x inside at b e =
      let both : Some (closed_behind b.before (Debug x)) ≡ Some pair = sym (looked_at (Debug x) unnamed_addr symbols inside at b closed place kind e now.0 now.1) ∙ some in
      let one : closed_behind b.before (Debug x) ≡ pair = cc in
      sym (ap (λ (p : Opened). p.place) one) ∙ ap suc (sym b.index)

  key_is :
      (pair : Opened) (x : Placed Name) (inside : List Symbol) (at : ℕ) → Between (Debug x) unnamed_addr symbols inside at → pair.place ≡ suc at
      → start_at tokens (pair.place - 1) ≡ x.start
  key_is pair x inside at b from =
      let before : pair.place - 1 ≡ at = omega (arith, from) in
      ap (start_at tokens) before ∙ sym (debug_start text tokens kinds is x inside at b).0

  pub params_of :
      (pair : Opened) → pair_if 2 (kind_of unnamed_addr) kind closed ≡ Some pair → (part : List Token) → part ≡ slice_range tokens (pair.place + 1) (place - 1)
      → (ks : List ℕ) → ks ≡ slice_range kinds (pair.place + 1) (place - 1) → (r : Result DeclaredText Unread) → IsReading DeclaredParams 7 (seen text part ks) r
      → (c : DeclaredText) → r ≡ Ok c → (key : ℕ) → key ≡ start_at tokens (pair.place - 1) → AreParamsBefore (seen text tokens kinds) place (Some (key, c))
  params_of pair some part of_tokens ks of_kinds r read c is_c key of_key = record {
    complete = λ x inside at b e.
        let from = pair_at pair some x inside at b e in
        let t = params_here pair part of_tokens ks of_kinds r read x inside at b from e in
        let same : Ok c ≡ Ok t.0 = sym is_c ∙ t.1 in
        let one : c ≡ t.0 = cc in
        (t.0, pairs key x.start c t.0 (of_key ∙ key_is pair x inside at b from) one, t.2);
    sound = λ begins d e.
        let f = found symbols place kind closed pair inside now.0 now.1 some in
        let t = params_here pair part of_tokens ks of_kinds r read f.0 f.1 f.2 f.3 f.4 f.5 in
        let same : Ok c ≡ Ok t.0 = sym is_c ∙ t.1 in
        let one : c ≡ t.0 = cc in
        let both = parts (key, c) (begins, d) e in
        (f.0, f.1, f.2, f.3, sym both.0 ∙ of_key ∙ key_is pair f.0 f.1 f.2 f.3 f.4, subst (λ z. IsWritten DeclaredParams z f.1) (sym one ∙ both.1) t.2);
  }
    where
      pairs : (a b : ℕ) (u v : DeclaredText) → a ≡ b → u ≡ v → told_of a u ≡ told_of b v
      pairs a b u v e f = ap (λ n. told_of n u) e ∙ ap (λ w. told_of b w) f

      parts : (p q : ℕ × DeclaredText) → Some p ≡ Some q → (p.0 ≡ q.0) × (p.1 ≡ q.1)
      parts p q e = let same : p ≡ q = cc in (ap (λ (r : ℕ × DeclaredText). r.0) same, ap (λ (r : ℕ × DeclaredText). r.1) same)

  pub params_unread :
      (pair : Opened) → pair_if 2 (kind_of unnamed_addr) kind closed ≡ Some pair → (part : List Token) → part ≡ slice_range tokens (pair.place + 1) (place - 1)
      → (ks : List ℕ) → ks ≡ slice_range kinds (pair.place + 1) (place - 1) → (r : Result DeclaredText Unread) → IsReading DeclaredParams 7 (seen text part ks) r
      → (u : Unread) → r ≡ Err u → AreParamsBefore (seen text tokens kinds) place None
  params_unread pair some part of_tokens ks of_kinds r read u is_u =
      let f = found symbols place kind closed pair inside now.0 now.1 some in
      let t = params_here pair part of_tokens ks of_kinds r read f.0 f.1 f.2 f.3 f.4 f.5 in
      let differ : Err u ≡ Ok t.0 = sym is_u ∙ t.1 in
      absurd (apart u t.0 differ)
    where
      apart : (u : Unread) (c : DeclaredText) → Err u ≡ Ok c → ⊥
      apart u c e = cc

  pub params_marked :
      (pair : Opened) → pair_if 2 (kind_of unnamed_addr) kind closed ≡ Some pair → (part : List Token) → part ≡ slice_range tokens (pair.place + 1) (place - 1)
      → (ks : List ℕ) → ks ≡ slice_range kinds (pair.place + 1) (place - 1) → (read : Result (List ℕ) Unread) → IsMarked DeclaredParams 7 ks read
      → (numbers : List ℕ) → read ≡ Ok numbers → (key : ℕ) → key ≡ start_at tokens (pair.place - 1)
      → AreParamsBefore (seen text tokens kinds) place (Some (key, (made (ahead (map (symbol_in Ir text) part) (map mark_of numbers))).declared_params))
  params_marked pair some part of_tokens ks of_kinds read marked numbers is_read key of_key =
      let own : List Symbol = map (symbol_in Ir text) part in
      params_of pair some part of_tokens ks of_kinds (read_off DeclaredParams own read)
      (marked own (are_kinds 2 (kind_of unnamed_addr) pair some part of_tokens ks of_kinds))
      (made (ahead own (map mark_of numbers))).declared_params (ap (read_off DeclaredParams own) is_read) key of_key

  pub params_unmarked :
      (pair : Opened) → pair_if 2 (kind_of unnamed_addr) kind closed ≡ Some pair → (part : List Token) → part ≡ slice_range tokens (pair.place + 1) (place - 1)
      → (ks : List ℕ) → ks ≡ slice_range kinds (pair.place + 1) (place - 1) → (read : Result (List ℕ) Unread) → IsMarked DeclaredParams 7 ks read
      → (u : Unread) → read ≡ Err u → AreParamsBefore (seen text tokens kinds) place None
  params_unmarked pair some part of_tokens ks of_kinds read marked u is_read =
      let own : List Symbol = map (symbol_in Ir text) part in
      params_unread pair some part of_tokens ks of_kinds (read_off DeclaredParams own read)
      (marked own (are_kinds 2 (kind_of unnamed_addr) pair some part of_tokens ks of_kinds)) u (ap (read_off DeclaredParams own) is_read)
