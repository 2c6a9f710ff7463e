-- Two faults of a tree at one place and of one rank are told alike: they stand at tokens, of which one begins there, and one number is due there.
use Rattle.std.proofs.Common.{◌≡◌, ◌+◌, ◌-◌, ◌==◌, ℕ, Bool, true, false, List, [], ◌∷◌, ◌++◌, get_or, map, inl, inr, refl, ap, sym, ◌∙◌, subst, arith}
use Rattle.std.proofs.lemmas.Bool.{cond_both}
use Rattle.std.specs.List.{AllByRecursion, Contains}
use Rattle.predictive.specs.Fills.{Fills, FillsFrom}
use Rattle.ir_core.specs.Functions.{is_debug}
use Rattle.ir_lexer.specs.Cut.{Placed as PlacedToken}
use Rattle.ir_lexer.specs.declared.token.TokenKind.{TokenKind}
use Rattle.ir_lexer.specs.declared.token.TokenKind.TheVariants as kind
use Rattle.ir_types.specs.declared.names.Name.{Name}
use Rattle.module_grammar.specs.Balanced.{IsBalanced}
use Rattle.module_grammar.specs.Functions as functions
use Rattle.module_grammar.specs.Modules as modules
use Rattle.module_grammar.specs.Sorts.{Module as ModuleSort}
use Rattle.module_grammar.specs.Spelled.{at, mark_symbol, symbol, symbol_at, word_symbol}
use Rattle.module_grammar.specs.Symbols.{Symbol, Brace, Bracket, Bytes, Debug, Global, Star, close_brace, close_bracket, close_paren, comma, equals, foreign, open_paren, string}
use Rattle.module_grammar.specs.Symbols as symbols
use Rattle.module_grammar.specs.Texts.{IsWritten, is_balanced}
use Rattle.module_grammar.specs.Types.{called, open_end, ty}
use Rattle.module_grammar.specs.Words.{word_of}
use Rattle.module_grammar.specs.declared.functions.DeclaredText.{DeclaredText}
use Rattle.module_grammar.specs.declared.items.ModuleText.{ModuleText}
use Rattle.module_grammar.specs.declared.places.Placed.{Placed}
use Rattle.module_grammar.specs.declared.types.CalledText.{CalledText}
use Rattle.module_grammar.specs.declared.words.Language.TheVariants.{Ir}
use Rattle.module_grammar.specs.declared.words.Word.{Word}
use Rattle.module_grammar.specs.declared.words.Word.TheVariants as word
use Rattle.module_spelling.specs.Context.{AreBehind, StandFor}
use Rattle.module_spelling.specs.Spells.{StatesParams, StatesTypes}
use Rattle.name_claims.specs.Faults.{rank}
use Rattle.name_claims.specs.declared.claims.Fault.{Fault}
use Rattle.name_claims.specs.declared.claims.Reason.{Reason}
use Rattle.name_claims.specs.declared.claims.Reason.TheVariants as reason
use Rattle.named_modules.proofs.Lists.{all_left, all_right, contains_behind, contains_here}
use Rattle.module_texts.proofs.Kept.{Own, own}
use Rattle.module_texts.proofs.Marked.{Among, IsDueAt, IsNameAt, Mark, behind_others, mark_at, marks_among, marks_of}
use Rattle.module_texts.proofs.Standing.{AllStand, FaultStands, ReasonStands, SymbolStands, listed_front}
use Rattle.module_texts.proofs.Starts.{AreFrom, Rise, one_at, start_of}

-- ---- tokens

-- up to where what a token says stands: a label's name without its `:`
abbrev end_of : TokenKind → ℕ → ℕ
end_of (kind.Label x) end = end - 1
end_of k end = end

module _ (Q T : ℕ → ℕ → Type 0) where
  abbrev Stands : Symbol → Type 0
  Stands = SymbolStands Q T

  word_stands : (w : Word) (start end : ℕ) → Stands (word_symbol w start end)
  word_stands (word.Width n) start end = tt
  word_stands (word.Truth b) start end = tt
  word_stands (word.Overflow op) start end = tt
  word_stands (word.Exact op) start end = tt
  word_stands (word.Plain op) start end = tt
  word_stands (word.Resize op) start end = tt
  word_stands (word.Pred pred) start end = tt
  word_stands (word.Flag flag) start end = tt
  word_stands (word.Linkage linkage) start end = tt
  word_stands (word.Extension extension) start end = tt
  word_stands (word.Holding holding) start end = tt
  word_stands word.Null start end = tt
  word_stands word.Element start end = tt
  word_stands word.BitCast start end = tt
  word_stands (word.Key k) start end = tt
  word_stands word.Foreign start end = tt

  mark_stands : (b start : ℕ) → Stands (mark_symbol b start)
  unfolding mark_symbol
  mark_stands b start =
      cond_both (b == 44) comma _ Stands (λ yes. tt)
      (λ no. cond_both (b == 61) equals _ Stands (λ yes. tt)
      (λ no. cond_both (b == 40) open_paren _ Stands (λ yes. tt)
      (λ no. cond_both (b == 41) close_paren _ Stands (λ yes. tt)
      (λ no. cond_both (b == 123) (Brace start) _ Stands (λ yes. tt)
      (λ no. cond_both (b == 125) close_brace _ Stands (λ yes. tt)
      (λ no. cond_both (b == 91) (Bracket start) _ Stands (λ yes. tt)
      (λ no. cond_both (b == 93) close_bracket _ Stands (λ yes. tt)
      (λ no. cond_both (b == 42) (Star start) foreign Stands (λ yes. tt) (λ no. tt)))))))))

  token_stands : (text : List ℕ) (k : TokenKind) (start end : ℕ) → Q start (end_of k end) → Stands (symbol_at Ir text k start end)
  token_stands text (kind.Local x) start end stands = stands
  token_stands text (kind.Global x) start end stands =
      cond_both (is_debug x) (Debug (at x start end)) (Global (at x start end)) Stands (λ yes. stands) (λ no. stands)
  token_stands text (kind.Label x) start end stands = stands
  token_stands text (kind.Attribute digits) start end stands = tt
  token_stands text kind.Bang start end stands = tt
  token_stands text (kind.Metadata run) start end stands = tt
  token_stands text kind.Dots start end stands = tt
  token_stands text (kind.Number n) start end stands = tt
  token_stands text (kind.Word w) start end stands = word_stands (word_of Ir w) start end
  token_stands text (kind.Text bytes) start end stands =
      cond_both (get_or text (start - 1) 0 == 99) (Bytes (at bytes start end)) string Stands (λ yes. tt) (λ no. tt)
  token_stands text (kind.Mark b) start end stands = mark_stands b start

  tokens_stand : (text : List ℕ) (tokens : List PlacedToken) → AllByRecursion (λ (t : PlacedToken). Q t.start (end_of t.kind t.end)) tokens → AllStand Q T (map (symbol Ir text) tokens)
  tokens_stand text [] each = tt
  tokens_stand text (t ∷ tokens) each = (token_stands text t.kind t.start t.end each.0, tokens_stand text tokens each.1)

  -- what they stand for
  stood : (s t : Symbol) → Own s t → Stands s → Stands t
  stood s t (inl same) stands = subst Stands same stands
  stood s t (inr a) stands = subst Stands (sym a.0) tt

  all_stood : (before ss ts : List Symbol) → AreBehind before ss ts → AllStand Q T ss → AllStand Q T ts
  all_stood before [] [] stand all = tt
  all_stood before [] (t ∷ ts) stand all = absurd stand
  all_stood before (s ∷ ss) [] stand all = absurd stand
  all_stood before (s ∷ ss) (t ∷ ts) stand all = (stood s t (own before s t stand.0) all.0, all_stood (s ∷ before) ss ts stand.1 all.1)

  -- what they are written of
  gap_stands : (s : Symbol) → is_balanced s ≡ true → Stands s
  gap_stands (symbols.Local x) gap = cc
  gap_stands (symbols.Global x) gap = cc
  gap_stands (symbols.Debug x) gap = cc
  gap_stands (symbols.Label x) gap = cc
  gap_stands s gap = tt

  first_stands :
      (b : Bool) (w : Symbol) (ws ts : List Symbol) → is_balanced w ≡ b → ((us : List Symbol) → Fills is_balanced IsBalanced ws us → AllStand Q T us → AllStand Q T ws)
      → FillsFrom b IsBalanced w (Fills is_balanced IsBalanced ws) ts → AllStand Q T ts → AllStand Q T (w ∷ ws)
  first_stands true w ws ts gap rest (front, behind, same, fit, more) all =
      (gap_stands w gap, rest behind more (all_right Stands front behind (subst (AllStand Q T) (sym same) all)))
  first_stands false w ws ts gap rest (behind, same, more) all =
      let each : AllStand Q T (w ∷ behind) = subst (AllStand Q T) (sym same) all in
      (each.0, rest behind more each.1)

  pub written_stands : (ws ts : List Symbol) → Fills is_balanced IsBalanced ws ts → AllStand Q T ts → AllStand Q T ws
  written_stands [] ts fills all = tt
  written_stands (w ∷ ws) ts fills all = first_stands (is_balanced w) w ws ts refl (λ us more each. written_stands ws us more each) fills all

  -- types and parameters that stand between parentheses
  pub types_stand : (ss : List Symbol) (x : Placed Name) (c : CalledText) → AllStand Q T ss → StatesTypes ss x c → AllByRecursion (λ t. AllStand Q T (ty t)) c.types
  types_stand ss x c all states =
      let ends = close_paren ∷ Global x ∷ states.behind in
      let behind = symbols.void ∷ open_paren ∷ (states.types ++ ends) in
      let inner = (all_right Stands states.before behind (subst (AllStand Q T) states.same all)).1.1 in
      listed_front Q T ty c.types (open_end c.is_open) (written_stands (called c) states.types states.written (all_left Stands states.types ends inner))

  pub params_stand : (ss : List Symbol) (x : Placed Name) (c : DeclaredText) → AllStand Q T ss → StatesParams ss x c → AllByRecursion (λ p. AllStand Q T (functions.param p)) c.params
  params_stand ss x c all states =
      let ends = close_paren ∷ symbols.unnamed_addr ∷ states.behind in
      let behind = Debug x ∷ open_paren ∷ (states.params ++ ends) in
      let inner = (all_right Stands states.before behind (subst (AllStand Q T) states.same all)).1.1 in
      listed_front Q T functions.param c.params (open_end c.is_open) (written_stands (functions.declared_params c) states.params states.written (all_left Stands states.params ends inner))

-- ---- marks rise as tokens do

abbrev begin_of : Mark → ℕ
begin_of m = m.start

abbrev From : ℕ → ℕ → ℕ → Type 0
From start begin end = start ≡ begin

abbrev Any : ℕ → ℕ → Type 0
Any start due = Unit {0}

begins : (start p : ℕ) (s : Symbol) → SymbolStands (From start) Any s → IsNameAt s p → start ≡ p
begins start p (symbols.Local x) stands at = stands ∙ at
begins start p (symbols.Global x) stands at = stands ∙ at
begins start p (symbols.Debug x) stands at = stands ∙ at
begins start p (symbols.Label x) stands at = stands ∙ at
begins start p s stands at = absurd at

own_name : (s t : Symbol) (p : ℕ) → Own s t → IsNameAt t p → IsNameAt s p
own_name s t p (inl same) at = subst (λ s. IsNameAt s p) (sym same) at
own_name s t p (inr a) at = let none : IsNameAt foreign p = subst (λ s. IsNameAt s p) a.0 at in absurd none

rise : (text : List ℕ) (n : ℕ) (before : List Symbol) (tokens : List PlacedToken) (symbols : List Symbol) (ms : List Mark) → AreFrom n tokens → AreBehind before (map (symbol Ir text) tokens) symbols → Among ms symbols → Rise begin_of n ms
rise text n before tokens symbols [] from stand among = tt
rise text n before [] [] (m ∷ ms) from stand among = absurd among
rise text n before [] (u ∷ us) (m ∷ ms) from stand among = absurd stand
rise text n before (t ∷ ts) [] (m ∷ ms) from stand among = absurd stand
rise text n before (t ∷ ts) (u ∷ us) (m ∷ ms) from stand (inl here) =
    let s = symbol Ir text t in
    let same : t.start ≡ m.start = begins t.start m.start s (token_stands (From t.start) Any text t.kind t.start t.end refl) (own_name s u m.start (own before s u stand.0) here.0) in
    (omega (arith, from.0, same), subst (λ k. Rise begin_of (k + 1) ms) same (rise text (t.start + 1) (s ∷ before) ts us ms from.1 stand.1 here.1))
rise text n before (t ∷ ts) (u ∷ us) (m ∷ ms) from stand (inr later) =
    let more = rise text (t.start + 1) (symbol Ir text t ∷ before) ts us (m ∷ ms) from.1 stand.1 later in
    (let less = more.0 in omega (arith, from.0, less), more.1)

-- names are no gaps
not_gap : (s : Symbol) (p : ℕ) → IsNameAt s p → is_balanced s ≡ true → ⊥
not_gap (symbols.Local x) p at gap = cc
not_gap (symbols.Global x) p at gap = cc
not_gap (symbols.Debug x) p at gap = cc
not_gap (symbols.Label x) p at gap = cc
not_gap s p at gap = at

first_among :
    (b : Bool) (m : Mark) (ms : List Mark) (w : Symbol) (ws ts : List Symbol) → is_balanced w ≡ b
    → ((ns : List Mark) (us : List Symbol) → Among ns ws → Fills is_balanced IsBalanced ws us → Among ns us) → Among (m ∷ ms) (w ∷ ws)
    → FillsFrom b IsBalanced w (Fills is_balanced IsBalanced ws) ts → Among (m ∷ ms) ts
first_among true m ms w ws ts gap rest (inl here) fills = absurd (not_gap w m.start here.0 gap)
first_among true m ms w ws ts gap rest (inr later) (front, behind, same, fit, more) =
    subst (Among (m ∷ ms)) same (behind_others (m ∷ ms) front behind (rest (m ∷ ms) behind later more))
first_among false m ms w ws ts gap rest (inl here) (behind, same, more) =
    let both : Among (m ∷ ms) (w ∷ behind) = inl (here.0, rest ms behind here.1 more) in subst (Among (m ∷ ms)) same both
first_among false m ms w ws ts gap rest (inr later) (behind, same, more) =
    let both : Among (m ∷ ms) (w ∷ behind) = inr (rest (m ∷ ms) behind later more) in subst (Among (m ∷ ms)) same both

among_tokens : (ms : List Mark) (ws ts : List Symbol) → Among ms ws → Fills is_balanced IsBalanced ws ts → Among ms ts
among_tokens [] ws ts among fills = tt
among_tokens (m ∷ ms) [] ts among fills = absurd among
among_tokens (m ∷ ms) (w ∷ ws) ts among fills = first_among (is_balanced w) m ms w ws ts refl (λ ns us. among_tokens ns ws us) among fills

-- ---- faults

-- one of these tokens goes from there up to there
abbrev pub IsToken : List PlacedToken → ℕ → ℕ → Type 0
IsToken tokens start end = (t : PlacedToken) × Contains tokens t × (t.start ≡ start) × (end_of t.kind t.end ≡ end)

are_tokens : (all tokens : List PlacedToken) → ((t : PlacedToken) → Contains tokens t → Contains all t) → AllByRecursion (λ (t : PlacedToken). IsToken all t.start (end_of t.kind t.end)) tokens
are_tokens all [] each = tt
are_tokens all (t ∷ tokens) each = ((t, each t (contains_here t tokens), refl, refl), are_tokens all tokens (λ u there. each u (contains_behind t u tokens there)))

-- what is told of a fault beside its place and its reason: the number that is due, or where it ends
abbrev pub told_of : Reason → ℕ → ℕ
told_of (reason.WrongNumber due) end = due
told_of reason.WrongType end = 0
told_of r end = end

abbrev pub told : Fault → ℕ
told f = told_of f.reason f.end

module _ (text : List ℕ) (tokens : List PlacedToken) (from : AreFrom 0 tokens) (symbols : List Symbol) (stand : StandFor (map (symbol Ir text) tokens) symbols) where
  pub symbols_stand : (T : ℕ → ℕ → Type 0) → AllStand (IsToken tokens) T symbols
  symbols_stand T = all_stood (IsToken tokens) T [] (map (symbol Ir text) tokens) symbols stand (tokens_stand (IsToken tokens) T text tokens (are_tokens tokens tokens (λ t there. there)))

  one_end : (a b c d : ℕ) → a ≡ b → IsToken tokens a c → IsToken tokens b d → c ≡ d
  one_end a b c d place first second =
      let same : first.0 ≡ second.0 = one_at start_of 0 tokens from first.0 second.0 first.1 second.1 (first.2 ∙ place ∙ sym second.2) in
      sym first.3 ∙ ap (λ (t : PlacedToken). end_of t.kind t.end) same ∙ second.3

  one_due : (w : ModuleText) → IsWritten ModuleSort w symbols → (a b due given : ℕ) → a ≡ b → IsDueAt (marks_of w.items) a due → IsDueAt (marks_of w.items) b given → due ≡ given
  one_due w written a b due given place first second =
      let all = marks_of w.items in
      let rises = rise text 0 [] tokens symbols all from stand (among_tokens all (modules.written w) symbols (marks_among w.items) written) in
      ap (λ (m : Mark). m.due) (one_at begin_of 0 all rises (mark_at a due) (mark_at b given) first second place)

  module _ (w : ModuleText) (written : IsWritten ModuleSort w symbols) where
    abbrev pub IsToldAt : Reason → ℕ → ℕ → Type 0
    IsToldAt = ReasonStands (IsToken tokens) (IsDueAt (marks_of w.items))

    same_told : (r s : Reason) (a b c d : ℕ) → a ≡ b → rank r ≡ rank s → IsToldAt r a c → IsToldAt s b d → told_of r c ≡ told_of s d
    same_told reason.Twice reason.Twice a b c d place ranks first second = one_end a b c d place first second
    same_told (reason.WrongNumber due) (reason.WrongNumber given) a b c d place ranks first second = one_due w written a b due given place first second
    same_told reason.Unknown reason.Unknown a b c d place ranks first second = one_end a b c d place first second
    same_told reason.LeftOut reason.LeftOut a b c d place ranks first second = one_end a b c d place first second
    same_told reason.WrongType reason.WrongType a b c d place ranks first second = refl
    same_told reason.Twice s a b c d place ranks first second = absurd (omega (arith, ranks))
    same_told (reason.WrongNumber due) s a b c d place ranks first second = absurd (omega (arith, ranks))
    same_told reason.Unknown s a b c d place ranks first second = absurd (omega (arith, ranks))
    same_told reason.LeftOut s a b c d place ranks first second = absurd (omega (arith, ranks))
    same_told reason.WrongType s a b c d place ranks first second = absurd (omega (arith, ranks))

    pub told_alike : (f g : Fault) → FaultStands (IsToken tokens) (IsDueAt (marks_of w.items)) f → FaultStands (IsToken tokens) (IsDueAt (marks_of w.items)) g → f.start ≡ g.start → rank f.reason ≡ rank g.reason → told f ≡ told g
    told_alike f g first second place ranks = same_told f.reason g.reason f.start g.start f.end g.end place ranks first second
