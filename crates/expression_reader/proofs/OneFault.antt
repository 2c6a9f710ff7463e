-- By which step a fault of a text of one expression or one type is found, and which one it is. A text has one such step, and one fault there.
use Rattle.std.proofs.Common.{◌≡◌, ◌∙◌, ◌<◌, ◌≤◌, ◌+◌, ◌-◌, ℕ, zero, suc, Bool, true, false, cond, nat_lt, List, [], ◌∷◌, ◌++◌, length, map, take, drop, Option, Some, ⊎_elim, refl, ap, sym, subst, arith}
use Rattle.std.specs.Prelude.{◌==◌, ◌&&◌, ◌||◌, slice_get}
use Rattle.std.proofs.lemmas.Bool.{cases_order}
use Rattle.ir_core.specs.Limits.{text_limit}
use Rattle.ir_core.specs.declared.limits.Limit.{Limit}
use Rattle.ir_core.specs.declared.limits.Limit.TheVariants as limit
use Rattle.ir_lexer.specs.Cut.{Placed}
use Rattle.ir_lexer.specs.declared.fault.TextFault.{TextFault}
use Rattle.ir_lexer.specs.declared.fault.TextFault.TheVariants as fault
use Rattle.ir_lexer.specs.declared.token.LexFault.{LexFault}
use Rattle.module_grammar.specs.Laws.{WritesOneTree}
use Rattle.module_grammar.specs.Sorts.{Sort, Holds}
use Rattle.module_grammar.specs.Symbols.{Symbol, kind_of}
use Rattle.module_grammar.specs.Tokens.{token_grammar}
use Rattle.module_spelling.specs.Faults.{IsFirstOf, IsStuck, PassesLimit}
use Rattle.module_texts.specs.Texts.{HasLexFault, IsShort, is_left_out_at, place_at}
use Rattle.ir_lexer.specs.LeftOut.{is_left_out}
use Rattle.derivation_writer.proofs.ReadMarks.Limits.{not_limited}
use Rattle.derivation_writer.specs.ReadMarks.Reading.{IsReadAs}
use Rattle.derivation_writer.specs.ReadMarks.Runs.{IsStart}
use Rattle.name_claims.specs.Faults.{rank}
use Rattle.name_claims.specs.declared.claims.Fault.{Fault}
use Rattle.predictive.proofs.Faults.{none_in_text, one_fault}
use Rattle.predictive.specs.Grammar.{Agree}
use Rattle.predictive.specs.declared.symbol.Symbol.TheVariants.{Non}
use Rattle.expression_reader.specs.ToldTypes.{of_lexer, of_place}
use Rattle.expression_reader.specs.Types.{OfTokens}

-- What is read of a text: its sort, its number in the grammar, the symbols that tokens are, and what is out of range in it.
pub record Form : Type 1 where
  pub sort : Sort
  pub number : ℕ
  pub symbols : List ℕ → List Placed → List Symbol
  pub faults : Holds sort → List Fault

-- ---- what is told of a token that isn't expected

abbrev told : Placed → Bool → TextFault
told t left = cond left (fault.LeftOut t.start (t.end - t.start)) (fault.Expected t.start)

pub expected : (end : ℕ) (tokens : List Placed) (k place : ℕ) → is_left_out_at tokens k ≡ false → place ≡ place_at end tokens k → fault.Expected place ≡ of_place end (slice_get tokens k)
expected end [] k place other at = ap fault.Expected at
expected end (t ∷ tokens) zero place other at = ap fault.Expected at ∙ sym (ap (told t) other)
expected end (t ∷ tokens) (suc k) place other at = expected end tokens k place other at

pub left_out :
    (end : ℕ) (o : Option Placed) (t : Placed) (place size : ℕ) → o ≡ Some t → is_left_out t.kind ≡ true → place ≡ t.start → size ≡ t.end - t.start
    → fault.LeftOut place size ≡ of_place end o
left_out end o t place size there left at sized =
    ap (λ p. fault.LeftOut p size) at ∙ ap (λ n. fault.LeftOut t.start n) sized ∙ sym (ap (told t) left) ∙ sym (ap (of_place end) there)

-- ---- a limit that is passed, and a token that isn't expected

-- a longer beginning goes on from a shorter one as the text does
longer :
    (ks more : List ℕ) (a b : ℕ) → a < b → b ≤ length ks
    → Agree (drop a (take b ks) ++ more) (drop a ks) × (take a ks ++ (drop a (take b ks) ++ more) ≡ take b ks ++ more)
longer [] more a b less within = absurd (grind arith)
longer (k ∷ ks) more a zero less within = absurd (omega arith)
longer (k ∷ ks) more zero (suc b) less within = (refl, refl)
longer (k ∷ ks) more (suc a) (suc b) less within =
    let rest = longer ks more a b (omega arith) (grind arith) in
    (rest.0, ap (λ l. k ∷ l) rest.1)

module _ (n : ℕ) (kinds : List ℕ) where
  -- behind a token that isn't expected nothing is read
  passed_where_stuck : (j k : ℕ) (l : Limit) → k ≤ j → PassesLimit n kinds j l → IsStuck n kinds k → ⊥
  passed_where_stuck j k l less (within, (more, f, formed, e, first)) stuck =
      let on = longer kinds more k (j + 1) (omega (arith, less)) (omega (arith, within)) in
      stuck.0.2 (drop k (take (j + 1) kinds) ++ more) on.0 (f, formed, e ∙ sym on.1)

  passed_or_stuck : (j k : ℕ) (l : Limit) → PassesLimit n kinds j l → IsStuck n kinds k → ⊥
  passed_or_stuck j k l passes stuck =
      ⊎_elim (λ same. passed_where_stuck j k l (omega (arith, same)) passes stuck)
      (⊎_elim (λ less. stuck.1 j l less passes) (λ less. passed_where_stuck j k l (omega (arith, less)) passes stuck)) (cases_order j k)

-- ---- the first by place

level : (p a q b : ℕ) → (nat_lt p q || ((p == q) && nat_lt a b)) ≡ false → (nat_lt q p || ((q == p) && nat_lt b a)) ≡ false → p ≡ q
level p a q b e f = grind (arith, e, f)

one_start : (faults : List Fault) (f g : Fault) → IsFirstOf faults f → IsFirstOf faults g → f.start ≡ g.start
one_start faults f g first second = level f.start (rank f.reason) g.start (rank g.reason) (second.1 f first.0) (first.1 g second.0)

-- ---- the steps

module _ (form : Form) (bytes : List ℕ) where
  abbrev pub kinds : List Placed → List ℕ
  kinds tokens = map kind_of (form.symbols bytes tokens)

  abbrev pub IsDeep : List Placed → Type 0
  IsDeep tokens = (k : ℕ) × PassesLimit form.number (kinds tokens) k limit.Depth

  abbrev pub IsStuckSo : TextFault → List Placed → Type 0
  IsStuckSo f tokens = (k : ℕ) × IsStuck form.number (kinds tokens) k × (f ≡ of_place (length bytes) (slice_get tokens k))

  abbrev pub IsOut : Fault → List Placed → Type 0
  IsOut f tokens = (tree : Holds form.sort) × IsReadAs form.sort form.number (form.symbols bytes tokens) tree × IsFirstOf (form.faults tree) f

pub data Found (form : Form) (bytes : List ℕ) (f : TextFault) : Type 0 where
  Long : text_limit < length bytes → f ≡ fault.Limit limit.Text → Found form bytes f
  Lexed : (l : LexFault) → HasLexFault bytes l → f ≡ of_lexer l → Found form bytes f
  Deep : OfTokens bytes (IsDeep form bytes) → f ≡ fault.Limit limit.Depth → Found form bytes f
  Stuck : OfTokens bytes (IsStuckSo form bytes f) → Found form bytes f
  Out : (g : Fault) → OfTokens bytes (IsOut form bytes g) → f ≡ fault.WrongType g.start → Found form bytes f

module _ (form : Form) (once : WritesOneTree form.sort) (start : IsStart form.number) (bytes : List ℕ) where
  -- no two steps

  deep_stuck : (f : TextFault) (tokens : List Placed) → IsDeep form bytes tokens → IsStuckSo form bytes f tokens → ⊥
  deep_stuck f tokens (j, passes) (k, stuck, told) = passed_or_stuck form.number (kinds form bytes tokens) j k limit.Depth passes stuck

  deep_out : (g : Fault) (tokens : List Placed) → IsDeep form bytes tokens → IsOut form bytes g tokens → ⊥
  deep_out g tokens (k, passes) (tree, r, first) =
      not_limited form.number start (kinds form bytes tokens) r.derivation r.formed r.yields r.within k limit.Depth passes

  stuck_out : (f : TextFault) (g : Fault) (tokens : List Placed) → IsStuckSo form bytes f tokens → IsOut form bytes g tokens → ⊥
  stuck_out f g tokens (k, stuck, told) (tree, r, first) =
      none_in_text token_grammar (Non form.number ∷ []) (kinds form bytes tokens) k (r.derivation, r.formed, r.yields) stuck.0

  -- one fault of a step

  stuck_stuck : (f g : TextFault) (tokens : List Placed) → IsStuckSo form bytes f tokens → IsStuckSo form bytes g tokens → f ≡ g
  stuck_stuck f g tokens (j, stuck, told) (k, other, also) =
      let same : j ≡ k = one_fault token_grammar (Non form.number ∷ []) (kinds form bytes tokens) j k stuck.0 other.0 in
      told ∙ ap (λ n. of_place (length bytes) (slice_get tokens n)) same ∙ sym also

  out_out : (f g : Fault) (tokens : List Placed) → IsOut form bytes f tokens → IsOut form bytes g tokens → f.start ≡ g.start
  out_out f g tokens (tree, r, first) (other, s, second) =
      let same : tree ≡ other = once tree other (form.symbols bytes tokens) r.written s.written in
      one_start (form.faults other) f g (subst (λ t. IsFirstOf (form.faults t) f) same first) second

  -- the tokens of a text are one, and none where it isn't cut
  together : {X : Type 0} (P Q : List Placed → Type 0) → ((tokens : List Placed) → P tokens → Q tokens → X) → OfTokens bytes P → OfTokens bytes Q → X
  together P Q by (tokens, has, is) (others, had, at) =
      let both = sym had.1 ∙ has.1 in
      let same : others ≡ tokens = cc in
      by tokens is (subst Q same at)

  no_tokens : (P : List Placed → Type 0) (l : LexFault) → HasLexFault bytes l → OfTokens bytes P → ⊥
  no_tokens P l none some = let both = sym none.1 ∙ some.1.1 in cc

  one_lexed : (l m : LexFault) → HasLexFault bytes l → HasLexFault bytes m → l ≡ m
  one_lexed l m a b = let same = sym a.1 ∙ b.1 in cc

  too_long : {X : Type 0} → text_limit < length bytes → IsShort bytes → X
  too_long long short = absurd (omega (arith, long, short))

  pub one_told : (f g : TextFault) → Found form bytes f → Found form bytes g → f ≡ g
  one_told f g (Long long e) (Long other d) = e ∙ sym d
  one_told f g (Long long e) (Lexed m less d) = too_long long less.0
  one_told f g (Long long e) (Deep less d) = too_long long less.1.0
  one_told f g (Long long e) (Stuck less) = too_long long less.1.0
  one_told f g (Long long e) (Out h less d) = too_long long less.1.0
  one_told f g (Lexed l has e) (Long long d) = too_long long has.0
  one_told f g (Lexed l has e) (Lexed m other d) = e ∙ ap of_lexer (one_lexed l m has other) ∙ sym d
  one_told f g (Lexed l has e) (Deep other d) = absurd (no_tokens (IsDeep form bytes) l has other)
  one_told f g (Lexed l has e) (Stuck other) = absurd (no_tokens (IsStuckSo form bytes g) l has other)
  one_told f g (Lexed l has e) (Out h other d) = absurd (no_tokens (IsOut form bytes h) l has other)
  one_told f g (Deep has e) (Long long d) = too_long long has.1.0
  one_told f g (Deep has e) (Lexed m other d) = absurd (no_tokens (IsDeep form bytes) m other has)
  one_told f g (Deep has e) (Deep other d) = e ∙ sym d
  one_told f g (Deep has e) (Stuck other) = absurd (together (IsDeep form bytes) (IsStuckSo form bytes g) (deep_stuck g) has other)
  one_told f g (Deep has e) (Out h other d) = absurd (together (IsDeep form bytes) (IsOut form bytes h) (deep_out h) has other)
  one_told f g (Stuck has) (Long long d) = too_long long has.1.0
  one_told f g (Stuck has) (Lexed m other d) = absurd (no_tokens (IsStuckSo form bytes f) m other has)
  one_told f g (Stuck has) (Deep other d) = absurd (together (IsDeep form bytes) (IsStuckSo form bytes f) (deep_stuck f) other has)
  one_told f g (Stuck has) (Stuck other) = together (IsStuckSo form bytes f) (IsStuckSo form bytes g) (stuck_stuck f g) has other
  one_told f g (Stuck has) (Out h other d) = absurd (together (IsStuckSo form bytes f) (IsOut form bytes h) (stuck_out f h) has other)
  one_told f g (Out i has e) (Long long d) = too_long long has.1.0
  one_told f g (Out i has e) (Lexed m other d) = absurd (no_tokens (IsOut form bytes i) m other has)
  one_told f g (Out i has e) (Deep other d) = absurd (together (IsDeep form bytes) (IsOut form bytes i) (deep_out i) other has)
  one_told f g (Out i has e) (Stuck other) = absurd (together (IsStuckSo form bytes g) (IsOut form bytes i) (stuck_out g i) other has)
  one_told f g (Out i has e) (Out h other d) = e ∙ ap fault.WrongType (together (IsOut form bytes i) (IsOut form bytes h) (out_out i h) has other) ∙ sym d
