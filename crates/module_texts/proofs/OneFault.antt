-- By which step a fault of a text is found, and what it is there. A text has one such step, and one fault there.
use Rattle.std.proofs.Common.{◌≡◌, ◌<◌, ◌-◌, ℕ, zero, suc, true, false, cond, List, [], ◌∷◌, length, Some, inl, inr, refl, ap, sym, ◌∙◌, subst, arith}
use Rattle.std.specs.Prelude.{slice_get}
use Rattle.ir_core.specs.Limits.{text_limit}
use Rattle.ir_core.specs.declared.limits.Limit.{Limit}
use Rattle.ir_core.specs.declared.limits.Limit.TheVariants as limit
use Rattle.ir_lexer.specs.Cut.{Placed}
use Rattle.ir_lexer.specs.declared.token.LexFault.{LexFault}
use Rattle.ir_lexer.specs.declared.token.LexFault.TheVariants as lexer
use Rattle.module_grammar.specs.Laws.{WritesOneTree}
use Rattle.module_grammar.specs.Sorts.{Module as ModuleSort}
use Rattle.module_grammar.specs.Symbols.{Symbol}
use Rattle.module_spelling.specs.Context.{StandFor}
use Rattle.module_spelling.specs.Faults.{HasLargeBlock, HasLimit, HasNameFault, IsGrammarFault}
use Rattle.ir_lexer.specs.LeftOut.{is_left_out}
use Rattle.name_claims.specs.Faults.{rank}
use Rattle.name_claims.specs.declared.claims.Fault.{Fault}
use Rattle.name_claims.specs.declared.claims.Reason.TheVariants as reason
use Rattle.ir_lexer.specs.declared.fault.TextFault.{TextFault}
use Rattle.ir_lexer.specs.declared.fault.TextFault.TheVariants as fault
use Rattle.derivation_writer.specs.TokenLimits.Laws.{MarksFirst}
use Rattle.module_spelling.specs.TokenLaws.{CalledNamesStand, DeclaredNamesStand}
use Rattle.module_texts.proofs.Apart.{told}
use Rattle.module_texts.proofs.OneLimit.{fault_or_read, limit_or_fault, limit_or_read, one_grammar_fault, one_limit}
use Rattle.module_texts.proofs.OneRead.{name_fault_or_block, one_name_fault}
use Rattle.module_texts.proofs.Starts.{tokens_from}
use Rattle.module_texts.proofs.Stood.{stand_for_one}
use Rattle.module_texts.specs.Laws.{IsAlike, IsToldFault}
use Rattle.module_texts.specs.Texts.{HasLexFault, IsNameFault, IsShort, IsTextFault, OfSymbols, is_left_out_at, own_symbols, place_at}

-- ---- one fault

itself : (f : TextFault) → (f ≡ fault.Memory → ⊥) → IsAlike f f
itself (fault.BadByte place) some = refl
itself (fault.BadString place) some = refl
itself (fault.BadNumber place) some = refl
itself (fault.Expected place) some = refl
itself (fault.LeftOut place size) some = (refl, refl)
itself (fault.Unknown place size) some = (refl, refl)
itself (fault.Twice place size) some = (refl, refl)
itself (fault.WrongNumber place expected) some = (refl, refl)
itself (fault.WrongType place) some = refl
itself (fault.Limit l) some = refl
itself fault.Memory some = absurd (some refl)

alike : (f g : TextFault) → (f ≡ fault.Memory → ⊥) → f ≡ g → IsAlike f g
alike f g some e = subst (IsAlike f) e (itself f some)

abbrev of_lexer : LexFault → TextFault
of_lexer (lexer.BadByte place) = fault.BadByte place
of_lexer (lexer.BadString place) = fault.BadString place
of_lexer (lexer.BadNumber place) = fault.BadNumber place
of_lexer lexer.Memory = fault.Memory
of_lexer (lexer.Limit l) = fault.Limit l

-- a token that isn't expected
abbrev of_token : Placed → TextFault
of_token t = cond (is_left_out t.kind) (fault.LeftOut t.start (t.end - t.start)) (fault.Expected t.start)

-- the same, or the end of the text
abbrev unexpected_at : List Placed → ℕ → ℕ → TextFault
unexpected_at [] end k = fault.Expected end
unexpected_at (t ∷ tokens) end zero = of_token t
unexpected_at (t ∷ tokens) end (suc k) = unexpected_at tokens end k

-- by its rank, its place, and what is told beside them
abbrev of_rank : ℕ → ℕ → ℕ → TextFault
of_rank zero start told = fault.Twice start (told - start)
of_rank (suc zero) start told = fault.WrongNumber start told
of_rank (suc (suc zero)) start told = fault.Unknown start (told - start)
of_rank (suc (suc (suc zero))) start told = fault.LeftOut start (told - start)
of_rank (suc (suc (suc (suc more)))) start told = fault.WrongType start

abbrev of_names : Fault → TextFault
of_names f = of_rank (rank f.reason) f.start (told f)

-- ---- the steps

abbrev IsStuckSo : List ℕ → TextFault → List Placed → List Symbol → Type 0
IsStuckSo bytes f tokens symbols = (k : ℕ) × IsGrammarFault (own_symbols bytes tokens) symbols k × (f ≡ unexpected_at tokens (length bytes) k)

data Found (bytes : List ℕ) (f : TextFault) : Type 0 where
  Long : text_limit < length bytes → f ≡ fault.Limit limit.Text → Found bytes f
  Lexed : (l : LexFault) → HasLexFault bytes l → f ≡ of_lexer l → Found bytes f
  Passed : (l : Limit) → OfSymbols bytes (λ tokens symbols. HasLimit (own_symbols bytes tokens) symbols l) → f ≡ fault.Limit l → Found bytes f
  Stuck : OfSymbols bytes (IsStuckSo bytes f) → Found bytes f
  Named : (g : Fault) → IsNameFault bytes g → f ≡ of_names g → Found bytes f
  Large : OfSymbols bytes (λ tokens symbols. HasLargeBlock symbols) → f ≡ fault.Limit limit.Block → Found bytes f

expected : (end : ℕ) (tokens : List Placed) (k : ℕ) → is_left_out_at tokens k ≡ false → fault.Expected (place_at end tokens k) ≡ unexpected_at tokens end k
expected end [] k other = refl
expected end (t ∷ tokens) zero other = sym (ap (λ b. cond b (fault.LeftOut t.start (t.end - t.start)) (fault.Expected t.start)) other)
expected end (t ∷ tokens) (suc k) other = expected end tokens k other

at_token : (end : ℕ) (tokens : List Placed) (k : ℕ) (t : Placed) → slice_get tokens k ≡ Some t → unexpected_at tokens end k ≡ of_token t
at_token end [] k t there = cc
at_token end (x ∷ tokens) zero t there = let same : x ≡ t = cc in ap of_token same
at_token end (x ∷ tokens) (suc k) t there = at_token end tokens k t there

left_out : (end : ℕ) (tokens : List Placed) (k place size : ℕ) (t : Placed) → slice_get tokens k ≡ Some t → is_left_out t.kind ≡ true → place ≡ t.start → size ≡ t.end - t.start → fault.LeftOut place size ≡ unexpected_at tokens end k
left_out end tokens k place size t there left at sized =
    ap (fault.LeftOut place) sized
    ∙ ap (λ n. fault.LeftOut n (t.end - t.start)) at
    ∙ sym (at_token end tokens k t there ∙ ap (λ b. cond b (fault.LeftOut t.start (t.end - t.start)) (fault.Expected t.start)) left)

found : (bytes : List ℕ) (f : TextFault) → IsTextFault bytes f → (f ≡ fault.Memory → ⊥) → Found bytes f
found bytes (fault.Limit limit.Text) is some = Long is refl
found bytes (fault.Limit limit.Depth) is some = Passed limit.Depth is refl
found bytes (fault.Limit limit.Lines) is some = Passed limit.Lines is refl
found bytes (fault.Limit limit.Block) is some = Large is refl
found bytes (fault.Limit limit.Json) is some = absurd is
found bytes (fault.Limit limit.Facts) is some = absurd is
found bytes (fault.BadByte place) is some = Lexed (lexer.BadByte place) is refl
found bytes (fault.BadString place) is some = Lexed (lexer.BadString place) is refl
found bytes (fault.BadNumber place) is some = Lexed (lexer.BadNumber place) is refl
found bytes (fault.Expected place) (tokens, symbols, has, (k, is, other, at)) some =
    Stuck (tokens, symbols, has, (k, is, ap fault.Expected at ∙ expected (length bytes) tokens k other))
found bytes (fault.LeftOut place size) (inl (tokens, symbols, has, (k, t, is, there, left, at, sized))) some =
    Stuck (tokens, symbols, has, (k, is, left_out (length bytes) tokens k place size t there left at sized))
found bytes (fault.LeftOut place size) (inr is) some = Named (record { start = place; end = is.0; reason = reason.LeftOut }) is.1 (ap (fault.LeftOut place) is.2)
found bytes (fault.Unknown place size) is some = Named (record { start = place; end = is.0; reason = reason.Unknown }) is.1 (ap (fault.Unknown place) is.2)
found bytes (fault.Twice place size) is some = Named (record { start = place; end = is.0; reason = reason.Twice }) is.1 (ap (fault.Twice place) is.2)
found bytes (fault.WrongNumber place due) is some = Named (record { start = place; end = is.0; reason = reason.WrongNumber due }) is.1 refl
found bytes (fault.WrongType place) is some = Named (record { start = place; end = is.0; reason = reason.WrongType }) is.1 refl
found bytes fault.Memory is some = absurd (some refl)

-- ---- one step

too_long : {X : Type 0} (bytes : List ℕ) → text_limit < length bytes → IsShort bytes → X
too_long bytes long short = absurd (omega (arith, long, short))

module _ (bytes : List ℕ) where
  -- tokens, and no fault of the lexer
  no_tokens : (P : List Placed → List Symbol → Type 0) (l : LexFault) → HasLexFault bytes l → OfSymbols bytes P → ⊥
  no_tokens P l none some = let both = sym none.1 ∙ some.2.0.1 in cc

  one_lexed : (l m : LexFault) → HasLexFault bytes l → HasLexFault bytes m → l ≡ m
  one_lexed l m a b = let same = sym a.1 ∙ b.1 in cc

  -- the tokens of a text are one, and so is what they stand for
  meet : (P Q : List Placed → List Symbol → Type 0) → OfSymbols bytes P → OfSymbols bytes Q → OfSymbols bytes (λ tokens symbols. P tokens symbols × Q tokens symbols)
  meet P Q (tokens, symbols, has, is) (others, more, had, at) =
      let both = sym had.0.1 ∙ has.0.1 in
      let same : others ≡ tokens = cc in
      let stand = subst (λ tokens. StandFor (own_symbols bytes tokens) more) same had.1 in
      let stood : more ≡ symbols = stand_for_one (own_symbols bytes tokens) more symbols stand has.1 in
      (tokens, symbols, has, (is, subst (Q tokens) stood (subst (λ tokens. Q tokens more) same at)))

abbrev Passes : List ℕ → Limit → List Placed → List Symbol → Type 0
Passes bytes l tokens symbols = HasLimit (own_symbols bytes tokens) symbols l

abbrev IsNamed : Fault → List Placed → List Symbol → Type 0
IsNamed g tokens symbols = HasNameFault symbols g

abbrev IsLarge : List Placed → List Symbol → Type 0
IsLarge tokens symbols = HasLargeBlock symbols

module _ (once : WritesOneTree ModuleSort) (marks : MarksFirst) (calls : CalledNamesStand) (declares : DeclaredNamesStand) (bytes : List ℕ) where
  passed_passed : (l m : Limit) → OfSymbols bytes (Passes bytes l) → OfSymbols bytes (Passes bytes m) → l ≡ m
  passed_passed l m a b =
      let both = meet bytes (Passes bytes l) (Passes bytes m) a b in
      one_limit marks (own_symbols bytes both.0) both.1 l m both.3.0 both.3.1

  passed_stuck : (l : Limit) (f : TextFault) → OfSymbols bytes (Passes bytes l) → OfSymbols bytes (IsStuckSo bytes f) → ⊥
  passed_stuck l f a b =
      let both = meet bytes (Passes bytes l) (IsStuckSo bytes f) a b in
      limit_or_fault marks (own_symbols bytes both.0) both.1 l both.3.1.0 both.3.0 both.3.1.1

  passed_named : (l : Limit) (g : Fault) → OfSymbols bytes (Passes bytes l) → IsNameFault bytes g → ⊥
  passed_named l g a b =
      let both = meet bytes (Passes bytes l) (IsNamed g) a b in
      limit_or_read marks (own_symbols bytes both.0) both.1 l both.3.0 both.3.1.0

  passed_large : (l : Limit) → OfSymbols bytes (Passes bytes l) → OfSymbols bytes IsLarge → ⊥
  passed_large l a b =
      let both = meet bytes (Passes bytes l) IsLarge a b in
      limit_or_read marks (own_symbols bytes both.0) both.1 l both.3.0 both.3.1.0

  stuck_stuck : (f g : TextFault) → OfSymbols bytes (IsStuckSo bytes f) → OfSymbols bytes (IsStuckSo bytes g) → f ≡ g
  stuck_stuck f g a b =
      let both = meet bytes (IsStuckSo bytes f) (IsStuckSo bytes g) a b in
      let same : both.3.0.0 ≡ both.3.1.0 = one_grammar_fault marks (own_symbols bytes both.0) both.1 both.3.0.0 both.3.1.0 both.3.0.1 both.3.1.1 in
      both.3.0.2 ∙ ap (unexpected_at both.0 (length bytes)) same ∙ sym both.3.1.2

  stuck_named : (f : TextFault) (g : Fault) → OfSymbols bytes (IsStuckSo bytes f) → IsNameFault bytes g → ⊥
  stuck_named f g a b =
      let both = meet bytes (IsStuckSo bytes f) (IsNamed g) a b in
      fault_or_read marks (own_symbols bytes both.0) both.1 both.3.0.0 both.3.0.1 both.3.1.0

  stuck_large : (f : TextFault) → OfSymbols bytes (IsStuckSo bytes f) → OfSymbols bytes IsLarge → ⊥
  stuck_large f a b =
      let both = meet bytes (IsStuckSo bytes f) IsLarge a b in
      fault_or_read marks (own_symbols bytes both.0) both.1 both.3.0.0 both.3.0.1 both.3.1.0

  named_named : (f g : Fault) → IsNameFault bytes f → IsNameFault bytes g → of_names f ≡ of_names g
  named_named f g a b =
      let both = meet bytes (IsNamed f) (IsNamed g) a b in
      let from = tokens_from bytes both.0 both.2.0.1 in
      let same = one_name_fault once calls declares bytes both.0 from both.1 both.2.1 f g both.3.0 both.3.1 in
      ap (λ r. of_rank r f.start (told f)) same.rank ∙ ap (λ p. of_rank (rank g.reason) p (told f)) same.start ∙ ap (of_rank (rank g.reason) g.start) same.told

  named_large : (f : Fault) → IsNameFault bytes f → OfSymbols bytes IsLarge → ⊥
  named_large f a b =
      let both = meet bytes (IsNamed f) IsLarge a b in
      name_fault_or_block once calls declares bytes both.0 (tokens_from bytes both.0 both.2.0.1) both.1 both.2.1 f both.3.0 both.3.1

  one_step : (f g : TextFault) → Found bytes f → Found bytes g → f ≡ g
  one_step f g (Long long e) (Long other d) = e ∙ sym d
  one_step f g (Long long e) (Lexed m less d) = too_long bytes long less.0
  one_step f g (Long long e) (Passed m less d) = too_long bytes long less.2.0.0
  one_step f g (Long long e) (Stuck less) = too_long bytes long less.2.0.0
  one_step f g (Long long e) (Named h less d) = too_long bytes long less.2.0.0
  one_step f g (Long long e) (Large less d) = too_long bytes long less.2.0.0
  one_step f g (Lexed l has e) (Long long d) = too_long bytes long has.0
  one_step f g (Lexed l has e) (Lexed m other d) = e ∙ ap of_lexer (one_lexed bytes l m has other) ∙ sym d
  one_step f g (Lexed l has e) (Passed m other d) = absurd (no_tokens bytes (Passes bytes m) l has other)
  one_step f g (Lexed l has e) (Stuck other) = absurd (no_tokens bytes (IsStuckSo bytes g) l has other)
  one_step f g (Lexed l has e) (Named h other d) = absurd (no_tokens bytes (IsNamed h) l has other)
  one_step f g (Lexed l has e) (Large other d) = absurd (no_tokens bytes IsLarge l has other)
  one_step f g (Passed l has e) (Long long d) = too_long bytes long has.2.0.0
  one_step f g (Passed l has e) (Lexed m other d) = absurd (no_tokens bytes (Passes bytes l) m other has)
  one_step f g (Passed l has e) (Passed m other d) = e ∙ ap fault.Limit (passed_passed l m has other) ∙ sym d
  one_step f g (Passed l has e) (Stuck other) = absurd (passed_stuck l g has other)
  one_step f g (Passed l has e) (Named h other d) = absurd (passed_named l h has other)
  one_step f g (Passed l has e) (Large other d) = absurd (passed_large l has other)
  one_step f g (Stuck has) (Long long d) = too_long bytes long has.2.0.0
  one_step f g (Stuck has) (Lexed m other d) = absurd (no_tokens bytes (IsStuckSo bytes f) m other has)
  one_step f g (Stuck has) (Passed m other d) = absurd (passed_stuck m f other has)
  one_step f g (Stuck has) (Stuck other) = stuck_stuck f g has other
  one_step f g (Stuck has) (Named h other d) = absurd (stuck_named f h has other)
  one_step f g (Stuck has) (Large other d) = absurd (stuck_large f has other)
  one_step f g (Named i has e) (Long long d) = too_long bytes long has.2.0.0
  one_step f g (Named i has e) (Lexed m other d) = absurd (no_tokens bytes (IsNamed i) m other has)
  one_step f g (Named i has e) (Passed m other d) = absurd (passed_named m i other has)
  one_step f g (Named i has e) (Stuck other) = absurd (stuck_named g i other has)
  one_step f g (Named i has e) (Named h other d) = e ∙ named_named i h has other ∙ sym d
  one_step f g (Named i has e) (Large other d) = absurd (named_large i has other)
  one_step f g (Large has e) (Long long d) = too_long bytes long has.2.0.0
  one_step f g (Large has e) (Lexed m other d) = absurd (no_tokens bytes IsLarge m other has)
  one_step f g (Large has e) (Passed m other d) = absurd (passed_large m other has)
  one_step f g (Large has e) (Stuck other) = absurd (stuck_large g other has)
  one_step f g (Large has e) (Named h other d) = absurd (named_large h other has)
  one_step f g (Large has e) (Large other d) = e ∙ sym d

  pub one_fault : (f g : TextFault) → IsToldFault bytes f → IsToldFault bytes g → IsAlike f g
  one_fault f g is other = alike f g is.1 (one_step f g (found bytes f is.0 is.1) (found bytes g other.0 other.1))
