-- A text spells one type, and a text that spells one has no fault.
use Rattle.std.proofs.Common.{◌≡◌, ◌∙◌, ℕ, List, [], ◌∷◌, Result, Ok, Err, IfOk, refl, ap, sym, subst, arith}
use Rattle.std.specs.List.{Contains}
use Rattle.ir_core.specs.declared.limits.Limit.TheVariants as limit
use Rattle.ir_lexer.specs.Cut.{Placed}
use Rattle.ir_lexer.specs.declared.token.LexFault.{LexFault}
use Rattle.ir_lexer.specs.declared.token.LexFault.TheVariants as lexer
use Rattle.ir_types.specs.declared.ty.Ty.{Ty}
use Rattle.module_grammar.specs.Laws.{WritesOneTree}
use Rattle.module_grammar.specs.Sorts.{AnyType}
use Rattle.module_grammar.specs.Tokens.{token_grammar}
use Rattle.module_grammar.specs.declared.types.TypeText.{TypeText}
use Rattle.module_spelling.specs.Faults.{IsFirstOf, PassesLimit}
use Rattle.module_texts.specs.Texts.{HasLexFault, IsShort, own_symbols}
use Rattle.derivation_writer.proofs.ReadMarks.Limits.{not_limited}
use Rattle.derivation_writer.proofs.ReadMarks.Whole.{type_starts}
use Rattle.name_claims.specs.declared.claims.Fault.{Fault}
use Rattle.named_modules.specs.Types.{type_of}
use Rattle.predictive.proofs.Faults.{none_in_text}
use Rattle.predictive.specs.declared.symbol.Symbol.TheVariants.{Non}
use Rattle.ir_lexer.specs.declared.fault.TextFault.{TextFault}
use Rattle.ir_lexer.specs.declared.fault.TextFault.TheVariants as fault
use Rattle.expression_reader.specs.TypeLaws.{IsToldFault}
use Rattle.expression_reader.specs.Types.{AreOfType, IsCountFault, IsStuckAt, IsTypeFault, OfTokens, SpellsType, count_faults, own_kinds, type_number}

none_there : {X : Type 0} (xs : List X) (x : X) → xs ≡ [] → Contains xs x → ⊥
none_there [] x e (k, less, at) = omega (arith, less)
none_there (y ∷ ys) x e has = cc

module _ (once : WritesOneTree AnyType) (bytes : List ℕ) (t : Ty) (s : SpellsType bytes t) where
  -- what is so of the tokens of the text is so of those that are spelled
  of_spelled : (P : List Placed → Type 0) → OfTokens bytes P → P s.tokens
  of_spelled P (tokens, has, is) =
      let both = sym has.1 ∙ s.cut in
      let same : tokens ≡ s.tokens = cc in
      subst P same is

  one_tree : (tree : TypeText) → AreOfType bytes s.tokens tree → s.tree ≡ tree
  one_tree tree read = once s.tree tree (own_symbols bytes s.tokens) s.read.written read.written

  pub one_type : (other : Ty) → SpellsType bytes other → other ≡ t
  one_type other o =
      let both = sym o.cut ∙ s.cut in
      let same : o.tokens ≡ s.tokens = cc in
      let one = one_tree o.tree (subst (λ tokens. AreOfType bytes tokens o.tree) same o.read) in
      o.same ∙ ap type_of (sym one) ∙ sym s.same

  no_lexed : (f : LexFault) → HasLexFault bytes f → ⊥
  no_lexed f has = let both = sym has.1 ∙ s.cut in cc

  no_stuck : (k : ℕ) → OfTokens bytes (λ tokens. IsStuckAt bytes tokens k) → ⊥
  no_stuck k is =
      none_in_text token_grammar (Non type_number ∷ []) (own_kinds bytes s.tokens) k (s.read.derivation, s.read.formed, s.read.yields)
      (of_spelled (λ tokens. IsStuckAt bytes tokens k) is).0

  no_depth : OfTokens bytes (λ tokens. (k : ℕ) × PassesLimit type_number (own_kinds bytes tokens) k limit.Depth) → ⊥
  no_depth is =
      let passes = of_spelled (λ tokens. (k : ℕ) × PassesLimit type_number (own_kinds bytes tokens) k limit.Depth) is in
      not_limited type_number type_starts (own_kinds bytes s.tokens) s.read.derivation s.read.formed s.read.yields s.read.within passes.0 limit.Depth passes.1

  no_count : (f : Fault) → IsCountFault bytes f → ⊥
  no_count f is =
      let first = of_spelled (λ tokens. (tree : TypeText) × AreOfType bytes tokens tree × IsFirstOf (count_faults tree) f) is in
      none_there (count_faults first.0) f (ap count_faults (sym (one_tree first.0 first.1)) ∙ s.counts) first.2.0

  no_fault : (f : TextFault) → IsShort bytes → IsTypeFault bytes f → (f ≡ fault.Memory → ⊥) → ⊥
  no_fault (fault.Limit limit.Text) short is some = omega (arith, short, is)
  no_fault (fault.Limit limit.Depth) short is some = no_depth is
  no_fault (fault.Limit limit.Lines) short is some = is
  no_fault (fault.Limit limit.Block) short is some = is
  no_fault (fault.Limit limit.Json) short is some = is
  no_fault (fault.Limit limit.Facts) short is some = is
  no_fault (fault.BadByte place) short is some = no_lexed (lexer.BadByte place) is
  no_fault (fault.BadString place) short is some = no_lexed (lexer.BadString place) is
  no_fault (fault.BadNumber place) short is some = no_lexed (lexer.BadNumber place) is
  no_fault (fault.Expected place) short (tokens, has, is) some = no_stuck is.0 (tokens, has, is.1)
  no_fault (fault.LeftOut place size) short (tokens, has, is) some = no_stuck is.0 (tokens, has, is.2)
  no_fault (fault.Unknown place size) short is some = is
  no_fault (fault.Twice place size) short is some = is
  no_fault (fault.WrongNumber place expected) short is some = is
  no_fault (fault.WrongType place) short is some = no_count is.0 is.1
  no_fault fault.Memory short is some = some refl

pub spell_one : WritesOneTree AnyType → (bytes : List ℕ) (a b : Ty) → SpellsType bytes a → SpellsType bytes b → a ≡ b
spell_one once bytes a b s t = one_type once bytes b t a s

pub exclude : WritesOneTree AnyType → (bytes : List ℕ) (f : TextFault) (t : Ty) → IsShort bytes → IsToldFault bytes f → SpellsType bytes t → ⊥
exclude once bytes f t short told s = no_fault once bytes t s f short told.0 told.1

pub only_by : {E : Type 0} (Is : Ty → Type 0) (answer : Result Ty E) → ((a b : Ty) → Is a → Is b → a ≡ b) → IfOk answer Is
    → IfOk answer (λ t. (other : Ty) → Is other → other ≡ t)
only_by Is (Ok t) once is = λ other at. once other t at is
only_by Is (Err e) once is = tt
