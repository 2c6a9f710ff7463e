-- What a text of one name is read as, and that this is what it spells or its first fault.
use Rattle.std.proofs.Common.{◌≡◌, ◌∙◌, ◌⊎◌, inl, inr, ◌-◌, ℕ, Bool, true, false, cond, List, [], ◌∷◌, length, Option, None, Some, Result, Ok, Err, refl, ap, sym, subst, arith, map, IfErr, IfOk}
use Rattle.std.specs.Prelude.{is_some, nat_lt, slice_get}
use Rattle.std.proofs.lemmas.Bool.{ltb-false, ltb-true, lt-ltb}
use Rattle.ir_core.specs.declared.limits.Limit.TheVariants as limit
use Rattle.ir_core.specs.Limits.{text_limit}
use Rattle.ir_lexer.specs.Cut.{Cut, IsFaultOf, Placed, cut, lexed}
use Rattle.ir_lexer.specs.LeftOut.{is_left_out}
use Rattle.ir_lexer.specs.declared.fault.TextFault.{TextFault}
use Rattle.ir_lexer.specs.declared.fault.TextFault.TheVariants as fault
use Rattle.ir_lexer.specs.declared.token.LexFault.{LexFault}
use Rattle.ir_lexer.specs.declared.token.LexFault.TheVariants as lexer
use Rattle.ir_lexer.specs.declared.token.Token.{Token}
use Rattle.ir_types.specs.declared.names.Name.{Name}
use Rattle.ir_types.specs.declared.names.Sigil.{Sigil}
use Rattle.module_grammar.specs.Spelled.{placed_in}
use Rattle.module_texts.specs.Texts.{HasLexFault, HasTokens, IsShort}
use Rattle.expression_reader.specs.NameLaws.{EachNameIsJudged, FaultsExclude, IsToldFault, NameFaultsAreOne, NamesAreOne}
use Rattle.expression_reader.specs.Names.{IsNameFault, SpellsName, behind_name, said_name, unexpected}
use Rattle.expression_reader.specs.ToldNames.{alone, name_cut, name_in, named}
use Rattle.expression_reader.specs.ToldTypes.{of_lexer, of_place}
use Rattle.expression_reader.proofs.OneFault.{expected, left_out}
use Rattle.expression_reader.proofs.ToldTypes.{left_out_is, none_left_out, place_is, place_is_end}
use Rattle.expression_reader.proofs.TypeCut.{IsCutWell, cut_well}

-- ---- what the lexer answers

pub fault_told : (sigil : Sigil) (text : List ℕ) (f : LexFault) → IsFaultOf f (lexed text) → IsNameFault sigil text (of_lexer f)
fault_told sigil text f is = go (nat_lt text_limit (length text)) refl f is
  where
    go : (long : Bool) → nat_lt text_limit (length text) ≡ long → (f : LexFault) → IsFaultOf f (cond long (Err (lexer.Limit limit.Text)) (cut 0 0 text)) → IsNameFault sigil text (of_lexer f)
    go long e lexer.Memory is = tt
    go true e (lexer.BadByte place) is = cc
    go true e (lexer.BadString place) is = cc
    go true e (lexer.BadNumber place) is = cc
    go true e (lexer.Limit limit.Text) is = ltb-true text_limit (length text) e
    go true e (lexer.Limit limit.Lines) is = cc
    go true e (lexer.Limit limit.Json) is = cc
    go true e (lexer.Limit limit.Facts) is = cc
    go true e (lexer.Limit limit.Depth) is = cc
    go true e (lexer.Limit limit.Block) is = cc
    go false e (lexer.BadByte place) is = (ltb-false text_limit (length text) e, is)
    go false e (lexer.BadString place) is = (ltb-false text_limit (length text) e, is)
    go false e (lexer.BadNumber place) is = (ltb-false text_limit (length text) e, is)
    go false e (lexer.Limit l) is = absurd (subst IsCutWell is (cut_well 0 0 text))

-- ---- tokens

-- the first token that isn't expected, and what is told of it
abbrev pub IsUnread : Sigil → ℕ → List Placed → TextFault → Type 0
IsUnread sigil end tokens f = (k : ℕ) × (unexpected sigil tokens ≡ Some k) × (f ≡ of_place end (slice_get tokens k))

-- what is read of a token with others behind it, as the token says a name or none
abbrev at : Sigil → Option Name → List Placed → Option ℕ
at sigil o more = cond (is_some o) (behind_name more) (Some 0)

behind_read : (end : ℕ) (t : Placed) (name : Name) (more : List Placed) (f : TextFault) → alone name more ≡ Err f → (k : ℕ) × (behind_name more ≡ Some k) × (f ≡ of_place end (slice_get (t ∷ more) k))
behind_read end t name [] f e = cc
behind_read end t name (u ∷ more) f e = (1, refl, cc)

named_unread : (sigil : Sigil) (end : ℕ) (t : Placed) (more : List Placed) (o : Option Name) (f : TextFault) → named t more o ≡ Err f
    → (k : ℕ) × (at sigil o more ≡ Some k) × (f ≡ of_place end (slice_get (t ∷ more) k))
named_unread sigil end t more None f e = (0, refl, cc)
named_unread sigil end t more (Some name) f e = behind_read end t name more f e

unread : (sigil : Sigil) (end : ℕ) (tokens : List Placed) (f : TextFault) → name_in sigil end tokens ≡ Err f → IsUnread sigil end tokens f
unread sigil end [] f e = (0, refl, cc)
unread sigil end (t ∷ more) f e = named_unread sigil end t more (said_name sigil t.kind) f e

number_is : (a b : ℕ) → Some a ≡ Some b → a ≡ b
number_is a b e = cc

behind_at : (end : ℕ) (t : Placed) (name : Name) (more : List Placed) (k : ℕ) → behind_name more ≡ Some k → alone name more ≡ Err (of_place end (slice_get (t ∷ more) k))
behind_at end t name [] k e = cc
behind_at end t name (u ∷ more) k e = ap (λ j. Err (of_place end (slice_get (t ∷ u ∷ more) j))) (number_is 1 k e)

named_at : (sigil : Sigil) (end : ℕ) (t : Placed) (more : List Placed) (o : Option Name) (k : ℕ) → at sigil o more ≡ Some k → named t more o ≡ Err (of_place end (slice_get (t ∷ more) k))
named_at sigil end t more None k e = ap (λ j. Err (of_place end (slice_get (t ∷ more) j))) (number_is 0 k e)
named_at sigil end t more (Some name) k e = behind_at end t name more k e

read_at : (sigil : Sigil) (end : ℕ) (tokens : List Placed) (k : ℕ) → unexpected sigil tokens ≡ Some k → name_in sigil end tokens ≡ Err (of_place end (slice_get tokens k))
read_at sigil end [] k e = refl
read_at sigil end (t ∷ more) k e = named_at sigil end t more (said_name sigil t.kind) k e

alone_is : (name found : Name) (more : List Placed) → alone name more ≡ Ok found → (more ≡ []) × (name ≡ found)
alone_is name found [] e = (refl, cc)
alone_is name found (t ∷ more) e = cc

named_is : (t : Placed) (more : List Placed) (o : Option Name) (name : Name) → named t more o ≡ Ok name → (more ≡ []) × (o ≡ Some name)
named_is t more None name e = cc
named_is t more (Some found) name e = let is = alone_is found name more e in (is.0, ap Some is.1)

-- ---- of the text

-- a token that isn't expected isn't want of memory
pub place_told : (end : ℕ) (o : Option Placed) → of_place end o ≡ fault.Memory → ⊥
place_told end None e = cc
place_told end (Some t) e = by (is_left_out t.kind) e
  where
    by : (left : Bool) → cond left (fault.LeftOut t.start (t.end - t.start)) (fault.Expected t.start) ≡ fault.Memory → ⊥
    by true e = cc
    by false e = cc

module _ (sigil : Sigil) (bytes : List ℕ) where
  pub spelled_by : (tokens : List Placed) → HasTokens bytes tokens → (name : Name) → name_in sigil (length bytes) tokens ≡ Ok name → SpellsName sigil bytes name
  spelled_by [] has name e = cc
  spelled_by (t ∷ more) has name e =
      let is = named_is t more (said_name sigil t.kind) name e in
      record { token = t; cut = has.1 ∙ ap (λ ts. Ok (t ∷ ts)) is.0; says = is.1 }

  pub fault_by : (tokens : List Placed) → HasTokens bytes tokens → (f : TextFault) → name_in sigil (length bytes) tokens ≡ Err f → IsNameFault sigil bytes f
  fault_by tokens has f e =
      let is = unread sigil (length bytes) tokens f e in
      subst (IsNameFault sigil bytes) (sym is.2) (told is.0 is.1 (slice_get tokens is.0) refl)
    where
      of_word : (k : ℕ) → unexpected sigil tokens ≡ Some k → (t : Placed) → slice_get tokens k ≡ Some t → (left : Bool) → is_left_out t.kind ≡ left
          → IsNameFault sigil bytes (cond left (fault.LeftOut t.start (t.end - t.start)) (fault.Expected t.start))
      of_word k is t found true left = (tokens, has, (k, t, is, found, left, refl, refl))
      of_word k is t found false left = (tokens, has, (k, is, left_out_is tokens k t found ∙ left, sym (place_is (length bytes) tokens k t found)))

      told : (k : ℕ) → unexpected sigil tokens ≡ Some k → (o : Option Placed) → slice_get tokens k ≡ o → IsNameFault sigil bytes (of_place (length bytes) o)
      told k is None found = (tokens, has, (k, is, none_left_out tokens k found, sym (place_is_end (length bytes) tokens k found)))
      told k is (Some t) found = of_word k is t found (is_left_out t.kind) refl

  -- the same of small tokens, where these are held and lent
  module _ (held lent : List Token) (same : lent ≡ held) (has : HasTokens bytes (map (placed_in bytes) held)) (r : Result Name TextFault) where
    lent_tokens : HasTokens bytes (map (placed_in bytes) lent)
    lent_tokens = subst (λ ts. HasTokens bytes (map (placed_in bytes) ts)) (sym same) has

    pub told_name : IfOk r (λ name. name_in sigil (length bytes) (map (placed_in bytes) lent) ≡ Ok name) → IfOk r (SpellsName sigil bytes)
    told_name is = by r is
      where
        by : (r : Result Name TextFault) → IfOk r (λ name. name_in sigil (length bytes) (map (placed_in bytes) lent) ≡ Ok name) → IfOk r (SpellsName sigil bytes)
        by (Ok name) is = spelled_by (map (placed_in bytes) lent) lent_tokens name is
        by (Err f) is = tt

    pub told_fault : IfErr r (λ f. (f ≡ fault.Memory → ⊥) → name_in sigil (length bytes) (map (placed_in bytes) lent) ≡ Err f) → IfErr r (IsNameFault sigil bytes)
    told_fault is = by r is
      where
        of : (f : TextFault) → ((f ≡ fault.Memory → ⊥) → name_in sigil (length bytes) (map (placed_in bytes) lent) ≡ Err f) → IsNameFault sigil bytes f
        of fault.Memory is = tt
        of (fault.Limit l) is = fault_by (map (placed_in bytes) lent) lent_tokens (fault.Limit l) (is (λ e. cc))
        of (fault.BadByte place) is = fault_by (map (placed_in bytes) lent) lent_tokens (fault.BadByte place) (is (λ e. cc))
        of (fault.BadString place) is = fault_by (map (placed_in bytes) lent) lent_tokens (fault.BadString place) (is (λ e. cc))
        of (fault.BadNumber place) is = fault_by (map (placed_in bytes) lent) lent_tokens (fault.BadNumber place) (is (λ e. cc))
        of (fault.Expected place) is = fault_by (map (placed_in bytes) lent) lent_tokens (fault.Expected place) (is (λ e. cc))
        of (fault.LeftOut place size) is = fault_by (map (placed_in bytes) lent) lent_tokens (fault.LeftOut place size) (is (λ e. cc))
        of (fault.Unknown place size) is = fault_by (map (placed_in bytes) lent) lent_tokens (fault.Unknown place size) (is (λ e. cc))
        of (fault.Twice place size) is = fault_by (map (placed_in bytes) lent) lent_tokens (fault.Twice place size) (is (λ e. cc))
        of (fault.WrongNumber place due) is = fault_by (map (placed_in bytes) lent) lent_tokens (fault.WrongNumber place due) (is (λ e. cc))
        of (fault.WrongType place) is = fault_by (map (placed_in bytes) lent) lent_tokens (fault.WrongType place) (is (λ e. cc))

        by : (r : Result Name TextFault) → IfErr r (λ f. (f ≡ fault.Memory → ⊥) → name_in sigil (length bytes) (map (placed_in bytes) lent) ≡ Err f) → IfErr r (IsNameFault sigil bytes)
        by (Ok name) is = tt
        by (Err f) is = of f is

  -- what a text is read as
  abbrev pub answer : Result Name TextFault
  answer = cond (nat_lt text_limit (length bytes)) (Err (fault.Limit limit.Text)) (name_cut sigil (length bytes) (cut 0 0 bytes))

  of_short : IsShort bytes → answer ≡ name_cut sigil (length bytes) (cut 0 0 bytes)
  of_short short = by (nat_lt text_limit (length bytes)) refl
    where
      by : (long : Bool) → nat_lt text_limit (length bytes) ≡ long → cond long (Err (fault.Limit limit.Text)) (name_cut sigil (length bytes) (cut 0 0 bytes)) ≡ name_cut sigil (length bytes) (cut 0 0 bytes)
      by true e = absurd (let long = ltb-true text_limit (length bytes) e in omega (arith, short, long))
      by false e = refl

  of_tokens : (tokens : List Placed) → HasTokens bytes tokens → answer ≡ name_in sigil (length bytes) tokens
  of_tokens tokens has = of_short has.0 ∙ ap (name_cut sigil (length bytes)) has.1

  of_lexed : (f : LexFault) → HasLexFault bytes f → answer ≡ Err (of_lexer f)
  of_lexed f has = of_short has.0 ∙ ap (name_cut sigil (length bytes)) has.1

  spelled_is : (name : Name) → IsShort bytes → SpellsName sigil bytes name → answer ≡ Ok name
  spelled_is name short s = of_tokens (s.token ∷ []) (short, s.cut) ∙ ap (named s.token []) s.says

  fault_is : (f : TextFault) → IsNameFault sigil bytes f → (f ≡ fault.Memory → ⊥) → answer ≡ Err f
  fault_is (fault.Limit limit.Text) is some = ap (λ b. cond b (Err (fault.Limit limit.Text)) (name_cut sigil (length bytes) (cut 0 0 bytes))) (lt-ltb text_limit (length bytes) is)
  fault_is (fault.Limit limit.Depth) is some = absurd is
  fault_is (fault.Limit limit.Lines) is some = absurd is
  fault_is (fault.Limit limit.Block) is some = absurd is
  fault_is (fault.Limit limit.Json) is some = absurd is
  fault_is (fault.Limit limit.Facts) is some = absurd is
  fault_is (fault.BadByte place) is some = of_lexed (lexer.BadByte place) is
  fault_is (fault.BadString place) is some = of_lexed (lexer.BadString place) is
  fault_is (fault.BadNumber place) is some = of_lexed (lexer.BadNumber place) is
  fault_is (fault.Expected place) (tokens, has, (k, is, other, there)) some =
      of_tokens tokens has ∙ read_at sigil (length bytes) tokens k is ∙ ap Err (sym (expected (length bytes) tokens k place other there))
  fault_is (fault.LeftOut place size) (tokens, has, (k, t, is, found, left, there, sized)) some =
      of_tokens tokens has ∙ read_at sigil (length bytes) tokens k is
      ∙ ap Err (sym (left_out (length bytes) (slice_get tokens k) t place size found left there sized))
  fault_is (fault.Unknown place size) is some = absurd is
  fault_is (fault.Twice place size) is some = absurd is
  fault_is (fault.WrongNumber place due) is some = absurd is
  fault_is (fault.WrongType place) is some = absurd is
  fault_is fault.Memory is some = absurd (some refl)

  -- ---- each text is judged

  abbrev IsJudged : Type 0
  IsJudged = ((name : Name) × IsShort bytes × SpellsName sigil bytes name) ⊎ ((f : TextFault) × IsToldFault sigil bytes f)

  in_tokens : (tokens : List Placed) → HasTokens bytes tokens → (r : Result Name TextFault) → name_in sigil (length bytes) tokens ≡ r → IsJudged
  in_tokens tokens has (Ok name) e = inl (name, has.0, spelled_by tokens has name e)
  in_tokens tokens has (Err f) e =
      let is = unread sigil (length bytes) tokens f e in
      inr (f, (fault_by tokens has f e, λ m. place_told (length bytes) (slice_get tokens is.0) (sym is.2 ∙ m)))

  in_cut : (c : Cut) → IsShort bytes → cut 0 0 bytes ≡ c → IsCutWell c → IsJudged
  in_cut (Ok tokens) short e well = in_tokens tokens (short, e) (name_in sigil (length bytes) tokens) refl
  in_cut (Err (lexer.BadByte place)) short e well = inr (fault.BadByte place, ((short, e), λ m. cc))
  in_cut (Err (lexer.BadString place)) short e well = inr (fault.BadString place, ((short, e), λ m. cc))
  in_cut (Err (lexer.BadNumber place)) short e well = inr (fault.BadNumber place, ((short, e), λ m. cc))
  in_cut (Err lexer.Memory) short e well = absurd well
  in_cut (Err (lexer.Limit l)) short e well = absurd well

  by_length : (long : Bool) → nat_lt text_limit (length bytes) ≡ long → IsJudged
  by_length true e = inr (fault.Limit limit.Text, (ltb-true text_limit (length bytes) e, λ m. cc))
  by_length false e = in_cut (cut 0 0 bytes) (ltb-false text_limit (length bytes) e) refl (cut_well 0 0 bytes)

pub judged_name : EachNameIsJudged
judged_name sigil bytes = by_length sigil bytes (nat_lt text_limit (length bytes)) refl

-- ---- one thing

token_is : (a b : Placed) → ◌≡◌ {A = Cut} (Ok (a ∷ [])) (Ok (b ∷ [])) → a ≡ b
token_is a b e = cc

some_is : (a b : Name) → Some a ≡ Some b → a ≡ b
some_is a b e = cc

pub names_are_one : NamesAreOne
names_are_one sigil bytes a b s t =
    let same : s.token ≡ t.token = token_is s.token t.token (sym s.cut ∙ t.cut) in
    some_is a b (sym s.says ∙ ap (λ (u : Placed). said_name sigil u.kind) same ∙ t.says)

pub names_exclude : FaultsExclude
names_exclude sigil bytes f name short told s =
    let both = sym (fault_is sigil bytes f told.0 told.1) ∙ spelled_is sigil bytes name short s in
    cc

err_is : (f g : TextFault) → ◌≡◌ {A = Result Name TextFault} (Err f) (Err g) → f ≡ g
err_is f g e = cc

pub name_faults_are_one : NameFaultsAreOne
name_faults_are_one sigil bytes f g is other =
    err_is f g (sym (fault_is sigil bytes f is.0 is.1) ∙ fault_is sigil bytes g other.0 other.1)

pub only_by : {E : Type 0} (Is : Name → Type 0) (answer : Result Name E) → ((a b : Name) → Is a → Is b → a ≡ b) → IfOk answer Is
    → IfOk answer (λ t. (other : Name) → Is other → other ≡ t)
only_by Is (Ok t) one is = λ other too. one other t too is
only_by Is (Err f) one is = tt
