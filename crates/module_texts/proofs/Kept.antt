-- What stands around a name that is one of the grammar isn't known to be no types, and no parameters.
use Rattle.std.proofs.Common.{◌≡◌, ℕ, Bool, true, false, ◌||◌, nat_eq, List, [], ◌∷◌, ◌++◌, reverse, ◌⊎◌, inl, inr, refl, ap, sym, ◌∙◌, subst, append_assoc, arith}
use Rattle.std.proofs.lemmas.Bool.{eq-eqb, eqb-true, or_right}
use Rattle.std.proofs.lemmas.List.{append-nil, reverse-append}
use Rattle.std.specs.List.{AllByRecursion, AllZip}
use Rattle.ir_types.specs.declared.names.Name.{Name}
use Rattle.module_grammar.specs.Balanced.{IsBalanced, is_plain, is_plain_kind, nothing, token, parens, brackets, braces}
use Rattle.module_grammar.specs.Sorts.{Called, DeclaredParams}
use Rattle.module_grammar.specs.Symbols.{Symbol, Brace, Bracket, Debug, Global, close_brace, close_bracket, close_paren, foreign, kind_of, open_paren, unnamed_addr, void}
use Rattle.module_grammar.specs.Texts.{IsWritten}
use Rattle.module_grammar.specs.declared.functions.DeclaredText.{DeclaredText}
use Rattle.module_grammar.specs.declared.places.Placed.{Placed}
use Rattle.module_grammar.specs.declared.types.CalledText.{CalledText}
use Rattle.module_spelling.specs.Context.{AreBehind, IsUndeclared, IsUnstated, IsWhole, StandFor, StandsBehind, StandsFor, Unless, UnlessAddr, called_number, declared_number}
use Rattle.module_spelling.specs.Spells.{StatesParams, StatesTypes}
use Rattle.module_texts.proofs.Lists.{all_mapped}
use Rattle.module_texts.proofs.Plain.{InParams, InTypes, called_tokens, declared_tokens, may_change}

-- ---- tokens by themselves, and what they stand for

abbrev pub Own : Symbol → Symbol → Type 0
Own s t = (s ≡ t) ⊎ ((t ≡ foreign) × (may_change s ≡ true))

own_unless : (P : Type 0) (s t : Symbol) → may_change s ≡ true → Unless P s t → Own s t
own_unless P s t may (inl a) = inl (sym a.1)
own_unless P s t may (inr a) = inr (a.1, may)

own_addr : (P : Type 0) (s t : Symbol) → UnlessAddr P (kind_of s) s t → Own s t
own_addr P s t (inl a) = own_unless P s t (or_right _ _ (eq-eqb (kind_of s) (kind_of unnamed_addr) a.0)) a.1
own_addr P s t (inr a) = inl (sym a.1)

pub own : (before : List Symbol) (s t : Symbol) → StandsFor before s t → Own s t
own before (Global x) t a = own_unless (IsUnstated before) (Global x) t refl a
own before s t a = own_addr (IsUndeclared before) s t a

-- one that isn't foreign is the token itself
itself : (s t : Symbol) → Own s t → (t ≡ foreign → ⊥) → s ≡ t
itself s t (inl same) other = same
itself s t (inr a) other = absurd (other a.0)

zip_parted : {A B : Type 0} (R : A → B → Type 0) (ss : List A) (xs ys : List B) → AllZip R ss (xs ++ ys) → (front : List A) × (back : List A) × (ss ≡ front ++ back) × AllZip R front xs × AllZip R back ys
zip_parted R ss [] ys zip = ([], ss, refl, tt, zip)
zip_parted R [] (x ∷ xs) ys zip = absurd zip
zip_parted R (s ∷ ss) (x ∷ xs) ys zip =
    let rest = zip_parted R ss xs ys zip.1 in
    (s ∷ rest.0, rest.1, ap (λ l. s ∷ l) rest.2, (zip.0, rest.3), rest.4)

-- the tokens in front of one of them, and that one
record Split (before ss xs : List Symbol) (t : Symbol) (ys : List Symbol) : Type 0 where
  pub front : List Symbol
  pub same : AllZip Own front xs
  pub at : Symbol
  pub stands : StandsFor (reverse front ++ before) at t

split : (before ss xs : List Symbol) (t : Symbol) (ys : List Symbol) → AreBehind before ss (xs ++ (t ∷ ys)) → Split before ss xs t ys
split before [] [] t ys stand = absurd stand
split before [] (x ∷ xs) t ys stand = absurd stand
split before (s ∷ ss) [] t ys stand = record { front = []; same = tt; at = s; stands = stand.0 }
split before (s ∷ ss) (x ∷ xs) t ys stand =
    let rest = split (s ∷ before) ss xs t ys stand.1 in
    let turned : reverse (s ∷ rest.front) ++ before ≡ reverse rest.front ++ (s ∷ before) =
    ap (λ l. l ++ before) (reverse-append (s ∷ []) rest.front) ∙ append_assoc (reverse rest.front) (s ∷ []) before in
    record {
      front = s ∷ rest.front;
      same = (own before s x stand.0, rest.same);
      at = rest.at;
      stands = subst (λ b. StandsFor b rest.at t) (sym turned) rest.stands;
    }

-- ---- balanced tokens

plain_own : (s t : Symbol) → Own s t → is_plain t ≡ true → is_plain s ≡ true
plain_own s t (inl same) plain = ap is_plain same ∙ plain
plain_own s t (inr a) plain = changing (nat_eq (kind_of s) 1) (nat_eq (kind_of s) (kind_of unnamed_addr)) refl refl a.1
  where
    changing : (a b : Bool) → nat_eq (kind_of s) 1 ≡ a → nat_eq (kind_of s) (kind_of unnamed_addr) ≡ b → (a || b) ≡ true → is_plain s ≡ true
    changing true b e d or = ap is_plain_kind (eqb-true (kind_of s) 1 e)
    changing false true e d or = ap is_plain_kind (eqb-true (kind_of s) (kind_of unnamed_addr) d)
    changing false false e d or = cc

-- tokens between two that pair off
record Between (o c : Symbol) (ss inside more : List Symbol) : Type 0 where
  pub inner : List Symbol
  pub rest : List Symbol
  pub same : ss ≡ o ∷ (inner ++ (c ∷ rest))
  pub is_inner : AllZip Own inner inside
  pub is_rest : AllZip Own rest more

closes : (o c : Symbol) (s : Symbol) (inner back inside more : List Symbol) → s ≡ o → (c ≡ foreign → ⊥) → AllZip Own inner inside → AllZip Own back (c ∷ more) → Between o c (s ∷ (inner ++ back)) inside more
closes o c s inner [] inside more at other is_inner zip = absurd zip
closes o c s inner (e ∷ back) inside more at other is_inner zip =
    let end : e ≡ c = itself e c zip.0 other in
    record {
      inner = inner;
      rest = back;
      same = ap (λ h. h ∷ (inner ++ (e ∷ back))) at ∙ ap (λ h. o ∷ (inner ++ (h ∷ back))) end;
      is_inner = is_inner;
      is_rest = zip.1;
    }

between : (o c : Symbol) (ss inside more : List Symbol) → (o ≡ foreign → ⊥) → (c ≡ foreign → ⊥) → AllZip Own ss (o ∷ (inside ++ (c ∷ more))) → Between o c ss inside more
between o c [] inside more opens closed zip = absurd zip
between o c (s ∷ ss) inside more opens closed zip =
    let parts = zip_parted Own ss inside (c ∷ more) zip.1 in
    subst (λ l. Between o c (s ∷ l) inside more) (sym parts.2) (closes o c s parts.0 parts.1 inside more (itself s o zip.0 opens) closed parts.3 parts.4)

fixed_other : (k : ℕ) (s : Symbol) → kind_of s ≡ k → (k ≡ kind_of foreign → ⊥) → s ≡ foreign → ⊥
fixed_other k s at other e = other (sym at ∙ ap kind_of e)

open_known : open_paren ≡ foreign → ⊥
open_known = fixed_other (kind_of open_paren) open_paren refl (λ e. omega (arith, e))

close_known : close_paren ≡ foreign → ⊥
close_known = fixed_other (kind_of close_paren) close_paren refl (λ e. omega (arith, e))

own_balanced : (ts : List Symbol) → IsBalanced ts → (ss : List Symbol) → AllZip Own ss ts → IsBalanced ss
own_balanced ts nothing [] zip = nothing
own_balanced ts nothing (s ∷ ss) zip = absurd zip
own_balanced ts (token t more plain b) [] zip = absurd zip
own_balanced ts (token t more plain b) (s ∷ ss) zip = token s ss (plain_own s t zip.0 plain) (own_balanced more b ss zip.1)
own_balanced ts (parens inside more b c) ss zip =
    let parts = between open_paren close_paren ss inside more open_known close_known zip in
    subst IsBalanced (sym parts.same) (parens parts.inner parts.rest (own_balanced inside b parts.inner parts.is_inner) (own_balanced more c parts.rest parts.is_rest))
own_balanced ts (brackets at inside more b c) ss zip =
    let parts =
    between (Bracket at) close_bracket ss inside more (λ e. cc) (fixed_other (kind_of close_bracket) close_bracket refl (λ e. omega (arith, e))) zip in
    subst IsBalanced (sym parts.same) (brackets at parts.inner parts.rest (own_balanced inside b parts.inner parts.is_inner) (own_balanced more c parts.rest parts.is_rest))
own_balanced ts (braces at inside more b c) ss zip =
    let parts =
    between (Brace at) close_brace ss inside more (λ e. cc) (fixed_other (kind_of close_brace) close_brace refl (λ e. omega (arith, e))) zip in
    subst IsBalanced (sym parts.same) (braces at parts.inner parts.rest (own_balanced inside b parts.inner parts.is_inner) (own_balanced more c parts.rest parts.is_rest))

-- ---- what stands behind a token that opens

record Stood (opener : Symbol) (front inside : List Symbol) : Type 0 where
  pub inner : List Symbol
  pub same : AllZip Own inner inside
  pub behind : IsBalanced inner → StandsBehind opener inner (reverse front ++ [])

turned : (rest inner : List Symbol) (opener : Symbol) → reverse (rest ++ (opener ∷ open_paren ∷ (inner ++ (close_paren ∷ [])))) ++ [] ≡ close_paren ∷ (reverse inner ++ (open_paren ∷ opener ∷ reverse rest))
turned rest inner opener =
    append-nil (reverse (rest ++ (opener ∷ open_paren ∷ (inner ++ (close_paren ∷ [])))))
    ∙ reverse-append rest (opener ∷ open_paren ∷ (inner ++ (close_paren ∷ [])))
    ∙ ap (λ l. l ++ reverse rest) (reverse-append (opener ∷ open_paren ∷ []) (inner ++ (close_paren ∷ [])))
    ∙ ap (λ l. (l ++ (open_paren ∷ opener ∷ [])) ++ reverse rest) (reverse-append inner (close_paren ∷ []))
    ∙ append_assoc (close_paren ∷ reverse inner) (open_paren ∷ opener ∷ []) (reverse rest)

empty : (ss : List Symbol) → AllZip Own ss [] → ss ≡ []
empty [] zip = refl
empty (s ∷ ss) zip = absurd zip

ended :
    (opener o : Symbol) (front inside back rest : List Symbol) → o ≡ opener → front ≡ rest ++ (o ∷ back) → Between open_paren close_paren back inside []
    → Stood opener front inside
ended opener o front inside back rest at is parts =
    let last : parts.rest ≡ [] = empty parts.rest parts.is_rest in
    let whole : front ≡ rest ++ (opener ∷ open_paren ∷ (parts.inner ++ (close_paren ∷ []))) =
    is ∙ ap (λ h. rest ++ (h ∷ back)) at ∙ ap (λ l. rest ++ (opener ∷ l)) parts.same ∙ ap (λ l. rest ++ (opener ∷ open_paren ∷ (parts.inner ++ (close_paren ∷ l)))) last in
    record {
      inner = parts.inner;
      same = parts.is_inner;
      behind = λ balanced. record { rest = reverse rest; same = ap (λ l. reverse l ++ []) whole ∙ turned rest parts.inner opener; balanced = balanced };
    }

stood : (opener : Symbol) → (opener ≡ foreign → ⊥) → (front before inside : List Symbol) → AllZip Own front (before ++ (opener ∷ open_paren ∷ (inside ++ (close_paren ∷ [])))) → Stood opener front inside
stood opener known front before inside zip =
    let parts = zip_parted Own front before (opener ∷ open_paren ∷ (inside ++ (close_paren ∷ []))) zip in
    go parts.1 parts.0 parts.2 parts.4
  where
    go : (back rest : List Symbol) → front ≡ rest ++ back → AllZip Own back (opener ∷ open_paren ∷ (inside ++ (close_paren ∷ []))) → Stood opener front inside
    go [] rest is zip = absurd zip
    go (o ∷ back) rest is zip =
        ended opener o front inside back rest (itself o opener zip.0 known) is (between open_paren close_paren back inside [] open_known close_known zip.1)

-- ---- what is known of a name

-- tokens that never change are what they stand for
unchanged : (ss ts : List Symbol) → AllByRecursion (λ s. may_change s ≡ false) ss → AllZip Own ss ts → ss ≡ ts
unchanged [] [] each zip = refl
unchanged [] (t ∷ ts) each zip = absurd zip
unchanged (s ∷ ss) [] each zip = absurd zip
unchanged (s ∷ ss) (t ∷ ts) each zip = ap (λ h. h ∷ ss) (first s t each.0 zip.0) ∙ ap (λ l. t ∷ l) (unchanged ss ts each.1 zip.1)
  where
    first : (s t : Symbol) → may_change s ≡ false → Own s t → s ≡ t
    first s t calm (inl same) = same
    first s t calm (inr a) = let clash : false ≡ true = sym calm ∙ a.1 in cc

not_either : (P : Type 0) (k : ℕ) (s t : Symbol) → UnlessAddr P k s t → (t ≡ s → ⊥) → (t ≡ foreign → ⊥) → ⊥
not_either P k s t (inl (e, inl a)) other known = other a.1
not_either P k s t (inl (e, inr a)) other known = known a.1
not_either P k s t (inr a) other known = other a.1

global_stated : (before : List Symbol) (s : Symbol) (x : Placed Name) → StandsFor before s (Global x) → IsUnstated before → ⊥
global_stated before (Global y) x (inl a) unstated = a.0 unstated
global_stated before (Global y) x (inr a) unstated = let clash : Global x ≡ foreign = a.1 in cc
global_stated before s x a unstated = not_either (IsUndeclared before) (kind_of s) s (Global x) a (λ e. cc) (λ e. cc)

addr_known : unnamed_addr ≡ foreign → ⊥
addr_known = fixed_other (kind_of unnamed_addr) unnamed_addr refl (λ e. omega (arith, e))

of_addr : (P : Type 0) (s : Symbol) → UnlessAddr P (kind_of s) s unnamed_addr → P → ⊥
of_addr P s (inl (e, inl a)) is = a.0 is
of_addr P s (inl (e, inr a)) is = addr_known a.1
of_addr P s (inr a) is = a.0 (ap kind_of (sym a.1))

addr_declared : (before : List Symbol) (s : Symbol) → StandsFor before s unnamed_addr → IsUndeclared before → ⊥
addr_declared before (Global y) (inl a) undeclared = let clash : unnamed_addr ≡ Global y = a.1 in cc
addr_declared before (Global y) (inr a) undeclared = addr_known a.1
addr_declared before s a undeclared = of_addr (IsUndeclared before) s a undeclared

module _ (own_symbols symbols : List Symbol) (stand : StandFor own_symbols symbols) where
  split_at : (xs ys : List Symbol) (t : Symbol) → symbols ≡ xs ++ (t ∷ ys) → Split [] own_symbols xs t ys
  split_at xs ys t e = split [] own_symbols xs t ys (subst (AreBehind [] own_symbols) e stand)

  parted : (before inside behind : List Symbol) (opener t : Symbol) → symbols ≡ before ++ (opener ∷ open_paren ∷ (inside ++ (close_paren ∷ t ∷ behind))) → symbols ≡ (before ++ (opener ∷ open_paren ∷ (inside ++ (close_paren ∷ [])))) ++ (t ∷ behind)
  parted before inside behind opener t e =
      e ∙ ap (λ l. before ++ (opener ∷ open_paren ∷ l)) (sym (append_assoc inside (close_paren ∷ []) (t ∷ behind)))
      ∙ sym (append_assoc before (opener ∷ open_paren ∷ (inside ++ (close_paren ∷ []))) (t ∷ behind))

  -- before a global name that is one of the grammar may stand types
  pub types_may_stand :
      (before inside behind : List Symbol) (x : Placed Name) → symbols ≡ before ++ (void ∷ open_paren ∷ (inside ++ (close_paren ∷ Global x ∷ behind))) → IsBalanced inside
      → ((c : CalledText) → StatesTypes symbols x c → ⊥) → ⊥
  types_may_stand before inside behind x e balanced no_types =
      let at = split_at (before ++ (void ∷ open_paren ∷ (inside ++ (close_paren ∷ [])))) behind (Global x) (parted before inside behind void (Global x) e) in
      let s = stood void (fixed_other (kind_of void) void refl (λ e. omega (arith, e))) at.front before inside at.same in
      let whole_not : IsWhole Called called_number s.inner → ⊥ = λ w.
      let all = called_tokens w.tree s.inner w.written in
      let same : s.inner ≡ inside = unchanged s.inner inside (all_mapped InTypes (λ s. may_change s ≡ false) (λ s is. is.0.1) s.inner all) s.same in
      no_types w.tree (record { before = before; types = inside; behind = behind; same = e; written = subst (IsWritten Called w.tree) same w.written }) in
      global_stated (reverse at.front ++ []) at.at x at.stands (s.inner, s.behind (own_balanced inside balanced s.inner s.same), whole_not)

  -- and before `unnamed_addr` behind a name of debugging parameters
  pub params_may_stand :
      (before inside behind : List Symbol) (x : Placed Name) → symbols ≡ before ++ (Debug x ∷ open_paren ∷ (inside ++ (close_paren ∷ unnamed_addr ∷ behind))) → IsBalanced inside
      → ((c : DeclaredText) → StatesParams symbols x c → ⊥) → ⊥
  params_may_stand before inside behind x e balanced no_params =
      let at = split_at (before ++ (Debug x ∷ open_paren ∷ (inside ++ (close_paren ∷ [])))) behind unnamed_addr (parted before inside behind (Debug x) unnamed_addr e) in
      let s = stood (Debug x) (λ e. cc) at.front before inside at.same in
      let whole_not : IsWhole DeclaredParams declared_number s.inner → ⊥ = λ w.
      let all = declared_tokens w.tree s.inner w.written in
      let same : s.inner ≡ inside = unchanged s.inner inside (all_mapped InParams (λ s. may_change s ≡ false) (λ s is. is.1) s.inner all) s.same in
      no_params w.tree (record { before = before; params = inside; behind = behind; same = e; written = subst (IsWritten DeclaredParams w.tree) same w.written }) in
      addr_declared (reverse at.front ++ []) at.at at.stands (x, s.inner, s.behind (own_balanced inside balanced s.inner s.same), whole_not)
