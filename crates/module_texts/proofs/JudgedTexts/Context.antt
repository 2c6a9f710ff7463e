-- What tokens stand for in the examples, by what stands in the parentheses before them.
use Rattle.std.proofs.Common.{◌≡◌, ◌∙◌, ℕ, zero, suc, false, List, [], ◌∷◌, ◌++◌, reverse, nat_eq, None, refl, sym, ap, subst, inl, inr, arith, lit<}
use Rattle.std.proofs.lemmas.Bool.{eq-eqb, false≢true}
use Rattle.std.proofs.lemmas.List.{reverse-reverse}
use Rattle.ir_core.specs.declared.limits.Limit.TheVariants as limit
use Rattle.module_grammar.specs.AtPlaces.{debug_at, i8_at}
use Rattle.module_grammar.specs.Balanced.{nothing, token}
use Rattle.module_grammar.specs.Sets.{sets}
use Rattle.module_grammar.specs.Sorts.{Sort, Called, DeclaredParams}
use Rattle.module_grammar.specs.Symbols.{Symbol, Debug, close_paren, foreign, kind_of, open_paren, unnamed_addr, void}
use Rattle.module_grammar.specs.Tokens.{token_grammar}
use Rattle.module_grammar.proofs.Predictive.{is_predictive}
use Rattle.module_grammar.proofs.TypeFolds.{at_int}
use Rattle.predictive.specs.Grammar.{Forest, End, Leaf, Node}
use Rattle.predictive.specs.Predictive.{first_row}
use Rattle.predictive.specs.declared.symbol.Symbol.TheVariants.{Non}
use Rattle.predictive.specs.GrammarDecides.Selects.{first_of_text}
use Rattle.module_spelling.specs.Context.{IsUndeclared, IsUnstated, IsWhole, StandsBehind, UnlessAddr, called_number, declared_number}
use Rattle.module_spelling.specs.Opened.{IsWithin}
use Rattle.module_texts.specs.JudgedTexts.Context.{NamesStandBehindTypes, i8}

-- any other word than `unnamed_addr` stands for itself
itself : (P : Type 0) (s : Symbol) → nat_eq (kind_of s) (kind_of unnamed_addr) ≡ false → UnlessAddr P (kind_of s) s s
itself P s other = inr ((λ e. false≢true (sym other ∙ eq-eqb (kind_of s) (kind_of unnamed_addr) e)), refl)

-- ---- what is none of the grammar is no whole

not_whole : (s : Sort) (n : ℕ) → first_row sets (Non n ∷ []) (suc (kind_of foreign)) ≡ false → IsWhole s n (foreign ∷ []) → ⊥
not_whole s n none whole =
    false≢true (sym none ∙ first_of_text token_grammar sets is_predictive (Non n ∷ []) (kind_of foreign) [] (whole.derivation, whole.formed, whole.same))

-- ---- wholes

-- the derivations of `i8` as a type, of no types, and of `i8` as types and as parameters
abbrev a_type : Forest → Forest
a_type behind = Node 74 (Node 75 (Leaf 5 End) (Node 79 End End)) behind

abbrev no_types : Forest
no_types = Node 85 End End

abbrev one_type : Forest
one_type = Node 86 (Node 90 (a_type (Node 87 End End)) End) End

abbrev one_param : Forest
one_param = Node 20 (Node 24 (Node 41 (a_type (Node 44 End (Node 42 End End))) (Node 21 End End)) End) End

no_types_within : IsWithin no_types
no_types_within k limit.Depth passed = omega arith
no_types_within k limit.Lines passed = omega arith
no_types_within k _ passed = passed

one_type_within : IsWithin one_type
one_type_within zero limit.Depth passed = omega arith
one_type_within (suc k) limit.Depth passed = omega arith
one_type_within zero limit.Lines passed = omega arith
one_type_within (suc k) limit.Lines passed = omega arith
one_type_within k _ passed = passed

one_param_within : IsWithin one_param
one_param_within zero limit.Depth passed = omega arith
one_param_within (suc k) limit.Depth passed = omega arith
one_param_within zero limit.Lines passed = omega arith
one_param_within (suc k) limit.Lines passed = omega arith
one_param_within k _ passed = passed

no_types_are_whole : IsWhole Called called_number []
no_types_are_whole = record {
  tree = record { types = []; is_open = false };
  written = refl;
  derivation = no_types;
  formed = (lit< tt, refl, tt, tt);
  same = refl;
  within = no_types_within;
}

a_type_is_whole : IsWhole Called called_number (i8 ∷ [])
a_type_is_whole = record {
  tree = record { types = i8_at 13 15 ∷ []; is_open = false };
  written = simp at_int ([], refl, refl);
  derivation = one_type;
  formed = (lit< tt, refl, (lit< tt, refl, (lit< tt, refl, (lit< tt, refl, (refl, tt), (lit< tt, refl, tt, tt)), (lit< tt, refl, tt, tt)), tt), tt);
  same = refl;
  within = one_type_within;
}

a_param_is_whole : IsWhole DeclaredParams declared_number (i8 ∷ [])
a_param_is_whole = record {
  tree = record { params = record { ty = i8_at 13 15; attributes = []; name = None } ∷ []; is_open = false };
  written = simp at_int ([], refl, refl);
  derivation = one_param;
  formed = (
    lit< tt,
    refl,
    (
      lit< tt,
      refl,
      (
        lit< tt,
        refl,
        (lit< tt, refl, (lit< tt, refl, (refl, tt), (lit< tt, refl, tt, tt)), (lit< tt, refl, tt, (lit< tt, refl, tt, tt))),
        (lit< tt, refl, tt, tt),
      ),
      tt,
    ),
    tt,
  );
  same = refl;
  within = one_param_within;
}

-- ---- what stands between the parentheses

-- a token alone stands there, and none stands before its parenthesis but one that is no parenthesis
only : (opener o t : Symbol) (r rest : List Symbol) → (t ≡ open_paren → ⊥) → (o ≡ open_paren → ⊥) → t ∷ open_paren ∷ o ∷ [] ≡ r ++ (open_paren ∷ opener ∷ rest) → r ≡ t ∷ []
only opener o t [] rest other no_paren same = absurd (other cc)
only opener o t (a ∷ []) rest other no_paren same = cc
only opener o t (a ∷ b ∷ []) rest other no_paren same = absurd (no_paren cc)
only opener o t (a ∷ b ∷ c ∷ []) rest other no_paren same = cc
only opener o t (a ∷ b ∷ c ∷ d ∷ r) rest other no_paren same = cc

one_between : (opener o t : Symbol) (inside : List Symbol) → (t ≡ open_paren → ⊥) → (o ≡ open_paren → ⊥)
    → StandsBehind opener inside (close_paren ∷ t ∷ open_paren ∷ o ∷ []) → t ∷ [] ≡ inside
one_between opener o t inside other no_paren stands =
    let there : t ∷ open_paren ∷ o ∷ [] ≡ reverse inside ++ (open_paren ∷ opener ∷ stands.rest) = cc stands.same in
    ap reverse (sym (only opener o t (reverse inside) stands.rest other no_paren there)) ∙ reverse-reverse inside

-- nothing stands there
nothing_there : (opener o : Symbol) (r rest : List Symbol) → (o ≡ open_paren → ⊥) → open_paren ∷ o ∷ [] ≡ r ++ (open_paren ∷ opener ∷ rest) → r ≡ []
nothing_there opener o [] rest no_paren same = refl
nothing_there opener o (a ∷ []) rest no_paren same = absurd (no_paren cc)
nothing_there opener o (a ∷ b ∷ []) rest no_paren same = cc
nothing_there opener o (a ∷ b ∷ c ∷ r) rest no_paren same = cc

none_between : (opener o : Symbol) (inside : List Symbol) → (o ≡ open_paren → ⊥) → StandsBehind opener inside (close_paren ∷ open_paren ∷ o ∷ []) → [] ≡ inside
none_between opener o inside no_paren stands =
    let there : open_paren ∷ o ∷ [] ≡ reverse inside ++ (open_paren ∷ opener ∷ stands.rest) = cc stands.same in
    ap reverse (sym (nothing_there opener o (reverse inside) stands.rest no_paren there)) ∙ reverse-reverse inside

-- the parenthesis stands behind nothing
first_there : (opener t : Symbol) (r rest : List Symbol) → (t ≡ open_paren → ⊥) → t ∷ open_paren ∷ [] ≡ r ++ (open_paren ∷ opener ∷ rest) → ⊥
first_there opener t [] rest other same = other cc
first_there opener t (a ∷ []) rest other same = cc
first_there opener t (a ∷ b ∷ []) rest other same = cc
first_there opener t (a ∷ b ∷ c ∷ r) rest other same = cc

none_before : (opener t : Symbol) (inside : List Symbol) → (t ≡ open_paren → ⊥) → StandsBehind opener inside (close_paren ∷ t ∷ open_paren ∷ []) → ⊥
none_before opener t inside other stands = first_there opener t (reverse inside) stands.rest other (cc stands.same)

foreign_between : (opener : Symbol) → StandsBehind opener (foreign ∷ []) (close_paren ∷ foreign ∷ open_paren ∷ opener ∷ [])
foreign_between opener = record { rest = []; same = refl; balanced = token foreign [] refl nothing }

-- ---- the examples

type_stated : IsUnstated (close_paren ∷ i8 ∷ open_paren ∷ void ∷ []) → ⊥
type_stated (inside, stands, not) = not (subst (IsWhole Called called_number) (one_between void void i8 inside (λ e. cc) (λ e. cc) stands) a_type_is_whole)

nothing_stated : IsUnstated (close_paren ∷ open_paren ∷ void ∷ []) → ⊥
nothing_stated (inside, stands, not) = not (subst (IsWhole Called called_number) (none_between void void inside (λ e. cc) stands) no_types_are_whole)

none_stated : IsUnstated (close_paren ∷ foreign ∷ open_paren ∷ void ∷ [])
none_stated = (foreign ∷ [], foreign_between void, not_whole Called called_number refl)

behind_nothing : IsUnstated (close_paren ∷ foreign ∷ open_paren ∷ []) → ⊥
behind_nothing (inside, stands, not) = none_before void foreign inside (λ e. cc) stands

param_declared : IsUndeclared (close_paren ∷ i8 ∷ open_paren ∷ Debug (debug_at 0 11) ∷ []) → ⊥
param_declared (y, inside, stands, not) =
    not (subst (IsWhole DeclaredParams declared_number) (one_between (Debug y) (Debug (debug_at 0 11)) i8 inside (λ e. cc) (λ e. cc) stands) a_param_is_whole)

none_declared : IsUndeclared (close_paren ∷ foreign ∷ open_paren ∷ Debug (debug_at 0 11) ∷ [])
none_declared = (debug_at 0 11, foreign ∷ [], foreign_between (Debug (debug_at 0 11)), not_whole DeclaredParams declared_number refl)

pub names_stand_behind_types : NamesStandBehindTypes
names_stand_behind_types = record {
  types = (itself _ _ refl, (itself _ _ refl, (itself _ _ refl, (itself _ _ refl, (inl (type_stated, refl), tt)))));
  no_types = (itself _ _ refl, (itself _ _ refl, (itself _ _ refl, (itself _ _ refl, (inr (none_stated, refl), tt)))));
  none = (itself _ _ refl, (itself _ _ refl, (itself _ _ refl, (inl (nothing_stated, refl), tt))));
  behind_nothing = (itself _ _ refl, (itself _ _ refl, (itself _ _ refl, (inl (behind_nothing, refl), tt))));
  no_params = (itself _ _ refl, (itself _ _ refl, (itself _ _ refl, (itself _ _ refl, (inl (refl, inr (none_declared, refl)), tt)))));
  params = (itself _ _ refl, (itself _ _ refl, (itself _ _ refl, (itself _ _ refl, (inl (refl, inl (param_declared, refl)), tt)))));
}
