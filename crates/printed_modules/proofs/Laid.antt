-- Rows of tokens that are written of a tree which names what was printed, and how they stand one behind another.
use Rattle.std.proofs.Common.{◌≡◌, Bool, true, false, not, ◌||◌, List, [], ◌∷◌, ◌++◌, append_assoc, refl, ap, sym, ◌∙◌, subst}
use Rattle.std.specs.Prelude.{nat_eq}
use Rattle.std.specs.List.{list_all}
use Rattle.std.proofs.lemmas.Bool.{and_parts}
use Rattle.predictive.specs.Fills.{Fills, FillsFrom}
use Rattle.ir_types.specs.declared.names.Name.{Name}
use Rattle.module_grammar.specs.Balanced.{IsBalanced}
use Rattle.module_grammar.specs.Symbols.{Global, Symbol, balanced, close_paren, kind_of, open_paren, unnamed_addr, void}
use Rattle.module_grammar.specs.Texts.{is_balanced}
use Rattle.module_grammar.specs.declared.places.Placed.{Placed}
use Rattle.module_grammar.specs.declared.types.CalledText.{CalledText}
use Rattle.module_spelling.specs.Spells.{StatesTypes}
use Rattle.named_modules.specs.Lines.{Stated}
use Rattle.printed_modules.proofs.Guarded.{HasNoAddr, IsGuarded, StatesBehind}
use Rattle.printed_tokens.proofs.Calm as tokens

abbrev pub FillsAll : List Symbol → List Symbol → Type 0
FillsAll = Fills is_balanced IsBalanced

-- ---- what fills one part, and then another

begun_fill :
    (gap : Bool) (w : Symbol) (More Both : List Symbol → Type 0) (us : List Symbol) → ((ts : List Symbol) → More ts → Both (ts ++ us))
    → (ts : List Symbol) → FillsFrom gap IsBalanced w More ts → FillsFrom gap IsBalanced w Both (ts ++ us)
begun_fill true w More Both us go ts from =
    (from.0, from.1 ++ us, sym (append_assoc from.0 from.1 us) ∙ ap (λ l. l ++ us) from.2, from.3, go from.1 from.4)
begun_fill false w More Both us go ts from = (from.0 ++ us, ap (λ l. l ++ us) from.1, go from.0 from.2)

pub both_fill : (a b ts us : List Symbol) → FillsAll a ts → FillsAll b us → FillsAll (a ++ b) (ts ++ us)
both_fill [] b [] us first second = second
both_fill [] b (t ∷ ts) us first second = cc
both_fill (w ∷ a) b ts us first second =
    begun_fill (is_balanced w) w (FillsAll a) (FillsAll (a ++ b)) us (λ ts first. both_fill a b ts us first second) ts first

-- a token that is no gap stands for itself
itself : (gap : Bool) (w : Symbol) (More : List Symbol → Type 0) (ts : List Symbol) → gap ≡ false → More ts → FillsFrom gap IsBalanced w More (w ∷ ts)
itself true w More ts none more = cc
itself false w More ts none more = (ts, refl, more)

-- ---- rows that may stand behind any other

-- it begins with no parenthesis that opens
abbrev pub IsShut : List Symbol → Type 0
IsShut [] = Unit {0}
IsShut (s ∷ ss) = s ≡ open_paren → ⊥

pub record IsSound (ss : List Symbol) : Type 0 where
  pub shut : IsShut ss
  pub guarded : IsGuarded ss
  pub no_addr : HasNoAddr ss

both_shut : (ss ts : List Symbol) → IsShut ss → IsShut ts → IsShut (ss ++ ts)
both_shut [] ts first second = second
both_shut (s ∷ ss) ts first second = first

pub no_opener : (ts inside : List Symbol) → IsShut ts → ts ≡ open_paren ∷ inside → ⊥
no_opener [] inside shut is = cc
no_opener (t ∷ ts) inside shut is = shut (cc)

same_first : (s t : Symbol) (ss ts : List Symbol) → s ∷ ss ≡ t ∷ ts → s ≡ t
same_first s t ss ts e = cc

pub same_more : (s t : Symbol) (ss ts : List Symbol) → s ∷ ss ≡ t ∷ ts → ss ≡ ts
same_more s t ss ts e = cc

-- what a `void` states is stated also where more stands behind
states_more : (ss ts : List Symbol) → IsShut ts → StatesBehind ss → StatesBehind (ss ++ ts)
states_more [] ts shut states = λ inside is. absurd (no_opener ts inside shut is)
states_more (s ∷ ss) ts shut states = λ inside is.
    let (types, x, more, same, whole) = states ss (ap (λ u. u ∷ ss) (same_first s open_paren (ss ++ ts) inside is)) in (
      types,
      x,
      more ++ ts,
      sym (same_more s open_paren (ss ++ ts) inside is) ∙ ap (λ us. us ++ ts) same ∙ append_assoc types (close_paren ∷ Global x ∷ more) ts,
      whole,
    )

both_guarded : (ss ts : List Symbol) → IsShut ts → IsGuarded ss → IsGuarded ts → IsGuarded (ss ++ ts)
both_guarded [] ts shut first second = second
both_guarded (s ∷ ss) ts shut first second = (λ is. states_more ss ts shut (first.0 is), both_guarded ss ts shut first.1 second)

both_no_addr : (ss ts : List Symbol) → HasNoAddr ss → HasNoAddr ts → HasNoAddr (ss ++ ts)
both_no_addr [] ts first second = second
both_no_addr (s ∷ ss) ts first second = (first.0, both_no_addr ss ts first.1 second)

pub both_sound : (ss ts : List Symbol) → IsSound ss → IsSound ts → IsSound (ss ++ ts)
both_sound ss ts first second = record {
  shut = both_shut ss ts first.shut second.shut;
  guarded = both_guarded ss ts second.shut first.guarded second.guarded;
  no_addr = both_no_addr ss ts first.no_addr second.no_addr;
}

-- ---- what a part states, the whole states

pub stated_in_front : (ss ts : List Symbol) (x : Placed Name) (c : CalledText) → StatesTypes ss x c → StatesTypes (ss ++ ts) x c
stated_in_front ss ts x c states = record {
  before = states.before;
  types = states.types;
  behind = states.behind ++ ts;
  same = ap (λ us. us ++ ts) states.same
      ∙ append_assoc states.before (void ∷ open_paren ∷ (states.types ++ (close_paren ∷ Global x ∷ states.behind))) ts
      ∙ ap (λ us. states.before ++ (void ∷ open_paren ∷ us)) (append_assoc states.types (close_paren ∷ Global x ∷ states.behind) ts);
  written = states.written;
}

pub stated_in_back : (ss ts : List Symbol) (x : Placed Name) (c : CalledText) → StatesTypes ts x c → StatesTypes (ss ++ ts) x c
stated_in_back ss ts x c states = record {
  before = ss ++ states.before;
  types = states.types;
  behind = states.behind;
  same = ap (λ us. ss ++ us) states.same
      ∙ sym (append_assoc ss states.before (void ∷ open_paren ∷ (states.types ++ (close_paren ∷ Global x ∷ states.behind))));
  written = states.written;
}

-- ---- calm rows

-- it is neither `void` nor `unnamed_addr`, and no gap
abbrev pub is_calm : Symbol → Bool
is_calm s = not (nat_eq (kind_of s) (kind_of void) || (nat_eq (kind_of s) (kind_of unnamed_addr) || nat_eq (kind_of s) (kind_of balanced)))

abbrev pub AreCalm : List Symbol → Type 0
AreCalm ss = list_all is_calm ss ≡ true

single_calm : (s : Symbol) → tokens.IsCalm s → is_calm s ≡ true
single_calm s calm = rw calm.0 (rw calm.1 (rw calm.2 refl))

pub row_calm : (ss : List Symbol) → tokens.AreCalm ss → AreCalm ss
row_calm [] calm = refl
row_calm (s ∷ ss) calm = rw (single_calm s calm.0) (row_calm ss calm.1)

pub both_calm : (ss ts : List Symbol) → AreCalm ss → AreCalm ts → AreCalm (ss ++ ts)
both_calm [] ts first second = second
both_calm (s ∷ ss) ts first second =
    let parts = and_parts (is_calm s) (list_all is_calm ss) first in
    rw parts.0 (both_calm ss ts parts.1 second)

no_void : (s : Symbol) → is_calm s ≡ true → s ≡ void → ⊥
no_void s calm is = cc

no_addr_kind : (s : Symbol) → is_calm s ≡ true → kind_of s ≡ kind_of unnamed_addr → ⊥
no_addr_kind s calm is = cc

last_fails : (a b c : Bool) → not (a || (b || c)) ≡ true → c ≡ false
last_fails a b false none = refl
last_fails true b true none = cc
last_fails false true true none = cc
last_fails false false true none = cc

no_gap : (s : Symbol) → is_calm s ≡ true → is_balanced s ≡ false
no_gap s calm = last_fails (nat_eq (kind_of s) (kind_of void)) (nat_eq (kind_of s) (kind_of unnamed_addr)) (is_balanced s) calm

pub calm_guarded : (ss : List Symbol) → AreCalm ss → IsGuarded ss
calm_guarded [] calm = tt
calm_guarded (s ∷ ss) calm =
    let parts = and_parts (is_calm s) (list_all is_calm ss) calm in
    (λ is. absurd (no_void s parts.0 is), calm_guarded ss parts.1)

pub calm_no_addr : (ss : List Symbol) → AreCalm ss → HasNoAddr ss
calm_no_addr [] calm = tt
calm_no_addr (s ∷ ss) calm =
    let parts = and_parts (is_calm s) (list_all is_calm ss) calm in
    (no_addr_kind s parts.0, calm_no_addr ss parts.1)

pub calm_sound : (ss : List Symbol) → IsShut ss → AreCalm ss → IsSound ss
calm_sound ss shut calm = record { shut = shut; guarded = calm_guarded ss calm; no_addr = calm_no_addr ss calm }

-- a token that is no gap, and what fills the rest
pub filled_one : (w : Symbol) (ws ts : List Symbol) → is_balanced w ≡ false → FillsAll ws ts → FillsAll (w ∷ ws) (w ∷ ts)
filled_one w ws ts none more = itself (is_balanced w) w (FillsAll ws) ts none more

pub calm_fills : (ss : List Symbol) → AreCalm ss → FillsAll ss ss
calm_fills [] calm = refl
calm_fills (s ∷ ss) calm =
    let parts = and_parts (is_calm s) (list_all is_calm ss) calm in
    filled_one s ss ss (no_gap s parts.0) (calm_fills ss parts.1)

-- ---- rows of a tree

-- They are written of a tree that names what was printed, by what is stated in the whole of the tokens; and they may stand behind any others.
pub record Laid {T : Type 0} (written : T → List Symbol) (Names : Stated → T → Type 0) (ss : List Symbol) : Type 1 where
  pub tree : T
  pub are : FillsAll (written tree) ss
  pub names : (stated : Stated) → ((x : Placed Name) (c : CalledText) → StatesTypes ss x c → stated x c) → Names stated tree
  pub sound : IsSound ss

pub laid_as :
    {A B : Type 0} {v : A → List Symbol} {M : Stated → A → Type 0} {ss : List Symbol} (w : B → List Symbol) (N : Stated → B → Type 0) (f : A → B)
    → ((t : A) → v t ≡ w (f t)) → ((stated : Stated) (t : A) → M stated t → N stated (f t))
    → Laid v M ss → Laid w N ss
laid_as {ss = ss} w N f alike named p = record {
  tree = f p.tree;
  are = subst (λ ws. FillsAll ws ss) (alike p.tree) p.are;
  names = λ stated all. named stated p.tree (p.names stated all);
  sound = p.sound;
}

pub laid_both :
    {A B : Type 0} {v : A → List Symbol} {w : B → List Symbol} {M : Stated → A → Type 0} {N : Stated → B → Type 0} (ss ts : List Symbol)
    → Laid v M ss → Laid w N ts
    → Laid (λ (t : A × B). v t.0 ++ w t.1) (λ stated (t : A × B). M stated t.0 × N stated t.1) (ss ++ ts)
laid_both {v = v} {w = w} ss ts first second = record {
  tree = (first.tree, second.tree);
  are = both_fill (v first.tree) (w second.tree) ss ts first.are second.are;
  names = λ stated all. (
    first.names stated (λ x c states. all x c (stated_in_front ss ts x c states)),
    second.names stated (λ x c states. all x c (stated_in_back ss ts x c states)),
  );
  sound = both_sound ss ts first.sound second.sound;
}
