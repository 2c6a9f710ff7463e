-- Texts that are the symbols of a tree which names what was printed, and how they stand one behind another.
use Rattle.std.proofs.Common.{◌≡◌, ℕ, List, [], ◌∷◌, ◌++◌, refl, ap, ◌∙◌, subst}
use Rattle.std.specs.List.{AllByRecursion, AllZip, flat_map}
use Rattle.std.proofs.lemmas.List.{append-nil}
use Rattle.module_grammar.specs.declared.words.Language.{Language}
use Rattle.module_grammar.specs.Symbols.{Symbol}
use Rattle.printed_tokens.proofs.Places.{AreSymbols, AtPlaces, Writes, parts, symbol_at, symbols_are}
use Rattle.printed_tokens.proofs.ReadTexts.{Any, Reads, Stops}
use Rattle.printed_tokens.proofs.ReadTexts as reads
use Rattle.printed_tokens.proofs.TokenWords.{Seen}

module _ (language : Language) where
  -- The text is read as tokens which, wherever they stand, are the symbols of a tree of these names.
  pub record Prints (Behind : List ℕ → Type 0) {T : Type 0} (written : T → List Symbol) (Names : T → Type 0) (text : List ℕ) : Type 0 where
    pub tokens : List Seen
    pub reads : Reads Behind text tokens
    pub is : (ss : List Symbol) → AtPlaces language tokens ss → Writes written Names ss

  -- the text is these symbols, wherever it stands
  abbrev pub IsFixed : (List ℕ → Type 0) → List ℕ → List Symbol → Type 0
  IsFixed Behind text symbols = Prints Behind (λ (t : Unit {0}). symbols) (λ (t : Unit {0}). Unit {0}) text

  pub fixed : (Behind : List ℕ → Type 0) (text : List ℕ) (ks : List Seen) (symbols : List Symbol) → Reads Behind text ks → AreSymbols language ks symbols → IsFixed Behind text symbols
  fixed Behind text ks symbols is are = record {
    tokens = ks;
    reads = is;
    is = λ ss at. record { tree = tt; are = symbols_are language ks symbols ss are at; names = tt };
  }

  -- one token that is written as such a tree wherever it stands
  pub one_token :
      {T : Type 0} (Behind : List ℕ → Type 0) (written : T → List Symbol) (Names : T → Type 0) (text : List ℕ) (k : Seen) (tree : ℕ → ℕ → T)
      → Reads Behind text (k ∷ [])
      → ((start end : ℕ) → symbol_at language k start end ∷ [] ≡ written (tree start end)) → ((start end : ℕ) → Names (tree start end))
      → Prints Behind written Names text
  one_token Behind written Names text k tree is stands named = record {
    tokens = k ∷ [];
    reads = is;
    is = λ ss at.
        let (start, end, more, first, none) = at in
        record {
          tree = tree start end;
          are = first ∙ ap (λ m. symbol_at language k start end ∷ m) none ∙ stands start end;
          names = named start end;
        };
  }

  -- the same as another tree
  pub read_as :
      {A B : Type 0} {Behind : List ℕ → Type 0} {v : A → List Symbol} {M : A → Type 0} {text : List ℕ}
      (w : B → List Symbol) (N : B → Type 0) (f : A → B)
      → ((t : A) → M t → v t ≡ w (f t)) → ((t : A) → M t → N (f t))
      → Prints Behind v M text → Prints Behind w N text
  read_as w N f alike named p = record {
    tokens = p.tokens;
    reads = p.reads;
    is = λ ss at.
        let x = p.is ss at in
        record { tree = f x.tree; are = x.are ∙ alike x.tree x.names; names = named x.tree x.names };
  }

  -- the same of a text that is equal
  pub of_text : {A : Type 0} {Behind : List ℕ → Type 0} {v : A → List Symbol} {M : A → Type 0} (a b : List ℕ) → a ≡ b → Prints Behind v M a → Prints Behind v M b
  of_text {A} {Behind} {v} {M} a b e p = subst (Prints Behind v M) e p

  -- the same of fewer places
  pub wherever : {A : Type 0} (Behind : List ℕ → Type 0) {v : A → List Symbol} {M : A → Type 0} {text : List ℕ} → Prints Any v M text → Prints Behind v M text
  wherever Behind p = record {
    tokens = p.tokens;
    reads = record { lexes = λ rest kinds end lexes. p.reads.lexes rest kinds tt lexes };
    is = p.is;
  }

  pub empty : (Behind : List ℕ → Type 0) → IsFixed Behind [] []
  empty Behind = fixed Behind [] [] [] (reads.nothing Behind) tt

  -- one behind the other
  pub both :
      {A B : Type 0} {E F : List ℕ → Type 0} {v : A → List Symbol} {w : B → List Symbol} {M : A → Type 0} {N : B → Type 0} {a b : List ℕ}
      → Prints E v M a → Prints F w N b → ((rest : List ℕ) → F rest → E (b ++ rest))
      → Prints F (λ (t : A × B). v t.0 ++ w t.1) (λ (t : A × B). M t.0 × N t.1) (a ++ b)
  both {E = E} {F = F} {v = v} {w = w} {a = a} {b = b} first second ends = record {
    tokens = first.tokens ++ second.tokens;
    reads = reads.both E F a b first.tokens second.tokens first.reads second.reads ends;
    is = λ ss at.
        let p = parts language first.tokens second.tokens ss at in
        let x = first.is p.front p.at_front in
        let y = second.is p.back p.at_back in
        record {
          tree = (x.tree, y.tree);
          are = p.are ∙ ap (λ xs. xs ++ p.back) x.are ∙ ap (λ xs. v x.tree ++ xs) y.are;
          names = (x.names, y.names);
        };
  }

  -- a text of these symbols in front
  pub before :
      {B : Type 0} {F : List ℕ → Type 0} {ts : List Symbol} {w : B → List Symbol} {N : B → Type 0} {a b : List ℕ}
      → IsFixed Any a ts → Prints F w N b → Prints F (λ (t : B). ts ++ w t) N (a ++ b)
  before {ts = ts} {w = w} {N = N} first second =
      read_as (λ t. ts ++ w t) N (λ t. t.1) (λ t named. refl) (λ t named. named.1) (both first second (λ rest end. tt))

  -- a text of these symbols behind it
  pub behind :
      {A : Type 0} {E F : List ℕ → Type 0} {v : A → List Symbol} {ts : List Symbol} {M : A → Type 0} {a b : List ℕ}
      → Prints E v M a → IsFixed F b ts → ((rest : List ℕ) → F rest → E (b ++ rest)) → Prints F (λ (t : A). v t ++ ts) M (a ++ b)
  behind {v = v} {ts = ts} {M = M} first second ends =
      read_as (λ t. v t ++ ts) M (λ t. t.0) (λ t named. refl) (λ t named. named.0) (both first second ends)

  -- a gap behind it
  pub gap_behind :
      {A : Type 0} {E F : List ℕ → Type 0} {v : A → List Symbol} {M : A → Type 0} {a b : List ℕ}
      → Prints E v M a → IsFixed F b [] → ((rest : List ℕ) → F rest → E (b ++ rest)) → Prints F v M (a ++ b)
  gap_behind {v = v} {M = M} first second ends =
      read_as v M (λ t. t) (λ t named. append-nil (v t)) (λ t named. named) (behind first second ends)

  -- ---- lists

  -- each of some texts, one behind another
  pub each :
      {X T : Type 0} (P : X → Type 0) (w : T → List Symbol) (N : T → X → Type 0) (text : X → List ℕ)
      → ((x : X) → P x → Prints Any w (λ t. N t x) (text x)) → (xs : List X) → AllByRecursion P xs
      → Prints Any (flat_map w) (λ ts. AllZip N ts xs) (flat_map text xs)
  each P w N text one [] all = read_as (flat_map w) (λ ts. AllZip N ts []) (λ t. []) (λ t named. refl) (λ t named. tt) (empty Any)
  each P w N text one (x ∷ xs) all =
      read_as (flat_map w) (λ ts. AllZip N ts (x ∷ xs)) (λ t. t.0 ∷ t.1) (λ t named. refl) (λ t named. named)
      (both (one x all.0) (each P w N text one xs all.1) (λ rest end. tt))
