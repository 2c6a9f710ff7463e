-- Texts that are tokens of a tree which names what was printed, where a tree has gaps, and how they stand one behind another.
use Rattle.std.proofs.Common.{◌≡◌, ℕ, List, [], ◌∷◌, ◌++◌, refl, sym, subst}
use Rattle.std.specs.List.{AllByRecursion, AllZip, flat_map}
use Rattle.std.proofs.lemmas.List.{append-nil}
use Rattle.ir_types.specs.declared.names.Name.{Name}
use Rattle.module_grammar.specs.Symbols.{Symbol}
use Rattle.module_grammar.specs.declared.places.Placed.{Placed}
use Rattle.module_grammar.specs.declared.types.CalledText.{CalledText}
use Rattle.module_grammar.specs.declared.words.Language.TheVariants.{Ir}
use Rattle.module_spelling.specs.Spells.{StatesTypes}
use Rattle.named_modules.specs.Lines.{Stated}
use Rattle.printed_modules.proofs.Laid.{AreCalm, FillsAll, IsShut, IsSound, Laid, calm_fills, calm_sound, laid_as, laid_both}
use Rattle.printed_tokens.proofs.Places.{AtPlaces, parts}
use Rattle.printed_tokens.proofs.Prints.{IsFixed, Prints}
use Rattle.printed_tokens.proofs.ReadTexts.{Any, Reads, Stops}
use Rattle.printed_tokens.proofs.ReadTexts as reads
use Rattle.printed_tokens.proofs.TokenWords.{Seen}

-- The text is read as tokens which, wherever they stand, are those of a tree of these names, by what is stated in the whole of the tokens.
pub record Lays (Behind : List ℕ → Type 0) {T : Type 0} (written : T → List Symbol) (Names : Stated → T → Type 0) (text : List ℕ) : Type 1 where
  pub tokens : List Seen
  pub reads : Reads Behind text tokens
  pub is : (ss : List Symbol) → AtPlaces Ir tokens ss → Laid written Names ss

-- ---- of texts without gaps

-- what `call void` states in these tokens is stated
abbrev pub AllStated : List Symbol → Stated → Type 0
AllStated ss stated = (x : Placed Name) (c : CalledText) → StatesTypes ss x c → stated x c

-- another tree, of which the tokens of this one are also written
pub of_prints :
    {A B : Type 0} {Behind : List ℕ → Type 0} {v : A → List Symbol} {M : A → Type 0} {text : List ℕ}
    (w : B → List Symbol) (N : Stated → B → Type 0) (f : A → B)
    → ((t : A) → M t → FillsAll (w (f t)) (v t)) → ((stated : Stated) (t : A) → M t → AllStated (v t) stated → N stated (f t))
    → ((t : A) → M t → IsSound (v t))
    → Prints Ir Behind v M text → Lays Behind w N text
of_prints {v = v} w N f fills named sound p = record {
  tokens = p.tokens;
  reads = p.reads;
  is = λ ss at.
      let x = p.is ss at in
      let laid : Laid w N (v x.tree) = record {
        tree = f x.tree;
        are = fills x.tree x.names;
        names = λ stated all. named stated x.tree x.names all;
        sound = sound x.tree x.names;
      } in
      subst (Laid w N) (sym x.are) laid;
}

-- a tree of calm tokens, in which nothing is stated
pub of_calm :
    {A B : Type 0} {Behind : List ℕ → Type 0} {v : A → List Symbol} {M : A → Type 0} {text : List ℕ}
    (w : B → List Symbol) (N : Stated → B → Type 0) (f : A → B)
    → ((t : A) → M t → v t ≡ w (f t)) → ((stated : Stated) (t : A) → M t → N stated (f t))
    → ((t : A) → M t → IsShut (v t)) → ((t : A) → M t → AreCalm (v t))
    → Prints Ir Behind v M text → Lays Behind w N text
of_calm {v = v} w N f alike named shut calm p =
    of_prints w N f (λ t is. subst (λ ws. FillsAll ws (v t)) (alike t is) (calm_fills (v t) (calm t is))) (λ stated t is all. named stated t is)
    (λ t is. calm_sound (v t) (shut t is) (calm t is)) p

-- the text is these calm tokens, wherever it stands
abbrev pub IsLaidFixed : (List ℕ → Type 0) → List ℕ → List Symbol → Type 1
IsLaidFixed Behind text symbols = Lays Behind (λ (t : Unit {0}). symbols) (λ stated (t : Unit {0}). Unit {0}) text

pub of_fixed : {Behind : List ℕ → Type 0} {text : List ℕ} {symbols : List Symbol} → IsShut symbols → AreCalm symbols → IsFixed Ir Behind text symbols → IsLaidFixed Behind text symbols
of_fixed {symbols = symbols} shut calm p =
    of_calm (λ (t : Unit {0}). symbols) (λ stated (t : Unit {0}). Unit {0}) (λ t. t) (λ t named. refl) (λ stated t named. tt) (λ t named. shut) (λ t named. calm) p

-- ---- as other trees, and other texts

pub read_as :
    {A B : Type 0} {Behind : List ℕ → Type 0} {v : A → List Symbol} {M : Stated → A → Type 0} {text : List ℕ}
    (w : B → List Symbol) (N : Stated → B → Type 0) (f : A → B)
    → ((t : A) → v t ≡ w (f t)) → ((stated : Stated) (t : A) → M stated t → N stated (f t))
    → Lays Behind v M text → Lays Behind w N text
read_as w N f alike named p = record { tokens = p.tokens; reads = p.reads; is = λ ss at. laid_as w N f alike named (p.is ss at) }

-- the same of a text that is equal
pub of_text : {A : Type 0} {Behind : List ℕ → Type 0} {v : A → List Symbol} {M : Stated → A → Type 0} (a b : List ℕ) → a ≡ b → Lays Behind v M a → Lays Behind v M b
of_text {A} {Behind} {v} {M} a b e p = subst (Lays Behind v M) e p

-- the same of fewer places
pub wherever : {A : Type 0} (Behind : List ℕ → Type 0) {v : A → List Symbol} {M : Stated → A → Type 0} {text : List ℕ} → Lays Any v M text → Lays Behind v M text
wherever Behind p = record {
  tokens = p.tokens;
  reads = record { lexes = λ rest kinds end lexes. p.reads.lexes rest kinds tt lexes };
  is = p.is;
}

-- ---- one behind the other

pub both :
    {A B : Type 0} {E F : List ℕ → Type 0} {v : A → List Symbol} {w : B → List Symbol} {M : Stated → A → Type 0} {N : Stated → B → Type 0} {a b : List ℕ}
    → Lays E v M a → Lays F w N b → ((rest : List ℕ) → F rest → E (b ++ rest))
    → Lays F (λ (t : A × B). v t.0 ++ w t.1) (λ stated (t : A × B). M stated t.0 × N stated t.1) (a ++ b)
both {E = E} {F = F} {v = v} {w = w} {M = M} {N = N} {a = a} {b = b} first second ends = record {
  tokens = first.tokens ++ second.tokens;
  reads = reads.both E F a b first.tokens second.tokens first.reads second.reads ends;
  is = λ ss at.
      let p = parts Ir first.tokens second.tokens ss at in
      subst (Laid (λ t. v t.0 ++ w t.1) (λ stated t. M stated t.0 × N stated t.1)) (sym p.are)
      (laid_both p.front p.back (first.is p.front p.at_front) (second.is p.back p.at_back));
}

-- a text of these tokens in front
pub before :
    {B : Type 0} {F : List ℕ → Type 0} {ts : List Symbol} {w : B → List Symbol} {N : Stated → B → Type 0} {a b : List ℕ}
    → IsLaidFixed Any a ts → Lays F w N b → Lays F (λ (t : B). ts ++ w t) N (a ++ b)
before {ts = ts} {w = w} {N = N} first second =
    read_as (λ t. ts ++ w t) N (λ t. t.1) (λ t. refl) (λ stated t named. named.1) (both first second (λ rest end. tt))

-- a text of these tokens behind it
pub behind :
    {A : Type 0} {E F : List ℕ → Type 0} {v : A → List Symbol} {ts : List Symbol} {M : Stated → A → Type 0} {a b : List ℕ}
    → Lays E v M a → IsLaidFixed F b ts → ((rest : List ℕ) → F rest → E (b ++ rest)) → Lays F (λ (t : A). v t ++ ts) M (a ++ b)
behind {v = v} {ts = ts} {M = M} first second ends =
    read_as (λ t. v t ++ ts) M (λ t. t.0) (λ t. refl) (λ stated t named. named.0) (both first second ends)

-- a gap before it, and one behind it
pub gap_before :
    {B : Type 0} {F : List ℕ → Type 0} {w : B → List Symbol} {N : Stated → B → Type 0} {a b : List ℕ}
    → IsFixed Ir Any a [] → Lays F w N b → Lays F w N (a ++ b)
gap_before first second = before (of_fixed tt refl first) second

pub gap_behind :
    {A : Type 0} {E F : List ℕ → Type 0} {v : A → List Symbol} {M : Stated → A → Type 0} {a b : List ℕ}
    → Lays E v M a → IsFixed Ir F b [] → ((rest : List ℕ) → F rest → E (b ++ rest)) → Lays F v M (a ++ b)
gap_behind {v = v} {M = M} first second ends =
    read_as v M (λ t. t) (λ t. append-nil (v t)) (λ stated t named. named) (behind first (of_fixed tt refl second) ends)

-- ---- lists

-- nothing is laid as no items
pub none : {T : Type 0} {X : Type 0} (Behind : List ℕ → Type 0) (w : T → List Symbol) (N : Stated → T → X → Type 0) → Lays Behind (flat_map w) (λ stated ts. AllZip (N stated) ts []) []
none Behind w N = record {
  tokens = [];
  reads = reads.nothing Behind;
  is = λ ss at. subst (Laid (flat_map w) (λ stated ts. AllZip (N stated) ts [])) (sym at)
      (record { tree = []; are = refl; names = λ stated all. tt; sound = calm_sound [] tt refl });
}

-- each of some texts, one behind another
pub each :
    {X T : Type 0} (P : X → Type 0) (w : T → List Symbol) (N : Stated → T → X → Type 0) (text : X → List ℕ)
    → ((x : X) → P x → Lays Any w (λ stated t. N stated t x) (text x)) → (xs : List X) → AllByRecursion P xs
    → Lays Any (flat_map w) (λ stated ts. AllZip (N stated) ts xs) (flat_map text xs)
each P w N text one [] all = none Any w N
each P w N text one (x ∷ xs) all =
    read_as (flat_map w) (λ stated ts. AllZip (N stated) ts (x ∷ xs)) (λ t. t.0 ∷ t.1) (λ t. refl) (λ stated t named. named)
    (both (one x all.0) (each P w N text one xs all.1) (λ rest end. tt))
