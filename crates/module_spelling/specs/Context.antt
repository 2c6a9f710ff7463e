-- The symbols that the tokens of a module are where they stand.
--
-- Behind `call void` any balanced text may stand between parentheses where a name of debugging follows, and behind such a name of a declaration: of both nothing is
-- kept. Where another name follows, or `unnamed_addr`, which such a declaration hasn't, what stood between the parentheses has to be the types of
-- parameters, or the parameters: else the name, or `unnamed_addr`, isn't what the grammar has.
use Rattle.std.specs.Prelude.{◌≡◌, ◌⊎◌, ℕ, cond, nat_eq, List, [], ◌∷◌, ◌++◌, length, map, reverse}
use Rattle.ir_types.specs.declared.names.Name.{Name}
use Rattle.module_grammar.specs.Balanced.{IsBalanced}
use Rattle.module_grammar.specs.Sorts.{Sort, Holds, Called, DeclaredParams}
use Rattle.module_grammar.specs.Symbols.{Symbol, Global, Debug, close_paren, foreign, kind_of, open_paren, unnamed_addr, void}
use Rattle.module_grammar.specs.Texts.{IsWritten}
use Rattle.module_grammar.specs.Tokens.{token_grammar}
use Rattle.module_grammar.specs.declared.places.Placed.{Placed}
use Rattle.predictive.specs.Grammar.{Forest, Forms, yield}
use Rattle.predictive.specs.declared.symbol.Symbol.TheVariants.{Non}
use Rattle.module_spelling.specs.Opened.{IsWithin}

-- these are the tokens before a place, the last one first: the last is a parenthesis that closes, and these stand in it, behind this one
pub record StandsBehind (opener : Symbol) (inside before : List Symbol) : Type 0 where
  pub rest : List Symbol
  pub same : before ≡ close_paren ∷ (reverse inside ++ (open_paren ∷ opener ∷ rest))
  pub balanced : IsBalanced inside

-- the tokens are written of a thing of this sort, which is of this number in the grammar, and within the limit on depths
pub record IsWhole (s : Sort) (n : ℕ) (tokens : List Symbol) : Type 0 where
  pub tree : Holds s
  pub written : IsWritten s tree tokens
  pub derivation : Forest
  pub formed : Forms token_grammar derivation (Non n ∷ [])
  pub same : yield derivation ≡ map kind_of tokens
  pub within : IsWithin derivation

abbrev pub called_number : ℕ
called_number = 38

abbrev pub declared_number : ℕ
declared_number = 7

-- what stands between the parentheses behind `void` isn't the types of parameters
abbrev pub IsUnstated : List Symbol → Type 0
IsUnstated before = (inside : List Symbol) × StandsBehind void inside before × (IsWhole Called called_number inside → ⊥)

-- what stands between the parentheses behind a name of debugging isn't parameters
abbrev pub IsUndeclared : List Symbol → Type 0
IsUndeclared before =
    (x : Placed Name) × (inside : List Symbol) × StandsBehind (Debug x) inside before × (IsWhole DeclaredParams declared_number inside → ⊥)

-- the symbol is that one, but where this is so it is none of the grammar
abbrev pub Unless : Type 0 → Symbol → Symbol → Type 0
Unless P s t = ((P → ⊥) × (t ≡ s)) ⊎ (P × (t ≡ foreign))

abbrev pub UnlessAddr : Type 0 → ℕ → Symbol → Symbol → Type 0
UnlessAddr P k s t = ((k ≡ kind_of unnamed_addr) × Unless P s t) ⊎ ((k ≡ kind_of unnamed_addr → ⊥) × (t ≡ s))

-- A token that is this symbol by itself is that one behind these, the last one first.
abbrev pub StandsFor : List Symbol → Symbol → Symbol → Type 0
StandsFor before (Global x) t = Unless (IsUnstated before) (Global x) t
StandsFor before s t = UnlessAddr (IsUndeclared before) (kind_of s) s t

-- what each stands for, behind these
abbrev pub AreBehind : List Symbol → List Symbol → List Symbol → Type 0
AreBehind before [] [] = Unit {0}
AreBehind before (s ∷ ss) (t ∷ ts) = StandsFor before s t × AreBehind (s ∷ before) ss ts
AreBehind before _ _ = ⊥

-- In `call void (i8*) @f(i8* %p)` the name is one, in `call void (metadata) @f()` it is none.
abbrev pub StandFor : List Symbol → List Symbol → Type 0
StandFor = AreBehind []

-- ---- by kinds

-- a token that is this symbol by itself and is seen as one of this kind: itself, or none of the grammar
abbrev pub seen_as : Symbol → ℕ → Symbol
seen_as s k = cond (nat_eq (kind_of s) k) s foreign

abbrev pub all_seen : List Symbol → List ℕ → List Symbol
all_seen [] ks = []
all_seen (s ∷ ss) [] = []
all_seen (s ∷ ss) (k ∷ ks) = seen_as s k ∷ all_seen ss ks

-- there is a kind for each token, its own or that of what is none of the grammar
abbrev pub AreKinds : List Symbol → List ℕ → Type 0
AreKinds own kinds = (length kinds ≡ length own) × (map kind_of (all_seen own kinds) ≡ kinds)
