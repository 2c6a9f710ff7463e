-- How deep types, constants and initialisers stand in one another at each token of a text, and how many lines of a function have begun
-- there: read off a derivation of the text. Each counts itself and all that it stands in, so that in `[[i8 0]]` the `i8` and the `0` stand at 3;
-- of `i8*` the `i8` stands at 1 and the star at 2, since a pointer holds what comes before its star. Text of which nothing is kept counts nothing.
use Rattle.std.specs.Prelude.{◌<◌, ℕ, ◌+◌, Bool, ◌||◌, nat_eq, cond, List, [], ◌∷◌, ◌++◌, get_or}
use Rattle.std.specs.List.{list_any}
use Rattle.ir_core.specs.declared.limits.Limit.{Limit}
use Rattle.ir_core.specs.declared.limits.Limit.TheVariants as limit
use Rattle.ir_core.specs.Depths.{deepest}
use Rattle.ir_core.specs.Limits.{depth_limit, line_limit}
use Rattle.predictive.specs.Grammar.{Forest, End, Leaf, Node}

-- ---- rules, by their numbers

-- `T {*}`
abbrev pub pointers : ℕ
pointers = 74

-- `iN`, a named type, `[N x T]`, `{ types }`, `*`, the fields of a named type
abbrev pub type_rules : List ℕ
type_rules = 75 ∷ 76 ∷ 77 ∷ 78 ∷ 80 ∷ 10 ∷ []

-- a number, `null`, `undef`, a global, `getelementptr (..)`, `bitcast (..)`
abbrev pub constant_rules : List ℕ
constant_rules = 99 ∷ 100 ∷ 101 ∷ 102 ∷ 103 ∷ 104 ∷ []

-- `zeroinitializer`, `c".."`, `[..]`, `{..}`
abbrev pub init_rules : List ℕ
init_rules = 108 ∷ 109 ∷ 110 ∷ 111 ∷ []

-- `define ..`
abbrev pub definition : ℕ
definition = 8

-- an operator's operation, a comparison, conversions, `select`, `getelementptr`, `alloca`, `load`, `store`; a call behind `ccc`, an attribute
-- or its type, and one of `void` from its name on, since it may be one of debugging before, which isn't a line
abbrev pub line_rules : List ℕ
line_rules = 128 ∷ 129 ∷ 130 ∷ 131 ∷ 132 ∷ 134 ∷ 135 ∷ 136 ∷ 137 ∷ 152 ∷ 153 ∷ 154 ∷ 159 ∷ []

-- `phi`, `ret`, `br`, `switch`, `unreachable`
abbrev pub flow_rules : List ℕ
flow_rules = 188 ∷ 195 ∷ 196 ∷ 197 ∷ 198 ∷ []

abbrev pub is_among : ℕ → List ℕ → Bool
is_among p = list_any (nat_eq p)

-- ---- depths

-- what a rule's node is, counted once where it is a type, a constant or an initialiser
abbrev pub opens : ℕ → ℕ
opens p = cond (is_among p type_rules || (is_among p constant_rules || is_among p init_rules)) 1 0

-- the depth at each token, where so many are open around
abbrev pub depths : ℕ → Forest → List ℕ
depths n End = []
depths n (Leaf k f) = n ∷ depths n f
depths n (Node p End f) = depths n f
depths n (Node p (Leaf k kids) f) = depths (n + opens p) (Leaf k kids) ++ depths n f
depths n (Node p (Node b base stars) f) =
    cond (nat_eq p pointers) (depths (n + opens b) base ++ depths (n + deepest (depths (opens b) base)) stars)
    (depths (n + opens p) (Node b base stars))
    ++ depths n f

-- ---- lines

abbrev pub lines_at : ℕ → ℕ
lines_at p = cond (is_among p line_rules || is_among p flow_rules) 1 0

-- how many lines begin in it
abbrev pub lines_in : Forest → ℕ
lines_in End = 0
lines_in (Leaf k f) = lines_in f
lines_in (Node p kids f) = lines_at p + lines_in kids + lines_in f

-- how many lines of its function have begun at each token, where so many had before; each definition begins with none
abbrev pub lines : ℕ → Forest → List ℕ
lines n End = []
lines n (Leaf k f) = n ∷ lines n f
lines n (Node p kids f) =
    cond (nat_eq p definition) (lines 0 kids ++ lines n f) (lines (n + lines_at p) kids ++ lines (n + lines_at p + lines_in kids) f)

-- ---- limits

-- the token of this index passes the limit
abbrev pub Passes : Forest → ℕ → Limit → Type 0
Passes f k limit.Depth = depth_limit < get_or (depths 0 f) k 0
Passes f k limit.Lines = line_limit < get_or (lines 0 f) k 0
Passes f k l = ⊥

-- it is the first token that passes one
abbrev pub PassesFirst : Forest → ℕ → Limit → Type 0
PassesFirst f k l = Passes f k l × ((j : ℕ) (m : Limit) → j < k → Passes f j m → ⊥)

-- no token passes one
abbrev pub IsWithin : Forest → Type 0
IsWithin f = (k : ℕ) (l : Limit) → Passes f k l → ⊥
