-- What the laws ask of a grammar's rules, as tests of each rule by its number, its left side and its right side.
use Rattle.std.proofs.Common.{◌≡◌, ◌<◌, ℕ, Bool, true, false, cond, not, ◌&&◌, ◌||◌, nat_eq, nat_lt, List, [], ◌∷◌}
use Rattle.predictive.specs.Grammar.{Grammar}
use Rattle.predictive.specs.declared.symbol.Symbol.{Symbol}
use Rattle.predictive.specs.declared.symbol.Symbol.TheVariants.{Kind, Non}
use Rattle.module_spelling.specs.Opened.{definition, lines_at, opens, pointers}
use Rattle.derivation_writer.specs.TokenLimits.Laws.{base_number}
use Rattle.derivation_writer.specs.TokenLimits.Roles.{role_of}
use Rattle.derivation_writer.specs.declared.token_limits.role.Role.{Role}
use Rattle.derivation_writer.specs.declared.token_limits.role.Role.TheVariants.{Base, Definition, Line, Part, Plain, Pointers}

-- ---- roles

abbrev pub opens_of : Role → ℕ
opens_of Plain = 0
opens_of Pointers = 0
opens_of Base = 1
opens_of Part = 1
opens_of Line = 0
opens_of Definition = 0

abbrev pub lines_of : Role → ℕ
lines_of Plain = 0
lines_of Pointers = 0
lines_of Base = 0
lines_of Part = 0
lines_of Line = 1
lines_of Definition = 0

abbrev pub is_base : Role → Bool
is_base Plain = false
is_base Pointers = false
is_base Base = true
is_base Part = false
is_base Line = false
is_base Definition = false

-- neither a type nor what stands before its stars
abbrev pub is_calm : Role → Bool
is_calm Plain = true
is_calm Pointers = false
is_calm Base = false
is_calm Part = true
is_calm Line = true
is_calm Definition = true

abbrev pub is_inner : Role → Bool
is_inner Plain = true
is_inner Pointers = true
is_inner Base = true
is_inner Part = true
is_inner Line = true
is_inner Definition = false

-- ---- depths

abbrev pub stars_number : ℕ
stars_number = 35

-- none of the symbols is a type without its stars
abbrev pub has_no_base : List Symbol → Bool
has_no_base [] = true
has_no_base (Kind k ∷ row) = has_no_base row
has_no_base (Non n ∷ row) = not (nat_eq n base_number) && has_no_base row

abbrev pub begins_with_kind : List Symbol → Bool
begins_with_kind [] = false
begins_with_kind (Kind k ∷ row) = true
begins_with_kind (Non n ∷ row) = false

abbrev pub base_fits : ℕ → List Symbol → Bool
base_fits p right = is_base (role_of p) && (nat_eq (opens p) 1 && (begins_with_kind right && has_no_base right))

abbrev pub other_fits : ℕ → List Symbol → Bool
other_fits p right = is_calm (role_of p) && (nat_eq (opens p) (opens_of (role_of p)) && has_no_base right)

abbrev pub stands : ℕ → ℕ → List Symbol → Bool
stands p left right = cond (nat_eq left base_number) (base_fits p right) (nat_eq p pointers || other_fits p right)

pub record Stands (g : Grammar) : Type 0 where
  pub stands : (p : ℕ) → p < g.count → stands p (g.left p) (g.right p) ≡ true
  pub pointed : g.right pointers ≡ Non base_number ∷ Non stars_number ∷ []
  pub role : role_of pointers ≡ Pointers

-- ---- lines

abbrev pub module_number : ℕ
module_number = 0

abbrev pub item_number : ℕ
item_number = 1

-- neither a module nor an item
abbrev pub is_within : ℕ → Bool
is_within n = not (nat_eq n module_number || nat_eq n item_number)

-- a part of an item that has no lines
abbrev pub is_lineless : ℕ → Bool
is_lineless n = is_within n && (nat_lt n 52 || nat_lt 91 n)

abbrev pub all_within : List Symbol → Bool
all_within [] = true
all_within (Kind k ∷ row) = all_within row
all_within (Non n ∷ row) = is_within n && all_within row

abbrev pub all_lineless : List Symbol → Bool
all_lineless [] = true
all_lineless (Kind k ∷ row) = all_lineless row
all_lineless (Non n ∷ row) = is_lineless n && all_lineless row

-- nothing, or an item and more
abbrev pub is_module_row : List Symbol → Bool
is_module_row [] = true
is_module_row (Non n ∷ Non m ∷ []) = nat_eq n item_number && nat_eq m module_number
is_module_row row = false

abbrev pub role_fits : ℕ → Bool
role_fits p = nat_eq (lines_at p) (lines_of (role_of p)) && is_inner (role_of p)

abbrev pub has_no_lines : ℕ → List Symbol → Bool
has_no_lines p right = nat_eq (lines_at p) 0 && all_lineless right

abbrev pub item_fits : ℕ → List Symbol → Bool
item_fits p right = all_within right && (nat_eq p definition || (role_fits p && has_no_lines p right))

abbrev pub part_fits : ℕ → ℕ → List Symbol → Bool
part_fits p left right = role_fits p && (all_within right && (not (is_lineless left) || has_no_lines p right))

abbrev pub counts : ℕ → ℕ → List Symbol → Bool
counts p left right =
    cond (nat_eq left module_number) (role_fits p && (nat_eq (lines_at p) 0 && is_module_row right))
    (cond (nat_eq left item_number) (item_fits p right) (not (nat_eq p definition) && part_fits p left right))

pub record Counts (g : Grammar) : Type 0 where
  pub counts : (p : ℕ) → p < g.count → counts p (g.left p) (g.right p) ≡ true
  pub role : role_of definition ≡ Definition
