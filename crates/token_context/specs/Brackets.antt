-- Words of private functions: the brackets that are open where tokens are read from the left, and what a token that closes one does.
use Rattle.std.specs.Prelude.{ℕ, suc, Bool, nat_eq, nat_lt, ◌||◌, List, [], ◌∷◌, Option, Some, None, if◌then◌else◌}
use Rattle.module_grammar.specs.Symbols.{Bracket, Brace, balanced, close_brace, close_bracket, close_paren, foreign, kind_of, open_paren}
use Rattle.token_context.specs.declared.brackets.Class.{Class}
use Rattle.token_context.specs.declared.brackets.Class.TheVariants.{Opens, Closes, Plain, Outside}
use Rattle.token_context.specs.declared.brackets.Opened.{Opened}

abbrev pub opens : ℕ → Bool
opens k = nat_eq k (kind_of open_paren) || (nat_eq k (kind_of (Bracket 0)) || nat_eq k (kind_of (Brace 0)))

-- what a token of a kind does among brackets
abbrev pub class_of : ℕ → Class
class_of k =
    if opens k then Opens
    else (if nat_eq k (kind_of close_paren) then Closes (kind_of open_paren)
    else (if nat_eq k (kind_of close_bracket) then Closes (kind_of (Bracket 0))
    else (if nat_eq k (kind_of close_brace) then Closes (kind_of (Brace 0))
    else (if nat_lt k (kind_of balanced) then Plain else Outside))))

-- the brackets that are open, the last one first; the pair that the last token closed, if it did; and the last token's kind
pub record State : Type 0 where
  pub opened : List Opened
  pub closed : Option Opened
  pub last : ℕ

abbrev pub start : State
start = record { opened = []; closed = None; last = kind_of foreign }

-- nothing is balanced across a token of this kind
abbrev pub forgotten : ℕ → State
forgotten k = record { opened = []; closed = None; last = k }

-- a token closes a bracket that this kind opens, where that is open last
abbrev pub closing : ℕ → ℕ → List Opened → State
closing k kind [] = forgotten k
closing k kind (o ∷ os) = if nat_eq o.kind kind then record { opened = os; closed = Some o; last = k } else forgotten k

-- a token at a place does this
abbrev pub moved : Class → State → ℕ → ℕ → State
moved Opens s place k = record { opened = record { place = place; kind = k; behind = s.last } ∷ s.opened; closed = None; last = k }
moved (Closes kind) s place k = closing k kind s.opened
moved Plain s place k = record { opened = s.opened; closed = None; last = k }
moved Outside s place k = forgotten k

abbrev pub after : State → ℕ → ℕ → State
after s place k = moved (class_of k) s place k

-- behind tokens of these kinds, the first of which stands at this place
abbrev pub after_all : State → ℕ → List ℕ → State
after_all s place [] = s
after_all s place (k ∷ ks) = after_all (after s place k) (suc place) ks
