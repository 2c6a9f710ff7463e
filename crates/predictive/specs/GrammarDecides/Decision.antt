-- Each text is decided by a predictive grammar: it is derived, and has a tree, or it has a first fault, and that has a place.
use Rattle.std.specs.Prelude.{◌≡◌, ◌<◌, ℕ, zero, suc, Bool, true, false, nat_eq, List, [], ◌∷◌, ◌++◌, Option, Some, None}
use Rattle.std.proofs.Common.{refl, ap, ◌⊎◌, inl, inr}
use Rattle.std.proofs.lemmas.Bool.{eqb-true, eqb-false}
use Rattle.predictive.specs.declared.symbol.Symbol.{Symbol}
use Rattle.predictive.specs.declared.symbol.Symbol.TheVariants.{Kind, Non}
use Rattle.predictive.specs.Grammar.{Grammar, Forest, End, Leaf, Forms, yield, Derives, IsFirstFault}
use Rattle.predictive.specs.Predictive.{Sets, IsPredictive, IsFollowed, MayEnd, ahead, at_end, cost_row}
use Rattle.predictive.specs.GrammarDecides.Selects.{may_end_followed}
use Rattle.predictive.specs.GrammarDecides.Openings.{none_below, below_next, past_end, early_end, other_kind, later_fault, none_chosen, closed, same_fault, opened_followed, opened_lower}

-- of rows of brackets `()` is derived, and `)` has its first fault at 0
abbrev pub Verdict : Grammar → List Symbol → List ℕ → Type 0
Verdict g row kinds = Derives g row kinds ⊎ ((place : ℕ) × IsFirstFault g row kinds place)

-- behind the first kind each row is decided
abbrev pub Onward : Grammar → Sets → List ℕ → Type 0
Onward g s [] = Unit {0}
Onward g s (k ∷ kinds) = (row : List Symbol) → IsFollowed s row at_end → Verdict g row kinds

-- a kind is wanted, and one is there
abbrev at_kind :
    (g : Grammar) (s : Sets) → IsPredictive g s → (c k : ℕ) (row : List Symbol) (kinds : List ℕ) → IsFollowed s (Kind c ∷ row) at_end
    → Verdict g row kinds → (b : Bool) → nat_eq c k ≡ b → Verdict g (Kind c ∷ row) (k ∷ kinds)
at_kind g s is c k row kinds allowed (inl text) true e = inl (Leaf k text.0, (eqb-true c k e, text.1), ap (λ l. k ∷ l) text.2)
at_kind g s is c k row kinds allowed (inr fault) true e = inr (suc fault.0, later_fault g c k row kinds fault.0 (eqb-true c k e) fault.1)
at_kind g s is c k row kinds allowed verdict false e = inr (0, other_kind g s is c k row kinds allowed (eqb-false c k e))

-- a rule was opened
abbrev of_rule :
    (g : Grammar) (s : Sets) → IsPredictive g s → (n p : ℕ) (row : List Symbol) (kinds : List ℕ) → IsFollowed s (Non n ∷ row) at_end
    → s.table n (ahead kinds) ≡ Some p → Verdict g (g.right p ++ row) kinds → Verdict g (Non n ∷ row) kinds
of_rule g s is n p row kinds allowed e (inl text) = inl (closed g n p row kinds (is.entry n (ahead kinds) p e) text)
of_rule g s is n p row kinds allowed e (inr fault) = inr (fault.0, same_fault g s is n p row kinds fault.0 allowed e fault.1)

-- a nonterminal is wanted, and the table has its rule or none
abbrev at_non :
    (g : Grammar) (s : Sets) → IsPredictive g s → (n : ℕ) (row : List Symbol) (kinds : List ℕ) → IsFollowed s (Non n ∷ row) at_end
    → ((p : ℕ) → s.table n (ahead kinds) ≡ Some p → Verdict g (g.right p ++ row) kinds)
    → (rule : Option ℕ) → s.table n (ahead kinds) ≡ rule → Verdict g (Non n ∷ row) kinds
at_non g s is n row kinds allowed each None e = inr (0, none_chosen g s is n row kinds allowed e)
at_non g s is n row kinds allowed each (Some p) e = of_rule g s is n p row kinds allowed e (each p e)

-- rules are opened until a kind is wanted; the row's cost bounds their number
abbrev pub decided_ahead :
    (g : Grammar) (s : Sets) → IsPredictive g s → (bound : ℕ) (row : List Symbol) (kinds : List ℕ) → Onward g s kinds
    → IsFollowed s row at_end → cost_row s row < bound → Verdict g row kinds
decided_ahead g s is zero row kinds onward allowed low = absurd (none_below (cost_row s row) low)
decided_ahead g s is (suc bound) [] [] onward allowed low = inl (End, tt, refl)
decided_ahead g s is (suc bound) [] (k ∷ kinds) onward allowed low = inr (0, past_end g s is k kinds)
decided_ahead g s is (suc bound) (Kind c ∷ row) [] onward allowed low = inr (0, early_end g s is c row allowed)
decided_ahead g s is (suc bound) (Kind c ∷ row) (k ∷ kinds) onward allowed low =
    at_kind g s is c k row kinds allowed (onward row allowed) (nat_eq c k) refl
decided_ahead g s is (suc bound) (Non n ∷ row) kinds onward allowed low =
    at_non g s is n row kinds allowed
    (λ p e. decided_ahead g s is bound (g.right p ++ row) kinds onward (opened_followed g s is n (ahead kinds) p row e allowed) (opened_lower g s is n (ahead kinds) p row bound e low))
    (s.table n (ahead kinds)) refl

abbrev pub decided_row : (g : Grammar) (s : Sets) → IsPredictive g s → (kinds : List ℕ) (row : List Symbol) → IsFollowed s row at_end → Verdict g row kinds
decided_row g s is [] row allowed = decided_ahead g s is (suc (cost_row s row)) row [] tt allowed (below_next (cost_row s row))
decided_row g s is (k ∷ kinds) row allowed =
    decided_ahead g s is (suc (cost_row s row)) row (k ∷ kinds) (decided_row g s is kinds) allowed (below_next (cost_row s row))

abbrev pub decided :
    (g : Grammar) (s : Sets) → IsPredictive g s → (start : ℕ) → MayEnd s start → (kinds : List ℕ)
    → ((f : Forest) × Forms g f (Non start ∷ []) × (yield f ≡ kinds)) ⊎ ((place : ℕ) × IsFirstFault g (Non start ∷ []) kinds place)
decided g s is start may kinds = decided_row g s is kinds (Non start ∷ []) (may_end_followed s start may)
