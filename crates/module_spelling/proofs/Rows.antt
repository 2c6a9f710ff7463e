-- A row of symbols that stands in what is written stands in the tokens too, its gaps filled.
use Rattle.std.proofs.Common.{◌≡◌, List, [], ◌∷◌, ◌++◌, refl, ap, sym, ◌∙◌, append_assoc, subst}
use Rattle.std.specs.List.{Contains, flat_map}
use Rattle.std.proofs.Math.Logic.{⊎_elim}
use Rattle.predictive.specs.Fills.{Fills}
use Rattle.module_spelling.proofs.Splits.{split}
use Rattle.module_grammar.specs.Balanced.{IsBalanced}
use Rattle.module_grammar.specs.Symbols.{Symbol}
use Rattle.module_grammar.specs.Texts.{is_balanced}
use Rattle.named_modules.proofs.Lists.{contains_either, contains_none}

-- the row stands among these
pub record Stands (row all : List Symbol) : Type 0 where
  pub before : List Symbol
  pub behind : List Symbol
  pub same : all ≡ before ++ (row ++ behind)

pub at_front : (row behind : List Symbol) → Stands row (row ++ behind)
at_front row behind = record { before = []; behind = behind; same = refl }

pub further_on : (row front all : List Symbol) → Stands row all → Stands row (front ++ all)
further_on row front all s = record {
  before = front ++ s.before;
  behind = s.behind;
  same = ap (λ l. front ++ l) s.same ∙ sym (append_assoc front s.before (row ++ s.behind));
}

pub before_more : (row all more : List Symbol) → Stands row all → Stands row (all ++ more)
before_more row all more s = record {
  before = s.before;
  behind = s.behind ++ more;
  same =
      ap (λ l. l ++ more) s.same
      ∙ append_assoc s.before (row ++ s.behind) more
      ∙ ap (λ l. s.before ++ l) (append_assoc row s.behind more);
}

-- where each is written with the row if it says this, they are
pub in_each : {A B : Type 0} (row : List Symbol) (says : A → List B) (write : A → List Symbol) (y : B) → ((x : A) → Contains (says x) y → Stands row (write x)) → (xs : List A) → Contains (flat_map says xs) y → Stands row (flat_map write xs)
in_each row says write y each [] there = absurd (contains_none y there)
in_each row says write y each (x ∷ xs) there =
    ⊎_elim
    (λ here. before_more row (write x) (flat_map write xs) (each x here))
    (λ more. further_on row (write x) (flat_map write xs) (in_each row says write y each xs more))
    (contains_either (says x) (flat_map says xs) y there)

-- these tokens are among them, and fill the row
pub record Filled (row tokens : List Symbol) : Type 0 where
  pub before : List Symbol
  pub inside : List Symbol
  pub behind : List Symbol
  pub same : tokens ≡ before ++ (inside ++ behind)
  pub fills : Fills is_balanced IsBalanced row inside

pub filled : (row all tokens : List Symbol) → Stands row all → Fills is_balanced IsBalanced all tokens → Filled row tokens
filled row all tokens s fills =
    let outer = split is_balanced IsBalanced s.before (row ++ s.behind) tokens (subst (λ l. Fills is_balanced IsBalanced l tokens) s.same fills) in
    let inner = split is_balanced IsBalanced row s.behind outer.1 outer.4 in
    record {
      before = outer.0;
      inside = inner.0;
      behind = inner.1;
      same = sym outer.2 ∙ ap (λ l. outer.0 ++ l) (sym inner.2);
      fills = inner.3;
    }
