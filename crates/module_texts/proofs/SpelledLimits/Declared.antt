-- Parameters behind a name of debugging that is kept are within the limit on depths: else the word behind them would be none of the grammar.
use Rattle.std.proofs.Common.{◌≡◌, ◌≤◌, ◌<◌, ℕ, suc, Bool, true, false, nat_le, List, [], ◌∷◌, ◌++◌, get_or, refl, ap, sym, ◌∙◌, append_assoc, subst, inl, inr, arith}
use Rattle.std.specs.Prelude.{reverse}
use Rattle.std.specs.List.{AllByRecursion}
use Rattle.std.proofs.lemmas.Bool.{leb-true, leb-false, ltb-true}
use Rattle.std.proofs.lemmas.List.{reverse-append}
use Rattle.ir_core.specs.declared.limits.Limit.TheVariants as limit
use Rattle.ir_core.specs.Limits.{depth_limit}
use Rattle.ir_types.specs.declared.names.Name.{Name}
use Rattle.module_grammar.specs.Sorts.{DeclaredParams}
use Rattle.module_grammar.specs.Symbols.{Symbol, Debug, Global, close_paren, foreign, kind_of, open_paren, unnamed_addr}
use Rattle.module_grammar.specs.declared.functions.DeclaredText.{DeclaredText}
use Rattle.module_grammar.specs.declared.functions.ParamText.{ParamText}
use Rattle.module_grammar.specs.declared.places.Placed.{Placed}
use Rattle.module_grammar.proofs.ModulesMade.{declared_text}
use Rattle.module_grammar.proofs.OneTree.{declared}
use Rattle.module_spelling.specs.Context.{AreBehind, IsUndeclared, IsWhole, StandFor, StandsFor, Unless, UnlessAddr, declared_number}
use Rattle.module_spelling.specs.Opened.{IsWithin, depths}
use Rattle.module_spelling.specs.Spells.{StatesParams}
use Rattle.predictive.specs.Grammar.{Forest}
use Rattle.named_modules.proofs.Lists.{all_append}
use Rattle.module_texts.proofs.SpelledLimits.Claimed.{AreUpTo}
use Rattle.module_texts.proofs.SpelledLimits.Fits.{DeclaredFits, ParamFits}
use Rattle.module_texts.proofs.SpelledLimits.Parameters.{AreOwn, is_own, params_tidy}
use Rattle.module_texts.proofs.SpelledLimits.ShallowTrees.{written_fits}

-- ---- depths

each_up_to : (ds : List ℕ) → ((k : ℕ) → depth_limit < get_or ds k 0 → ⊥) → AreUpTo depth_limit ds
each_up_to [] none = tt
each_up_to (d ∷ ds) none = let here : depth_limit < d → ⊥ = none 0 in (omega (arith, here), each_up_to ds (λ k. none (suc k)))

pub depths_within : (f : Forest) → IsWithin f → AreUpTo depth_limit (depths 0 f)
depths_within f within = each_up_to (depths 0 f) (λ k passes. within k limit.Depth passes)

-- ---- what tokens are by themselves

foreign_differs : (t : Symbol) → is_own t ≡ true → t ≡ foreign → ⊥
foreign_differs t own e = let is : is_own foreign ≡ true = subst (λ s. is_own s ≡ true) e own in cc

module _ (P : Type 0) where
  unless_same : (s t : Symbol) → Unless P s t → is_own t ≡ true → s ≡ t
  unless_same s t (inl h) own = sym h.1
  unless_same s t (inr h) own = absurd (foreign_differs t own h.1)

  addr_same : (s t : Symbol) → UnlessAddr P (kind_of s) s t → is_own t ≡ true → s ≡ t
  addr_same s t (inl h) own = unless_same s t h.1 own
  addr_same s t (inr h) own = sym h.1

  -- where this is so, no `unnamed_addr` is seen
  addr_unless : (s : Symbol) → UnlessAddr P (kind_of s) s unnamed_addr → P → ⊥
  addr_unless s (inl (k, inl h)) p = h.0 p
  addr_unless s (inl (k, inr h)) p = foreign_differs unnamed_addr refl h.1
  addr_unless s (inr h) p = h.0 (ap kind_of (sym h.1))

stands_same : (before : List Symbol) (s t : Symbol) → StandsFor before s t → is_own t ≡ true → s ≡ t
stands_same before (Global x) t stands own = unless_same _ (Global x) t stands own
stands_same before s t stands own = addr_same (IsUndeclared before) s t stands own

addr_stands : (before : List Symbol) (s : Symbol) → StandsFor before s unnamed_addr → IsUndeclared before → ⊥
addr_stands before (Global x) (inl h) un = cc
addr_stands before (Global x) (inr h) un = foreign_differs unnamed_addr refl h.1
addr_stands before s stands un = addr_unless (IsUndeclared before) s stands un

-- ---- rows of tokens

-- what stands for the front of the tokens, and for the others behind it
record Apart (before own b : List Symbol) : Type 0 where
  pub done : List Symbol
  pub rest : List Symbol
  pub behind : AreBehind (reverse done ++ before) rest b

push : (s : Symbol) (done before : List Symbol) → reverse done ++ (s ∷ before) ≡ reverse (s ∷ done) ++ before
push s done before =
    sym (append_assoc (reverse done) (s ∷ []) before)
    ∙ ap (λ l. l ++ before) (sym (reverse-append (s ∷ []) done))

split : (a b before own : List Symbol) → AreBehind before own (a ++ b) → Apart before own b
split [] b before own are = record { done = []; rest = own; behind = are }
split (t ∷ a) b before [] are = absurd are
split (t ∷ a) b before (s ∷ own) are =
    let more = split a b (s ∷ before) own are.1 in
    record { done = s ∷ more.done; rest = more.rest; behind = subst (λ l. AreBehind l more.rest b) (push s more.done before) more.behind }

-- the same, where the front is of tokens that stand for themselves
same_front : (a b before own : List Symbol) → AreOwn a → AreBehind before own (a ++ b) → (rest : List Symbol) × AreBehind (reverse a ++ before) rest b
same_front [] b before own all are = (own, are)
same_front (t ∷ a) b before [] all are = absurd are
same_front (t ∷ a) b before (s ∷ own) all are =
    let same : s ≡ t = stands_same before s t are.0 all.0 in
    let more = same_front a b (s ∷ before) own all.1 are.1 in
    (more.0, subst (λ l. AreBehind l more.0 b) (push s a before ∙ ap (λ u. reverse (u ∷ a) ++ before) same) more.1)

-- ---- parameters

steady : (a b : ℕ) → ((a ≤ b → ⊥) → ⊥) → a ≤ b
steady a b h = by (nat_le a b) refl
  where
    by : (t : Bool) → nat_le a b ≡ t → a ≤ b
    by true e = leb-true a b e
    by false e = absurd (h (λ le. let above : b < a = leb-false a b e in omega (arith, le, above)))

-- each fits, since it can't be that not all do
all_steady : (ws : List ParamText) → ((AllByRecursion (ParamFits 0 depth_limit) ws → ⊥) → ⊥) → AllByRecursion (ParamFits 0 depth_limit) ws
all_steady [] h = tt
all_steady (w ∷ ws) h = (steady _ depth_limit (λ no. h (λ all. no all.0)), all_steady ws (λ no. h (λ all. no all.1)))

whole_fits : (c : DeclaredText) (params : List Symbol) (whole : IsWhole DeclaredParams declared_number params) → whole.tree ≡ c → DeclaredFits 0 depth_limit c
whole_fits c params whole one =
    subst (DeclaredFits 0 depth_limit) one
    (written_fits 7 (ltb-true 7 92 refl) (ltb-true 7 94 refl, refl) whole.tree (declared_text whole.tree) params whole.written whole.derivation whole.formed whole.same
    0 depth_limit (depths_within whole.derivation whole.within))

-- the tokens from the name of debugging up to the parenthesis that closes
abbrev row : Placed Name → List Symbol → List Symbol
row x params = Debug x ∷ open_paren ∷ (params ++ (close_paren ∷ []))

turned : (x : Placed Name) (params rest : List Symbol) → reverse (row x params) ++ rest ≡ close_paren ∷ (reverse params ++ (open_paren ∷ Debug x ∷ rest))
turned x params rest =
    sym (push (Debug x) (open_paren ∷ (params ++ (close_paren ∷ []))) rest)
    ∙ sym (push open_paren (params ++ (close_paren ∷ [])) (Debug x ∷ rest))
    ∙ ap (λ l. l ++ (open_paren ∷ Debug x ∷ rest)) (reverse-append params (close_paren ∷ []))

pub params_fit : (own symbols : List Symbol) → StandFor own symbols → (x : Placed Name) (c : DeclaredText) → StatesParams symbols x c → DeclaredFits 0 depth_limit c
params_fit own symbols stand x c s =
    let tidy = params_tidy c s.params s.written in
    let same : symbols ≡ s.before ++ (row x s.params ++ (unnamed_addr ∷ s.behind)) =
    s.same ∙ ap (λ l. s.before ++ (Debug x ∷ open_paren ∷ l)) (sym (append_assoc s.params (close_paren ∷ []) (unnamed_addr ∷ s.behind))) in
    let front = split s.before (row x s.params ++ (unnamed_addr ∷ s.behind)) [] own (subst (AreBehind [] own) same stand) in
    let rest : List Symbol = reverse front.done ++ [] in
    let kept : AreOwn (row x s.params) = (refl, (refl, all_append (λ (t : Symbol). is_own t ≡ true) s.params (close_paren ∷ []) tidy.own (refl, tt))) in
    let last = same_front (row x s.params) (unnamed_addr ∷ s.behind) rest front.rest kept front.behind in
    all_steady c.params (λ no. at last.0 last.1 (
      x,
      s.params,
      record { rest = rest; same = turned x s.params rest; balanced = tidy.pairs },
      λ whole. no (whole_fits c s.params whole (declared whole.tree c s.params whole.written s.written)),
    ))
  where
    at : {before : List Symbol} (own : List Symbol) → AreBehind before own (unnamed_addr ∷ s.behind) → IsUndeclared before → ⊥
    at [] are un = absurd are
    at {before} (t ∷ ts) are un = addr_stands before t are.0 un
