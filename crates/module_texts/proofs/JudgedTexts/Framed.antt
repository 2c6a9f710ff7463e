-- What stands between parentheses, behind a token of one kind and before one of another, is found among tokens.
use Rattle.std.proofs.Common.{◌≡◌, ℕ, Bool, true, false, nat_eq, List, [], ◌∷◌, ◌++◌, inl, inr, refl, ap, sym, ◌∙◌, subst}
use Rattle.std.proofs.lemmas.Bool.{eqb-false, eqb-true}
use Rattle.ir_types.specs.declared.names.Name.{Name}
use Rattle.module_grammar.specs.Symbols.{Symbol, Debug, Fixed, Global, close_paren, open_paren}
use Rattle.module_grammar.specs.declared.places.Placed.{Placed}
use Rattle.module_texts.proofs.JudgedTexts.Decided.{Decided, Parted, parted_or_not, same_number}

-- ---- single tokens

-- one that says nothing but itself
pub fixed_or_not : (k : ℕ) (s : Symbol) → Decided (s ≡ Fixed k)
fixed_or_not k (Fixed j) = by (nat_eq j k) refl
  where
    by : (same : Bool) → nat_eq j k ≡ same → Decided (Fixed j ≡ Fixed k)
    by true e = inl (ap Fixed (eqb-true j k e))
    by false e = inr (λ same. let is : j ≡ k = cc in eqb-false j k e is)
fixed_or_not k s = inr (λ e. cc)

-- a name of a function that begins there
abbrev pub IsGlobalAt : ℕ → Symbol → Type 0
IsGlobalAt p s = (x : Placed Name) × (s ≡ Global x) × (x.start ≡ p)

abbrev pub IsDebugAt : ℕ → Symbol → Type 0
IsDebugAt p s = (x : Placed Name) × (s ≡ Debug x) × (x.start ≡ p)

pub global_or_not : (p : ℕ) (s : Symbol) → Decided (IsGlobalAt p s)
global_or_not p (Global x) = by (same_number x.start p)
  where
    by : Decided (x.start ≡ p) → Decided (IsGlobalAt p (Global x))
    by (inl at) = inl (x, refl, at)
    by (inr other) = inr (λ is. let same : is.0 ≡ x = cc (is.1) in other (ap (λ (y : Placed Name). y.start) (sym same) ∙ is.2))
global_or_not p s = inr (λ is. let e = is.1 in cc)

pub debug_or_not : (p : ℕ) (s : Symbol) → Decided (IsDebugAt p s)
debug_or_not p (Debug x) = by (same_number x.start p)
  where
    by : Decided (x.start ≡ p) → Decided (IsDebugAt p (Debug x))
    by (inl at) = inl (x, refl, at)
    by (inr other) = inr (λ is. let same : is.0 ≡ x = cc (is.1) in other (ap (λ (y : Placed Name). y.start) (sym same) ∙ is.2))
debug_or_not p s = inr (λ is. let e = is.1 in cc)

-- ---- between parentheses

module _ {C : Type 0} (Opens Follows : Symbol → Type 0) (Is : C → List Symbol → Type 0) where
  pub record Framed (symbols : List Symbol) : Type 0 where
    pub before : List Symbol
    pub opener : Symbol
    pub inside : List Symbol
    pub follower : Symbol
    pub behind : List Symbol
    pub same : symbols ≡ before ++ (opener ∷ open_paren ∷ (inside ++ (close_paren ∷ follower ∷ behind)))
    pub opens : Opens opener
    pub follows : Follows follower
    pub what : C
    pub is : Is what inside

  -- these tokens end, and so do those behind them
  record Ends (inside more : List Symbol) : Type 0 where
    pub follower : Symbol
    pub behind : List Symbol
    pub same : more ≡ close_paren ∷ follower ∷ behind
    pub follows : Follows follower
    pub what : C
    pub is : Is what inside

  record Begins (before more : List Symbol) : Type 0 where
    pub opener : Symbol
    pub rest : List Symbol
    pub same : more ≡ opener ∷ open_paren ∷ rest
    pub opens : Opens opener
    pub ends : Parted Ends rest

  module _ (opens_or_not : (s : Symbol) → Decided (Opens s)) (follows_or_not : (s : Symbol) → Decided (Follows s)) (is_or_not : (tokens : List Symbol) → Decided ((c : C) × Is c tokens)) where
    ends_or_not : (inside more : List Symbol) → Decided (Ends inside more)
    ends_or_not inside [] = inr (λ e. let none = e.same in cc)
    ends_or_not inside (t ∷ []) = inr (λ e. let none = e.same in cc)
    ends_or_not inside (t ∷ s ∷ behind) = by (fixed_or_not 44 t) (follows_or_not s) (is_or_not inside)
      where
        by : Decided (t ≡ close_paren) → Decided (Follows s) → Decided ((c : C) × Is c inside) → Decided (Ends inside (t ∷ s ∷ behind))
        by (inl closes) (inl follows) (inl is) = inl (record {
          follower = s;
          behind = behind;
          same = ap (λ h. h ∷ s ∷ behind) closes;
          follows = follows;
          what = is.0;
          is = is.1;
        })
        by (inr other) follows is = inr (λ e. let at = e.same in let closes : t ≡ close_paren = cc in other closes)
        by closes (inr other) is = inr (λ e. let at = e.same in let same : e.follower ≡ s = cc in other (subst Follows same e.follows))
        by closes follows (inr none) = inr (λ e. none (e.what, e.is))

    begins_or_not : (before more : List Symbol) → Decided (Begins before more)
    begins_or_not before [] = inr (λ b. let none = b.same in cc)
    begins_or_not before (s ∷ []) = inr (λ b. let none = b.same in cc)
    begins_or_not before (s ∷ t ∷ rest) = by (opens_or_not s) (fixed_or_not 43 t) (parted_or_not Ends ends_or_not rest)
      where
        by : Decided (Opens s) → Decided (t ≡ open_paren) → Decided (Parted Ends rest) → Decided (Begins before (s ∷ t ∷ rest))
        by (inl opens) (inl paren) (inl ends) = inl (record {
          opener = s;
          rest = rest;
          same = ap (λ h. s ∷ h ∷ rest) paren;
          opens = opens;
          ends = ends;
        })
        by (inr other) paren ends = inr (λ b. let at = b.same in let same : b.opener ≡ s = cc in other (subst Opens same b.opens))
        by opens (inr other) ends = inr (λ b. let at = b.same in let paren : t ≡ open_paren = cc in other paren)
        by opens paren (inr none) = inr (λ b. let at = b.same in let same : b.rest ≡ rest = cc in none (subst (Parted Ends) same b.ends))

    framed : (symbols : List Symbol) → Parted Begins symbols → Framed symbols
    framed symbols p =
        let b = p.is in
        let e = b.ends.is in
        record {
          before = p.front;
          opener = b.opener;
          inside = b.ends.front;
          follower = e.follower;
          behind = e.behind;
          same =
              p.same ∙ ap (λ l. p.front ++ l) b.same ∙ ap (λ l. p.front ++ (b.opener ∷ open_paren ∷ l)) b.ends.same
              ∙ ap (λ l. p.front ++ (b.opener ∷ open_paren ∷ (b.ends.front ++ l))) e.same;
          opens = b.opens;
          follows = e.follows;
          what = e.what;
          is = e.is;
        }

    parted : (symbols : List Symbol) → Framed symbols → Parted Begins symbols
    parted symbols f = record {
      front = f.before;
      back = f.opener ∷ open_paren ∷ (f.inside ++ (close_paren ∷ f.follower ∷ f.behind));
      same = f.same;
      is = record {
        opener = f.opener;
        rest = f.inside ++ (close_paren ∷ f.follower ∷ f.behind);
        same = refl;
        opens = f.opens;
        ends = record {
          front = f.inside;
          back = close_paren ∷ f.follower ∷ f.behind;
          same = refl;
          is = record { follower = f.follower; behind = f.behind; same = refl; follows = f.follows; what = f.what; is = f.is };
        };
      };
    }

    pub framed_or_not : (symbols : List Symbol) → Decided (Framed symbols)
    framed_or_not symbols = by (parted_or_not Begins begins_or_not symbols)
      where
        by : Decided (Parted Begins symbols) → Decided (Framed symbols)
        by (inl is) = inl (framed symbols is)
        by (inr none) = inr (λ f. none (parted symbols f))
