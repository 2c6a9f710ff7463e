-- What the mark of a watch says of tokens that are read.
use Rattle.std.proofs.Common.{◌≡◌, ◌<◌, ◌≤◌, ◌+◌, ℕ, zero, suc, List, [], ◌∷◌, ◌++◌, take, drop, length, Option, None, Some, refl, ap, sym, ◌∙◌, subst, arith}
use Rattle.std.proofs.lemmas.List.{append-nil, take-append-drop, take_all}
use Rattle.derivation_writer.proofs.Starts.{same_start}
use Rattle.ir_core.specs.declared.limits.Limit.{Limit}
use Rattle.module_grammar.proofs.Predictive.{is_predictive}
use Rattle.module_grammar.specs.Sets.{sets}
use Rattle.module_grammar.specs.Tokens.{token_grammar}
use Rattle.module_spelling.specs.Faults.{IsStuck, PassesLimit}
use Rattle.module_spelling.specs.Opened.{IsWithin}
use Rattle.predictive.specs.Grammar.{Forest, Forms, IsFirstFault, after_events, after_some, after_trees, yield}
use Rattle.predictive.specs.Predictive.{MayEnd}
use Rattle.predictive.specs.declared.symbol.Symbol.TheVariants.{Non}
use Rattle.derivation_writer.proofs.TokenLimits.Marks.{marked, marked_all}
use Rattle.derivation_writer.specs.TokenLimits.Laws.{SaysBefore, SaysWhole, base_number}
use Rattle.derivation_writer.specs.TokenLimits.Watched.{begun, fresh, reduced, shifted}

-- ---- beginnings of lists

take_front : (xs ys : List ℕ) (n m : ℕ) → n ≤ m → m ≤ length xs → take n (take m xs ++ ys) ≡ take n xs
take_front xs ys zero m h w = refl
take_front [] ys (suc n) zero h w = absurd (omega arith)
take_front [] ys (suc n) (suc m) h w = absurd (grind arith)
take_front (x ∷ xs) ys (suc n) zero h w = absurd (omega arith)
take_front (x ∷ xs) ys (suc n) (suc m) h w = ap (λ l. x ∷ l) (take_front xs ys n m (omega arith) (grind arith))

-- a list that begins with the first m of these begins with fewer of them
begins : (xs ys : List ℕ) (n m : ℕ) → n ≤ m → m ≤ length xs → take m xs ++ ys ≡ take n xs ++ drop n (take m xs ++ ys)
begins xs ys n m h w = sym (take-append-drop n (take m xs ++ ys)) ∙ ap (λ l. l ++ drop n (take m xs ++ ys)) (take_front xs ys n m h w)

module _ (n : ℕ) (ends : MayEnd sets n) (other : n ≡ base_number → ⊥) (kinds : List ℕ) where
  -- all tokens are read, and a limit is passed
  pub passed_in_all :
      (f : Forest) → Forms token_grammar f (Non n ∷ []) → yield f ≡ kinds → (l : Limit) → (after_trees begun shifted reduced f fresh).mark ≡ Some l
      → (k : ℕ) × PassesLimit n kinds k l
  passed_in_all f formed e l marks =
      let s : SaysWhole f (Some l) = subst (λ m. SaysWhole f m) marks (marked_all n f formed other) in (
        s.0,
        (
          subst (λ ks. s.0 < length ks) e s.1,
          (drop (s.0 + 1) kinds, f, formed, e ∙ sym (take-append-drop (s.0 + 1) kinds), s.2),
        ),
      )

  -- or none is
  pub none_in_all :
      (f : Forest) → Forms token_grammar f (Non n ∷ []) → (after_trees begun shifted reduced f fresh).mark ≡ None → IsWithin f
  none_in_all f formed marks = subst (λ m. SaysWhole f m) marks (marked_all n f formed other)

  -- some text that goes on as the tokens before the fault, with the mark after these
  pub record Begun (place : ℕ) (m : Option Limit) : Type 0 where
    pub within : place ≤ length kinds
    pub more : List ℕ
    pub forest : Forest
    pub formed : Forms token_grammar forest (Non n ∷ [])
    pub yields : yield forest ≡ take place kinds ++ more
    pub marks : (after_some begun shifted reduced place forest fresh).mark ≡ m

  -- a token before the fault passes a limit
  pub passed_before : (place : ℕ) (l : Limit) → Begun place (Some l) → (k : ℕ) × PassesLimit n kinds k l
  passed_before place l b =
      let s : SaysBefore place b.forest (Some l) = subst (λ m. SaysBefore place b.forest m) b.marks (marked n b.forest b.formed other place) in
      let within = b.within in
      let below = s.1 in (
        s.0,
        (
          omega arith,
          (
            drop (s.0 + 1) (take place kinds ++ b.more),
            b.forest,
            b.formed,
            b.yields ∙ begins kinds b.more (s.0 + 1) place (omega arith) within,
            s.2,
          ),
        ),
      )

  -- or none does
  none_before : (place : ℕ) → Begun place None → (j : ℕ) (l : Limit) → j < place → PassesLimit n kinds j l → ⊥
  none_before place b j l below passes =
      let within = b.within in
      let f = passes.1.1 in
      let here : suc j ≡ j + 1 = omega arith in
      let unmarked : SaysBefore place b.forest None = subst (λ m. SaysBefore place b.forest m) b.marks (marked n b.forest b.formed other place) in
      let fits : j < length kinds = passes.0 in
      let starts : take (j + 1) (yield f) ≡ take (j + 1) (yield b.forest) =
      ap (take (j + 1)) passes.1.3 ∙ take_front kinds passes.1.0 (j + 1) (j + 1) (omega arith) (omega arith)
      ∙ sym (take_front kinds b.more (j + 1) place (omega arith) within) ∙ ap (take (j + 1)) (sym b.yields) in
      let same = same_start token_grammar sets is_predictive n ends f b.forest passes.1.2 b.formed (j + 1) starts in
      let marks : (after_some begun shifted reduced (j + 1) b.forest fresh).mark ≡ (after_some begun shifted reduced (j + 1) f fresh).mark =
      ap (λ es. (after_events begun shifted reduced es fresh).mark) (sym same) in
      go (after_some begun shifted reduced (j + 1) f fresh).mark unmarked
      (marked n f passes.1.2 other (j + 1))
      (subst (λ m. SaysBefore (j + 1) b.forest m) marks (marked n b.forest b.formed other (j + 1)))
    where
      go :
          (m : Option Limit) → SaysBefore place b.forest None → SaysBefore (j + 1) passes.1.1 m → SaysBefore (j + 1) b.forest m → ⊥
      go None unmarked of_f of_b = of_f j l (omega arith) passes.1.4.0
      go (Some o) unmarked of_f of_b =
          let early : of_b.0 < j + 1 = of_b.1 in
          unmarked of_b.0 o (omega (arith, below)) of_b.2.0

  pub stuck : (place : ℕ) → IsFirstFault token_grammar (Non n ∷ []) kinds place → Begun place None → IsStuck n kinds place
  stuck place fault b = (fault, λ j l below passes. none_before place b j l below passes)

-- where a text is read within the limits, none is passed before anything isn't expected
pub not_limited :
    (n : ℕ) → MayEnd sets n → (n ≡ base_number → ⊥) → (kinds : List ℕ) (f : Forest) → Forms token_grammar f (Non n ∷ []) → yield f ≡ kinds → IsWithin f → (k : ℕ) (l : Limit)
    → PassesLimit n kinds k l → ⊥
not_limited n ends other kinds f formed e within k l passes =
    none_before n ends other kinds (length kinds)
    (record {
      within = whole;
      more = [];
      forest = f;
      formed = formed;
      yields = e ∙ sym (append-nil kinds) ∙ ap (λ ks. ks ++ []) (sym (take_all (length kinds) kinds whole));
      marks = unmarked (after_some begun shifted reduced (length kinds) f fresh).mark (marked n f formed other (length kinds));
    })
    k l passes.0 passes
  where
    whole : length kinds ≤ length kinds
    whole = omega arith

    unmarked : (m : Option Limit) → SaysBefore (length kinds) f m → m ≡ None
    unmarked None says = refl
    unmarked (Some o) says = absurd (within says.0 o says.2.0)
