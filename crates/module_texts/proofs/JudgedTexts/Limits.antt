-- Tokens of a module are written of a tree within the limits, or one passes a limit, or one isn't expected.
use Rattle.std.proofs.Common.{◌≡◌, ◌<◌, ◌≤◌, ◌+◌, ℕ, zero, suc, List, [], ◌∷◌, ◌++◌, length, map, take, drop, Option, Some, None, ◌⊎◌, inl, inr, refl, ap, sym, ◌∙◌, subst, arith}
use Rattle.std.proofs.lemmas.Bool.{ltb-true}
use Rattle.std.proofs.lemmas.List.{length-take, take-append-drop}
use Rattle.predictive.proofs.GapJoint as joint
use Rattle.ir_core.specs.declared.limits.Limit.{Limit}
use Rattle.module_grammar.proofs.Lawful.{lawful}
use Rattle.module_grammar.proofs.WithGap.{is_gapped}
use Rattle.module_grammar.specs.Rules.{meaning}
use Rattle.module_grammar.specs.Sorts.{Module as ModuleSort}
use Rattle.module_grammar.specs.Symbols.{Symbol, kind_of}
use Rattle.module_grammar.specs.Texts.{IsWritten}
use Rattle.module_grammar.specs.Tokens.{token_grammar, with_gap}
use Rattle.module_grammar.specs.declared.items.ModuleText.{ModuleText}
use Rattle.module_spelling.specs.Faults.{IsStuck, PassesLimit, module_number}
use Rattle.module_spelling.specs.Opened.{IsWithin}
use Rattle.module_texts.proofs.Excluded.{module_may_end, watched}
use Rattle.module_texts.proofs.Prefixes.{pass_both}
use Rattle.predictive.specs.Grammar.{Forest, Forms, IsFirstFault, after_some, after_trees, yield}
use Rattle.predictive.specs.declared.symbol.Symbol.TheVariants.{Non}
use Rattle.derivation_writer.specs.TokenLimits.Laws.{MarksFirst, SaysBefore, SaysWhole}
use Rattle.derivation_writer.specs.TokenLimits.Watched.{begun, fresh, reduced, shifted}
use Rattle.module_texts.proofs.JudgedTexts.Contexts.{Verdict, verdict}

-- the symbols are written of this tree, within the limits
pub record Tree (symbols : List Symbol) : Type 0 where
  pub tree : ModuleText
  pub written : IsWritten ModuleSort tree symbols
  pub derivation : Forest
  pub formed : Forms token_grammar derivation (Non 0 ∷ [])
  pub yields : yield derivation ≡ map kind_of symbols
  pub within : IsWithin derivation

abbrev pub PassesSome : List ℕ → Type 0
PassesSome kinds = (l : Limit) × ((k : ℕ) × PassesLimit module_number kinds k l)

abbrev pub IsStuckSomewhere : List ℕ → Type 0
IsStuckSomewhere kinds = (k : ℕ) × IsStuck module_number kinds k

-- a longer beginning goes on from a shorter one
goes_on : (ks more : List ℕ) (a b : ℕ) → a ≤ b → take a ks ++ (drop a (take b ks) ++ more) ≡ take b ks ++ more
goes_on ks more zero b less = refl
goes_on ks more (suc a) zero less = absurd (omega arith)
goes_on [] more (suc a) (suc b) less = refl
goes_on (k ∷ ks) more (suc a) (suc b) less = ap (λ l. k ∷ l) (goes_on ks more a b (omega arith))

module _ (marks : MarksFirst) (kinds : List ℕ) where
  -- ---- where all is expected

  passed_in_all : (f : Forest) → Forms token_grammar f (Non 0 ∷ []) → yield f ≡ kinds → (l : Limit) → SaysWhole f (Some l) → (k : ℕ) × PassesLimit module_number kinds k l
  passed_in_all f formed yields l says = (
    says.0,
    (
      subst (λ ks. says.0 < length ks) yields says.1,
      (drop (says.0 + 1) kinds, f, formed, yields ∙ sym (take-append-drop (says.0 + 1) kinds), says.2),
    ),
  )

  -- ---- up to what isn't expected

  module _ (place : ℕ) (within : place ≤ length kinds) (more : List ℕ) (f : Forest) (formed : Forms token_grammar f (Non 0 ∷ [])) (yields : yield f ≡ take place kinds ++ more) where
    passed_before : (l : Limit) → SaysBefore place f (Some l) → (k : ℕ) × PassesLimit module_number kinds k l
    passed_before l says =
        let less = says.1 in (
          says.0,
          (
            omega (arith, within, less),
            (drop (says.0 + 1) (take place kinds) ++ more, f, formed, yields ∙ sym (goes_on kinds more (says.0 + 1) place (omega (arith, less))), says.2),
          ),
        )

    none_before : SaysBefore place f None → (j : ℕ) (l : Limit) → j < place → PassesLimit module_number kinds j l → ⊥
    none_before says j l less (inside, (rest, h, derived, e, first)) =
        let n : length (take (j + 1) kinds) ≡ j + 1 = let full = length-take (j + 1) kinds in omega (arith, inside, full) in
        let on : yield f ≡ take (j + 1) kinds ++ (drop (j + 1) (take place kinds) ++ more) = yields ∙ sym (goes_on kinds more (j + 1) place (omega (arith, less))) in
        let both =
        pass_both marks module_number module_may_end h f (watched h derived) (watched f formed) (take (j + 1) kinds) rest (drop (j + 1) (take place kinds) ++ more) e on j l
        (omega (arith, n)) first.0 in
        let inner = both.right_inside in
        says both.right both.passed (omega (arith, n, inner, less)) both.right_first.0

  of_fault : (place : ℕ) → IsFirstFault token_grammar (Non 0 ∷ []) kinds place → PassesSome kinds ⊎ IsStuckSomewhere kinds
  of_fault place fault =
      let f = fault.1.1.0 in
      by (after_some begun shifted reduced place f fresh).mark (marks.before 0 f (watched f fault.1.1.1) place)
    where
      by : (m : Option Limit) → SaysBefore place fault.1.1.0 m → PassesSome kinds ⊎ IsStuckSomewhere kinds
      by (Some l) says = inl (l, passed_before place fault.0 fault.1.0 fault.1.1.0 fault.1.1.1 fault.1.1.2 l says)
      by None says = inr (place, (fault, none_before place fault.0 fault.1.0 fault.1.1.0 fault.1.1.1 fault.1.1.2 says))

module _ (marks : MarksFirst) (symbols : List Symbol) where
  abbrev pub IsParsed : Type 0
  IsParsed = Tree symbols ⊎ (PassesSome (map kind_of symbols) ⊎ IsStuckSomewhere (map kind_of symbols))

  of_derivation : (f : Forest) → Forms token_grammar f (Non 0 ∷ []) → yield f ≡ map kind_of symbols → (m : Option Limit) → SaysWhole f m → IsParsed
  of_derivation f formed yields (Some l) says = inr (inl (l, passed_in_all marks (map kind_of symbols) f formed yields l says))
  of_derivation f formed yields None says =
      let all = joint.leaves meaning lawful with_gap is_gapped 0 (ltb-true 0 92 refl) f formed symbols yields in
      inl (record { tree = all.0; written = all.1; derivation = f; formed = formed; yields = yields; within = says })

  pub parsed : IsParsed
  parsed = by (verdict 0 module_may_end (map kind_of symbols))
    where
      by : Verdict 0 (map kind_of symbols) → IsParsed
      by (inl d) = of_derivation d.0 d.1 d.2 (after_trees begun shifted reduced d.0 fresh).mark (marks.whole 0 d.0 (watched d.0 d.1))
      by (inr fault) = inr (of_fault marks (map kind_of symbols) fault.0 fault.1)
