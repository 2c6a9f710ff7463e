-- What is read as a nonterminal is written of one tree, or of none.
use Rattle.std.proofs.Common.{◌≡◌, ◌<◌, ℕ, List, [], ◌∷◌, map, sym, ◌∙◌, subst}
use Rattle.predictive.proofs.GapJoint as joint
use Rattle.ir_core.specs.declared.limits.Limit.TheVariants as limit
use Rattle.module_grammar.proofs.Lawful.{lawful}
use Rattle.module_grammar.proofs.Predictive.{is_predictive}
use Rattle.module_grammar.proofs.WithGap.{is_gapped}
use Rattle.module_grammar.specs.Rules.{meaning}
use Rattle.module_grammar.specs.Sets.{sets}
use Rattle.module_grammar.specs.Sorts.{Holds, sort}
use Rattle.module_grammar.specs.Symbols.{Symbol, kind_of}
use Rattle.module_grammar.specs.Texts.{IsWritten}
use Rattle.module_grammar.specs.Tokens.{token_grammar, with_gap}
use Rattle.module_spelling.specs.Context.{IsWhole}
use Rattle.module_spelling.specs.Opened.{Passes}
use Rattle.predictive.specs.GrammarDecides.Selects.{unambiguous}
use Rattle.predictive.specs.Grammar.{Forest, Forms, yield}
use Rattle.predictive.specs.Predictive.{MayEnd}
use Rattle.predictive.specs.declared.symbol.Symbol.TheVariants.{Non}
use Rattle.token_context.specs.Readings.{Reads}
use Rattle.token_context.specs.declared.reading.Reading.TheVariants.{Whole, Deep, Other}

-- some tokens are written of something of this sort, and are too deep
pub record IsDeep (n : ℕ) (tokens : List Symbol) : Type 0 where
  pub tree : Holds (sort n)
  pub written : IsWritten (sort n) tree tokens
  pub derivation : Forest
  pub formed : Forms token_grammar derivation (Non n ∷ [])
  pub same : yield derivation ≡ map kind_of tokens
  pub index : ℕ
  pub passes : Passes derivation index limit.Depth

module _ (n : ℕ) (small : n < 92) (may : MayEnd sets n) (tokens : List Symbol) where
  one : (f h : Forest) → Forms token_grammar f (Non n ∷ []) → Forms token_grammar h (Non n ∷ []) → yield f ≡ map kind_of tokens → yield h ≡ map kind_of tokens → f ≡ h
  one f h formed_f formed_h e d = unambiguous token_grammar sets is_predictive n may f h formed_f formed_h (e ∙ sym d)

  tree_of : (f : Forest) → Forms token_grammar f (Non n ∷ []) → yield f ≡ map kind_of tokens → (tree : Holds (sort n)) × IsWritten (sort n) tree tokens
  tree_of f formed e =
      let all = joint.leaves meaning lawful with_gap is_gapped n small f formed tokens e in
      (all.0, all.1)

  pub whole : Reads n (map kind_of tokens) Whole → IsWhole (sort n) n tokens
  whole r =
      let tree = tree_of r.0 r.1 r.2 in
      record { tree = tree.0; written = tree.1; derivation = r.0; formed = r.1; same = r.2; within = r.3 }

  pub deep : Reads n (map kind_of tokens) Deep → IsDeep n tokens
  deep r =
      let tree = tree_of r.0 r.1 r.2 in
      record { tree = tree.0; written = tree.1; derivation = r.0; formed = r.1; same = r.2; index = r.3.0; passes = r.3.1 }

  pub whole_not_deep :
      Reads n (map kind_of tokens) Whole → (f : Forest) → Forms token_grammar f (Non n ∷ []) → yield f ≡ map kind_of tokens → (k : ℕ) → Passes f k limit.Depth → ⊥
  whole_not_deep r f formed e k passes = r.3 k limit.Depth (subst (λ h. Passes h k limit.Depth) (one f r.0 formed r.1 e r.2) passes)

  pub deep_not_whole : Reads n (map kind_of tokens) Deep → IsWhole (sort n) n tokens → ⊥
  deep_not_whole r w = w.within r.3.0 limit.Depth (subst (λ h. Passes h r.3.0 limit.Depth) (one r.0 w.derivation r.1 w.formed r.2 w.same) r.3.1)

  pub other_not_whole : Reads n (map kind_of tokens) Other → IsWhole (sort n) n tokens → ⊥
  other_not_whole r w = r w.derivation w.formed w.same
