-- Tokens are written of one tree.
use Rattle.std.proofs.Common.{◌≡◌, ◌<◌, ℕ, Some, refl, ap, sym, ◌∙◌}
use Rattle.std.proofs.lemmas.Bool.{ltb-true}
use Rattle.predictive.proofs.GapJoint as joint
use Rattle.module_grammar.proofs.Lawful.{lawful}
use Rattle.module_grammar.proofs.ModulesMade.{called_text, declared_text, expression_text, global_text, local_text, module_text, type_text}
use Rattle.module_grammar.proofs.Predictive.{is_predictive}
use Rattle.module_grammar.proofs.Vocabulary.{back_at}
use Rattle.module_grammar.proofs.WithGap.{is_gapped}
use Rattle.module_grammar.specs.Laws.{WritesOneTree}
use Rattle.module_grammar.specs.Rules.{meaning}
use Rattle.module_grammar.specs.Sets.{sets}
use Rattle.module_grammar.specs.Sorts.{AnyType, Called, DeclaredParams, Expr, GlobalName, LocalName, Module, sort, vocabulary}
use Rattle.module_grammar.specs.Tokens.{token_grammar, with_gap}
use Rattle.predictive.specs.GrammarDecides.Selects.{unambiguous}
use Rattle.predictive.specs.Predictive.{MayEnd}
use Rattle.predictive.specs.Made.{Made}
use Rattle.predictive.specs.Typed.{top}

once : (n : ℕ) → n < 92 → MayEnd sets n → ((v : meaning.Value n) → Made meaning n v) → WritesOneTree (sort n)
once n small may made a b tokens of_a of_b =
    let same = joint.written_once meaning lawful with_gap is_gapped n small (unambiguous token_grammar sets is_predictive n may) made a b tokens of_a of_b in
    let both : Some a ≡ Some b = sym (back_at n a) ∙ ap (λ s. top (vocabulary.value n) s) same ∙ back_at n b in
    cc

pub modules : WritesOneTree Module
modules = once 0 (ltb-true 0 92 refl) (ltb-true 0 94 refl, refl) module_text

pub expressions : WritesOneTree Expr
expressions = once 74 (ltb-true 74 92 refl) (ltb-true 74 94 refl, refl) expression_text

pub locals : WritesOneTree LocalName
locals = once 76 (ltb-true 76 92 refl) (ltb-true 76 94 refl, refl) local_text

pub globals : WritesOneTree GlobalName
globals = once 42 (ltb-true 42 92 refl) (ltb-true 42 94 refl, refl) global_text

pub types : WritesOneTree AnyType
types = once 33 (ltb-true 33 92 refl) (ltb-true 33 94 refl, refl) type_text

pub called : WritesOneTree Called
called = once 38 (ltb-true 38 92 refl) (ltb-true 38 94 refl, refl) called_text

pub declared : WritesOneTree DeclaredParams
declared = once 7 (ltb-true 7 92 refl) (ltb-true 7 94 refl, refl) declared_text
