-- What the marks of a text's derivation mean.
use Rattle.std.proofs.Common.{◌<◌, ℕ, refl}
use Rattle.std.proofs.lemmas.Bool.{ltb-true}
use Rattle.module_derivations.proofs.FlatMarks.Meaning.{means_text}
use Rattle.module_derivations.specs.FlatMarks.Seeing.{IsSeeing}
use Rattle.module_derivations.proofs.SaidAsKinds.{kept, plain}
use Rattle.module_derivations.proofs.Seen.{are_seen}
use Rattle.module_derivations.specs.Ahead.{seeing}
use Rattle.module_derivations.specs.Derivations.{AreMeant, DerivationsMean}
use Rattle.module_derivations.specs.declared.start.TheConstants as start
use Rattle.module_grammar.proofs.Lawful.{lawful}
use Rattle.module_grammar.proofs.OneTree as one_tree
use Rattle.module_grammar.proofs.Vocabulary.{is_vocabulary}
use Rattle.module_grammar.proofs.WithGap.{is_gapped}
use Rattle.module_grammar.specs.Balanced.{IsBalanced}
use Rattle.module_grammar.specs.Laws.{WritesOneTree}
use Rattle.module_grammar.specs.Rules.{first_rule, rules, written_at}
use Rattle.module_grammar.specs.Sorts.{sort, vocabulary}
use Rattle.module_grammar.specs.Symbols.{foreign}
use Rattle.module_grammar.specs.Tokens.{gap}

pub sees : IsSeeing vocabulary rules gap seeing
sees = record { seen = are_seen; sized = refl; gap_kind = refl; gap_size = refl; kept = kept; plain = plain }

meant : (n : ℕ) → n < 92 → WritesOneTree (sort n) → AreMeant n (sort n)
meant n small one f symbols formed e =
    let written = means_text vocabulary is_vocabulary written_at first_rule rules gap IsBalanced lawful is_gapped seeing sees n small f formed symbols e foreign in
    record { written = written; only = λ tree of_tree. one tree _ symbols of_tree written }

pub derivations_mean : DerivationsMean
derivations_mean = record {
  modules = meant start.MODULE (ltb-true start.MODULE 92 refl) one_tree.modules;
  types = meant start.TYPE (ltb-true start.TYPE 92 refl) one_tree.types;
  expressions = meant start.EXPRESSION (ltb-true start.EXPRESSION 92 refl) one_tree.expressions;
  locals = meant start.LOCAL_NAME (ltb-true start.LOCAL_NAME 92 refl) one_tree.locals;
  globals = meant start.GLOBAL_NAME (ltb-true start.GLOBAL_NAME 92 refl) one_tree.globals;
  called = meant start.CALLED (ltb-true start.CALLED 92 refl) one_tree.called;
  declared = meant start.DECLARED_PARAMS (ltb-true start.DECLARED_PARAMS 92 refl) one_tree.declared;
}
