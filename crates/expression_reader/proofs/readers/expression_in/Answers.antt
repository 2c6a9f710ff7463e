-- What the marks are read of is what is lent.
use Rattle.std.proofs.Common.{map, subst, sym, ◌∙◌}
use Rattle.expression_reader.proofs.readers.expression_in.Goals as goal
use Rattle.expression_reader.specs.Told.{IsTreeOf}
use Rattle.module_derivations.specs.FlatMarks.Flat.{mark_of}
use Rattle.module_derivations.specs.Ahead.{ahead}
use Rattle.module_derivations.specs.Empty.{made}
use Rattle.module_grammar.specs.Spelled.{symbol_in}
use Rattle.module_grammar.specs.declared.words.Language.TheVariants.{Logic}

pub expression_ahead-requires : goal.expression_ahead-requires
expression_ahead-requires c =
    subst (λ ts. IsTreeOf c.args.text.now ((made (ahead (map (symbol_in Logic c.args.text.now) ts) (map mark_of c.as_slice-3.result.now))).expr))
    (c.as_slice.ensures.value ∙ sym c.as_slice-2.ensures.value)
    (subst (λ ns. IsTreeOf c.args.text.now ((made (ahead (map (symbol_in Logic c.args.text.now) c.as_slice.result.now) (map mark_of ns))).expr))
    (sym c.as_slice-3.ensures) c.in_ok-numbers.ensures.tree)
