use Rattle.std.proofs.Common.{map, sym, ◌∙◌}
use Rattle.std.proofs.lemmas.Result.{IfOk-weaker}
use Rattle.module_grammar.specs.Spelled.{symbol_in}
use Rattle.module_grammar.specs.declared.words.Language.TheVariants.{Ir}
use Rattle.token_context.proofs.Steps.{kinds_of_symbols}
use Rattle.token_context.proofs.context.kinds_in_context.Goals as goal

pub returns-clause-kinds : goal.returns-clause-kinds
returns-clause-kinds c =
    IfOk-weaker c.seen_in_context.result _ _
    (λ context h.
    let is = h (map (symbol_in Ir c.args.text.now) c.args.tokens.now) (kinds_of_symbols c.args.text.now c.args.tokens.now ∙ sym c.in_ok-kinds_of.ensures) in
    (is.stand, is.are_kinds))
    c.seen_in_context.ensures

pub returns-clause-deep : goal.returns-clause-deep
returns-clause-deep c =
    IfOk-weaker c.seen_in_context.result _ _
    (λ context h.
    (h (map (symbol_in Ir c.args.text.now) c.args.tokens.now) (kinds_of_symbols c.args.text.now c.args.tokens.now ∙ sym c.in_ok-kinds_of.ensures)).deep)
    c.seen_in_context.ensures
