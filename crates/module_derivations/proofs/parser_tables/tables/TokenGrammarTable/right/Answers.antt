use Rattle.std.proofs.Common.{◌≡◌, ◌+◌, get_or, length, ap, ◌∙◌, arith}
use Rattle.module_grammar.specs.Sets.{listing}
use Rattle.module_derivations.proofs.parser_tables.tables.TokenGrammarTable.right.Goals as goal
use Rattle.predictive.proofs.Laid.{side_there}

pub slice_bounds-result-count : goal.slice_bounds-result-count
slice_bounds-result-count c =
    let begins : c.from-begins.result ≡ get_or c.starts-starts.result.now c.args.rule 0 = c.from-begins.ensures ∙ ap (λ i. get_or c.starts-starts.result.now i 0) c.from-at.ensures in
    let ends : c.from-ends.result ≡ get_or c.starts-starts.result.now (c.args.rule + 1) 0 = c.from-ends.ensures ∙ ap (λ i. get_or c.starts-starts.result.now (i + 1) 0) c.from-at.ensures in
    let there = side_there listing c.starts-starts.result.now c.symbols-symbols.result.now (c.starts-starts.ensures, c.symbols-symbols.ensures) c.args.rule c.from-begins.result c.from-ends.result c.requires begins ends in
    omega (arith, there.0)

pub slice_bounds-result-start : goal.slice_bounds-result-start
slice_bounds-result-start c =
    let begins : c.from-begins.result ≡ get_or c.starts-starts.result.now c.args.rule 0 = c.from-begins.ensures ∙ ap (λ i. get_or c.starts-starts.result.now i 0) c.from-at.ensures in
    let ends : c.from-ends.result ≡ get_or c.starts-starts.result.now (c.args.rule + 1) 0 = c.from-ends.ensures ∙ ap (λ i. get_or c.starts-starts.result.now (i + 1) 0) c.from-at.ensures in
    let there = side_there listing c.starts-starts.result.now c.symbols-symbols.result.now (c.starts-starts.ensures, c.symbols-symbols.ensures) c.args.rule c.from-begins.result c.from-ends.result c.requires begins ends in
    omega (arith, there.0)

pub slice_bounds-result-end : goal.slice_bounds-result-end
slice_bounds-result-end c =
    let begins : c.from-begins.result ≡ get_or c.starts-starts.result.now c.args.rule 0 = c.from-begins.ensures ∙ ap (λ i. get_or c.starts-starts.result.now i 0) c.from-at.ensures in
    let ends : c.from-ends.result ≡ get_or c.starts-starts.result.now (c.args.rule + 1) 0 = c.from-ends.ensures ∙ ap (λ i. get_or c.starts-starts.result.now (i + 1) 0) c.from-at.ensures in
    let there = side_there listing c.starts-starts.result.now c.symbols-symbols.result.now (c.starts-starts.ensures, c.symbols-symbols.ensures) c.args.rule c.from-begins.result c.from-ends.result c.requires begins ends in
    let long : length c.symbols-symbols.result.now ≡ 506 = ap (λ l. length l) c.symbols-symbols.ensures in
    omega (arith, there.1, long)

pub returns : goal.returns
returns c =
    let begins : c.from-begins.result ≡ get_or c.starts-starts.result.now c.args.rule 0 = c.from-begins.ensures ∙ ap (λ i. get_or c.starts-starts.result.now i 0) c.from-at.ensures in
    let ends : c.from-ends.result ≡ get_or c.starts-starts.result.now (c.args.rule + 1) 0 = c.from-ends.ensures ∙ ap (λ i. get_or c.starts-starts.result.now (i + 1) 0) c.from-at.ensures in
    (side_there listing c.starts-starts.result.now c.symbols-symbols.result.now (c.starts-starts.ensures, c.symbols-symbols.ensures) c.args.rule c.from-begins.result c.from-ends.result c.requires begins ends).2
