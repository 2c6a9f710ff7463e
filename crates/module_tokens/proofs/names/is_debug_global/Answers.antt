use Rattle.std.proofs.Common.{drop, ap, ◌∙◌}
use Rattle.ir_core.specs.Functions.{is_debug}
use Rattle.ir_lexer.specs.Said.{name_said}
use Rattle.module_tokens.proofs.Debug.{plain_debug}
use Rattle.module_tokens.proofs.names.is_debug_global.Goals as goal

pub returns-else-begins_with_quote : goal.returns-else-begins_with_quote
returns-else-begins_with_quote c =
    c.is_plain_debug.ensures
    ∙ (plain_debug c.without_sigil-name.result.now c.if-begins_with_quote.ensures
    ∙ ap (λ bytes. is_debug (name_said bytes)) (c.without_sigil-name.ensures ∙ ap (drop 1) c.bytes_of.ensures))
