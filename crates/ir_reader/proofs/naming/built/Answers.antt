-- The module is built of the derivation in front, beside the types that are named there.
use Rattle.std.proofs.Common.{◌∙◌, ap, sym}
use Rattle.derivation_cursor.specs.At.{ahead_of}
use Rattle.derivation_cursor.specs.declared.cursor.Cursor.{Cursor}
use Rattle.module_derivations.specs.Empty.{made}
use Rattle.module_grammar.specs.declared.items.ModuleText.{ModuleText}
use Rattle.named_modules.specs.Built.{module_of, types_of}
use Rattle.ir_reader.proofs.naming.built.Goals as goal

abbrev whole : Cursor → ModuleText
whole k = (made (ahead_of k)).whole

pub returns : goal.returns
returns g c =
    c.in_ok-module.ensures.built
    (c.in_ok-types.ensures ∙ c.in_ok-read_named_types.ensures.built ∙ ap (λ k. types_of (whole k)) (c.fork-heads.ensures ∙ sym c.fork-whole.ensures))
    ∙ ap (λ k. module_of (g.S.Gaps.declared c.args.around.now) (whole k)) c.fork-whole.ensures
