-- A spelled module has its names in the order of the file, is in range and passes no limit, and a text spells one module.
use Rattle.std.proofs.Common.{ap, subst, sym}
use Rattle.ir_printer.specs.Printed.{printed_module}
use Rattle.module_spelling.specs.Spells.{Spells}
use Rattle.module_texts.specs.SpelledLimits.Laws.{ModulesAreWithin}
use Rattle.module_texts.specs.SpelledLimits.Ranges.{ModulesAreInRange}
use Rattle.printed_modules.specs.Laws.{SpelledModulesArePrinted}
use Rattle.printed_modules.proofs.InOrder.{spelled_in_order}
use Rattle.printed_modules.proofs.Shaped.{fits_module}
use Rattle.printed_modules.proofs.Spelled.{module_spelled}
use Rattle.printed_modules.proofs.laws.spelled_modules_are_printed.Goals as goal

printed : ModulesAreInRange → ModulesAreWithin → SpelledModulesArePrinted
printed ranges limits bytes m are_bytes spells shape =
    let within = limits bytes m spells in
    module_spelled m (fits_module m (spelled_in_order bytes m spells) shape (ranges bytes m are_bytes spells) within.0 within.1) within.0 within.1 within.2

pub returns-clause-read : goal.returns-clause-read
returns-clause-read c = printed c.spelled_modules_are_in_range.ensures c.spelled_modules_are_within.ensures

pub returns-clause-again : goal.returns-clause-again
returns-clause-again c bytes m n are_bytes spells shape again =
    ap printed_module
    (c.texts_spell_one.ensures (printed_module m) n m again (printed c.spelled_modules_are_in_range.ensures c.spelled_modules_are_within.ensures bytes m are_bytes spells shape))

pub returns-clause-apart : goal.returns-clause-apart
returns-clause-apart c a b m n a_bytes b_bytes a_spells b_spells a_shape b_shape alike =
    let print = printed c.spelled_modules_are_in_range.ensures c.spelled_modules_are_within.ensures in
    c.texts_spell_one.ensures (printed_module m) m n (print a m a_bytes a_spells a_shape)
    (subst (λ text. Spells text n) (sym alike) (print b n b_bytes b_spells b_shape))
