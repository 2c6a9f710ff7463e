use Rattle.std.proofs.lemmas.Str.{IsUtf8-from_ascii}
use Rattle.hint_format.proofs.print.value_of.Goals as goal

pub unreachable-requires : goal.unreachable-requires
unreachable-requires c =
    let gone = c.in-Err.ensures.succeeds (IsUtf8-from_ascii c.args.text.items c.requires) in
    cc gone
