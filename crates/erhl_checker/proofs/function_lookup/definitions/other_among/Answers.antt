use Rattle.std.proofs.Common.{◌∙◌, ap}
use Rattle.erhl_checker.specs.FunctionLookup.Defining.{some_other_kind}
use Rattle.erhl_checker.proofs.FunctionLookup.Defining.{found_among}
use Rattle.erhl_checker.proofs.function_lookup.definitions.other_among.Goals as goal

pub returns : goal.returns
returns c = c.some_other_kind.ensures ∙ ap (some_other_kind c.args.expr.now) c.all.ensures ∙ found_among c.args.name.now c.args.expr.now c.args.by_name.now
