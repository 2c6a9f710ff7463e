use Rattle.std.proofs.Common.{nat_eq}
use Rattle.std.specs.HashMap.{get}
use Rattle.token_context.proofs.SideBySide.{none_matter}
use Rattle.token_context.proofs.NameSurroundings.Stated.{no_params_stand, no_types_stand}
use Rattle.token_context.specs.NameSurroundings.Told.{params_told, types_told}
use Rattle.token_context.proofs.name_surroundings.around.Around.told.Goals as goal

pub returns-clause-types : goal.returns-clause-types
returns-clause-types c =
    no_types_stand c.args.text.now c.args.tokens.now c.args.kinds.now c.requires
    (none_matter c.args.kinds.now c.do_parens_matter.result c.if-do_parens_matter.false c.do_parens_matter.ensures.1) (types_told (get nat_eq c.new.result))

pub returns-clause-params : goal.returns-clause-params
returns-clause-params c =
    no_params_stand c.args.text.now c.args.tokens.now c.args.kinds.now c.requires
    (none_matter c.args.kinds.now c.do_parens_matter.result c.if-do_parens_matter.false c.do_parens_matter.ensures.1) (params_told (get nat_eq c.new-2.result))
