use Rattle.std.proofs.Common.{◌∙◌, nat_eq, subst, sym}
use Rattle.std.proofs.lemmas.Result.{IfOk-weaker}
use Rattle.std.specs.HashMap.{get}
use Rattle.module_spelling.specs.Spells.{StatesParams, StatesTypes}
use Rattle.token_context.specs.NameSurroundings.Between.{seen}
use Rattle.token_context.specs.NameSurroundings.Told.{params_told, types_told}
use Rattle.token_context.proofs.NameSurroundings.Stated.{one_params, one_types, params_seen, params_stated, types_seen, types_stated}
use Rattle.token_context.proofs.name_surroundings.around.Around.new.Goals as goal

pub told-requires : goal.told-requires
told-requires c = record { order = c.requires.order; are_kinds = c.requires.kinds; stand = c.requires.stand }

pub returns-clause-types : goal.returns-clause-types
returns-clause-types c =
    IfOk-weaker c.told.result _ _
    (λ it h x types s. sym (types_seen (get nat_eq it.called x.start))
    ∙ one_types (seen c.args.text.now c.args.tokens.now c.args.kinds.now) (types_told (get nat_eq it.called)) h x types s)
    c.told.ensures.types

pub returns-clause-params : goal.returns-clause-params
returns-clause-params c =
    IfOk-weaker c.told.result _ _
    (λ it h x params s. sym (params_seen (get nat_eq it.declared x.start))
    ∙ one_params (seen c.args.text.now c.args.tokens.now c.args.kinds.now) (params_told (get nat_eq it.declared)) h x params s)
    c.told.ensures.params

pub returns-clause-stated : goal.returns-clause-stated
returns-clause-stated c =
    IfOk-weaker c.told.result _ _
    (λ it h x before inside behind e balanced. subst (StatesTypes (seen c.args.text.now c.args.tokens.now c.args.kinds.now) x) (types_seen (get nat_eq it.called x.start))
    (types_stated (seen c.args.text.now c.args.tokens.now c.args.kinds.now) (types_told (get nat_eq it.called)) h x before inside behind e balanced))
    c.told.ensures.types

pub returns-clause-declares : goal.returns-clause-declares
returns-clause-declares c =
    IfOk-weaker c.told.result _ _
    (λ it h x before inside behind e balanced. subst (StatesParams (seen c.args.text.now c.args.tokens.now c.args.kinds.now) x) (params_seen (get nat_eq it.declared x.start))
    (params_stated (seen c.args.text.now c.args.tokens.now c.args.kinds.now) (params_told (get nat_eq it.declared)) h x before inside behind e balanced))
    c.told.ensures.params
