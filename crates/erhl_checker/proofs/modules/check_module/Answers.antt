use Rattle.erhl_checker.proofs.Differing.{accepted_ended, declarations_ended, differs_ended, globals_ended, refines_ended, types_ended}
use Rattle.erhl_checker.proofs.modules.check_module.Goals as goal

pub returns-clause-accepted : goal.returns-clause-accepted
returns-clause-accepted g c = accepted_ended _ c.args.source.now c.args.target.now c.args.hints.now c.module_answer.result c.module_answer.ensures

pub returns-clause-types : goal.returns-clause-types
returns-clause-types g c = types_ended _ c.args.source.now c.args.target.now c.args.hints.now c.module_answer.result c.module_answer.ensures

pub returns-clause-globals : goal.returns-clause-globals
returns-clause-globals g c = globals_ended _ c.args.source.now c.args.target.now c.args.hints.now c.module_answer.result c.module_answer.ensures

pub returns-clause-declarations : goal.returns-clause-declarations
returns-clause-declarations g c = declarations_ended _ c.args.source.now c.args.target.now c.args.hints.now c.module_answer.result c.module_answer.ensures

pub returns-clause-differs : goal.returns-clause-differs
returns-clause-differs g c = differs_ended _ c.args.source.now c.args.target.now c.args.hints.now c.module_answer.result c.module_answer.ensures

pub returns-clause-refines : goal.returns-clause-refines
returns-clause-refines g c =
    refines_ended _ c.args.source.now c.args.target.now c.args.hints.now c.book_is_sound.ensures c.accepted_modules_refine.ensures c.module_answer.result c.module_answer.ensures
