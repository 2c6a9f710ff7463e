use Rattle.std.proofs.Common.{◌≡◌, List, [], Option, None, Some, sym, subst}
use Rattle.std.specs.Prelude.{◌↔◌, IfSome}
use Rattle.std.proofs.lemmas.Result.{IfOk-weaker}
use Rattle.derivation_cursor.specs.At.{ahead_of}
use Rattle.module_derivations.specs.Empty.{made}
use Rattle.module_spelling.specs.Blocks.{large_places}
use Rattle.name_claims.specs.declared.claims.Fault.{Fault}
use Rattle.named_modules.specs.Faults.{faults_of}
use Rattle.fault_walk.specs.First.{IsFirst, IsFirstOf}
use Rattle.fault_walk.specs.Told.{noted}
use Rattle.fault_walk.proofs.First.{first_large, first_noted, none_noted}
use Rattle.fault_walk.proofs.items.note_module.Goals as goal

first_of : (fs : List Fault) (o : Option Fault) → o ≡ noted fs None → IfSome o (IsFirstOf fs)
first_of fs None e = tt
first_of fs (Some f) e = first_noted fs f (sym e)

none_of : (fs : List Fault) (o : Option Fault) → o ≡ noted fs None → (o ≡ None) ↔ (fs ≡ [])
none_of fs o e = subst (λ (t : Option Fault). (t ≡ None) ↔ (fs ≡ [])) (sym e) (none_noted fs)

pub returns-clause-none : goal.returns-clause-none
returns-clause-none g c =
    let faults = faults_of (g.S.Gaps.called c.args.around.now) (g.S.Gaps.declared c.args.around.now) (made (ahead_of c.args.c)).whole in
    IfOk-weaker c.told_of.result _ _ (λ it is. none_of faults it.fault is) c.told_of.ensures.fault

pub returns-clause-first : goal.returns-clause-first
returns-clause-first g c =
    let faults = faults_of (g.S.Gaps.called c.args.around.now) (g.S.Gaps.declared c.args.around.now) (made (ahead_of c.args.c)).whole in
    IfOk-weaker c.told_of.result _ _ (λ it is. first_of faults it.fault is) c.told_of.ensures.fault

pub returns-clause-large : goal.returns-clause-large
returns-clause-large g c =
    let w = (made (ahead_of c.args.c)).whole in
    IfOk-weaker c.told_of.result _ _ (λ it is. subst (IsFirst (large_places c.args.sight.now w)) (sym is) (first_large c.args.sight.now w)) c.told_of.ensures.large
