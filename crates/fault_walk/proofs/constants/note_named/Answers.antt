use Rattle.std.proofs.Common.{◌∙◌, [], Bool, List, sym, ap}
use Rattle.derivation_cursor.specs.At.{ahead_of}
use Rattle.ir_core.specs.NameIndexes.Among.{is_among}
use Rattle.ir_types.specs.declared.names.Name.{Name}
use Rattle.module_derivations.specs.Empty.{said}
use Rattle.module_derivations.specs.Said.{name_of}
use Rattle.module_grammar.specs.declared.places.Placed.{Placed}
use Rattle.name_claims.specs.declared.claims.Fault.{Fault}
use Rattle.name_claims.specs.declared.claims.Reason.TheVariants as reason
use Rattle.named_modules.specs.Faults.{at, type_names, unless}
use Rattle.fault_walk.specs.Told.{faults_more, told_more}
use Rattle.fault_walk.proofs.TypeCases.{first_named, of_named}
use Rattle.fault_walk.proofs.constants.note_named.Goals as goal

pub returns-clause-place : goal.returns-clause-place
returns-clause-place c =
    ap (λ (n : Placed Name). n.start) c.in_ok-name.ensures.said ∙ sym (first_named (name_of (said (ahead_of c.args.c.now))))

pub returns-clause-told : goal.returns-clause-told
returns-clause-told c =
    let h = c.args.sight.now in
    let x = name_of (said (ahead_of c.args.c.now)) in
    let before = c.args.told.now in
    c.note_unless.ensures
    ∙ ap (λ (b : Bool). faults_more (unless b c.at.result) before) (c.has_type-known.ensures ∙ ap (λ (n : Placed Name). is_among n.what (type_names h.types)) c.in_ok-name.ensures.said)
    ∙ ap (λ (f : Fault). faults_more (unless (is_among x.what (type_names h.types)) f) before) (c.at.ensures ∙ ap (λ (n : Placed Name). at n reason.Unknown) c.in_ok-name.ensures.said)
    ∙ sym (ap (λ (fs : List Fault). told_more h fs [] before) (of_named h x))
