use Rattle.std.proofs.Common.{◌≡◌, ◌∙◌, ◌∷◌, ap, Some, arith}
use Rattle.derivation_cursor.specs.At.{ahead_of}
use Rattle.fault_walk.proofs.Behind.{on_ok, one_more}
use Rattle.fault_walk.specs.Lines.{wanted_by_argument}
use Rattle.fault_walk.specs.Told.{told_more}
use Rattle.module_derivations.specs.FlatMarks.Flat.{skip}
use Rattle.module_derivations.specs.Ahead.{made_by}
use Rattle.module_derivations.specs.Empty.{made}
use Rattle.module_derivations.specs.Lines.{argument}
use Rattle.named_modules.specs.Faults.{argument_faults}
use Rattle.std.specs.List.{flat_map}
use Rattle.module_derivations.specs.declared.rule.TheConstants as rule
use Rattle.fault_walk.proofs.lines.note_arguments.Goals as goal

pub returns-in_ok-note_argument-in-Some-eq163-clause-told : goal.returns-in_ok-note_argument-in-Some-eq163-clause-told
returns-in_ok-note_argument-in-Some-eq163-clause-told c =
    let h = c.args.within.now.heads in
    let ts = c.args.within.now.things in
    let s = ahead_of c.args.c.now in
    let t = c.args.told.now in
    let q = ahead_of c.rule.new.self in
    let rest = (made (skip 4 q)).more_arguments in
    let a = c.note_argument.new.told in
    let begins : c.rule.result ≡ Some rule.ARGUMENTS = grind arith in
    let are : (made s).arguments ≡ argument q ∷ rest = ap (λ m. m.arguments) c.rule.ensures.made ∙ ap (λ r. (made_by r q).arguments) begins in
    on_ok c.note_more_arguments.result
    (λ e. e ∙ ap (λ x. told_more h (flat_map (argument_faults h ts) (made x).more_arguments) (flat_map (wanted_by_argument h) (made x).more_arguments) a) c.in_ok-note_argument-in-Some-eq163.ensures.passes.behind
    ∙ one_more h (argument_faults h ts) (wanted_by_argument h) t a (argument q) (made s).arguments rest are c.in_ok-note_argument-in-Some-eq163.ensures.told)
    c.note_more_arguments.ensures.told
