use Rattle.std.proofs.Common.{◌≡◌, ◌∙◌, ap, sym, Some, rules, arith}
use Rattle.derivation_cursor.specs.At.{ahead_of}
use Rattle.fault_walk.proofs.Behind.{if_ok, number_kept}
use Rattle.fault_walk.specs.Told.{told_more}
use Rattle.ir_core.specs.Typing.{number_in}
use Rattle.module_derivations.specs.Ahead.{made_by}
use Rattle.module_derivations.specs.Empty.{made, no_value}
use Rattle.module_spelling.specs.Blocks.{wanted_by_value}
use Rattle.module_walk.proofs.OtherValues.{another_value}
use Rattle.named_modules.specs.Built.{value_at}
use Rattle.named_modules.specs.Faults.{value_faults}
use Rattle.module_derivations.specs.declared.rule.TheConstants as rule
use Rattle.module_grammar.specs.declared.constants.ValueText.TheVariants as value
use Rattle.module_grammar.specs.declared.constants.ConstText.{Undef}
use Rattle.fault_walk.proofs.NumberedKinds as numbered
use Rattle.fault_walk.proofs.ConstCases as constants
use Rattle.fault_walk.proofs.lines.note_value.Goals as goal

pub returns-in-Some-eq116-clause-number : goal.returns-in-Some-eq116-clause-number
returns-in-Some-eq116-clause-number c =
    let s = ahead_of c.rule.new.self in
    let t = c.args.ty.now in
    let w = (made s).constant in
    let begins : c.rule.result ≡ Some rule.CONST_VALUE = grind arith in
    let is : (made (ahead_of c.args.c.now)).value ≡ value.Const w = ap (λ m. m.value) c.rule.ensures.made ∙ ap (λ r. (made_by r s).value) begins in
    if_ok c.note_const.result (λ x e. e ∙ number_kept t w ∙ sym (ap (λ v. number_in (value_at t v)) is)) c.note_const.ensures.number

pub returns-in_default-clause-number : goal.returns-in_default-clause-number
returns-in_default-clause-number c =
    let t = c.args.ty.now in
    let none : (made (ahead_of c.args.c.now)).value ≡ no_value = search (rules, another_value) in
    sym (numbered.of_undef t) ∙ number_kept t Undef ∙ sym (ap (λ v. number_in (value_at t v)) none)

pub returns-in_default-clause-told : goal.returns-in_default-clause-told
returns-in_default-clause-told c =
    let h = c.args.within.now.heads in
    let ts = c.args.within.now.things in
    let s = ahead_of c.args.c.now in
    let t = c.args.told.now in
    let none : (made s).value ≡ no_value = search (rules, another_value) in
    sym (ap (λ v. told_more h (value_faults h ts c.args.ty.now v) (wanted_by_value h v) t) none ∙ constants.of_undef h c.args.ty.now t)
