use Rattle.std.proofs.Common.{◌≡◌, ◌∙◌, Some, ap, sym, arith}
use Rattle.derivation_cursor.specs.At.{ahead_of}
use Rattle.ir_core.specs.declared.operands.Atom.TheVariants.{Constant}
use Rattle.module_derivations.specs.Empty.{made, no_value}
use Rattle.module_derivations.specs.declared.rule.TheConstants as rule
use Rattle.module_walk.proofs.OtherValues.{another_value}
use Rattle.module_walk.specs.Values.{value_by}
use Rattle.named_modules.proofs.BuiltConstants.{of_undef}
use Rattle.module_walk.proofs.operations.read_value.Goals as goal

pub returns-in_default-clause-built : goal.returns-in_default-clause-built
returns-in_default-clause-built g c =
    let no_const : c.rule.result ≡ Some rule.CONST_VALUE → ⊥ = grind arith in
    let no_local : c.rule.result ≡ Some rule.LOCAL → ⊥ = grind arith in
    let no_old : c.rule.result ≡ Some rule.OLD_REGISTER → ⊥ = grind arith in
    let no_ghost : c.rule.result ≡ Some rule.GHOST_REGISTER → ⊥ = grind arith in
    let none : (made (ahead_of c.args.c.now)).value ≡ no_value =
    ap (λ m. m.value) c.rule.ensures.made ∙ another_value c.rule.result (ahead_of c.rule.new.self) no_const no_local no_old no_ghost in
    sym (ap (λ w. value_by g.R.Registers.naming c.args.ty.now w) none ∙ ap (λ k. Constant k) (of_undef c.args.ty.now))
