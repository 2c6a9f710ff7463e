use Rattle.std.proofs.Common.{◌≡◌, ◌∙◌, ap, sym, Some, arith, map}
use Rattle.derivation_cursor.specs.At.{ahead_of}
use Rattle.fault_walk.proofs.Behind.{both_are}
use Rattle.fault_walk.specs.Lines.{called_built}
use Rattle.module_derivations.specs.Ahead.{made_by}
use Rattle.module_derivations.specs.Empty.{made}
use Rattle.named_modules.specs.Types.{type_of}
use Rattle.std.specs.Option.{option_map}
use Rattle.module_derivations.specs.declared.rule.TheConstants as rule
use Rattle.fault_walk.proofs.lines.read_function_type.Goals as goal

pub returns-in_ok-read_called-in-Some-eq92-clause-called : goal.returns-in_ok-read_called-in-Some-eq92-clause-called
returns-in_ok-read_called-in-Some-eq92-clause-called c =
    let q = ahead_of c.rule.new.self in
    let it = c.in_ok-read_called-in-Some-eq92.field-0 in
    let begins : c.rule.result ≡ Some rule.FUNCTION_TYPE = grind arith in
    let is : (made (ahead_of c.args.c.now)).function_type ≡ Some (made q).called = ap (λ m. m.function_type) c.rule.ensures.made ∙ ap (λ r. (made_by r q).function_type) begins in
    ap (λ x. Some x) (both_are it (map type_of (made q).called.types) (made q).called.is_open c.in_ok-read_called-in-Some-eq92.ensures.types c.in_ok-read_called-in-Some-eq92.ensures.is_open)
    ∙ sym (ap (option_map called_built) is)
