use Rattle.std.proofs.Common.{◌≡◌, [], List, length, sym, ap, rules}
use Rattle.derivation_cursor.specs.At.{ahead_of}
use Rattle.module_derivations.specs.Empty.{made}
use Rattle.module_grammar.specs.declared.constants.InitText.{InitText}
use Rattle.module_grammar.specs.declared.types.TypeText.{TypeText}
use Rattle.fault_walk.proofs.Differ.{differ}
use Rattle.fault_walk.proofs.inits.count_parts.Goals as goal

pub returns-in_default : goal.returns-in_default
returns-in_default c =
    let none : (made (ahead_of c.args.c.now)).inits ≡ [] = search (rules, differ) in
    sym (ap (λ (ps : List (TypeText × InitText)). length ps) none)
