use Rattle.std.proofs.Common.{◌≡◌, drop}
use Rattle.std.specs.Option.{option_or}
use Rattle.ir_types.specs.declared.names.Name.{Name}
use Rattle.ir_typing.specs.OperandTests.Calls.{signature_in}
use Rattle.ir_typing.specs.OperandTests.Kept.{defined, signature_by}
use Rattle.ir_typing.proofs.operand_tests.callees.Callees.put_definitions.Given as goal

-- what is kept, and the functions that are left
abbrev pub invariant-loop-function : goal.invariant-loop-function
invariant-loop-function l = (x : Name) → option_or (signature_by l.self x) (signature_in (defined (drop l.function-index l.functions)) x)
    ≡ option_or (signature_by l.fn.self x) (signature_in (defined l.functions) x)
