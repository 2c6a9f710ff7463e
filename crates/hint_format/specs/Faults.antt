-- What a reader of hints answers in place of hints.
use Rattle.json_forms.specs.declared.failure.Fault.{Fault}
use Rattle.json_forms.specs.declared.failure.Fault.TheVariants.{At, Past}
use Rattle.json_forms.specs.declared.failure.Failure.{Failure}
use Rattle.json_forms.specs.declared.failure.Failure.TheVariants.{Form, Memory}
use Rattle.hint_format.specs.declared.fault.HintFault.{HintFault}
use Rattle.hint_format.specs.declared.fault.HintFault.TheVariants as hint_fault

-- a fault of the file is told by its place, or by the limit
abbrev pub told_fault : Fault → HintFault
told_fault (At path) = hint_fault.Unfit path
told_fault (Past limit) = hint_fault.Limit limit

abbrev pub fault_of_failure : Failure → HintFault
fault_of_failure (Form fault) = told_fault fault
fault_of_failure Memory = hint_fault.Memory
