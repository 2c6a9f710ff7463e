-- What is found at fault in a module, whatever text spells it.
use Rattle.std.specs.Prelude.{◌≡◌, List, None, Some}
use Rattle.ir_core.specs.declared.functions.Function.{Function}
use Rattle.ir_core.specs.declared.modules.Module.{Module}
use Rattle.ir_core.specs.WellFormed.{IsFunctionDefined}
use Rattle.ir_shape.specs.Shape.{first_fault}
use Rattle.definedness.specs.Undefined.{IsFirstUndefined}
use Rattle.ir_lexer.specs.declared.fault.TextFault.{TextFault}
use Rattle.ir_lexer.specs.declared.fault.TextFault.TheVariants as text
use Rattle.ir_reader.specs.declared.fault.ModuleFault.{ModuleFault}
use Rattle.ir_reader.specs.declared.fault.ModuleFault.TheVariants as fault
use Rattle.ir_reader.specs.Faults.{FirstWithout}

-- a text's fault, as a module's
abbrev pub of_text : TextFault → ModuleFault
of_text text.Memory = fault.Memory
of_text f = fault.Text f

-- a use that isn't defined in the first of the functions that has one; want of memory says nothing
abbrev pub UndefinedAmong : List Function → ModuleFault → Type 0
UndefinedAmong fs (fault.Undefined function u) = (f : Function) × FirstWithout IsFunctionDefined fs f × IsFirstUndefined f u × (function ≡ f.name)
UndefinedAmong fs fault.Memory = Unit {0}
UndefinedAmong fs (fault.Text f) = ⊥
UndefinedAmong fs (fault.Shape f) = ⊥

-- the first fault of shape
abbrev pub ShapeAmong : Module → ModuleFault → Type 0
ShapeAmong m (fault.Shape f) = first_fault m ≡ Some f
ShapeAmong m fault.Memory = Unit {0}
ShapeAmong m (fault.Text f) = ⊥
ShapeAmong m (fault.Undefined function u) = ⊥

-- the first fault of a module that is spelled
abbrev pub HasFault : Module → ModuleFault → Type 0
HasFault m (fault.Shape f) = ShapeAmong m (fault.Shape f)
HasFault m (fault.Undefined function u) = (first_fault m ≡ None) × UndefinedAmong m.functions (fault.Undefined function u)
HasFault m fault.Memory = Unit {0}
HasFault m (fault.Text f) = ⊥
