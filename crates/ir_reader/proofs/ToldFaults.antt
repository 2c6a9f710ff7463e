-- What is said of a module that is spelled is said of the text.
use Rattle.std.proofs.Common.{◌≡◌, ℕ, List, Result, None, Ok, Err, IfOk, IfErr, subst, sym}
use Rattle.std.specs.List.{AllByRecursion}
use Rattle.ir_core.specs.declared.modules.Module.{Module}
use Rattle.ir_core.specs.Ranges.{IsInRange}
use Rattle.ir_core.specs.WellFormed.{IsFunctionDefined, IsWellFormed}
use Rattle.ir_shape.specs.Shape.{first_fault}
use Rattle.ir_reader.specs.declared.fault.ModuleFault.{ModuleFault}
use Rattle.ir_reader.specs.declared.fault.ModuleFault.TheVariants as fault
use Rattle.ir_reader.specs.Found.{HasFault, of_text}
use Rattle.ir_typing.specs.ModuleLimits.Passed.{IsWithin}
use Rattle.module_spelling.specs.Spells.{Spells}
use Rattle.module_texts.specs.Texts.{IsTextFault}
use Rattle.ir_shape.specs.ShapeLaws.Laws.{FaultlessModulesHaveShape}
use Rattle.ir_lexer.specs.declared.fault.TextFault.{TextFault}
use Rattle.ir_lexer.specs.declared.fault.TextFault.TheVariants as text
use Rattle.ir_reader.specs.Faults.{IsModuleFault}

module _ (bytes : List ℕ) (m : Module) (spells : Spells bytes m) where
  -- a spelled module without fault, in which all functions are defined, is well-formed
  pub fitting : {A E : Type 0} → FaultlessModulesHaveShape → IsInRange m → IsWithin m → (r : Result A E) → IfOk r (λ _. first_fault m ≡ None)
      → IfOk r (λ _. AllByRecursion IsFunctionDefined m.functions) → IfOk r (λ _. IsWellFormed m)
  fitting shapes range within (Ok a) faultless defined = record {
    shape = shapes m faultless;
    defined = defined;
    range = range;
    depths = within.0;
    lines = within.1;
    blocks = within.2;
  }
  fitting shapes range within (Err e) faultless defined = tt

  told : (e : ModuleFault) → HasFault m e → IsModuleFault bytes e
  told (fault.Text f) has = absurd has
  told (fault.Shape f) has = (m, spells, has)
  told (fault.Undefined function u) has = (m, spells, has.0, has.1)
  told fault.Memory has = tt

  -- its first fault is the text's
  pub told_of_text : {A : Type 0} (r : Result A ModuleFault) → IfErr r (HasFault m) → IfErr r (IsModuleFault bytes)
  told_of_text (Ok a) has = tt
  told_of_text (Err e) has = told e has

-- a text's fault is a module's
told_by_text : (bytes : List ℕ) (f : TextFault) → IsTextFault bytes f → IsModuleFault bytes (of_text f)
told_by_text bytes (text.BadByte place) is = (is, λ e. cc)
told_by_text bytes (text.BadString place) is = (is, λ e. cc)
told_by_text bytes (text.BadNumber place) is = (is, λ e. cc)
told_by_text bytes (text.Expected place) is = (is, λ e. cc)
told_by_text bytes (text.LeftOut place size) is = (is, λ e. cc)
told_by_text bytes (text.Unknown place size) is = (is, λ e. cc)
told_by_text bytes (text.Twice place size) is = (is, λ e. cc)
told_by_text bytes (text.WrongNumber place expected) is = (is, λ e. cc)
told_by_text bytes (text.WrongType place) is = (is, λ e. cc)
told_by_text bytes (text.Limit l) is = (is, λ e. cc)
told_by_text bytes text.Memory is = tt

pub told_as_text : (bytes : List ℕ) (f : TextFault) (e : ModuleFault) → e ≡ of_text f → IsTextFault bytes f → IsModuleFault bytes e
told_as_text bytes f e same is = subst (IsModuleFault bytes) (sym same) (told_by_text bytes f is)
