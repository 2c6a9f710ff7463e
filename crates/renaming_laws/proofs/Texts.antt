-- A text spells a well-formed module, or something is first at fault in it.
use Rattle.std.proofs.Common.{◌≡◌, ◌⊎◌, ⊎_elim, inl, inr, ℕ, List, [], ◌∷◌, Option, None, Some, refl, ap}
use Rattle.definedness.specs.Laws.{ShapeKnowsLabels, UndefinedUsesAreFaults}
use Rattle.definedness.specs.Undefined.{IsFirstUndefined}
use Rattle.definedness.specs.declared.paths.Undefined.{Undefined}
use Rattle.ir_core.specs.Ranges.{AreBytes}
use Rattle.ir_core.specs.WellFormed.{HasFunctionShape, IsFunctionDefined}
use Rattle.ir_core.specs.declared.functions.Function.{Function}
use Rattle.ir_core.specs.declared.modules.Module.{Module}
use Rattle.ir_shape.specs.Shape.{first_fault}
use Rattle.ir_shape.specs.ShapeLaws.Laws.{FaultlessModulesHaveShape}
use Rattle.ir_shape.specs.declared.fault.ShapeFault.{ShapeFault}
use Rattle.ir_reader.specs.Faults.{FirstWithout, IsAtFault}
use Rattle.ir_reader.specs.declared.fault.ModuleFault.TheVariants as fault
use Rattle.ir_reader.specs.declared.fault.ModuleFault.{ModuleFault}
use Rattle.module_spelling.specs.Spells.{Spells}
use Rattle.module_texts.specs.JudgedTexts.Laws.{EachTextIsJudged}
use Rattle.module_texts.specs.SpelledLimits.Laws.{ModulesAreWithin}
use Rattle.module_texts.specs.SpelledLimits.Ranges.{ModulesAreInRange}
use Rattle.module_texts.specs.Texts.{IsShort}
use Rattle.renaming_laws.specs.Judged.{FunctionsAreJudged, IsFitting}
use Rattle.std.specs.List.{AllByRecursion}

-- the first of the functions that isn't defined, with its first use that isn't
abbrev pub HasFirstUndefined : List Function → Type 0
HasFirstUndefined fs = (f : Function) × (u : Undefined) × FirstWithout IsFunctionDefined fs f × IsFirstUndefined f u

first_here : (f : Function) (fs : List Function) → (IsFunctionDefined f → ⊥) → FirstWithout IsFunctionDefined (f ∷ fs) f
first_here f fs not_such = record { before = []; after = fs; functions = refl; such = tt; not_such = not_such }

first_later : (g : Function) (fs : List Function) → IsFunctionDefined g → HasFirstUndefined fs → HasFirstUndefined (g ∷ fs)
first_later g fs such (f, u, first, is) = (
  f,
  u,
  record {
    before = g ∷ first.before;
    after = first.after;
    functions = ap (λ xs. g ∷ xs) first.functions;
    such = (such, first.such);
    not_such = first.not_such;
  },
  is,
)

module _ (knows : ShapeKnowsLabels) (faults : UndefinedUsesAreFaults) (judged : FunctionsAreJudged) where
  pub of_functions : (m : Module) (fs : List Function) → AllByRecursion (HasFunctionShape m) fs → AllByRecursion IsFunctionDefined fs ⊎ HasFirstUndefined fs
  of_functions m [] shape = inl tt
  of_functions m (f ∷ fs) shape =
      ⊎_elim (λ (defined : IsFunctionDefined f).
      ⊎_elim (λ (all : AllByRecursion IsFunctionDefined fs). inl (defined, all)) (λ first. inr (first_later f fs defined first)) (of_functions m fs shape.1))
      (λ undefined. inr (f, undefined.0, first_here f fs (λ defined. faults m f undefined.0 shape.0 undefined.1 defined), undefined.1))
      (judged f (knows m f shape.0))

module _
    (knows : ShapeKnowsLabels) (faults : UndefinedUsesAreFaults) (judged : FunctionsAreJudged) (shapes : FaultlessModulesHaveShape) (in_range : ModulesAreInRange)
    (are_within : ModulesAreWithin) (each : EachTextIsJudged) (bytes : List ℕ) (are_bytes : AreBytes bytes)
  where
    abbrev Judged : Type 0
    Judged = ((m : Module) × IsFitting bytes m) ⊎ ((f : ModuleFault) × IsAtFault bytes f)

    of_module : (m : Module) → IsShort bytes → Spells bytes m → (shape : Option ShapeFault) → first_fault m ≡ shape → Judged
    of_module m short spells (Some f) is = inr (fault.Shape f, ((m, spells, is), λ e. cc))
    of_module m short spells None is =
        let shape = shapes m is in
        let within = are_within bytes m spells in
        ⊎_elim (λ (all : AllByRecursion IsFunctionDefined m.functions).
        inl (
          m,
          (
            short,
            (
              spells,
              record {
                shape = shape;
                defined = all;
                range = in_range bytes m are_bytes spells;
                depths = within.0;
                lines = within.1;
                blocks = within.2;
              },
            ),
          ),
        ))
        (λ (first : HasFirstUndefined m.functions).
        inr (fault.Undefined first.0.name first.1, ((m, spells, is, (first.0, first.2, first.3, refl)), λ e. cc)))
        (of_functions knows faults judged m m.functions shape.functions)

    pub of_text : Judged
    of_text =
        ⊎_elim (λ read. of_module read.0 read.1 read.2 (first_fault read.0) refl)
        (λ told. inr (fault.Text told.0, (told.1, λ e. cc)))
        (each bytes)
