-- What is first at fault in a module's text is one.
use Rattle.std.proofs.Common.{◌≡◌, ◌≢◌, ℕ, List, ◌∷◌, ◌++◌, None, Some, refl, sym, ap, ◌∙◌, subst}
use Rattle.std.specs.List.{AllByRecursion}
use Rattle.ir_core.specs.declared.functions.Function.{Function}
use Rattle.ir_core.specs.declared.modules.Module.{Module}
use Rattle.ir_core.specs.WellFormed.{HasFunctionShape, IsFunctionDefined}
use Rattle.ir_shape.specs.declared.fault.ShapeFault.{ShapeFault}
use Rattle.ir_shape.specs.Shape.{first_fault}
use Rattle.ir_shape.specs.ShapeLaws.Laws.{FaultlessModulesHaveShape}
use Rattle.definedness.specs.declared.paths.Undefined.{Undefined}
use Rattle.definedness.specs.Laws.{FirstUndefinedIsOne, ShapeKnowsLabels}
use Rattle.definedness.specs.Undefined.{IsFirstUndefined}
use Rattle.ir_lexer.specs.declared.fault.TextFault.{TextFault}
use Rattle.ir_lexer.specs.declared.fault.TextFault.TheVariants as text
use Rattle.ir_types.specs.declared.names.Name.{Name}
use Rattle.ir_reader.specs.Faults.{FirstWithout, IsModuleFault}
use Rattle.module_spelling.specs.Spells.{Spells}
use Rattle.module_texts.specs.Laws.{IsAlike}
use Rattle.module_texts.specs.Texts.{IsTextFault}
use Rattle.ir_reader.specs.declared.fault.ModuleFault.{ModuleFault}
use Rattle.ir_reader.specs.declared.fault.ModuleFault.TheVariants as fault
use Rattle.ir_reader.proofs.First.{first_is_one, of_all}

-- faults of texts that are alike are one
pub alike_is_same : (f g : TextFault) → IsAlike f g → f ≡ g
alike_is_same (text.BadByte p) (text.BadByte q) e = ap text.BadByte e
alike_is_same (text.BadString p) (text.BadString q) e = ap text.BadString e
alike_is_same (text.BadNumber p) (text.BadNumber q) e = ap text.BadNumber e
alike_is_same (text.Expected p) (text.Expected q) e = ap text.Expected e
alike_is_same (text.LeftOut p m) (text.LeftOut q n) e = let a = e.0 in let b = e.1 in cc
alike_is_same (text.Unknown p m) (text.Unknown q n) e = let a = e.0 in let b = e.1 in cc
alike_is_same (text.Twice p m) (text.Twice q n) e = let a = e.0 in let b = e.1 in cc
alike_is_same (text.WrongNumber p due) (text.WrongNumber q expected) e = let a = e.0 in let b = e.1 in cc
alike_is_same (text.WrongType p) (text.WrongType q) e = ap text.WrongType e
alike_is_same (text.Limit l) (text.Limit m) e = ap text.Limit e
alike_is_same _ _ e = absurd e

-- the first fault of a text, by what is at fault in it as a text and by which modules it spells
abbrev pub IsFault : (TextFault → Type 0) → (Module → Type 0) → ModuleFault → Type 0
IsFault OfText Spelled (fault.Text f) = OfText f × (f ≢ text.Memory)
IsFault OfText Spelled (fault.Shape f) = (m : Module) × Spelled m × (first_fault m ≡ Some f)
IsFault OfText Spelled (fault.Undefined function u) =
    (m : Module) × Spelled m × (first_fault m ≡ None)
    × ((f : Function) × FirstWithout IsFunctionDefined m.functions f × IsFirstUndefined f u × (function ≡ f.name))
IsFault OfText Spelled fault.Memory = ⊥

pub as_fault : (bytes : List ℕ) (f : ModuleFault) → IsModuleFault bytes f → f ≢ fault.Memory → IsFault (IsTextFault bytes) (Spells bytes) f
as_fault bytes (fault.Text f) p said = p
as_fault bytes (fault.Shape f) p said = p
as_fault bytes (fault.Undefined function u) p said = p
as_fault bytes fault.Memory p said = said refl

some_shape : (f g : ShapeFault) → Some f ≡ Some g → f ≡ g
some_shape f g e = cc

both : (function other : Name) (u v : Undefined) → function ≡ other → u ≡ v → fault.Undefined function u ≡ fault.Undefined other v
both function other u v a b = cc

module _ (OfText : TextFault → Type 0) (Spelled : Module → Type 0)
    (texts_are_one : (f g : TextFault) → OfText f × (f ≢ text.Memory) → OfText g × (g ≢ text.Memory) → f ≡ g)
    (excludes : (f : TextFault) (m : Module) → OfText f × (f ≢ text.Memory) → Spelled m → ⊥)
    (modules_are_one : (a b : Module) → Spelled a → Spelled b → a ≡ b)
    (faultless : FaultlessModulesHaveShape) (labels : ShapeKnowsLabels) (undefined_is_one : FirstUndefinedIsOne) where
  no_fault : (m other : Module) (f : ShapeFault) → other ≡ m → first_fault m ≡ None → first_fault other ≡ Some f → ⊥
  no_fault m other f same none some = let e = sym (ap first_fault same ∙ none) ∙ some in cc

  shapes : (f g : ShapeFault) → IsFault OfText Spelled (fault.Shape f) → IsFault OfText Spelled (fault.Shape g) → f ≡ g
  shapes f g p q = some_shape f g (sym p.2 ∙ (ap first_fault (modules_are_one p.0 q.0 p.1 q.1) ∙ q.2))

  one_undefined : (m : Module) (f g : Function) (u v : Undefined) → first_fault m ≡ None → FirstWithout IsFunctionDefined m.functions f → f ≡ g
      → IsFirstUndefined f u → IsFirstUndefined g v → u ≡ v
  one_undefined m f g u v none first same p q =
      let each : AllByRecursion (HasFunctionShape m) (first.before ++ (f ∷ first.after)) =
      subst (AllByRecursion (HasFunctionShape m)) first.functions (faultless m none).functions in
      undefined_is_one f u v (labels m f (of_all (HasFunctionShape m) first.before f first.after each)) p (subst (λ x. IsFirstUndefined x v) (sym same) q)

  undefineds : (function other : Name) (u v : Undefined) → IsFault OfText Spelled (fault.Undefined function u) → IsFault OfText Spelled (fault.Undefined other v)
      → fault.Undefined function u ≡ fault.Undefined other v
  undefineds function other u v (m, spells, none, (f, first, p, e)) (n, also, nothing, (g, second, q, d)) =
      let functions : m.functions ≡ n.functions = ap (λ (x : Module). x.functions) (modules_are_one m n spells also) in
      let same : f ≡ g = first_is_one IsFunctionDefined m.functions f g first (subst (λ fs. FirstWithout IsFunctionDefined fs g) (sym functions) second) in
      both function other u v (e ∙ (ap (λ (x : Function). x.name) same ∙ sym d)) (one_undefined m f g u v none first same p q)

  pub one_fault : (f g : ModuleFault) → IsFault OfText Spelled f → IsFault OfText Spelled g → f ≡ g
  one_fault (fault.Text f) (fault.Text g) p q = ap fault.Text (texts_are_one f g p q)
  one_fault (fault.Text f) (fault.Shape g) p q = absurd (excludes f q.0 p q.1)
  one_fault (fault.Text f) (fault.Undefined other v) p q = absurd (excludes f q.0 p q.1)
  one_fault (fault.Shape f) (fault.Text g) p q = absurd (excludes g p.0 q p.1)
  one_fault (fault.Shape f) (fault.Shape g) p q = ap fault.Shape (shapes f g p q)
  one_fault (fault.Shape f) (fault.Undefined other v) p q = absurd (no_fault q.0 p.0 f (modules_are_one p.0 q.0 p.1 q.1) q.2 p.2)
  one_fault (fault.Undefined function u) (fault.Text g) p q = absurd (excludes g p.0 q p.1)
  one_fault (fault.Undefined function u) (fault.Shape g) p q = absurd (no_fault p.0 q.0 g (modules_are_one q.0 p.0 q.1 p.1) p.2 q.2)
  one_fault (fault.Undefined function u) (fault.Undefined other v) p q = undefineds function other u v p q
  one_fault fault.Memory g p q = absurd p
  one_fault f fault.Memory p q = absurd q
