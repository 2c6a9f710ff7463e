-- The first faults of a text are of one kind, and where there is one no well-formed module is spelled.
use Rattle.std.proofs.Common.{◌≡◌, ◌≢◌, ◌∙◌, ◌≤◌, ℕ, List, ◌∷◌, ◌++◌, length, None, Some, refl, sym, ap, subst}
use Rattle.std.specs.List.{AllByRecursion}
use Rattle.ir_core.specs.declared.functions.Function.{Function}
use Rattle.ir_core.specs.declared.modules.Module.{Module}
use Rattle.ir_core.specs.declared.limits.Limit.{Limit}
use Rattle.ir_core.specs.Limits.{text_limit}
use Rattle.ir_shape.specs.declared.fault.ShapeFault.{ShapeFault}
use Rattle.ir_shape.specs.ShapeLaws.Laws.{ShapelyModulesAreFaultless}
use Rattle.ir_shape.specs.Shape.{first_fault}
use Rattle.ir_lexer.specs.declared.fault.TextFault.{TextFault}
use Rattle.ir_lexer.specs.declared.fault.TextFault.TheVariants as text
use Rattle.module_texts.specs.Laws.{FaultsAreOne, FaultsExclude, IsAlike, ModulesAreOne}
use Rattle.module_texts.specs.Texts.{IsTextFault}
use Rattle.ir_reader.specs.declared.fault.ModuleFault.{ModuleFault}
use Rattle.ir_reader.specs.declared.fault.ModuleFault.TheVariants as fault
use Rattle.ir_reader.specs.Faults.{FirstWithout}
use Rattle.ir_reader.specs.Laws.{PastLimit, Misspelled, text_kind, fault_kind}
use Rattle.ir_reader.proofs.First.{of_all}
use Rattle.ir_reader.specs.Faults.{IsModuleFault, SpellsWellFormed}

-- a fault of a text that isn't want of memory passes a limit or is misspelled
by_kind : (P : TextFault → Type 0) → ((l : Limit) → P (text.Limit l)) → ((f : TextFault) → text_kind f ≡ Misspelled → P f) → (f : TextFault) → f ≢ text.Memory → P f
by_kind P limits others (text.Limit l) said = limits l
by_kind P limits others (text.BadByte place) said = others (text.BadByte place) refl
by_kind P limits others (text.BadString place) said = others (text.BadString place) refl
by_kind P limits others (text.BadNumber place) said = others (text.BadNumber place) refl
by_kind P limits others (text.Expected place) said = others (text.Expected place) refl
by_kind P limits others (text.LeftOut place size) said = others (text.LeftOut place size) refl
by_kind P limits others (text.Unknown place size) said = others (text.Unknown place size) refl
by_kind P limits others (text.Twice place size) said = others (text.Twice place size) refl
by_kind P limits others (text.WrongNumber place expected) said = others (text.WrongNumber place expected) refl
by_kind P limits others (text.WrongType place) said = others (text.WrongType place) refl
by_kind P limits others text.Memory said = absurd (said refl)

-- a limit that is passed is like no fault that is misspelled
limit_alike : (l : Limit) (g : TextFault) → text_kind g ≡ Misspelled → IsAlike (text.Limit l) g → ⊥
limit_alike l (text.Limit m) kind alike = absurd (cc)
limit_alike l (text.BadByte place) kind alike = alike
limit_alike l (text.BadString place) kind alike = alike
limit_alike l (text.BadNumber place) kind alike = alike
limit_alike l (text.Expected place) kind alike = alike
limit_alike l (text.LeftOut place size) kind alike = alike
limit_alike l (text.Unknown place size) kind alike = alike
limit_alike l (text.Twice place size) kind alike = alike
limit_alike l (text.WrongNumber place expected) kind alike = alike
limit_alike l (text.WrongType place) kind alike = alike
limit_alike l text.Memory kind alike = alike

-- what is misspelled isn't want of memory
told_as_misspelled : (f : TextFault) → text_kind f ≡ Misspelled → f ≡ text.Memory → ⊥
told_as_misspelled f kind memory = let e = sym (ap text_kind memory) ∙ kind in cc

text_kinds : (bytes : List ℕ) → FaultsAreOne → (f : TextFault) → f ≢ text.Memory → (g : TextFault) → g ≢ text.Memory
    → IsTextFault bytes f → IsTextFault bytes g → text_kind f ≡ text_kind g
text_kinds bytes one =
    by_kind (λ f. (g : TextFault) → g ≢ text.Memory → IsTextFault bytes f → IsTextFault bytes g → text_kind f ≡ text_kind g)
    (λ l. by_kind (λ g. IsTextFault bytes (text.Limit l) → IsTextFault bytes g → PastLimit ≡ text_kind g)
    (λ m p q. refl)
    (λ g kind p q. absurd (limit_alike l g kind (one bytes (text.Limit l) g (p, λ e. cc) (q, told_as_misspelled g kind)))))
    (λ f kind. by_kind (λ g. IsTextFault bytes f → IsTextFault bytes g → text_kind f ≡ text_kind g)
    (λ l p q. absurd (limit_alike l f kind (one bytes (text.Limit l) f (q, λ e. cc) (p, told_as_misspelled f kind))))
    (λ g also p q. kind ∙ sym also))

module _ (excludes : FaultsExclude) (faults_one : FaultsAreOne) (one : ModulesAreOne) (faultless : ShapelyModulesAreFaultless) (bytes : List ℕ) (short : length bytes ≤ text_limit) where
  pub kinds : (f g : ModuleFault) → IsModuleFault bytes f → f ≢ fault.Memory → IsModuleFault bytes g → g ≢ fault.Memory → fault_kind f ≡ fault_kind g
  kinds fault.Memory g p said q also = absurd (said refl)
  kinds (fault.Text f) fault.Memory p said q also = absurd (also refl)
  kinds (fault.Text f) (fault.Text g) p said q also = text_kinds bytes faults_one f p.1 g q.1 p.0 q.0
  kinds (fault.Text f) (fault.Shape g) p said q also = absurd (excludes bytes f q.0 short p q.1)
  kinds (fault.Text f) (fault.Undefined function u) p said q also = absurd (excludes bytes f q.0 short p q.1)
  kinds (fault.Shape f) fault.Memory p said q also = absurd (also refl)
  kinds (fault.Shape f) (fault.Text g) p said q also = absurd (excludes bytes g p.0 short q p.1)
  kinds (fault.Shape f) (fault.Shape g) p said q also = refl
  kinds (fault.Shape f) (fault.Undefined function u) p said q also = refl
  kinds (fault.Undefined function u) fault.Memory p said q also = absurd (also refl)
  kinds (fault.Undefined function u) (fault.Text g) p said q also = absurd (excludes bytes g p.0 short q p.1)
  kinds (fault.Undefined function u) (fault.Shape f) p said q also = refl
  kinds (fault.Undefined function u) (fault.Undefined other v) p said q also = refl

  no_fault : (m other : Module) (f : ShapeFault) → other ≡ m → first_fault m ≡ None → first_fault other ≡ Some f → ⊥
  no_fault m other f same none some = let e = sym (ap first_fault same ∙ none) ∙ some in cc

  none_without : (P : Function → Type 0) (m other : Module) (f : Function) → other ≡ m → AllByRecursion P m.functions → FirstWithout P other.functions f → ⊥
  none_without P m other f same all first =
      let here : AllByRecursion P (first.before ++ (f ∷ first.after)) = subst (AllByRecursion P) (ap (λ (x : Module). x.functions) (sym same) ∙ first.functions) all in
      first.not_such (of_all P first.before f first.after here)

  pub no_module : (f : ModuleFault) (m : Module) → IsModuleFault bytes f → f ≢ fault.Memory → SpellsWellFormed bytes m → ⊥
  no_module fault.Memory m p said s = said refl
  no_module (fault.Text f) m p said s = excludes bytes f m short p s.0
  no_module (fault.Shape f) m (other, spells, first) said s =
      no_fault m other f (one bytes other m spells s.0) (faultless m s.1.shape) first
  no_module (fault.Undefined function u) m (other, spells, none, (f, first, undefined, e)) said s =
      none_without _ m other f (one bytes other m spells s.0) s.1.defined first
