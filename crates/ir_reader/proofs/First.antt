-- The first function that isn't such.
use Rattle.std.proofs.Common.{◌≡◌, ℕ, ◌<◌, suc, zero, List, [], ◌∷◌, ◌++◌, length, take, get_or, refl, sym, ap, ◌∙◌, subst, arith}
use Rattle.std.specs.List.{AllByRecursion}
use Rattle.ir_core.specs.declared.functions.Function.{Function}
use Rattle.ir_reader.specs.Faults.{FirstWithout}

further : (P : Function → Type 0) (g : Function) (fs : List Function) (f : Function) → P g → FirstWithout P fs f → FirstWithout P (g ∷ fs) f
further P g fs f such first = record {
  before = g ∷ first.before;
  after = first.after;
  functions = ap (λ xs. g ∷ xs) first.functions;
  such = (such, first.such);
  not_such = first.not_such;
}

here : (P : Function → Type 0) (f : Function) (fs : List Function) → (P f → ⊥) → FirstWithout P (f ∷ fs) f
here P f fs not_such = record { before = []; after = fs; functions = refl; such = tt; not_such = not_such }

-- all before this index are such, and the one there isn't
pub first_at : (P : Function → Type 0) (fs : List Function) (k : ℕ) (f : Function) → k < length fs → f ≡ get_or fs k f → AllByRecursion P (take k fs) → (P f → ⊥)
    → FirstWithout P fs f
first_at P [] k f within at such not_such = absurd (omega arith)
first_at P (g ∷ fs) zero f within at such not_such = subst (λ x. FirstWithout P (x ∷ fs) f) at (here P f fs not_such)
first_at P (g ∷ fs) (suc k) f within at such not_such = further P g fs f such.0 (first_at P fs k f (omega arith) at such.1 not_such)

-- one more that is such
pub one_more_such : (P : Function → Type 0) (fs : List Function) (k : ℕ) (f : Function) → k < length fs → f ≡ get_or fs k f → AllByRecursion P (take k fs) → P f
    → AllByRecursion P (take (suc k) fs)
one_more_such P [] k f within at all such = absurd (omega arith)
one_more_such P (g ∷ fs) zero f within at all such = (subst P at such, tt)
one_more_such P (g ∷ fs) (suc k) f within at all such = (all.0, one_more_such P fs k f (omega arith) at all.1 such)

-- what is so of a whole list is so of one in it
pub of_all : {A : Type 0} (P : A → Type 0) (before : List A) (x : A) (after : List A) → AllByRecursion P (before ++ (x ∷ after)) → P x
of_all P [] x after all = all.0
of_all P (y ∷ before) x after all = of_all P before x after all.1

pub all_at : (P : Function → Type 0) (fs : List Function) (k : ℕ) (f : Function) → k < length fs → f ≡ get_or fs k f → AllByRecursion P fs → P f
all_at P [] k f within at all = absurd (omega (arith, within))
all_at P (g ∷ fs) zero f within at all = subst P (sym at) all.0
all_at P (g ∷ fs) (suc k) f within at all = all_at P fs k f (omega (arith, within)) at all.1

first_of_two : (P : Function → Type 0) (before others after behind : List Function) (f g : Function) → before ++ (f ∷ after) ≡ others ++ (g ∷ behind)
    → AllByRecursion P before → AllByRecursion P others → (P f → ⊥) → (P g → ⊥) → f ≡ g
first_of_two P [] [] after behind f g same such also not_f not_g = cc
first_of_two P [] (h ∷ others) after behind f g same such also not_f not_g = let e : h ≡ f = cc in absurd (not_f (subst P e also.0))
first_of_two P (h ∷ before) [] after behind f g same such also not_f not_g = let e : h ≡ g = cc in absurd (not_g (subst P e such.0))
first_of_two P (h ∷ before) (k ∷ others) after behind f g same such also not_f not_g =
    let rest : before ++ (f ∷ after) ≡ others ++ (g ∷ behind) = cc in first_of_two P before others after behind f g rest such.1 also.1 not_f not_g

-- one function is the first that isn't such
pub first_is_one : (P : Function → Type 0) (fs : List Function) (f g : Function) → FirstWithout P fs f → FirstWithout P fs g → f ≡ g
first_is_one P fs f g one other =
    first_of_two P one.before other.before one.after other.after f g (sym one.functions ∙ other.functions) one.such other.such one.not_such other.not_such
