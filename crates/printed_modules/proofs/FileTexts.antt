-- The texts of a module one behind another, with a blank line between any two, and definitions and declarations among them in the order of the file.
use Rattle.std.proofs.Common.{◌≡◌, ◌∙◌, ◌+◌, ℕ, Bool, true, false, cond, nat_le, List, [], ◌∷◌, ◌++◌, map, refl, sym, ap, append_assoc, append-nil}
use Rattle.std.specs.List.{AllByRecursion, flat_map}
use Rattle.ir_core.specs.declared.functions.Function.{Function}
use Rattle.ir_core.specs.declared.modules.Declaration.{Declaration}
use Rattle.ir_core.specs.declared.modules.Module.{Module}
use Rattle.ir_core.specs.Modules.{those_before, those_behind}
use Rattle.ir_printer.specs.Globals.{global_text}
use Rattle.ir_printer.specs.Printed.{all_behind, blanked, declaration_text, function_text, function_texts, group, named_type_text, printed_module}

-- a blank line, or nothing before the first text
abbrev pub blank : Bool → List ℕ
blank true = 10 ∷ []
blank false = []

-- each text, behind a blank line where there is one before it
abbrev pub joined : Bool → List (List ℕ) → List ℕ
joined behind [] = []
joined behind (t ∷ ts) = blank behind ++ (t ++ joined true ts)

-- a text that is something
abbrev pub IsSome : List ℕ → Type 0
IsSome t = blanked t ≡ t ++ 10 ∷ []

-- what ends with something is something
longer : (t more : List ℕ) → IsSome more → IsSome (t ++ more)
longer [] more some = some
longer (b ∷ t) more some = refl

behind_some : (t : List ℕ) (ts : List (List ℕ)) → IsSome t → AllByRecursion IsSome ts → all_behind t ts ≡ t ++ joined true ts
behind_some t [] some all = sym (append-nil t)
behind_some t (next ∷ ts) some all =
    ap (λ text. all_behind (text ++ next) ts) some
    ∙ behind_some ((t ++ 10 ∷ []) ++ next) ts (longer (t ++ 10 ∷ []) next all.0) all.1
    ∙ append_assoc (t ++ 10 ∷ []) next (joined true ts) ∙ append_assoc t (10 ∷ []) (next ++ joined true ts)

pub joined_is : (ts : List (List ℕ)) → AllByRecursion IsSome ts → all_behind [] ts ≡ joined false ts
joined_is [] all = refl
joined_is (t ∷ ts) all = behind_some t ts all.0 all.1

-- ---- definitions and declarations

-- a declaration that stands before the next definition
pub before_it :
    (declared : List Declaration) (count : ℕ) (d : Declaration) (ds : List Declaration) (f : Function) (fs : List Function) → nat_le d.before count ≡ true
    → function_texts declared count (d ∷ ds) (f ∷ fs) ≡ declaration_text d ∷ function_texts declared count ds (f ∷ fs)
before_it declared count d ds f fs is =
    ap (λ b. map declaration_text (cond b (d ∷ those_before count ds) []) ++ (function_text declared f ∷ function_texts declared (count + 1) (cond b (those_behind count ds) (d ∷ ds)) fs)) is

-- and one that stands behind it
pub behind_it :
    (declared : List Declaration) (count : ℕ) (d : Declaration) (ds : List Declaration) (f : Function) (fs : List Function) → nat_le d.before count ≡ false
    → function_texts declared count (d ∷ ds) (f ∷ fs) ≡ function_text declared f ∷ function_texts declared (count + 1) (d ∷ ds) fs
behind_it declared count d ds f fs is =
    ap (λ b. map declaration_text (cond b (d ∷ those_before count ds) []) ++ (function_text declared f ∷ function_texts declared (count + 1) (cond b (those_behind count ds) (d ∷ ds)) fs)) is

declarations_some : (ds : List Declaration) → AllByRecursion IsSome (map declaration_text ds)
declarations_some [] = tt
declarations_some (d ∷ ds) = (refl, declarations_some ds)

all_behind_them : (these those : List (List ℕ)) → AllByRecursion IsSome these → AllByRecursion IsSome those → AllByRecursion IsSome (these ++ those)
all_behind_them [] those first second = second
all_behind_them (a ∷ these) those first second = (first.0, all_behind_them these those first.1 second)

functions_some : (declared : List Declaration) (count : ℕ) (ds : List Declaration) (fs : List Function) → AllByRecursion IsSome (function_texts declared count ds fs)
functions_some declared count ds [] = declarations_some ds
functions_some declared count ds (f ∷ fs) =
    all_behind_them (map declaration_text (those_before count ds)) (function_text declared f ∷ function_texts declared (count + 1) (those_behind count ds) fs)
    (declarations_some (those_before count ds)) (refl, functions_some declared (count + 1) (those_behind count ds) fs)

-- a group whose texts are something
group_some : {A : Type 0} (text : A → List ℕ) → ((x : A) (more : List ℕ) → IsSome (text x ++ more)) → (xs : List A) → AllByRecursion IsSome (group text xs)
group_some text each [] = tt
group_some text each (x ∷ xs) = (each x (flat_map text xs), tt)

-- ---- modules

abbrev pub module_texts : Module → List (List ℕ)
module_texts m = group named_type_text m.types ++ (group global_text m.globals ++ function_texts m.declarations 0 m.declarations m.functions)

pub module_joined : (m : Module) → printed_module m ≡ joined false (module_texts m)
module_joined m =
    joined_is (module_texts m)
    (all_behind_them (group named_type_text m.types) (group global_text m.globals ++ function_texts m.declarations 0 m.declarations m.functions)
    (group_some named_type_text (λ t more. refl) m.types)
    (all_behind_them (group global_text m.globals) (function_texts m.declarations 0 m.declarations m.functions)
    (group_some global_text (λ g more. refl) m.globals) (functions_some m.declarations 0 m.declarations m.functions)))
