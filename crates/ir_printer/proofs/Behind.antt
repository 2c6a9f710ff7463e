-- Texts behind others, with a blank line between any two.
use Rattle.std.proofs.Common.{◌≡◌, ◌∙◌, ◌++◌, ◌∷◌, [], ◌<◌, ◌+◌, ℕ, List, length, map, drop, get_or, refl, sym, ap}
use Rattle.std.proofs.lemmas.List.{drop_more}
use Rattle.ir_core.specs.declared.functions.Function.{Function}
use Rattle.ir_core.specs.declared.modules.Declaration.{Declaration}
use Rattle.ir_printer.specs.Printed.{all_behind, blanked, declaration_text, function_text, function_texts}
use Rattle.ir_core.specs.Modules.{those_before, those_behind}

pub drop_at : {X : Type 0} (xs : List X) (i : ℕ) (x : X) → i < length xs → x ≡ get_or xs i x → drop i xs ≡ x ∷ drop (i + 1) xs
drop_at xs i x within is = drop_more xs i x within ∙ ap (λ y. y ∷ drop (i + 1) xs) (sym is)

pub behind_both : (t : List ℕ) (xs ys : List (List ℕ)) → all_behind t (xs ++ ys) ≡ all_behind (all_behind t xs) ys
behind_both t [] ys = refl
behind_both t (x ∷ xs) ys = behind_both (blanked t ++ x) xs ys

-- ---- definitions and declarations

-- the declarations before a definition, and the definition
pub one_function : (declared : List Declaration) (t at blank new : List ℕ) (n : ℕ) (ds rest : List Declaration) (f : Function) (fs more : List Function)
    → fs ≡ f ∷ more
    → at ≡ all_behind t (map declaration_text (those_before n ds))
    → rest ≡ those_behind n ds
    → blank ≡ blanked at
    → new ≡ blank ++ function_text declared f
    → all_behind new (function_texts declared (n + 1) rest more) ≡ all_behind t (function_texts declared n ds fs)
one_function declared t at blank new n ds rest f fs more is first left empty last =
    let before = map declaration_text (those_before n ds) in
    ap (λ d. all_behind new (function_texts declared (n + 1) d more)) left
    ∙ ap (λ text. all_behind text (function_texts declared (n + 1) (those_behind n ds) more)) (last ∙ ap (λ b. b ++ function_text declared f) (empty ∙ ap blanked first))
    ∙ sym (behind_both t before (function_text declared f ∷ function_texts declared (n + 1) (those_behind n ds) more))
    ∙ ap (λ gs. all_behind t (function_texts declared n ds gs)) (sym is)

abbrev pub behind_before : ℕ → List ℕ → List Declaration → List ℕ
behind_before count t ds = all_behind t (map declaration_text (those_before count ds))
