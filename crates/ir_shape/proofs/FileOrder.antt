-- Definitions and declarations in the order of the file.
use Rattle.std.proofs.Common.{◌≡◌, ◌∙◌, ℕ, ◌+◌, ◌<◌, List, [], ◌∷◌, ◌++◌, length, drop, get_or, append_assoc, sym, ap}
use Rattle.std.proofs.lemmas.List.{drop_more}
use Rattle.ir_core.specs.declared.functions.Function.{Function}
use Rattle.ir_core.specs.declared.modules.Declaration.{Declaration}
use Rattle.ir_core.specs.declared.modules.Module.{Module}
use Rattle.ir_core.specs.Modules.{those_before, those_behind}
use Rattle.ir_types.specs.declared.names.Name.{Name}
use Rattle.ir_core.specs.NameIndexes.Among.{is_among}
use Rattle.ir_typing.specs.ShapeKinds.Names.{with_name}
use Rattle.ir_shape.specs.declared.fault.ShapeEnd.{ShapeEnd}
use Rattle.ir_shape.specs.declared.fault.ShapeFault.{ShapeFault}
use Rattle.ir_shape.specs.Next.{in_next}
use Rattle.ir_shape.specs.Shape.{IsFirstOf, in_declarations, in_function, in_functions, with_declared}
use Rattle.ir_shape.proofs.Found.{in_that}

abbrev names_behind : List Name → ℕ → List Declaration → Function → List Name
names_behind taken n ds f = with_name (with_declared taken (those_before n ds)) f.name

-- a definition with the declarations before it, and then the others
next_and_others : (m : Module) (taken : List Name) (n : ℕ) (ds : List Declaration) (f : Function) (fs : List Function)
    → in_functions m taken n ds (f ∷ fs) ≡ in_next m taken (those_before n ds) f ++ in_functions m (names_behind taken n ds f) (n + 1) (those_behind n ds) fs
next_and_others m taken n ds f fs =
    sym (append_assoc (in_declarations m taken (those_before n ds)) (in_function m (is_among f.name (with_declared taken (those_before n ds))) f)
    (in_functions m (names_behind taken n ds f) (n + 1) (those_behind n ds) fs))

-- where that one has none
pub one_function : (m : Module) (taken new : List Name) (n : ℕ) (ds rest : List Declaration) (fs : List Function) (f : Function) (whole : List ShapeFault)
    → n < length fs → f ≡ get_or fs n f → in_next m taken (those_before n ds) f ≡ [] → new ≡ names_behind taken n ds f → rest ≡ those_behind n ds
    → in_functions m taken n ds (drop n fs) ≡ whole → in_functions m new (n + 1) rest (drop (n + 1) fs) ≡ whole
one_function m taken new n ds rest fs f whole within at none names left so_far =
    let others = drop (n + 1) fs in
    ap (λ (ns : List Name). in_functions m ns (n + 1) rest others) names
    ∙ ap (λ (d : List Declaration). in_functions m (names_behind taken n ds f) (n + 1) d others) left
    ∙ sym (ap (λ (zs : List ShapeFault). zs ++ in_functions m (names_behind taken n ds f) (n + 1) (those_behind n ds) others) none)
    ∙ sym (next_and_others m taken n ds f others)
    ∙ sym (ap (in_functions m taken n ds) (drop_more fs n f within ∙ ap (λ (g : Function). g ∷ others) (sym at)))
    ∙ so_far

-- where it has one
pub in_that_function : (m : Module) (taken : List Name) (n : ℕ) (ds : List Declaration) (fs : List Function) (f : Function) (whole : List ShapeFault)
    → n < length fs → f ≡ get_or fs n f → in_functions m taken n ds (drop n fs) ≡ whole → (e : ShapeEnd) → IsFirstOf (in_next m taken (those_before n ds) f) e → IsFirstOf whole e
in_that_function m taken n ds fs f whole within at so_far =
    in_that (in_functions m taken n ds) (in_next m taken (those_before n ds) f) (in_functions m (names_behind taken n ds f) (n + 1) (those_behind n ds) (drop (n + 1) fs)) fs n f whole
    within at (next_and_others m taken n ds f (drop (n + 1) fs)) so_far
