-- The type that is built of a type with stars behind it.
use Rattle.std.proofs.Common.{◌≡◌, ◌∙◌, ℕ, List, [], ◌∷◌, ap, refl}
use Rattle.module_grammar.specs.declared.types.TypeText.{TypeText, Ptr}
use Rattle.module_grammar.specs.Joined.{pointers_to}
use Rattle.module_walk.specs.Stars.{pointers_from}
use Rattle.named_modules.specs.Types.{type_of}
use Rattle.named_modules.proofs.BuiltTypes.{of_ptr}

pub of_pointers : (t : TypeText) (stars : List ℕ) → type_of (pointers_to t stars) ≡ pointers_from (type_of t) stars
of_pointers t [] = refl
of_pointers t (at ∷ more) = of_pointers (Ptr at t) more ∙ ap (λ u. pointers_from u more) (of_ptr at t)
