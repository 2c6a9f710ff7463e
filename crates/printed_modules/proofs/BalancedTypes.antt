-- The types of parameters that a call states are balanced text.
use Rattle.std.proofs.Common.{◌≡◌, ℕ, Bool, true, false, List, [], ◌∷◌, ◌++◌, map, append_assoc, refl, ap, sym, subst}
use Rattle.std.specs.List.{AllByRecursion}
use Rattle.ir_lexer.specs.declared.token.Number.{Number}
use Rattle.ir_types.specs.declared.names.Name.{Name}
use Rattle.module_grammar.specs.Balanced.{IsBalanced, nothing, token, parens, brackets, braces, is_plain}
use Rattle.module_grammar.specs.Listed.{further, listed}
use Rattle.module_grammar.specs.Symbols.{Symbol, Brace, Bracket, Local, Numeral, Star, Width, close_brace, close_bracket, close_paren, comma, dots, open_paren, times}
use Rattle.module_grammar.specs.Types.{called, open_end, ty, types}
use Rattle.module_grammar.specs.declared.places.Placed.{Placed}
use Rattle.module_grammar.specs.declared.types.CalledText.{CalledText}
use Rattle.module_grammar.specs.declared.types.TypeText.{TypeText, Int, Named, Ptr, Array, Struct}
use Rattle.module_grammar.proofs.TypeFolds.{at_array, at_int, at_named, at_ptr, at_struct, by_parts}

both_balanced : (a b : List Symbol) → IsBalanced a → IsBalanced b → IsBalanced (a ++ b)
both_balanced a b nothing second = second
both_balanced a b (token s more plain h) second = token s (more ++ b) plain (both_balanced more b h second)
both_balanced a b (parens inside more g h) second =
    subst IsBalanced (ap (λ l. open_paren ∷ l) (sym (append_assoc inside (close_paren ∷ more) b))) (parens inside (more ++ b) g (both_balanced more b h second))
both_balanced a b (brackets at inside more g h) second =
    subst IsBalanced (ap (λ l. Bracket at ∷ l) (sym (append_assoc inside (close_bracket ∷ more) b))) (brackets at inside (more ++ b) g (both_balanced more b h second))
both_balanced a b (braces at inside more g h) second =
    subst IsBalanced (ap (λ l. Brace at ∷ l) (sym (append_assoc inside (close_brace ∷ more) b))) (braces at inside (more ++ b) g (both_balanced more b h second))

-- a token that is no bracket, and more
then : (s : Symbol) (more : List Symbol) → is_plain s ≡ true → IsBalanced more → IsBalanced (s ∷ more)
then s more plain h = token s more plain h

further_balanced : (rows : List (List Symbol)) → AllByRecursion IsBalanced rows → IsBalanced (further rows)
further_balanced [] all = nothing
further_balanced (r ∷ rs) all = both_balanced (comma ∷ r) (further rs) (then comma r refl all.0) (further_balanced rs all.1)

listed_balanced : (rows : List (List Symbol)) → AllByRecursion IsBalanced rows → IsBalanced (listed rows)
listed_balanced [] all = nothing
listed_balanced (r ∷ rs) all = both_balanced r (further rs) all.0 (further_balanced rs all.1)

abbrev IsBalancedType : TypeText → Type 0
IsBalancedType t = IsBalanced (ty t)

of_int : (width : Placed ℕ) → IsBalancedType (Int width)
of_int width = subst IsBalanced (sym (at_int width)) (then (Width width) [] refl nothing)

of_named : (x : Placed Name) → IsBalancedType (Named x)
of_named x = subst IsBalanced (sym (at_named x)) (then (Local x) [] refl nothing)

of_ptr : (at : ℕ) (t : TypeText) → IsBalancedType t → IsBalancedType (Ptr at t)
of_ptr at t h = subst IsBalanced (sym (at_ptr at t)) (both_balanced (ty t) (Star at ∷ []) h (then (Star at) [] refl nothing))

of_array : (at : ℕ) (count : Placed Number) (t : TypeText) → IsBalancedType t → IsBalancedType (Array at (count, t))
of_array at count t h =
    subst IsBalanced (sym (at_array at count t))
    (brackets at (Numeral count ∷ times ∷ ty t) [] (then (Numeral count) (times ∷ ty t) refl (then times (ty t) refl h)) nothing)

rows_of : (ts : List TypeText) → AllByRecursion IsBalancedType ts → AllByRecursion IsBalanced (map ty ts)
rows_of [] all = tt
rows_of (t ∷ ts) all = (all.0, rows_of ts all.1)

of_struct : (at : ℕ) (ts : List TypeText) → AllByRecursion IsBalancedType ts → IsBalancedType (Struct at ts)
of_struct at ts all =
    subst IsBalanced (sym (at_struct at ts)) (braces at (types ts) [] (listed_balanced (map ty ts) (rows_of ts all)) nothing)

type_balanced : (t : TypeText) → IsBalancedType t
type_balanced = by_parts IsBalancedType of_int of_named of_ptr of_array of_struct

called_rows : (ts : List TypeText) (is_open : Bool) → AllByRecursion IsBalanced (map ty ts ++ open_end is_open)
called_rows [] true = (then dots [] refl nothing, tt)
called_rows [] false = tt
called_rows (t ∷ ts) is_open = (type_balanced t, called_rows ts is_open)

pub called_balanced : (c : CalledText) → IsBalanced (called c)
called_balanced c = listed_balanced (map ty c.types ++ open_end c.is_open) (called_rows c.types c.is_open)
