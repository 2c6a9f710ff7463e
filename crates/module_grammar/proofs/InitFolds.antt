-- How an initialiser is written at each kind of initialiser, and what holds of each initialiser where it holds of those in it.
use Rattle.std.proofs.Common.{◌≡◌, ◌∙◌, ℕ, List, [], ◌∷◌, ◌++◌, map, refl, sym, ap, subst}
use Rattle.std.specs.List.{AllByRecursion}
use Rattle.module_grammar.specs.declared.constants.ConstText.{ConstText}
use Rattle.module_grammar.specs.declared.constants.InitText.{InitText, InitText-F, Const, Zero, Bytes, Array, Struct, roll-InitText, map-InitText, ind-InitText, fold-roll-InitText}
use Rattle.module_grammar.specs.declared.constants.InitText.TheOpen as level
use Rattle.module_grammar.specs.declared.constants.InitText.TheViews.{rolls-Const, rolls-Zero, rolls-Bytes, rolls-Array, rolls-Struct}
use Rattle.module_grammar.specs.declared.places.Placed.{Placed}
use Rattle.module_grammar.specs.declared.types.TypeText.{TypeText}
use Rattle.module_grammar.specs.Constants.{const, init, init_of_parts, inits, typed, typed_init}
use Rattle.module_grammar.specs.Listed.{listed}
use Rattle.module_grammar.specs.Symbols.{Symbol, Bracket, Brace, close_bracket, close_brace, zeroinitializer}
use Rattle.module_grammar.specs.Symbols as symbol

pub at_const : (c : ConstText) → init (Const c) ≡ const c
at_const c = ap init (sym (rolls-Const c)) ∙ fold-roll-InitText (List Symbol) init_of_parts (level.Const c)

pub at_zero : init Zero ≡ zeroinitializer ∷ []
at_zero = ap init (sym rolls-Zero) ∙ fold-roll-InitText (List Symbol) init_of_parts level.Zero

pub at_bytes : (bytes : Placed (List ℕ)) → init (Bytes bytes) ≡ symbol.c ∷ symbol.Bytes bytes ∷ []
at_bytes bytes = ap init (sym (rolls-Bytes bytes)) ∙ fold-roll-InitText (List Symbol) init_of_parts (level.Bytes bytes)

-- each initialiser behind its type
written_each : (parts : List (TypeText × InitText)) → map typed (map (λ i. (i.0, init i.1)) parts) ≡ map typed_init parts
written_each [] = refl
written_each (i ∷ parts) = ap (λ l. typed_init i ∷ l) (written_each parts)

pub at_array : (at : ℕ) (parts : List (TypeText × InitText)) → init (Array at parts) ≡ Bracket at ∷ (inits parts ++ (close_bracket ∷ []))
at_array at parts =
    ap init (sym (rolls-Array at parts)) ∙ fold-roll-InitText (List Symbol) init_of_parts (level.Array at parts)
    ∙ ap (λ l. Bracket at ∷ (listed l ++ (close_bracket ∷ []))) (written_each parts)

pub at_struct : (at : ℕ) (parts : List (TypeText × InitText)) → init (Struct at parts) ≡ Brace at ∷ (inits parts ++ (close_brace ∷ []))
at_struct at parts =
    ap init (sym (rolls-Struct at parts)) ∙ fold-roll-InitText (List Symbol) init_of_parts (level.Struct at parts)
    ∙ ap (λ l. Brace at ∷ (listed l ++ (close_brace ∷ []))) (written_each parts)

-- each of the initialisers behind their types
abbrev pub EachOf : (InitText → Type 0) → List (TypeText × InitText) → Type 0
EachOf P = AllByRecursion (λ (p : TypeText × InitText). P p.1)

module _ (P : InitText → Type 0) where
  all_of : (es : List (TypeText × ((i : InitText) × P i))) → EachOf P (map (λ e. (e.0, e.1.0)) es)
  all_of [] = tt
  all_of (e ∷ es) = (e.1.1, all_of es)

  module _
      (constant : (c : ConstText) → P (Const c))
      (zero : P Zero)
      (bytes : (bs : Placed (List ℕ)) → P (Bytes bs))
      (array : (at : ℕ) (parts : List (TypeText × InitText)) → EachOf P parts → P (Array at parts))
      (struct : (at : ℕ) (parts : List (TypeText × InitText)) → EachOf P parts → P (Struct at parts))
    where
      at_level : (y : InitText-F ((i : InitText) × P i)) → P (roll-InitText (map-InitText ((i : InitText) × P i) InitText (λ e. e.0) y))
      at_level (level.Const c) = subst P (sym (rolls-Const c)) (constant c)
      at_level level.Zero = subst P (sym rolls-Zero) zero
      at_level (level.Bytes bs) = subst P (sym (rolls-Bytes bs)) (bytes bs)
      at_level (level.Array at es) =
          subst P (sym (rolls-Array at (map (λ e. (e.0, e.1.0)) es))) (array at (map (λ e. (e.0, e.1.0)) es) (all_of es))
      at_level (level.Struct at es) =
          subst P (sym (rolls-Struct at (map (λ e. (e.0, e.1.0)) es))) (struct at (map (λ e. (e.0, e.1.0)) es) (all_of es))

      pub by_parts : (i : InitText) → P i
      by_parts = ind-InitText P (λ x y is. subst (λ z. P (roll-InitText z)) is (at_level y))
