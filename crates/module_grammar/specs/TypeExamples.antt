-- Examples of how types are written.
use Rattle.std.specs.Prelude.{◌≡◌, true, false, [], ◌∷◌, Some, None}
use Rattle.module_grammar.specs.AtPlaces.{number_at, width_at, x_at, i8_at, i1_at}
use Rattle.module_grammar.specs.Symbols as symbol
use Rattle.module_grammar.specs.Types as write
use Rattle.module_grammar.specs.declared.types.TypeText as type_text

pub record TypesAreWritten : Type 0 where
  -- `i8`
  pub int : write.ty (i8_at 0 2) ≡ symbol.Width (width_at 8 0 2) ∷ []
  -- `%x`
  pub named : write.ty (type_text.Named (x_at 0 2)) ≡ symbol.Local (x_at 0 2) ∷ []
  -- `i8*`
  pub pointer : write.ty (type_text.Ptr 2 (i8_at 0 2)) ≡ symbol.Width (width_at 8 0 2) ∷ symbol.Star 2 ∷ []
  -- `%x**`
  pub pointers :
      write.ty
      (type_text.Ptr 3 (type_text.Ptr 2 (type_text.Named (x_at 0 2))))
      ≡ symbol.Local (x_at 0 2) ∷ symbol.Star 2 ∷ symbol.Star 3 ∷ []
  -- `[7 x i8]`
  pub array :
      write.ty
      (type_text.Array 0 (number_at 7 1 2, i8_at 5 7))
      ≡ symbol.Bracket 0 ∷ symbol.Numeral (number_at 7 1 2) ∷ symbol.times ∷ symbol.Width (width_at 8 5 7) ∷ symbol.close_bracket ∷ []
  -- `{}`
  pub no_fields : write.ty (type_text.Struct 0 []) ≡ symbol.Brace 0 ∷ symbol.close_brace ∷ []
  -- `{i8, [0 x i1]*}`
  pub fields :
      write.ty
      (type_text.Struct 0 (i8_at 1 3 ∷ type_text.Ptr 13 (type_text.Array 5 (number_at 0 6 7, i1_at 10 12)) ∷ []))
      ≡ symbol.Brace 0 ∷ symbol.Width (width_at 8 1 3) ∷ symbol.comma ∷ symbol.Bracket 5 ∷ symbol.Numeral (number_at 0 6 7)
      ∷ symbol.times ∷ symbol.Width (width_at 1 10 12) ∷ symbol.close_bracket ∷ symbol.Star 13 ∷ symbol.close_brace ∷ []
  -- nothing
  pub no_function_type : write.function_type None ≡ []
  -- `()`
  pub no_params : write.function_type (Some (record { types = []; is_open = false })) ≡ symbol.open_paren ∷ symbol.close_paren ∷ []
  -- `(i8, i1)`
  pub params :
      write.function_type
      (Some (record { types = i8_at 1 3 ∷ i1_at 5 7 ∷ []; is_open = false }))
      ≡ symbol.open_paren ∷ symbol.Width (width_at 8 1 3) ∷ symbol.comma ∷ symbol.Width (width_at 1 5 7) ∷ symbol.close_paren ∷ []
  -- `(...)`
  pub open_alone :
      write.function_type
      (Some (record { types = []; is_open = true }))
      ≡ symbol.open_paren ∷ symbol.dots ∷ symbol.close_paren ∷ []
  -- `(i8, ...)`
  pub open_end :
      write.function_type
      (Some (record { types = i8_at 1 3 ∷ []; is_open = true }))
      ≡ symbol.open_paren ∷ symbol.Width (width_at 8 1 3) ∷ symbol.comma ∷ symbol.dots ∷ symbol.close_paren ∷ []
