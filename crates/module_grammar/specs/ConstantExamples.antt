-- Examples of how constants, initialisers and values are written.
use Rattle.std.specs.Prelude.{◌≡◌, true, false, [], ◌∷◌}
use Rattle.module_grammar.specs.AtPlaces.{number_at, width_at, true_at, bytes_at, x_at, debug_at, i8_at, i1_at, const_at}
use Rattle.module_grammar.specs.Constants as write
use Rattle.module_grammar.specs.Symbols as symbol
use Rattle.module_grammar.specs.declared.constants.ConstText as const
use Rattle.module_grammar.specs.declared.constants.GlobalNameText.TheVariants as global_name
use Rattle.module_grammar.specs.declared.constants.InitText as init
use Rattle.module_grammar.specs.declared.constants.IntText.TheVariants as integer
use Rattle.module_grammar.specs.declared.constants.Tag.TheVariants.{Ghost}
use Rattle.module_grammar.specs.declared.constants.Tag.TheVariants.{Old}
use Rattle.module_grammar.specs.declared.constants.ValueText.TheVariants as value
use Rattle.module_grammar.specs.declared.types.TypeText as type_text

pub record ConstantsAreWritten : Type 0 where
  -- `7`
  pub number : write.const (const_at 7 0 1) ≡ symbol.Numeral (number_at 7 0 1) ∷ []
  -- `true`
  pub truth : write.const (const.Int (integer.Truth (true_at 0 4))) ≡ symbol.Truth (true_at 0 4) ∷ []
  -- `null`
  pub null : write.const (const.Null 0) ≡ symbol.Null 0 ∷ []
  -- `undef`
  pub undef : write.const const.Undef ≡ symbol.undef ∷ []
  -- `@x`
  pub global : write.const (const.Global (global_name.Plain (x_at 0 2))) ≡ symbol.Global (x_at 0 2) ∷ []
  -- `@llvm.dbg.x`
  pub debug_name : write.const (const.Global (global_name.Debug (debug_at 0 11))) ≡ symbol.Debug (debug_at 0 11) ∷ []
  -- `getelementptr inbounds (i8, i8* @x)`
  pub address :
      write.const
      (const.Element 0 true (i8_at 24 26, type_text.Ptr 30 (i8_at 28 30), const.Global (global_name.Plain (x_at 32 34)), []))
      ≡ symbol.Element 0 ∷ symbol.inbounds ∷ symbol.open_paren ∷ symbol.Width (width_at 8 24 26) ∷ symbol.comma
      ∷ symbol.Width (width_at 8 28 30) ∷ symbol.Star 30 ∷ symbol.Global (x_at 32 34) ∷ symbol.close_paren ∷ []
  -- `getelementptr ([7 x i8], [7 x i8]* @x, i8 0, i8 7)`
  pub element :
      write.const
      (const.Element
      0
      false (
        type_text.Array 15 (number_at 7 16 17, i8_at 20 22),
        type_text.Ptr 33 (type_text.Array 25 (number_at 7 26 27, i8_at 30 32)),
        const.Global (global_name.Plain (x_at 35 37)),
        (i8_at 39 41, const_at 0 42 43) ∷ (i8_at 45 47, const_at 7 48 49) ∷ [],
      ))
      ≡ symbol.Element 0 ∷ symbol.open_paren ∷ symbol.Bracket 15 ∷ symbol.Numeral (number_at 7 16 17) ∷ symbol.times
      ∷ symbol.Width (width_at 8 20 22) ∷ symbol.close_bracket ∷ symbol.comma ∷ symbol.Bracket 25
      ∷ symbol.Numeral (number_at 7 26 27) ∷ symbol.times ∷ symbol.Width (width_at 8 30 32) ∷ symbol.close_bracket ∷ symbol.Star 33
      ∷ symbol.Global (x_at 35 37) ∷ symbol.comma ∷ symbol.Width (width_at 8 39 41) ∷ symbol.Numeral (number_at 0 42 43)
      ∷ symbol.comma ∷ symbol.Width (width_at 8 45 47) ∷ symbol.Numeral (number_at 7 48 49) ∷ symbol.close_paren ∷ []
  -- `bitcast (i8* @x to i1*)`
  pub cast :
      write.const
      (const.Cast 0 (type_text.Ptr 11 (i8_at 9 11), const.Global (global_name.Plain (x_at 13 15)), type_text.Ptr 21 (i1_at 19 21)))
      ≡ symbol.BitCast 0 ∷ symbol.open_paren ∷ symbol.Width (width_at 8 9 11) ∷ symbol.Star 11 ∷ symbol.Global (x_at 13 15)
      ∷ symbol.to ∷ symbol.Width (width_at 1 19 21) ∷ symbol.Star 21 ∷ symbol.close_paren ∷ []
  -- `bitcast (i8* bitcast (i1* null to i8*) to i1*)`
  pub nested :
      write.const
      (const.Cast
      0 (
        type_text.Ptr 11 (i8_at 9 11),
        const.Cast 13 (type_text.Ptr 24 (i1_at 22 24), const.Null 26, type_text.Ptr 36 (i8_at 34 36)),
        type_text.Ptr 44 (i1_at 42 44),
      ))
      ≡ symbol.BitCast 0 ∷ symbol.open_paren ∷ symbol.Width (width_at 8 9 11) ∷ symbol.Star 11 ∷ symbol.BitCast 13 ∷ symbol.open_paren
      ∷ symbol.Width (width_at 1 22 24) ∷ symbol.Star 24 ∷ symbol.Null 26 ∷ symbol.to ∷ symbol.Width (width_at 8 34 36)
      ∷ symbol.Star 36 ∷ symbol.close_paren ∷ symbol.to ∷ symbol.Width (width_at 1 42 44) ∷ symbol.Star 44 ∷ symbol.close_paren ∷ []
  -- `7`
  pub const_init : write.init (init.Const (const_at 7 0 1)) ≡ symbol.Numeral (number_at 7 0 1) ∷ []
  -- `zeroinitializer`
  pub zero : write.init init.Zero ≡ symbol.zeroinitializer ∷ []
  -- `c"x"`
  pub bytes : write.init (init.Bytes (bytes_at 1 4)) ≡ symbol.c ∷ symbol.Bytes (bytes_at 1 4) ∷ []
  -- `[]`
  pub empty_array : write.init (init.Array 0 []) ≡ symbol.Bracket 0 ∷ symbol.close_bracket ∷ []
  -- `[i8 7, i8 undef]`
  pub array :
      write.init
      (init.Array 0 ((i8_at 1 3, init.Const (const_at 7 4 5)) ∷ (i8_at 7 9, init.Const const.Undef) ∷ []))
      ≡ symbol.Bracket 0 ∷ symbol.Width (width_at 8 1 3) ∷ symbol.Numeral (number_at 7 4 5) ∷ symbol.comma
      ∷ symbol.Width (width_at 8 7 9) ∷ symbol.undef ∷ symbol.close_bracket ∷ []
  -- `{i8 7, {i1} {i1 true}}`
  pub struct :
      write.init
      (init.Struct
      0
      ((i8_at 1 3, init.Const (const_at 7 4 5))
      ∷ (
        type_text.Struct 7 (i1_at 8 10 ∷ []),
        init.Struct 12 ((i1_at 13 15, init.Const (const.Int (integer.Truth (true_at 16 20)))) ∷ []),
      )
      ∷ []))
      ≡ symbol.Brace 0 ∷ symbol.Width (width_at 8 1 3) ∷ symbol.Numeral (number_at 7 4 5) ∷ symbol.comma ∷ symbol.Brace 7
      ∷ symbol.Width (width_at 1 8 10) ∷ symbol.close_brace ∷ symbol.Brace 12 ∷ symbol.Width (width_at 1 13 15)
      ∷ symbol.Truth (true_at 16 20) ∷ symbol.close_brace ∷ symbol.close_brace ∷ []
  -- `%x`
  pub local : write.value (value.Local (x_at 0 2)) ≡ symbol.Local (x_at 0 2) ∷ []
  -- `i8* null`
  pub operand :
      write.operand
      (record { ty = type_text.Ptr 2 (i8_at 0 2); value = value.Const (const.Null 4) })
      ≡ symbol.Width (width_at 8 0 2) ∷ symbol.Star 2 ∷ symbol.Null 4 ∷ []
  -- `i8 old %x`
  pub old :
      write.operand
      (record { ty = i8_at 0 2; value = value.Tagged Old (x_at 7 9) })
      ≡ symbol.Width (width_at 8 0 2) ∷ symbol.old ∷ symbol.Local (x_at 7 9) ∷ []
  -- `i8 ghost %x`
  pub ghost :
      write.operand
      (record { ty = i8_at 0 2; value = value.Tagged Ghost (x_at 9 11) })
      ≡ symbol.Width (width_at 8 0 2) ∷ symbol.ghost ∷ symbol.Local (x_at 9 11) ∷ []
