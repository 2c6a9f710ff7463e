-- Examples of what passes the limit on blocks, and where: what stands in memory may have 2^31 bytes.
use Rattle.std.specs.Prelude.{◌≡◌, ◌+◌, ℕ, false, List, [], ◌∷◌, None, Some}
use Rattle.module_grammar.specs.declared.constants.ConstText as const
use Rattle.module_grammar.specs.declared.constants.InitText as init
use Rattle.module_grammar.specs.declared.constants.OperandText.{OperandText}
use Rattle.module_grammar.specs.declared.constants.ValueText.TheVariants as value
use Rattle.module_grammar.specs.declared.items.ItemText.{ItemText}
use Rattle.module_grammar.specs.declared.types.TypeText.{TypeText}
use Rattle.module_spelling.specs.Blocks.{large_places}
use Rattle.module_texts.specs.NamedModuleLaws.Words.{alloca, array, element, external, global, i8, integer, named, number, of_lines, of_name, operand, plus, pointer, positive, setting, x, z}
use Rattle.named_modules.specs.Built.{module_of}
use Rattle.named_modules.specs.Faults.{heads_of}
use Rattle.module_texts.specs.NamedModuleLaws.Words.{no_params}

abbrev pub large : List ItemText → List ℕ
large items = large_places (heads_of (module_of no_params (record { items = items }))) (record { items = items })

-- `[0 x [2147483649 x i8]]` from there on, which is of no bytes
abbrev pub none_of_many : ℕ → TypeText
none_of_many start = array start (positive 0 (start + 1) (start + 2)) (array (start + 5) (positive 2147483649 (start + 6) (start + 16)) (i8 (start + 19)))

-- a pointer to it
abbrev pub nowhere : ℕ → OperandText
nowhere start = operand (pointer (start + 23) (none_of_many start)) (value.Const (const.Null (start + 25)))

abbrev pub zero_index : ℕ → OperandText
zero_index start = operand (integer 64 start) (value.Const (number 0 (start + 4) (start + 5)))

pub record BlocksAreTold : Type 0 where
  -- `@x = global [2147483648 x i8] undef`
  pub just_allowed : large (global 0 x (array 12 (positive 2147483648 13 23) (i8 26)) (init.Const const.Undef) ∷ []) ≡ []
  -- `@x = global [2147483649 x i8] undef`
  pub one_more : large (global 0 x (array 12 (positive 2147483649 13 23) (i8 26)) (init.Const const.Undef) ∷ []) ≡ 12 ∷ []
  -- `@x = external global [2147483649 x i8]`
  pub elsewhere : large (external 0 x (array 21 (positive 2147483649 22 32) (i8 35)) ∷ []) ≡ 21 ∷ []
  -- `@x = global [2147483649 x i8]* undef`
  pub behind_pointer : large (global 0 x (pointer 29 (array 12 (positive 2147483649 13 23) (i8 26))) (init.Const const.Undef) ∷ []) ≡ []
  -- `@x = global [2147483649 x %z] undef`
  pub unknown : large (global 0 x (array 12 (positive 2147483649 13 23) (of_name (named 26 z))) (init.Const const.Undef) ∷ []) ≡ []
  -- `%z = alloca i8, i64 2147483649` at 32
  pub allocated :
      large (of_lines (setting (named 32 z) (alloca (i8 44) (Some (record { ty = integer 64 48; number = plus 2147483649 52 62 })) None) ∷ []))
      ≡ 44 ∷ []
  -- `%z = alloca i8, i8 300` at 32
  pub allocated_by_no_number :
      large (of_lines (setting (named 32 z) (alloca (i8 44) (Some (record { ty = i8 48; number = plus 300 51 54 })) None) ∷ [])) ≡ []
  -- `%z = getelementptr [0 x [2147483649 x i8]], [0 x [2147483649 x i8]]* null, i64 0` at 32
  pub stepped_over : large (of_lines (setting (named 32 z) (element 37 false (none_of_many 51) (nowhere 76) (zero_index 107 ∷ [])) ∷ [])) ≡ []
  -- the same with `, i64 0` behind it, by which the large array is entered
  pub entered :
      large (of_lines (setting (named 32 z) (element 37 false (none_of_many 51) (nowhere 76) (zero_index 107 ∷ zero_index 114 ∷ [])) ∷ [])) ≡ 51 ∷ []
  -- `@x = global i8* getelementptr ([0 x [2147483649 x i8]], [0 x [2147483649 x i8]]* null, i64 0, i64 0)`
  pub entered_in_constant :
      large
      (global 0 x (pointer 14 (i8 12))
      (init.Const
      (const.Element 16 false
      (none_of_many 31, pointer 79 (none_of_many 56), const.Null 81, (integer 64 87, number 0 91 92) ∷ (integer 64 94, number 0 98 99) ∷ [])))
      ∷ [])
      ≡ 31 ∷ []
