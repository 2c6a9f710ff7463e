-- What is at fault in numbers.
use Rattle.ir_types.specs.declared.names.Name.TheVariants.{Number}
use Rattle.module_grammar.specs.declared.constants.ConstText as const
use Rattle.module_grammar.specs.declared.constants.GlobalNameText.TheVariants as global_name
use Rattle.module_grammar.specs.declared.constants.InitText as init
use Rattle.module_grammar.specs.declared.constants.ValueText.TheVariants as text
use Rattle.module_grammar.specs.declared.flow.TermText.TheVariants as term
use Rattle.module_grammar.specs.declared.items.HeldText.TheVariants as held
use Rattle.module_grammar.specs.declared.items.HoldingWord.TheVariants.{Global as HeldGlobal}
use Rattle.name_claims.specs.declared.claims.Reason.TheVariants.{WrongType}
use Rattle.module_texts.specs.NamedModuleLaws.Words.{x, y, z, named, positive, negative, plus, minus, yes, i1, i8, pointer, array, number, operand, setting, bare, sum, alloca, load, store, case, block, holding, param, of_blocks, of_lines, global, faults, fault}
use Rattle.std.specs.Prelude.{◌≡◌, [], ◌∷◌, None, Some}

-- What numbers are of their types.
pub record NumbersAreTested : Type 0 where
  -- `@x = global i8 255`
  pub highest : faults (global 0 x (i8 12) (init.Const (number 255 15 18)) ∷ []) ≡ []
  -- `@x = global i8 -0`
  pub zero : faults (global 0 x (i8 12) (init.Const (const.Int (minus 0 15 17))) ∷ []) ≡ []
  -- `@x = global i8 256`
  pub too_high : faults (global 0 x (i8 12) (init.Const (number 256 15 18)) ∷ []) ≡ fault 15 18 WrongType ∷ []
  -- `@x = global i8 -128`
  pub lowest : faults (global 0 x (i8 12) (init.Const (const.Int (minus 128 15 19))) ∷ []) ≡ []
  -- `@x = global i8 -129`
  pub too_low : faults (global 0 x (i8 12) (init.Const (const.Int (minus 129 15 19))) ∷ []) ≡ fault 15 19 WrongType ∷ []
  -- `@x = global i1 true`
  pub truth : faults (global 0 x (i1 12) (init.Const (const.Int (yes 15))) ∷ []) ≡ []
  -- `@x = global i1 -1`
  pub one_bit : faults (global 0 x (i1 12) (init.Const (const.Int (minus 1 15 17))) ∷ []) ≡ []
  -- `@x = global i1 2`
  pub two : faults (global 0 x (i1 12) (init.Const (number 2 15 16)) ∷ []) ≡ fault 15 16 WrongType ∷ []
  -- `@x = global i8 true`
  pub truth_of_byte : faults (global 0 x (i8 12) (init.Const (const.Int (yes 15))) ∷ []) ≡ fault 15 19 WrongType ∷ []
  -- `@x = global i8* 5`
  pub of_pointer : faults (global 0 x (pointer 14 (i8 12)) (init.Const (number 5 16 17)) ∷ []) ≡ fault 16 17 WrongType ∷ []
  -- `@x = global [2 x i8] 5`
  pub of_array : faults (global 0 x (array 12 (positive 2 13 14) (i8 17)) (init.Const (number 5 21 22)) ∷ []) ≡ fault 21 22 WrongType ∷ []
  -- `define void @f(i8 %x, i8* %y) { %z = add i8 %x, 256 ret void }`
  pub in_line :
      faults (of_lines (setting (named 32 z) (sum (operand (i8 41) (text.Local (named 44 x))) (text.Const (number 256 48 51))) ∷ []))
      ≡ fault 48 51 WrongType ∷ []
  -- `define void @f(i8 %x) { switch i8 %x, label %0 [ i8 256, label %0 ] }`
  pub in_case :
      faults
      (of_blocks 12 (param (i8 15) [] (Some (named 18 x)) ∷ []) 22
      (block None [] []
      (term.Switch (record {
        value = operand (i8 31) (text.Local (named 34 x));
        default = named 44 (Number 0);
        at = 47;
        cases = case (i8 49) (plus 256 52 55) (named 63 (Number 0)) ∷ [];
      }))) [] ∷ [])
      ≡ fault 52 55 WrongType ∷ []
  -- `define void @f(i8 %x) { switch i8 %x, label %0 [ i8* 5, label %0 ] }`
  pub case_of_pointer :
      faults
      (of_blocks 12 (param (i8 15) [] (Some (named 18 x)) ∷ []) 22
      (block None [] []
      (term.Switch (record {
        value = operand (i8 31) (text.Local (named 34 x));
        default = named 44 (Number 0);
        at = 47;
        cases = case (pointer 51 (i8 49)) (plus 5 53 54) (named 62 (Number 0)) ∷ [];
      }))) [] ∷ [])
      ≡ fault 53 54 WrongType ∷ []
  -- `define void @f(i8 %x, i8* %y) { %z = alloca i8, i8 true ret void }`
  pub truth_count :
      faults (of_lines (setting (named 32 z) (alloca (i8 44) (Some (record { ty = i8 48; number = yes 51 })) None) ∷ []))
      ≡ fault 51 55 WrongType ∷ []
  -- `define void @f(i8 %x, i8* %y) { %z = alloca i8, i8 256 ret void }`
  pub in_count :
      faults (of_lines (setting (named 32 z) (alloca (i8 44) (Some (record { ty = i8 48; number = plus 256 51 54 })) None) ∷ []))
      ≡ fault 51 54 WrongType ∷ []
  -- `define void @f(i8 %x, i8* %y) { %z = alloca i8, i8* 4 ret void }`
  pub count_of_pointer :
      faults
      (of_lines (setting (named 32 z) (alloca (i8 44) (Some (record { ty = pointer 50 (i8 48); number = plus 4 52 53 })) None) ∷ []))
      ≡ fault 52 53 WrongType ∷ []
  -- `define void @f(i8 %x, i8* %y) { %z = alloca i8, i8 -1 ret void }`
  pub count :
      faults (of_lines (setting (named 32 z) (alloca (i8 44) (Some (record { ty = i8 48; number = minus 1 51 53 })) None) ∷ []))
      ≡ []
  -- `define void @f(i8 %x, i8* %y) { %z = alloca i8, align 3 ret void }`
  pub align : faults (of_lines (setting (named 32 z) (alloca (i8 44) None (Some (positive 3 54 55))) ∷ [])) ≡ fault 54 55 WrongType ∷ []
  -- `define void @f(i8 %x, i8* %y) { %z = load i8, i8* %y, align -4 ret void }`
  pub negative_align :
      faults
      (of_lines
      (setting (named 32 z) (load (i8 42) (operand (pointer 48 (i8 46)) (text.Local (named 50 y))) (Some (negative 4 60 62))) ∷ []))
      ≡ fault 60 62 WrongType ∷ []
  -- `define void @f(i8 %x, i8* %y) { store i8 %x, i8* %y, align 0 ret void }`
  pub no_align :
      faults
      (of_lines
      (bare
      (store (operand (i8 38) (text.Local (named 41 x))) (operand (pointer 47 (i8 45)) (text.Local (named 49 y)))
      (Some (positive 0 59 60))) ∷ []))
      ≡ []
  -- `define void @f(i8 %x, i8* %y) { store i8 %x, i8* %y, align 12 ret void }`
  pub store_align :
      faults
      (of_lines
      (bare
      (store (operand (i8 38) (text.Local (named 41 x))) (operand (pointer 47 (i8 45)) (text.Local (named 49 y)))
      (Some (positive 12 59 61))) ∷ []))
      ≡ fault 59 61 WrongType ∷ []
  -- `@x = external global i8, align 6`
  pub global_align :
      faults (holding (global_name.Plain (named 0 x)) held.External HeldGlobal (i8 21) (Some (positive 6 31 32)) ∷ [])
      ≡ fault 31 32 WrongType ∷ []
  -- `@x = global i8 0, align 1`
  pub lowest_align :
      faults
      (holding (global_name.Plain (named 0 x)) (held.Init None (init.Const (number 0 15 16))) HeldGlobal (i8 12)
      (Some (positive 1 24 25)) ∷ [])
      ≡ []
  -- `@x = global i8 0, align 536870912`
  pub highest_align :
      faults
      (holding (global_name.Plain (named 0 x)) (held.Init None (init.Const (number 0 15 16))) HeldGlobal (i8 12)
      (Some (positive 536870912 24 33)) ∷ [])
      ≡ []
  -- `@x = global i8 0, align 1073741824`
  pub too_high_align :
      faults
      (holding (global_name.Plain (named 0 x)) (held.Init None (init.Const (number 0 15 16))) HeldGlobal (i8 12)
      (Some (positive 1073741824 24 34)) ∷ [])
      ≡ fault 24 34 WrongType ∷ []
