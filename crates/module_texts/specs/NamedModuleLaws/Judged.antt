-- What of a tree names something beside a module, and what doesn't.
use Rattle.std.specs.Prelude.{◌≡◌, ℕ, true, false, [], ◌∷◌, Option, None, Some, codes}
use Rattle.ir_core.specs.Modules.{not_extended}
use Rattle.ir_core.specs.declared.functions.Instr.TheVariants as instr
use Rattle.ir_core.specs.declared.functions.Store.{Store}
use Rattle.ir_core.specs.declared.modules.Init as start
use Rattle.ir_core.specs.declared.modules.Linkage.TheVariants as linkages
use Rattle.ir_core.specs.declared.modules.Module.{Module}
use Rattle.ir_core.specs.declared.operands.Const as constant
use Rattle.ir_types.specs.declared.names.Name.{Name}
use Rattle.ir_types.specs.declared.ty.Ty.{Array, Int, Named, Ptr, Void}
use Rattle.module_grammar.specs.declared.constants.ConstText as const
use Rattle.module_grammar.specs.declared.constants.InitText as init
use Rattle.module_grammar.specs.declared.lines.InstructionText.TheVariants as instruction
use Rattle.module_grammar.specs.declared.lines.StoreText.{StoreText}
use Rattle.named_modules.specs.Constants.{const_fits, init_fits}
use Rattle.named_modules.specs.Laws.{Is}
use Rattle.named_modules.specs.Lines.{IsInstruction, IsResultNamed, MayBeCalled}
use Rattle.named_modules.specs.Types.{is_type, is_value_type}
use Rattle.named_modules.specs.Values.{IsAlign}
use Rattle.module_texts.specs.NamedModuleLaws.Words.{f, x, y, z, named, positive, negative, minus, yes, i1, i8, integer, of_name, pointer, array, number, of_global, no_types}

-- %x = type { i8 } @y = global i8 0 declare void @f()
abbrev beside : Module
beside = record {
  types = record { name = x; fields = Some (Int 8 ∷ []) } ∷ [];
  globals = record {
    name = y;
    linkage = linkages.External;
    constant = false;
    ty = Int 8;
    init = Some (start.Const (constant.Number 0));
    align = None;
  }
      ∷ [];
  functions = [];
  declarations = record { result_extensions = not_extended; result = Void; name = f; params = []; variadic = false; before = 0 } ∷ [];
}

-- Which types there are beside the module, and which are of values.
pub record TypesAreJudged : Type 0 where
  -- `%z*`
  pub unknown : is_type beside (pointer 2 (of_name (named 0 z))) ≡ false
  -- `[-1 x i8]`
  pub negative_count : is_type beside (array 0 (negative 1 1 3) (i8 6)) ≡ false
  -- `[18446744073709551616 x i8]*`
  pub too_many : is_type beside (pointer 27 (array 0 (positive 18446744073709551616 1 21) (i8 24))) ≡ false
  -- `[2 x i8]` as a type of values
  pub array_value : is_value_type beside (array 0 (positive 2 1 2) (i8 5)) ≡ false
  -- `%x` as a type of values
  pub named_value : is_value_type beside (of_name (named 0 x)) ≡ false
  -- `[2 x i8]`
  pub known : is_type beside (array 0 (positive 2 1 2) (i8 5)) ≡ true
  -- `%x*` as a type of values
  pub known_pointer : is_value_type beside (pointer 2 (of_name (named 0 x))) ≡ true

-- Which constants are of the types that are stated.
pub record ConstantsAreJudged : Type 0 where
  -- `256` at `i8`
  pub too_high : const_fits beside (number 256 0 3) (Int 8) ≡ false
  -- `true` at `i8`
  pub truth_of_byte : const_fits beside (const.Int (yes 0)) (Int 8) ≡ false
  -- `null` at `i8`
  pub null_of_byte : const_fits beside (const.Null 0) (Int 8) ≡ false
  -- `5` at `i8*`
  pub number_of_pointer : const_fits beside (number 5 0 1) (Ptr (Int 8)) ≡ false
  -- `@y` at `i1*`
  pub another_address : const_fits beside (of_global (named 0 y)) (Ptr (Int 1)) ≡ false
  -- `@f` at `i8*`
  pub function : const_fits beside (of_global (named 0 f)) (Ptr (Int 8)) ≡ false
  -- `@z` at `i8*`
  pub no_global : const_fits beside (of_global (named 0 z)) (Ptr (Int 8)) ≡ false
  -- `getelementptr (i8, i8* @y, i64 1)` at `i1*`
  pub another_element :
      const_fits beside
      (const.Element 0 false (i8 15, pointer 21 (i8 19), of_global (named 23 y), (integer 64 27, number 1 31 32) ∷ [])) (Ptr (Int 1))
      ≡ false
  -- `getelementptr (i8, i8* @y, i8 256)` at `i8*`
  pub wrong_index :
      const_fits beside (const.Element 0 false (i8 15, pointer 21 (i8 19), of_global (named 23 y), (i8 27, number 256 30 33) ∷ []))
      (Ptr (Int 8))
      ≡ false
  -- `bitcast (i8* null to i1*)` at `i8*`
  pub another_recast : const_fits beside (const.Cast 0 (pointer 11 (i8 9), const.Null 13, pointer 23 (i1 21))) (Ptr (Int 8)) ≡ false
  -- `bitcast (i8 null to i1*)` at `i1*`
  pub wrong_recast : const_fits beside (const.Cast 0 (i8 9, const.Null 12, pointer 22 (i1 20))) (Ptr (Int 1)) ≡ false
  -- `undef` at `[2 x i8]`
  pub undefined_array : const_fits beside const.Undef (Array 2 (Int 8)) ≡ false
  -- `@y` at `i8*`
  pub address : const_fits beside (of_global (named 0 y)) (Ptr (Int 8)) ≡ true
  -- `getelementptr (i8, i8* @y, i64 1)` at `i8*`
  pub of_element :
      const_fits beside
      (const.Element 0 false (i8 15, pointer 21 (i8 19), of_global (named 23 y), (integer 64 27, number 1 31 32) ∷ [])) (Ptr (Int 8))
      ≡ true
  -- `getelementptr (i8, i8* @y, i64 0, i64 1)` at `i1*`
  pub nowhere :
      const_fits beside
      (const.Element 0 false
      (i8 15, pointer 21 (i8 19), of_global (named 23 y), (integer 64 27, number 0 31 32) ∷ (integer 64 34, number 1 38 39) ∷ []))
      (Ptr (Int 1))
      ≡ true
  -- `bitcast (i8* null to i1*)` at `i1*`
  pub recast : const_fits beside (const.Cast 0 (pointer 11 (i8 9), const.Null 13, pointer 23 (i1 21))) (Ptr (Int 1)) ≡ true

-- Which initialisers are of the types that are stated.
pub record InitialisersAreJudged : Type 0 where
  -- `c"ab"` at `[3 x i8]`
  pub too_few_bytes : init_fits beside (init.Bytes (record { what = codes "ab"; start = 1; end = 5 })) (Array 3 (Int 8)) ≡ false
  -- `[i8 1]` at `[2 x i8]`
  pub too_few : init_fits beside (init.Array 0 ((i8 1, init.Const (number 1 4 5)) ∷ [])) (Array 2 (Int 8)) ≡ false
  -- `[i8 1, i1 true]` at `[2 x i8]`
  pub another_part :
      init_fits beside (init.Array 0 ((i8 1, init.Const (number 1 4 5)) ∷ (i1 7, init.Const (const.Int (yes 10))) ∷ []))
      (Array 2 (Int 8))
      ≡ false
  -- `[i8 256]` at `[1 x i8]`
  pub wrong_part : init_fits beside (init.Array 0 ((i8 1, init.Const (number 256 4 7)) ∷ [])) (Array 1 (Int 8)) ≡ false
  -- `{ i8 1 }` at `[1 x i8]`
  pub braces : init_fits beside (init.Struct 0 ((i8 2, init.Const (number 1 5 6)) ∷ [])) (Array 1 (Int 8)) ≡ false
  -- `null` at `[2 x i8]`
  pub null_array : init_fits beside (init.Const (const.Null 0)) (Array 2 (Int 8)) ≡ false
  -- `c"ab"` at `[2 x i8]`
  pub bytes : init_fits beside (init.Bytes (record { what = codes "ab"; start = 1; end = 5 })) (Array 2 (Int 8)) ≡ true
  -- `[i8 1, i8 -1]` at `[2 x i8]`
  pub elements :
      init_fits beside (init.Array 0 ((i8 1, init.Const (number 1 4 5)) ∷ (i8 7, init.Const (const.Int (minus 1 10 12))) ∷ []))
      (Array 2 (Int 8))
      ≡ true
  -- `{ i8 1 }` at `%x`
  pub fields : init_fits beside (init.Struct 0 ((i8 2, init.Const (number 1 5 6)) ∷ [])) (Named x) ≡ true

-- Which alignments are kept, which callees are called, and which lines have a name.
pub record PartsAreJudged : Type 0 where
  -- `align 3`
  pub no_power : (align : Option ℕ) → IsAlign (Some (positive 3 6 7)) align → ⊥
  -- `align -4`
  pub negative_align : (align : Option ℕ) → IsAlign (Some (negative 4 6 8)) align → ⊥
  -- `align 0`
  pub no_align : IsAlign (Some (positive 0 6 7)) None
  -- `call void @f()` where `@f` takes further arguments
  pub unstated : MayBeCalled beside (record { result = Void; params = []; variadic = true }) None → ⊥
  -- `call void (...) @f()` where it takes none
  pub needless_dots : MayBeCalled beside (record { result = Void; params = []; variadic = false }) (Some (record { types = []; is_open = true })) → ⊥
  -- `%z = store ..`
  pub named_store :
      (w : StoreText) (s : Store) → IsInstruction beside [] (Is no_types) (Some (named 0 z)) (instruction.Store w) (instr.Store s) → ⊥
  -- `%z = call void ..`
  pub named_call : (name : Option Name) → IsResultNamed (Some (named 0 z)) Void name → ⊥
