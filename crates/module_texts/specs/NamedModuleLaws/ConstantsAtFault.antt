-- What is at fault in constants and initialisers.
use Rattle.module_grammar.specs.AtPlaces.{debug_at}
use Rattle.module_grammar.specs.declared.constants.ConstText as const
use Rattle.module_grammar.specs.declared.constants.GlobalNameText.TheVariants as global_name
use Rattle.module_grammar.specs.declared.constants.InitText as init
use Rattle.module_grammar.specs.declared.constants.ValueText.TheVariants as text
use Rattle.module_grammar.specs.declared.flow.TermText.TheVariants as term
use Rattle.module_grammar.specs.declared.functions.DeclaredNameText.TheVariants as declared_name
use Rattle.module_grammar.specs.declared.items.ItemText.TheVariants as item
use Rattle.module_grammar.specs.declared.items.TypeBodyText.TheVariants as type_body
use Rattle.name_claims.specs.declared.claims.Reason.TheVariants.{LeftOut, Unknown, WrongType}
use Rattle.module_texts.specs.NamedModuleLaws.Words.{f, x, y, named, positive, negative, minus, yes, i1, i8, integer, of_name, pointer, array, struct, number, of_global, operand, bare, store, block, result, no_more, declare, of_blocks, of_lines, global, external, faults, fault}
use Rattle.std.specs.Prelude.{◌≡◌, false, [], ◌∷◌, None, codes}

-- What constants are of their types.
pub record ConstantsAreTested : Type 0 where
  -- `@x = global i8 null`
  pub null : faults (global 0 x (i8 12) (init.Const (const.Null 15)) ∷ []) ≡ fault 15 19 WrongType ∷ []
  -- `@x = global i8* null`
  pub null_pointer : faults (global 0 x (pointer 14 (i8 12)) (init.Const (const.Null 16)) ∷ []) ≡ []
  -- `@x = global [2 x i8] null`
  pub null_array : faults (global 0 x (array 12 (positive 2 13 14) (i8 17)) (init.Const (const.Null 21)) ∷ []) ≡ fault 21 25 WrongType ∷ []
  -- `@x = global i8* @y @y = global i8 0`
  pub address :
      faults
      (global 0 x (pointer 14 (i8 12)) (init.Const (of_global (named 16 y))) ∷ global 19 y (i8 31) (init.Const (number 0 34 35)) ∷ [])
      ≡ []
  -- `@x = global i1* @y @y = global i8 0`
  pub address_of_another :
      faults
      (global 0 x (pointer 14 (i1 12)) (init.Const (of_global (named 16 y))) ∷ global 19 y (i8 31) (init.Const (number 0 34 35)) ∷ [])
      ≡ fault 16 18 WrongType ∷ []
  -- `@x = global [2 x i8]* @y @y = global [2 x i8] undef`
  pub address_of_array :
      faults
      (global 0 x (pointer 20 (array 12 (positive 2 13 14) (i8 17))) (init.Const (of_global (named 22 y)))
      ∷ global 25 y (array 37 (positive 2 38 39) (i8 42)) (init.Const const.Undef) ∷ [])
      ≡ []
  -- `@x = global [3 x i8]* @y @y = global [2 x i8] undef`
  pub address_of_more :
      faults
      (global 0 x (pointer 20 (array 12 (positive 3 13 14) (i8 17))) (init.Const (of_global (named 22 y)))
      ∷ global 25 y (array 37 (positive 2 38 39) (i8 42)) (init.Const const.Undef) ∷ [])
      ≡ fault 22 24 WrongType ∷ []
  -- `@x = global [1 x i8]* @y @y = external global [-1 x i8]`
  pub address_of_fewer_than_none :
      faults
      (global 0 x (pointer 20 (array 12 (positive 1 13 14) (i8 17))) (init.Const (of_global (named 22 y)))
      ∷ external 25 y (array 46 (negative 1 47 49) (i8 52)) ∷ [])
      ≡ fault 22 24 WrongType ∷ fault 47 49 WrongType ∷ []
  -- `%x = type { i8 } @x = global { i8 }* @y @y = global %x undef`
  pub address_of_named :
      faults
      (item.Type (named 0 x) (type_body.Struct 10 (i8 12 ∷ []))
      ∷ global 17 x (pointer 35 (struct 29 (i8 31 ∷ []))) (init.Const (of_global (named 37 y)))
      ∷ global 40 y (of_name (named 52 x)) (init.Const const.Undef) ∷ [])
      ≡ fault 37 39 WrongType ∷ []
  -- `@x = global i8* @y`
  pub unknown : faults (global 0 x (pointer 14 (i8 12)) (init.Const (of_global (named 16 y))) ∷ []) ≡ fault 16 18 Unknown ∷ []
  -- `@x = global i8* @f declare void @f()`
  pub function :
      faults
      (global 0 x (pointer 14 (i8 12)) (init.Const (of_global (named 16 f)))
      ∷ declare (result [] None) (named 32 f) [] false no_more ∷ [])
      ≡ fault 16 18 LeftOut ∷ []
  -- `@x = global i8* bitcast (i8* @f to i8*) define void @f() { ret void }`
  pub function_inside :
      faults
      (global 0 x (pointer 14 (i8 12)) (init.Const (const.Cast 16 (pointer 27 (i8 25), of_global (named 29 f), pointer 37 (i8 35))))
      ∷ of_blocks 52 [] 57 (block None [] [] (term.Ret None)) [] ∷ [])
      ≡ fault 29 31 LeftOut ∷ []
  -- `define void @f(i8 %x, i8* %y) { store i8* @f, i8* %y ret void }`
  pub function_in_line :
      faults
      (of_lines
      (bare
      (store (operand (pointer 40 (i8 38)) (text.Const (of_global (named 42 f))))
      (operand (pointer 48 (i8 46)) (text.Local (named 50 y))) None) ∷ []))
      ≡ fault 42 44 LeftOut ∷ []
  -- `declare void @llvm.dbg.x() @x = global i8* @llvm.dbg.x`
  pub dropped :
      faults
      (item.Declaration (record { result = result [] None; declared = declared_name.Debug (debug_at 13 24) no_more })
      ∷ global 27 x (pointer 41 (i8 39)) (init.Const (const.Global (global_name.Debug (debug_at 43 54)))) ∷ [])
      ≡ fault 43 54 Unknown ∷ []
  -- `@x = global i8* getelementptr ([2 x i8], [2 x i8]* @y, i64 0, i64 1) @y = global [2 x i8] undef`
  pub of_element :
      faults
      (global 0 x (pointer 14 (i8 12))
      (init.Const
      (const.Element 16 false (
        array 31 (positive 2 32 33) (i8 36),
        pointer 49 (array 41 (positive 2 42 43) (i8 46)),
        of_global (named 51 y),
        (integer 64 55, number 0 59 60) ∷ (integer 64 62, number 1 66 67) ∷ [],
      )))
      ∷ global 69 y (array 81 (positive 2 82 83) (i8 86)) (init.Const const.Undef) ∷ [])
      ≡ []
  -- `@x = global i1* getelementptr ([2 x i8], [2 x i8]* @y, i64 0, i64 1) @y = global [2 x i8] undef`
  pub element_of_another :
      faults
      (global 0 x (pointer 14 (i1 12))
      (init.Const
      (const.Element 16 false (
        array 31 (positive 2 32 33) (i8 36),
        pointer 49 (array 41 (positive 2 42 43) (i8 46)),
        of_global (named 51 y),
        (integer 64 55, number 0 59 60) ∷ (integer 64 62, number 1 66 67) ∷ [],
      )))
      ∷ global 69 y (array 81 (positive 2 82 83) (i8 86)) (init.Const const.Undef) ∷ [])
      ≡ fault 16 29 WrongType ∷ []
  -- `%x = type { i8, i32 } @x = global i32* getelementptr (%x, %x* @y, i64 0, i32 1) @y = global %x undef`
  pub field :
      faults
      (item.Type (named 0 x) (type_body.Struct 10 (i8 12 ∷ integer 32 16 ∷ []))
      ∷ global 22 x (pointer 37 (integer 32 34))
      (init.Const
      (const.Element 39 false (
        of_name (named 54 x),
        pointer 60 (of_name (named 58 x)),
        of_global (named 62 y),
        (integer 64 66, number 0 70 71) ∷ (integer 32 73, number 1 77 78) ∷ [],
      )))
      ∷ global 80 y (of_name (named 92 x)) (init.Const const.Undef) ∷ [])
      ≡ []
  -- `%x = type { i8, i32 } @x = global i8* getelementptr (%x, %x* @y, i64 0, i32 1) @y = global %x undef`
  pub field_of_another :
      faults
      (item.Type (named 0 x) (type_body.Struct 10 (i8 12 ∷ integer 32 16 ∷ []))
      ∷ global 22 x (pointer 36 (i8 34))
      (init.Const
      (const.Element 38 false (
        of_name (named 53 x),
        pointer 59 (of_name (named 57 x)),
        of_global (named 61 y),
        (integer 64 65, number 0 69 70) ∷ (integer 32 72, number 1 76 77) ∷ [],
      )))
      ∷ global 79 y (of_name (named 91 x)) (init.Const const.Undef) ∷ [])
      ≡ fault 38 51 WrongType ∷ []
  -- `%x = type { i8, i32 } @x = global i1* getelementptr (%x, %x* @y, i64 0, i64 1) @y = global %x undef`
  pub field_by_another_index :
      faults
      (item.Type (named 0 x) (type_body.Struct 10 (i8 12 ∷ integer 32 16 ∷ []))
      ∷ global 22 x (pointer 36 (i1 34))
      (init.Const
      (const.Element 38 false (
        of_name (named 53 x),
        pointer 59 (of_name (named 57 x)),
        of_global (named 61 y),
        (integer 64 65, number 0 69 70) ∷ (integer 64 72, number 1 76 77) ∷ [],
      )))
      ∷ global 79 y (of_name (named 91 x)) (init.Const const.Undef) ∷ [])
      ≡ []
  -- `%x = type { i8, i32 } @x = global i1* getelementptr (%x, %x* @y, i64 0, i32 2) @y = global %x undef`
  pub no_such_field :
      faults
      (item.Type (named 0 x) (type_body.Struct 10 (i8 12 ∷ integer 32 16 ∷ []))
      ∷ global 22 x (pointer 36 (i1 34))
      (init.Const
      (const.Element 38 false (
        of_name (named 53 x),
        pointer 59 (of_name (named 57 x)),
        of_global (named 61 y),
        (integer 64 65, number 0 69 70) ∷ (integer 32 72, number 2 76 77) ∷ [],
      )))
      ∷ global 79 y (of_name (named 91 x)) (init.Const const.Undef) ∷ [])
      ≡ []
  -- `@x = global i1* getelementptr (i8, i8* @y, i64 0, i64 1) @y = global i8 0`
  pub nowhere :
      faults
      (global 0 x (pointer 14 (i1 12))
      (init.Const
      (const.Element 16 false
      (i8 31, pointer 37 (i8 35), of_global (named 39 y), (integer 64 43, number 0 47 48) ∷ (integer 64 50, number 1 54 55) ∷ [])))
      ∷ global 57 y (i8 69) (init.Const (number 0 72 73)) ∷ [])
      ≡ []
  -- `%x = type { i8 } @x = global i1* getelementptr (%x, %x* null, i64 0, i32 undef)`
  pub no_field :
      faults
      (item.Type (named 0 x) (type_body.Struct 10 (i8 12 ∷ []))
      ∷ global 17 x (pointer 31 (i1 29))
      (init.Const
      (const.Element 33 false (
        of_name (named 48 x),
        pointer 54 (of_name (named 52 x)),
        const.Null 56,
        (integer 64 62, number 0 66 67) ∷ (integer 32 69, const.Undef) ∷ [],
      ))) ∷ [])
      ≡ []
  -- `@x = global [2 x i8] getelementptr (i8, i8* null)`
  pub element_of_array :
      faults
      (global 0 x (array 12 (positive 2 13 14) (i8 17))
      (init.Const (const.Element 21 false (i8 36, pointer 42 (i8 40), const.Null 44, []))) ∷ [])
      ≡ fault 21 34 WrongType ∷ []
  -- `@x = global i8* getelementptr (i8, i8* @y) @y = global i1 0`
  pub base_of_another :
      faults
      (global 0 x (pointer 14 (i8 12)) (init.Const (const.Element 16 false (i8 31, pointer 37 (i8 35), of_global (named 39 y), [])))
      ∷ global 43 y (i1 55) (init.Const (number 0 58 59)) ∷ [])
      ≡ fault 39 41 WrongType ∷ []
  -- `@x = global i1* getelementptr (i8, i1* null)`
  pub base_alone :
      faults (global 0 x (pointer 14 (i1 12)) (init.Const (const.Element 16 false (i8 31, pointer 37 (i1 35), const.Null 39, []))) ∷ [])
      ≡ []
  -- `@x = global i8* getelementptr (i8, i1* null)`
  pub first_type_alone :
      faults (global 0 x (pointer 14 (i8 12)) (init.Const (const.Element 16 false (i8 31, pointer 37 (i1 35), const.Null 39, []))) ∷ [])
      ≡ fault 16 29 WrongType ∷ []
  -- `@x = global i8* getelementptr (i8, i8* null, i8 256)`
  pub index :
      faults
      (global 0 x (pointer 14 (i8 12))
      (init.Const (const.Element 16 false (i8 31, pointer 37 (i8 35), const.Null 39, (i8 45, number 256 48 51) ∷ []))) ∷ [])
      ≡ fault 48 51 WrongType ∷ []
  -- `@x = global i1* bitcast (i8* null to i1*)`
  pub recast :
      faults (global 0 x (pointer 14 (i1 12)) (init.Const (const.Cast 16 (pointer 27 (i8 25), const.Null 29, pointer 39 (i1 37)))) ∷ [])
      ≡ []
  -- `@x = global i1* bitcast (i8* null to i8*)`
  pub cast_to_another :
      faults (global 0 x (pointer 14 (i1 12)) (init.Const (const.Cast 16 (pointer 27 (i8 25), const.Null 29, pointer 39 (i8 37)))) ∷ [])
      ≡ fault 16 23 WrongType ∷ []
  -- `@x = global i1* bitcast (i8 null to i1*)`
  pub cast_of_another :
      faults (global 0 x (pointer 14 (i1 12)) (init.Const (const.Cast 16 (i8 25, const.Null 28, pointer 38 (i1 36)))) ∷ [])
      ≡ fault 28 32 WrongType ∷ []
  -- `@x = global i8* bitcast ([2 x i8] undef to i8*)`
  pub cast_of_array :
      faults
      (global 0 x (pointer 14 (i8 12))
      (init.Const (const.Cast 16 (array 25 (positive 2 26 27) (i8 30), const.Undef, pointer 45 (i8 43)))) ∷ [])
      ≡ fault 25 26 WrongType ∷ []
  -- `@x = global [2 x i8] bitcast (i8* null to [2 x i8])`
  pub cast_to_array :
      faults
      (global 0 x (array 12 (positive 2 13 14) (i8 17))
      (init.Const (const.Cast 21 (pointer 32 (i8 30), const.Null 34, array 42 (positive 2 43 44) (i8 47)))) ∷ [])
      ≡ []
  -- `@x = global i8* bitcast (i8* bitcast (i8* null to [2 x i8]) to i8*)`
  pub cast_of_cast_to_array :
      faults
      (global 0 x (pointer 14 (i8 12))
      (init.Const
      (const.Cast 16
      (pointer 27 (i8 25), const.Cast 29 (pointer 40 (i8 38), const.Null 42, array 50 (positive 2 51 52) (i8 55)), pointer 65 (i8 63)))) ∷ [])
      ≡ fault 29 36 WrongType ∷ []

-- What initialisers are of their types.
pub record InitialisersAreTested : Type 0 where
  -- `@x = global [2 x i8] undef`
  pub undefined : faults (global 0 x (array 12 (positive 2 13 14) (i8 17)) (init.Const const.Undef) ∷ []) ≡ []
  -- `@x = global { i8, i1 } zeroinitializer`
  pub zero : faults (global 0 x (struct 12 (i8 14 ∷ i1 18 ∷ [])) init.Zero ∷ []) ≡ []
  -- `@x = global i8 zeroinitializer`
  pub zero_integer : faults (global 0 x (i8 12) init.Zero ∷ []) ≡ []
  -- `%x = type opaque @x = global %x undef`
  pub undefined_opaque :
      faults (item.Type (named 0 x) type_body.Opaque ∷ global 17 x (of_name (named 29 x)) (init.Const const.Undef) ∷ [])
      ≡ []
  -- `@x = global [2 x i8] c"ab"`
  pub bytes :
      faults (global 0 x (array 12 (positive 2 13 14) (i8 17)) (init.Bytes (record { what = codes "ab"; start = 22; end = 26 })) ∷ [])
      ≡ []
  -- `@x = global [3 x i8] c"ab"`
  pub too_few_bytes :
      faults (global 0 x (array 12 (positive 3 13 14) (i8 17)) (init.Bytes (record { what = codes "ab"; start = 22; end = 26 })) ∷ [])
      ≡ fault 21 22 WrongType ∷ []
  -- `@x = global [2 x i1] c"ab"`
  pub bits :
      faults (global 0 x (array 12 (positive 2 13 14) (i1 17)) (init.Bytes (record { what = codes "ab"; start = 22; end = 26 })) ∷ [])
      ≡ fault 21 22 WrongType ∷ []
  -- `@x = global i8 c"a"`
  pub bytes_of_integer :
      faults (global 0 x (i8 12) (init.Bytes (record { what = codes "a"; start = 16; end = 19 })) ∷ [])
      ≡ fault 15 16 WrongType ∷ []
  -- `@x = global [0 x i8] []`
  pub no_elements : faults (global 0 x (array 12 (positive 0 13 14) (i8 17)) (init.Array 21 []) ∷ []) ≡ []
  -- `@x = global {} {}`
  pub no_fields : faults (global 0 x (struct 12 []) (init.Struct 15 []) ∷ []) ≡ []
  -- `@x = global [2 x i8] [i8 1, i8 -1]`
  pub elements :
      faults
      (global 0 x (array 12 (positive 2 13 14) (i8 17))
      (init.Array 21 ((i8 22, init.Const (number 1 25 26)) ∷ (i8 28, init.Const (const.Int (minus 1 31 33))) ∷ [])) ∷ [])
      ≡ []
  -- `@x = global [2 x i8] [i8 1]`
  pub too_few :
      faults (global 0 x (array 12 (positive 2 13 14) (i8 17)) (init.Array 21 ((i8 22, init.Const (number 1 25 26)) ∷ [])) ∷ [])
      ≡ fault 21 22 WrongType ∷ []
  -- `@x = global [2 x i8] [i8 1, i1 true]`
  pub another_element :
      faults
      (global 0 x (array 12 (positive 2 13 14) (i8 17))
      (init.Array 21 ((i8 22, init.Const (number 1 25 26)) ∷ (i1 28, init.Const (const.Int (yes 31))) ∷ [])) ∷ [])
      ≡ fault 28 29 WrongType ∷ []
  -- `@x = global [1 x i8] [i8* undef]`
  pub pointer_element :
      faults (global 0 x (array 12 (positive 1 13 14) (i8 17)) (init.Array 21 ((pointer 24 (i8 22), init.Const const.Undef) ∷ [])) ∷ [])
      ≡ fault 22 23 WrongType ∷ []
  -- `@x = global [2 x i8] [i8 1, i8 256]`
  pub wrong_element :
      faults
      (global 0 x (array 12 (positive 2 13 14) (i8 17))
      (init.Array 21 ((i8 22, init.Const (number 1 25 26)) ∷ (i8 28, init.Const (number 256 31 34)) ∷ [])) ∷ [])
      ≡ fault 31 34 WrongType ∷ []
  -- `@x = global { i8, i1 } { i8 1, i1 true }`
  pub fields :
      faults
      (global 0 x (struct 12 (i8 14 ∷ i1 18 ∷ []))
      (init.Struct 23 ((i8 25, init.Const (number 1 28 29)) ∷ (i1 31, init.Const (const.Int (yes 34))) ∷ [])) ∷ [])
      ≡ []
  -- `@x = global { i8, i1 } { i8 1 }`
  pub too_few_fields :
      faults (global 0 x (struct 12 (i8 14 ∷ i1 18 ∷ [])) (init.Struct 23 ((i8 25, init.Const (number 1 28 29)) ∷ [])) ∷ [])
      ≡ fault 23 24 WrongType ∷ []
  -- `%x = type { i8 } @x = global %x { i8 1 }`
  pub named_fields :
      faults
      (item.Type (named 0 x) (type_body.Struct 10 (i8 12 ∷ []))
      ∷ global 17 x (of_name (named 29 x)) (init.Struct 32 ((i8 34, init.Const (number 1 37 38)) ∷ [])) ∷ [])
      ≡ []
  -- `%x = type { i8 } @x = global %x { i1 1 }`
  pub another_field :
      faults
      (item.Type (named 0 x) (type_body.Struct 10 (i8 12 ∷ []))
      ∷ global 17 x (of_name (named 29 x)) (init.Struct 32 ((i1 34, init.Const (number 1 37 38)) ∷ [])) ∷ [])
      ≡ fault 34 35 WrongType ∷ []
  -- `@x = global [1 x i8] { i8 1 }`
  pub braces :
      faults (global 0 x (array 12 (positive 1 13 14) (i8 17)) (init.Struct 21 ((i8 23, init.Const (number 1 26 27)) ∷ [])) ∷ [])
      ≡ fault 21 22 WrongType ∷ []
  -- `@x = global { i8 } [i8 1]`
  pub brackets :
      faults (global 0 x (struct 12 (i8 14 ∷ [])) (init.Array 19 ((i8 20, init.Const (number 1 23 24)) ∷ [])) ∷ [])
      ≡ fault 19 20 WrongType ∷ []
  -- `@x = global i8 [i8 1]`
  pub list_of_integer :
      faults (global 0 x (i8 12) (init.Array 15 ((i8 16, init.Const (number 1 19 20)) ∷ [])) ∷ [])
      ≡ fault 15 16 WrongType ∷ []
  -- `@x = global { [1 x i8], i8 } { [1 x i8] [i8 256], i8 1 }`
  pub nested :
      faults
      (global 0 x (struct 12 (array 14 (positive 1 15 16) (i8 19) ∷ i8 24 ∷ []))
      (init.Struct 29
      ((array 31 (positive 1 32 33) (i8 36), init.Array 40 ((i8 41, init.Const (number 256 44 47)) ∷ []))
      ∷ (i8 50, init.Const (number 1 53 54)) ∷ [])) ∷ [])
      ≡ fault 44 47 WrongType ∷ []
