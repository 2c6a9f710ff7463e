-- What is at fault in registers and labels.
use Rattle.ir_core.specs.declared.operands.Pred.TheVariants.{Eq}
use Rattle.ir_types.specs.declared.names.Name.TheVariants.{Number}
use Rattle.module_grammar.specs.declared.constants.ConstText as const
use Rattle.module_grammar.specs.declared.constants.GlobalNameText.TheVariants as global_name
use Rattle.module_grammar.specs.declared.constants.ValueText.TheVariants as text
use Rattle.module_grammar.specs.declared.flow.BranchText.TheVariants as branch
use Rattle.module_grammar.specs.declared.flow.TermText.TheVariants as term
use Rattle.module_grammar.specs.declared.lines.CallBodyText.TheVariants as body
use Rattle.module_grammar.specs.declared.lines.CastWord.TheVariants as conversion
use Rattle.module_grammar.specs.declared.operators.ResizeOp.TheVariants.{ZExt}
use Rattle.name_claims.specs.declared.claims.Reason.TheVariants.{Unknown, WrongType}
use Rattle.module_texts.specs.NamedModuleLaws.Words.{b, f, g, x, y, z, named, positive, plus, yes, i1, i8, integer, pointer, array, struct, number, operand, setting, bare, sum, compare, cast, select, element, alloca, load, store, call, argument, arguments, entry, phi, case, block, result, param, no_more, declare, define, of_blocks, of_lines, faults, fault}
use Rattle.std.specs.Prelude.{◌≡◌, false, [], ◌∷◌, None, Some}

-- What registers and labels are known.
pub record RegistersAreTested : Type 0 where
  -- `define void @f(i8 %x, i8* %y) { %z = add i8 %y, 0 ret void }`
  pub another_type :
      faults (of_lines (setting (named 32 z) (sum (operand (i8 41) (text.Local (named 44 y))) (text.Const (number 0 48 49))) ∷ []))
      ≡ fault 44 46 WrongType ∷ []
  -- `define void @f(i8 %x, i8* %y) { %z = icmp eq i8 %x, %y ret void }`
  pub right_value :
      faults (of_lines (setting (named 32 z) (compare Eq (operand (i8 45) (text.Local (named 48 x))) (text.Local (named 52 y))) ∷ []))
      ≡ fault 52 54 WrongType ∷ []
  -- `define void @f(i8 %x, i8* %y) { %z = add i8 %b, 0 ret void }`
  pub unknown :
      faults (of_lines (setting (named 32 z) (sum (operand (i8 41) (text.Local (named 44 b))) (text.Const (number 0 48 49))) ∷ []))
      ≡ fault 44 46 Unknown ∷ []
  -- `define void @f(i8 %x, i8* %y) { %z = add i8 %b, 0 %b = add i8 0, 0 ret void }`
  pub behind :
      faults
      (of_lines
      (setting (named 32 z) (sum (operand (i8 41) (text.Local (named 44 b))) (text.Const (number 0 48 49)))
      ∷ setting (named 50 b) (sum (operand (i8 59) (text.Const (number 0 62 63))) (text.Const (number 0 65 66))) ∷ []))
      ≡ []
  -- `define void @f(i8 %x, i8* %y) { %z = add i1 %b, true %b = add i8 0, 0 ret void }`
  pub another_behind :
      faults
      (of_lines
      (setting (named 32 z) (sum (operand (i1 41) (text.Local (named 44 b))) (text.Const (const.Int (yes 48))))
      ∷ setting (named 53 b) (sum (operand (i8 62) (text.Const (number 0 65 66))) (text.Const (number 0 68 69))) ∷ []))
      ≡ fault 44 46 WrongType ∷ []
  -- `define void @f(i8 %x, i8* %y) { %z = icmp eq i8 %x, 0 %b = add i8 %z, 0 ret void }`
  pub comparison :
      faults
      (of_lines
      (setting (named 32 z) (compare Eq (operand (i8 45) (text.Local (named 48 x))) (text.Const (number 0 52 53)))
      ∷ setting (named 54 b) (sum (operand (i8 63) (text.Local (named 66 z))) (text.Const (number 0 70 71))) ∷ []))
      ≡ fault 66 68 WrongType ∷ []
  -- `define void @f(i8 %x, i8* %y) { %z = zext i8 %x to i32 %b = add i8 %z, 0 ret void }`
  pub widened :
      faults
      (of_lines
      (setting (named 32 z) (cast (conversion.Resize ZExt) (operand (i8 42) (text.Local (named 45 x))) (integer 32 51))
      ∷ setting (named 55 b) (sum (operand (i8 64) (text.Local (named 67 z))) (text.Const (number 0 71 72))) ∷ []))
      ≡ fault 67 69 WrongType ∷ []
  -- `define void @f(i8 %x, i8* %y) { %z = select i1 true, i8 %x, i1 true %b = add i1 %z, true ret void }`
  pub first_arm :
      faults
      (of_lines
      (setting (named 32 z)
      (select (operand (i1 44) (text.Const (const.Int (yes 47)))) (operand (i8 53) (text.Local (named 56 x)))
      (operand (i1 60) (text.Const (const.Int (yes 63)))))
      ∷ setting (named 68 b) (sum (operand (i1 77) (text.Local (named 80 z))) (text.Const (const.Int (yes 84)))) ∷ []))
      ≡ fault 80 82 WrongType ∷ []
  -- `define void @f(i8 %x, i8* %y) { %z = alloca i1 %b = load i8, i8* %z ret void }`
  pub memory :
      faults
      (of_lines
      (setting (named 32 z) (alloca (i1 44) None None)
      ∷ setting (named 47 b) (load (i8 57) (operand (pointer 63 (i8 61)) (text.Local (named 65 z))) None) ∷ []))
      ≡ fault 65 67 WrongType ∷ []
  -- `define void @f(i8 %x, i8* %y) { %z = load i8, i8* %y %b = add i1 %z, true ret void }`
  pub loaded :
      faults
      (of_lines
      (setting (named 32 z) (load (i8 42) (operand (pointer 48 (i8 46)) (text.Local (named 50 y))) None)
      ∷ setting (named 53 b) (sum (operand (i1 62) (text.Local (named 65 z))) (text.Const (const.Int (yes 69)))) ∷ []))
      ≡ fault 65 67 WrongType ∷ []
  -- `declare i8 @g() define void @f() { %z = call i8 @g() %b = add i1 %z, true ret void }`
  pub called :
      faults
      (declare (result [] (Some (i8 8))) (named 11 g) [] false no_more
      ∷ of_blocks 28 [] 33
      (block None []
      (setting (named 35 z) (call (body.Typed (i8 45) None (global_name.Plain (named 48 g)) (arguments [])))
      ∷ setting (named 53 b) (sum (operand (i1 62) (text.Local (named 65 z))) (text.Const (const.Int (yes 69)))) ∷ []) (term.Ret None))
      [] ∷ [])
      ≡ fault 65 67 WrongType ∷ []
  -- `define void @f(i8 %x, i8* %y) { %z = getelementptr i8, i8* %y, i64 1 %b = load i1, i1* %z ret void }`
  pub of_element :
      faults
      (of_lines
      (setting (named 32 z)
      (element 37 false (i8 51) (operand (pointer 57 (i8 55)) (text.Local (named 59 y)))
      (operand (integer 64 63) (text.Const (number 1 67 68)) ∷ []))
      ∷ setting (named 69 b) (load (i1 79) (operand (pointer 85 (i1 83)) (text.Local (named 87 z))) None) ∷ []))
      ≡ fault 87 89 WrongType ∷ []
  -- `define void @f(i8 %x, i8* %y) { %z = getelementptr [2 x i8], [2 x i8]* null, i64 0, i64 1 %b = load i8, i8* %z ret void }`
  pub element_of_array :
      faults
      (of_lines
      (setting (named 32 z)
      (element 37 false (array 51 (positive 2 52 53) (i8 56))
      (operand (pointer 69 (array 61 (positive 2 62 63) (i8 66))) (text.Const (const.Null 71)))
      (operand (integer 64 77) (text.Const (number 0 81 82)) ∷ operand (integer 64 84) (text.Const (number 1 88 89)) ∷ []))
      ∷ setting (named 90 b) (load (i8 100) (operand (pointer 106 (i8 104)) (text.Local (named 108 z))) None) ∷ []))
      ≡ []
  -- `define void @f(i8 %x, i8* %y) { %z = getelementptr [2 x i8], [2 x i8]* null, i64 0, i64 1 %b = load i1, i1* %z ret void }`
  pub element_of_another :
      faults
      (of_lines
      (setting (named 32 z)
      (element 37 false (array 51 (positive 2 52 53) (i8 56))
      (operand (pointer 69 (array 61 (positive 2 62 63) (i8 66))) (text.Const (const.Null 71)))
      (operand (integer 64 77) (text.Const (number 0 81 82)) ∷ operand (integer 64 84) (text.Const (number 1 88 89)) ∷ []))
      ∷ setting (named 90 b) (load (i1 100) (operand (pointer 106 (i1 104)) (text.Local (named 108 z))) None) ∷ []))
      ≡ fault 108 110 WrongType ∷ []
  -- `define void @f(i8 %x, i8* %y) { %z = getelementptr { i8 }, { i8 }* null, i64 0, i8 %x %b = load i1, i1* %z ret void }`
  pub counted_field :
      faults
      (of_lines
      (setting (named 32 z)
      (element 37 false (struct 51 (i8 53 ∷ [])) (operand (pointer 65 (struct 59 (i8 61 ∷ []))) (text.Const (const.Null 67)))
      (operand (integer 64 73) (text.Const (number 0 77 78)) ∷ operand (i8 80) (text.Local (named 83 x)) ∷ []))
      ∷ setting (named 86 b) (load (i1 96) (operand (pointer 102 (i1 100)) (text.Local (named 104 z))) None) ∷ []))
      ≡ []
  -- `define void @f(i8 %x, i8* %y) { %z = getelementptr { i8 }, { i8 }* null, i64 0, i32 4294967296 %b = load i1, i1* %z ret void }`
  pub wrong_number :
      faults
      (of_lines
      (setting (named 32 z)
      (element 37 false (struct 51 (i8 53 ∷ [])) (operand (pointer 65 (struct 59 (i8 61 ∷ []))) (text.Const (const.Null 67)))
      (operand (integer 64 73) (text.Const (number 0 77 78)) ∷ operand (integer 32 80) (text.Const (number 4294967296 84 94)) ∷ []))
      ∷ setting (named 95 b) (load (i1 105) (operand (pointer 111 (i1 109)) (text.Local (named 113 z))) None) ∷ []))
      ≡ fault 84 94 WrongType ∷ []
  -- `define void @f(i8 %x, i8* %y) { %z = getelementptr i1, i8* %y %b = load i8, i8* %z ret void }`
  pub base_alone :
      faults
      (of_lines
      (setting (named 32 z) (element 37 false (i1 51) (operand (pointer 57 (i8 55)) (text.Local (named 59 y))) [])
      ∷ setting (named 62 b) (load (i8 72) (operand (pointer 78 (i8 76)) (text.Local (named 80 z))) None) ∷ []))
      ≡ []
  -- `define void @f(i8 %x, i8* %y) { %z = getelementptr i8, i8* %y, i8* %y %b = load i1, i1* %z ret void }`
  pub pointer_index :
      faults
      (of_lines
      (setting (named 32 z)
      (element 37 false (i8 51) (operand (pointer 57 (i8 55)) (text.Local (named 59 y)))
      (operand (pointer 65 (i8 63)) (text.Local (named 67 y)) ∷ []))
      ∷ setting (named 70 b) (load (i1 80) (operand (pointer 86 (i1 84)) (text.Local (named 88 z))) None) ∷ []))
      ≡ []
  -- `define void @f(i8 %x, i8* %y) { %z = getelementptr i8, i8* %y, i64 0, i64 1 %b = load i1, i1* %z ret void }`
  pub nowhere :
      faults
      (of_lines
      (setting (named 32 z)
      (element 37 false (i8 51) (operand (pointer 57 (i8 55)) (text.Local (named 59 y)))
      (operand (integer 64 63) (text.Const (number 0 67 68)) ∷ operand (integer 64 70) (text.Const (number 1 74 75)) ∷ []))
      ∷ setting (named 76 b) (load (i1 86) (operand (pointer 92 (i1 90)) (text.Local (named 94 z))) None) ∷ []))
      ≡ []
  -- `define void @f(i8 %x, i8* %y) { %z = getelementptr i8, i8* %y, i64 0, i64 1 %b = add i32 %z, 1 ret void }`
  pub nowhere_at_integer :
      faults
      (of_lines
      (setting (named 32 z)
      (element 37 false (i8 51) (operand (pointer 57 (i8 55)) (text.Local (named 59 y)))
      (operand (integer 64 63) (text.Const (number 0 67 68)) ∷ operand (integer 64 70) (text.Const (number 1 74 75)) ∷ []))
      ∷ setting (named 76 b) (sum (operand (integer 32 85) (text.Local (named 89 z))) (text.Const (number 1 93 94))) ∷ []))
      ≡ []
  -- `define void @f() { x: %z = add i8 %x, 0 ret void }`
  pub label_as_value :
      faults
      (of_blocks 12 [] 17
      (block (Some (named 19 x)) []
      (setting (named 22 z) (sum (operand (i8 31) (text.Local (named 34 x))) (text.Const (number 0 38 39))) ∷ []) (term.Ret None)) []
      ∷ [])
      ≡ fault 34 36 WrongType ∷ []
  -- `define void @f(i8 %x) { br label %x }`
  pub register_as_label :
      faults
      (of_blocks 12 (param (i8 15) [] (Some (named 18 x)) ∷ []) 22 (block None [] [] (term.Br (branch.Always (named 33 x)))) [] ∷ [])
      ≡ fault 33 35 WrongType ∷ []
  -- `define void @f() { br label %x }`
  pub unknown_label :
      faults (of_blocks 12 [] 17 (block None [] [] (term.Br (branch.Always (named 28 x)))) [] ∷ [])
      ≡ fault 28 30 Unknown ∷ []
  -- `define void @f(i8 %x) { phi i8 [ 0, %x ], [ %x, %0 ] ret void }`
  pub entry_label :
      faults
      (of_blocks 12 (param (i8 15) [] (Some (named 18 x)) ∷ []) 22
      (block None
      (phi None (i8 28) (entry 31 (text.Const (number 0 33 34)) (named 36 x))
      (entry 42 (text.Local (named 44 x)) (named 48 (Number 0)) ∷ []) ∷ []) [] (term.Ret None)) [] ∷ [])
      ≡ fault 36 38 WrongType ∷ []
  -- `define void @f(i8 %x) { phi i1 [ %x, %0 ] ret void }`
  pub entry_value :
      faults
      (of_blocks 12 (param (i8 15) [] (Some (named 18 x)) ∷ []) 22
      (block None (phi None (i1 28) (entry 31 (text.Local (named 33 x)) (named 37 (Number 0))) [] ∷ []) [] (term.Ret None)) [] ∷ [])
      ≡ fault 33 35 WrongType ∷ []
  -- `define void @f(i1 %x) { br i1 %x, label %0, label %x }`
  pub condition :
      faults
      (of_blocks 12 (param (i1 15) [] (Some (named 18 x)) ∷ []) 22
      (block None [] []
      (term.Br
      (branch.Condition (record { condition = operand (i1 27) (text.Local (named 30 x)); on_true = named 40 (Number 0); on_false = named 50 x }))))
      [] ∷ [])
      ≡ fault 50 52 WrongType ∷ []
  -- `define i8 @f(i8 %x) { ret i1 %x }`
  pub returned :
      faults
      (define (result [] (Some (i8 7))) (global_name.Plain (named 10 f)) (param (i8 13) [] (Some (named 16 x)) ∷ []) 20
      (block None [] [] (term.Ret (Some (operand (i1 26) (text.Local (named 29 x)))))) [] ∷ [])
      ≡ fault 29 31 WrongType ∷ []
  -- `define void @f(i8 %x, i8* %y) { %z = zext i8 %y to i32 ret void }`
  pub converted :
      faults
      (of_lines (setting (named 32 z) (cast (conversion.Resize ZExt) (operand (i8 42) (text.Local (named 45 y))) (integer 32 51)) ∷ []))
      ≡ fault 45 47 WrongType ∷ []
  -- `define void @f(i8 %x, i8* %y) { %z = load i8, i8* %x ret void }`
  pub load_address :
      faults (of_lines (setting (named 32 z) (load (i8 42) (operand (pointer 48 (i8 46)) (text.Local (named 50 x))) None) ∷ []))
      ≡ fault 50 52 WrongType ∷ []
  -- `declare i8 @g(i8) define void @f(i1 %x) { %z = call i8 @g(i8 %x) ret void }`
  pub an_argument :
      faults
      (declare (result [] (Some (i8 8))) (named 11 g) (param (i8 14) [] None ∷ []) false no_more
      ∷ of_blocks 30 (param (i1 33) [] (Some (named 36 x)) ∷ []) 40
      (block None []
      (setting (named 42 z)
      (call (body.Typed (i8 52) None (global_name.Plain (named 55 g)) (arguments (argument (i8 58) (text.Local (named 61 x)) ∷ []))))
      ∷ []) (term.Ret None)) [] ∷ [])
      ≡ fault 61 63 WrongType ∷ []
  -- `define void @f(i1 %x) { switch i8 %x, label %0 [ ] }`
  pub switched :
      faults
      (of_blocks 12 (param (i1 15) [] (Some (named 18 x)) ∷ []) 22
      (block None [] []
      (term.Switch (record { value = operand (i8 31) (text.Local (named 34 x)); default = named 44 (Number 0); at = 47; cases = [] })))
      [] ∷ [])
      ≡ fault 34 36 WrongType ∷ []
  -- `define void @f(i8 %x) { br i1 %x, label %0, label %0 }`
  pub branched :
      faults
      (of_blocks 12 (param (i8 15) [] (Some (named 18 x)) ∷ []) 22
      (block None [] []
      (term.Br
      (branch.Condition (record { condition = operand (i1 27) (text.Local (named 30 x)); on_true = named 40 (Number 0); on_false = named 50 (Number 0) }))))
      [] ∷ [])
      ≡ fault 30 32 WrongType ∷ []
  -- `define void @f(i8 %x) { phi i8 [ %x, %0 ], [ %y, %x ] ret void }`
  pub later_entry :
      faults
      (of_blocks 12 (param (i8 15) [] (Some (named 18 x)) ∷ []) 22
      (block None
      (phi None (i8 28) (entry 31 (text.Local (named 33 x)) (named 37 (Number 0)))
      (entry 43 (text.Local (named 45 y)) (named 49 x) ∷ []) ∷ []) [] (term.Ret None)) [] ∷ [])
      ≡ fault 45 47 Unknown ∷ fault 49 51 WrongType ∷ []
  -- `define void @g(i8 %x) { ret void } define void @f() { %z = add i8 %x, 0 ret void }`
  pub other_function :
      faults
      (define (result [] None) (global_name.Plain (named 12 g)) (param (i8 15) [] (Some (named 18 x)) ∷ []) 22
      (block None [] [] (term.Ret None)) []
      ∷ of_blocks 47 [] 52
      (block None [] (setting (named 54 z) (sum (operand (i8 63) (text.Local (named 66 x))) (text.Const (number 0 70 71))) ∷ [])
      (term.Ret None)) [] ∷ [])
      ≡ fault 66 68 Unknown ∷ []
  -- `define void @f(i8 %x, i8* %y) { %z = select i1 %y, i8 %y, i8 %y ret void }`
  pub each_operand :
      faults
      (of_lines
      (setting (named 32 z)
      (select (operand (i1 44) (text.Local (named 47 y))) (operand (i8 51) (text.Local (named 54 y)))
      (operand (i8 58) (text.Local (named 61 y)))) ∷ []))
      ≡ fault 47 49 WrongType ∷ fault 54 56 WrongType ∷ fault 61 63 WrongType ∷ []
  -- `define void @f(i8 %x, i8* %y) { %z = getelementptr i8, i8* %x, i64 %x ret void }`
  pub base_and_index :
      faults
      (of_lines
      (setting (named 32 z)
      (element 37 false (i8 51) (operand (pointer 57 (i8 55)) (text.Local (named 59 x)))
      (operand (integer 64 63) (text.Local (named 67 x)) ∷ [])) ∷ []))
      ≡ fault 59 61 WrongType ∷ fault 67 69 WrongType ∷ []
  -- `define void @f(i8 %x, i8* %y) { store i8 %y, i8* %x ret void }`
  pub stored_and_address :
      faults
      (of_lines
      (bare (store (operand (i8 38) (text.Local (named 41 y))) (operand (pointer 47 (i8 45)) (text.Local (named 49 x))) None) ∷ []))
      ≡ fault 41 43 WrongType ∷ fault 49 51 WrongType ∷ []
  -- `define void @f(i8 %x) { switch i8 %x, label %y [ ] }`
  pub default_label :
      faults
      (of_blocks 12 (param (i8 15) [] (Some (named 18 x)) ∷ []) 22
      (block None [] []
      (term.Switch (record { value = operand (i8 31) (text.Local (named 34 x)); default = named 44 y; at = 47; cases = [] }))) [] ∷ [])
      ≡ fault 44 46 Unknown ∷ []
  -- `define void @f(i8 %x) { switch i8 %x, label %0 [ i8 1, label %y ] }`
  pub case_label :
      faults
      (of_blocks 12 (param (i8 15) [] (Some (named 18 x)) ∷ []) 22
      (block None [] []
      (term.Switch (record {
        value = operand (i8 31) (text.Local (named 34 x));
        default = named 44 (Number 0);
        at = 47;
        cases = case (i8 49) (plus 1 52 53) (named 61 y) ∷ [];
      }))) [] ∷ [])
      ≡ fault 61 63 Unknown ∷ []
