-- What is at fault in names.
use Rattle.ir_types.specs.declared.names.Name.TheVariants.{Number}
use Rattle.module_grammar.specs.AtPlaces.{debug_at}
use Rattle.module_grammar.specs.declared.constants.GlobalNameText.TheVariants as global_name
use Rattle.module_grammar.specs.declared.constants.InitText as init
use Rattle.module_grammar.specs.declared.constants.ValueText.TheVariants as text
use Rattle.module_grammar.specs.declared.flow.BranchText.TheVariants as branch
use Rattle.module_grammar.specs.declared.flow.TermText.TheVariants as term
use Rattle.module_grammar.specs.declared.functions.DeclaredNameText.TheVariants as declared_name
use Rattle.module_grammar.specs.declared.items.ItemText.TheVariants as item
use Rattle.module_grammar.specs.declared.items.TypeBodyText.TheVariants as type_body
use Rattle.module_grammar.specs.declared.lines.CallBodyText.TheVariants as body
use Rattle.module_grammar.specs.declared.lines.VoidCallText.TheVariants as of_void
use Rattle.name_claims.specs.declared.claims.Reason.TheVariants.{Twice, Unknown, WrongNumber, WrongType}
use Rattle.module_texts.specs.NamedModuleLaws.Words.{b, f, g, x, y, z, named, i8, pointer, number, operand, setting, bare, sum, store, call, arguments, entry, phi, block, result, param, no_more, declare, define, of_blocks, of_lines, global, faults, fault}
use Rattle.std.specs.Prelude.{◌≡◌, false, [], ◌∷◌, None, Some}

-- What lines define names, and which names are new and due in a function.
pub record NamesOfLinesAreTested : Type 0 where
  -- `define void @f(i8 %x, i8* %y) { %z = store i8 %x, i8* %y ret void }`
  pub stored :
      faults
      (of_lines
      (setting (named 32 z)
      (store (operand (i8 43) (text.Local (named 46 x))) (operand (pointer 52 (i8 50)) (text.Local (named 54 y))) None) ∷ []))
      ≡ fault 32 34 WrongType ∷ []
  -- `define void @f(i8 %x, i8* %y) { %x = store i8 1, i8* %y ret void }`
  pub known_store :
      faults
      (of_lines
      (setting (named 32 x)
      (store (operand (i8 43) (text.Const (number 1 46 47))) (operand (pointer 51 (i8 49)) (text.Local (named 53 y))) None) ∷ []))
      ≡ fault 32 34 Twice ∷ fault 32 34 WrongType ∷ []
  -- `define void @f(i8 %x, i8* %y) { %5 = store i8 %x, i8* %y ret void }`
  pub numbered_store :
      faults
      (of_lines
      (setting (named 32 (Number 5))
      (store (operand (i8 43) (text.Local (named 46 x))) (operand (pointer 52 (i8 50)) (text.Local (named 54 y))) None) ∷ []))
      ≡ fault 32 34 WrongType ∷ []
  -- `define void @f(i8 %x, i8* %y) { %z = store i8 %x, i8* %y %z = add i8 0, 0 ret void }`
  pub stored_again :
      faults
      (of_lines
      (setting (named 32 z)
      (store (operand (i8 43) (text.Local (named 46 x))) (operand (pointer 52 (i8 50)) (text.Local (named 54 y))) None)
      ∷ setting (named 57 z) (sum (operand (i8 66) (text.Const (number 0 69 70))) (text.Const (number 0 72 73))) ∷ []))
      ≡ fault 32 34 WrongType ∷ []
  -- `define void @f(i8 %x, i8* %y) { %z = store i8 %x, i8* %y %b = add i8 %z, 0 ret void }`
  pub stored_used :
      faults
      (of_lines
      (setting (named 32 z)
      (store (operand (i8 43) (text.Local (named 46 x))) (operand (pointer 52 (i8 50)) (text.Local (named 54 y))) None)
      ∷ setting (named 57 b) (sum (operand (i8 66) (text.Local (named 69 z))) (text.Const (number 0 73 74))) ∷ []))
      ≡ fault 69 71 Unknown ∷ fault 32 34 WrongType ∷ []
  -- `declare void @g() define void @f() { %z = call void @g() ret void }`
  pub void_call :
      faults
      (declare (result [] None) (named 13 g) [] false no_more
      ∷ of_blocks 30 [] 35
      (block None []
      (setting (named 37 z) (call (body.Void (record { is_stated = false; call = of_void.Call (named 52 g) (arguments []) }))) ∷ [])
      (term.Ret None)) [] ∷ [])
      ≡ fault 37 39 WrongType ∷ []
  -- `declare void @g() define void @f(i8 %z) { %z = call void @g() ret void }`
  pub known_call :
      faults
      (declare (result [] None) (named 13 g) [] false no_more
      ∷ of_blocks 30 (param (i8 33) [] (Some (named 36 z)) ∷ []) 40
      (block None []
      (setting (named 42 z) (call (body.Void (record { is_stated = false; call = of_void.Call (named 57 g) (arguments []) }))) ∷ [])
      (term.Ret None)) [] ∷ [])
      ≡ fault 42 44 Twice ∷ fault 42 44 WrongType ∷ []
  -- `define void @f() { %z = call void @llvm.dbg.x() ret void }`
  pub dropped_call :
      faults
      (of_blocks 12 [] 17
      (block None []
      (setting (named 19 z) (call (body.Void (record { is_stated = false; call = of_void.Debug (debug_at 34 45) [] }))) ∷ [])
      (term.Ret None)) [] ∷ [])
      ≡ fault 19 21 WrongType ∷ []
  -- `define void @f(i8 %z) { %z = call void @llvm.dbg.x() ret void }`
  pub known_dropped_call :
      faults
      (of_blocks 12 (param (i8 15) [] (Some (named 18 z)) ∷ []) 22
      (block None []
      (setting (named 24 z) (call (body.Void (record { is_stated = false; call = of_void.Debug (debug_at 39 50) [] }))) ∷ [])
      (term.Ret None)) [] ∷ [])
      ≡ fault 24 26 Twice ∷ fault 24 26 WrongType ∷ []
  -- `define void @f(i8 %x, i8* %y) { %x = add i8 0, 0 ret void }`
  pub twice :
      faults (of_lines (setting (named 32 x) (sum (operand (i8 41) (text.Const (number 0 44 45))) (text.Const (number 0 47 48))) ∷ []))
      ≡ fault 32 34 Twice ∷ []
  -- `define void @f(i8 %x, i8 %x) { ret void }`
  pub twice_among_params :
      faults
      (of_blocks 12 (param (i8 15) [] (Some (named 18 x)) ∷ param (i8 22) [] (Some (named 25 x)) ∷ []) 29
      (block None [] [] (term.Ret None)) [] ∷ [])
      ≡ fault 25 27 Twice ∷ []
  -- `define void @f(i8 %x) { x: ret void }`
  pub label_twice :
      faults (of_blocks 12 (param (i8 15) [] (Some (named 18 x)) ∷ []) 22 (block (Some (named 24 x)) [] [] (term.Ret None)) [] ∷ [])
      ≡ fault 24 25 Twice ∷ []
  -- `define void @f() { x: br label %x x: ret void }`
  pub labels_twice :
      faults
      (of_blocks 12 [] 17 (block (Some (named 19 x)) [] [] (term.Br (branch.Always (named 31 x))))
      (block (Some (named 34 x)) [] [] (term.Ret None) ∷ []) ∷ [])
      ≡ fault 34 35 Twice ∷ []
  -- `define void @f() { x: %x = add i8 0, 0 ret void }`
  pub register_after_label :
      faults
      (of_blocks 12 [] 17
      (block (Some (named 19 x)) []
      (setting (named 22 x) (sum (operand (i8 31) (text.Const (number 0 34 35))) (text.Const (number 0 37 38))) ∷ []) (term.Ret None))
      [] ∷ [])
      ≡ fault 22 24 Twice ∷ []
  -- `define void @f(i8) { 0: ret void }`
  pub twice_and_wrong :
      faults (of_blocks 12 (param (i8 15) [] None ∷ []) 19 (block (Some (named 21 (Number 0))) [] [] (term.Ret None)) [] ∷ [])
      ≡ fault 21 22 Twice ∷ fault 21 22 (WrongNumber 1) ∷ []
  -- `define void @f(i8 %x, i8* %y) { %5 = add i8 1, 2 %2 = add i8 1, 2 ret void }`
  pub wrong_number :
      faults
      (of_lines
      (setting (named 32 (Number 5)) (sum (operand (i8 41) (text.Const (number 1 44 45))) (text.Const (number 2 47 48)))
      ∷ setting (named 49 (Number 2)) (sum (operand (i8 58) (text.Const (number 1 61 62))) (text.Const (number 2 64 65))) ∷ []))
      ≡ fault 32 34 (WrongNumber 1) ∷ []
  -- `define void @f() { 1: ret void }`
  pub wrong_label :
      faults (of_blocks 12 [] 17 (block (Some (named 19 (Number 1))) [] [] (term.Ret None)) [] ∷ [])
      ≡ fault 19 20 (WrongNumber 0) ∷ []
  -- `define void @f(i8 %1) { ret void }`
  pub wrong_param :
      faults (of_blocks 12 (param (i8 15) [] (Some (named 18 (Number 1))) ∷ []) 22 (block None [] [] (term.Ret None)) [] ∷ [])
      ≡ fault 18 20 (WrongNumber 0) ∷ []
  -- `define i8 @f(i8) { %2 = add i8 %0, 0 ret i8 %2 }`
  pub one_count :
      faults
      (define (result [] (Some (i8 7))) (global_name.Plain (named 10 f)) (param (i8 13) [] None ∷ []) 17
      (block None []
      (setting (named 19 (Number 2)) (sum (operand (i8 28) (text.Local (named 31 (Number 0)))) (text.Const (number 0 35 36))) ∷ [])
      (term.Ret (Some (operand (i8 41) (text.Local (named 44 (Number 2))))))) [] ∷ [])
      ≡ []
  -- `define i8 @f(i8 %x) { %1 = add i8 %x, 0 ret i8 %1 }`
  pub uncounted_names :
      faults
      (define (result [] (Some (i8 7))) (global_name.Plain (named 10 f)) (param (i8 13) [] (Some (named 16 x)) ∷ []) 20
      (block None []
      (setting (named 22 (Number 1)) (sum (operand (i8 31) (text.Local (named 34 x))) (text.Const (number 0 38 39))) ∷ [])
      (term.Ret (Some (operand (i8 44) (text.Local (named 47 (Number 1))))))) [] ∷ [])
      ≡ []
  -- `define i8 @f(i8 %x) { 0: %1 = add i8 %x, 0 ret i8 %1 }`
  pub written_label :
      faults
      (define (result [] (Some (i8 7))) (global_name.Plain (named 10 f)) (param (i8 13) [] (Some (named 16 x)) ∷ []) 20
      (block (Some (named 22 (Number 0))) []
      (setting (named 25 (Number 1)) (sum (operand (i8 34) (text.Local (named 37 x))) (text.Const (number 0 41 42))) ∷ [])
      (term.Ret (Some (operand (i8 47) (text.Local (named 50 (Number 1))))))) [] ∷ [])
      ≡ []
  -- `define i8 @f(i8 %0, i8 %1) { 2: %3 = add i8 %0, %1 ret i8 %3 }`
  pub written_numbers :
      faults
      (define (result [] (Some (i8 7))) (global_name.Plain (named 10 f))
      (param (i8 13) [] (Some (named 16 (Number 0))) ∷ param (i8 20) [] (Some (named 23 (Number 1))) ∷ []) 27
      (block (Some (named 29 (Number 2))) []
      (setting (named 32 (Number 3)) (sum (operand (i8 41) (text.Local (named 44 (Number 0)))) (text.Local (named 48 (Number 1)))) ∷ [])
      (term.Ret (Some (operand (i8 55) (text.Local (named 58 (Number 3))))))) [] ∷ [])
      ≡ []
  -- `%x = type opaque %0 = type opaque define void @f(i8 %f, i8 %x, i8) { ret void }`
  pub apart :
      faults
      (item.Type (named 0 x) type_body.Opaque
      ∷ item.Type (named 17 (Number 0)) type_body.Opaque
      ∷ of_blocks 46 (param (i8 49) [] (Some (named 52 f)) ∷ param (i8 56) [] (Some (named 59 x)) ∷ param (i8 63) [] None ∷ []) 67
      (block None [] [] (term.Ret None)) [] ∷ [])
      ≡ []
  -- `define i8 @f(i8 %x) { br label %1 phi i8 [ %x, %0 ] add i8 %2, 1 ret i8 %3 }`
  pub blocks :
      faults
      (define (result [] (Some (i8 7))) (global_name.Plain (named 10 f)) (param (i8 13) [] (Some (named 16 x)) ∷ []) 20
      (block None [] [] (term.Br (branch.Always (named 31 (Number 1)))))
      (block None (phi None (i8 38) (entry 41 (text.Local (named 43 x)) (named 47 (Number 0))) [] ∷ [])
      (bare (sum (operand (i8 56) (text.Local (named 59 (Number 2)))) (text.Const (number 1 63 64))) ∷ [])
      (term.Ret (Some (operand (i8 69) (text.Local (named 72 (Number 3)))))) ∷ []) ∷ [])
      ≡ []
  -- `declare void @g() define i8 @f(i8* %x) { store i8 0, i8* %x call void @g() call void @llvm.dbg.x() %1 = add i8 0, 1 ret i8 %1 }`
  pub uncounted_lines :
      faults
      (declare (result [] None) (named 13 g) [] false no_more
      ∷ define (result [] (Some (i8 25))) (global_name.Plain (named 28 f)) (param (pointer 33 (i8 31)) [] (Some (named 35 x)) ∷ []) 39
      (block None []
      (bare (store (operand (i8 47) (text.Const (number 0 50 51))) (operand (pointer 55 (i8 53)) (text.Local (named 57 x))) None)
      ∷ bare (call (body.Void (record { is_stated = false; call = of_void.Call (named 70 g) (arguments []) })))
      ∷ bare (call (body.Void (record { is_stated = false; call = of_void.Debug (debug_at 85 96) [] })))
      ∷ setting (named 99 (Number 1)) (sum (operand (i8 108) (text.Const (number 0 111 112))) (text.Const (number 1 114 115))) ∷ [])
      (term.Ret (Some (operand (i8 120) (text.Local (named 123 (Number 1))))))) [] ∷ [])
      ≡ []

-- Which names are new and due in a module.
pub record NamesOfItemsAreTested : Type 0 where
  -- `%x = type opaque %x = type {}`
  pub type_twice :
      faults (item.Type (named 0 x) type_body.Opaque ∷ item.Type (named 17 x) (type_body.Struct 27 []) ∷ [])
      ≡ fault 17 19 Twice ∷ []
  -- `%0 = type opaque %2 = type opaque %2 = type opaque`
  pub type_number :
      faults
      (item.Type (named 0 (Number 0)) type_body.Opaque
      ∷ item.Type (named 17 (Number 2)) type_body.Opaque
      ∷ item.Type (named 34 (Number 2)) type_body.Opaque ∷ [])
      ≡ fault 34 36 Twice ∷ fault 17 19 (WrongNumber 1) ∷ []
  -- `%5 = type opaque %x = type opaque %1 = type opaque`
  pub type_counted_on :
      faults
      (item.Type (named 0 (Number 5)) type_body.Opaque ∷ item.Type (named 17 x) type_body.Opaque
      ∷ item.Type (named 34 (Number 1)) type_body.Opaque ∷ [])
      ≡ fault 0 2 (WrongNumber 0) ∷ []
  -- `%x = type opaque @x = global i8 0 %0 = type opaque @0 = global i8 0`
  pub apart :
      faults
      (item.Type (named 0 x) type_body.Opaque
      ∷ global 17 x (i8 29) (init.Const (number 0 32 33))
      ∷ item.Type (named 34 (Number 0)) type_body.Opaque
      ∷ global 51 (Number 0) (i8 63) (init.Const (number 0 66 67)) ∷ [])
      ≡ []
  -- `@x = global i8 0 @x = global i8 0`
  pub global_twice :
      faults (global 0 x (i8 12) (init.Const (number 0 15 16)) ∷ global 17 x (i8 29) (init.Const (number 0 32 33)) ∷ [])
      ≡ fault 17 19 Twice ∷ []
  -- `define void @x() { ret void } @x = global i8 0`
  pub global_after_function :
      faults
      (define (result [] None) (global_name.Plain (named 12 x)) [] 17 (block None [] [] (term.Ret None)) []
      ∷ global 30 x (i8 42) (init.Const (number 0 45 46)) ∷ [])
      ≡ fault 30 32 Twice ∷ []
  -- `@x = global i8 0 declare void @x()`
  pub function_after_global :
      faults (global 0 x (i8 12) (init.Const (number 0 15 16)) ∷ declare (result [] None) (named 30 x) [] false no_more ∷ [])
      ≡ fault 30 32 Twice ∷ []
  -- `declare void @x() define void @x() { ret void }`
  pub function_twice :
      faults
      (declare (result [] None) (named 13 x) [] false no_more
      ∷ define (result [] None) (global_name.Plain (named 30 x)) [] 35 (block None [] [] (term.Ret None)) [] ∷ [])
      ≡ fault 30 32 Twice ∷ []
  -- `@0 = global i8 0 @2 = global i8 0`
  pub global_number :
      faults
      (global 0 (Number 0) (i8 12) (init.Const (number 0 15 16)) ∷ global 17 (Number 2) (i8 29) (init.Const (number 0 32 33)) ∷ [])
      ≡ fault 17 19 (WrongNumber 1) ∷ []
  -- `@0 = global i8 0 @0 = global i8 0`
  pub number_twice :
      faults
      (global 0 (Number 0) (i8 12) (init.Const (number 0 15 16)) ∷ global 17 (Number 0) (i8 29) (init.Const (number 0 32 33)) ∷ [])
      ≡ fault 17 19 Twice ∷ fault 17 19 (WrongNumber 1) ∷ []
  -- `@5 = global i8 0 define void @1() { ret void }`
  pub counted_on :
      faults
      (global 0 (Number 5) (i8 12) (init.Const (number 0 15 16))
      ∷ define (result [] None) (global_name.Plain (named 29 (Number 1))) [] 34 (block None [] [] (term.Ret None)) [] ∷ [])
      ≡ fault 0 2 (WrongNumber 0) ∷ []
  -- `define void @1() { ret void } @0 = global i8 0`
  pub globals_first :
      faults
      (define (result [] None) (global_name.Plain (named 12 (Number 1))) [] 17 (block None [] [] (term.Ret None)) []
      ∷ global 30 (Number 0) (i8 42) (init.Const (number 0 45 46)) ∷ [])
      ≡ []
  -- `define void @0() { ret void } @1 = global i8 0`
  pub file_order :
      faults
      (define (result [] None) (global_name.Plain (named 12 (Number 0))) [] 17 (block None [] [] (term.Ret None)) []
      ∷ global 30 (Number 1) (i8 42) (init.Const (number 0 45 46)) ∷ [])
      ≡ fault 30 32 (WrongNumber 0) ∷ fault 12 14 (WrongNumber 1) ∷ []
  -- `declare void @0() define void @1() { ret void } declare void @x() declare void @2()`
  pub functions_in_order :
      faults
      (declare (result [] None) (named 13 (Number 0)) [] false no_more
      ∷ define (result [] None) (global_name.Plain (named 30 (Number 1))) [] 35 (block None [] [] (term.Ret None)) []
      ∷ declare (result [] None) (named 61 x) [] false no_more
      ∷ declare (result [] None) (named 79 (Number 2)) [] false no_more ∷ [])
      ≡ []
  -- `declare void @0() define void @2() { ret void }`
  pub function_number :
      faults
      (declare (result [] None) (named 13 (Number 0)) [] false no_more
      ∷ define (result [] None) (global_name.Plain (named 30 (Number 2))) [] 35 (block None [] [] (term.Ret None)) [] ∷ [])
      ≡ fault 30 32 (WrongNumber 1) ∷ []
  -- `declare void @llvm.dbg.x() define void @llvm.dbg.x() { ret void }`
  pub dropped_name :
      faults
      (item.Declaration (record { result = result [] None; declared = declared_name.Debug (debug_at 13 24) no_more })
      ∷ define (result [] None) (global_name.Debug (debug_at 39 50)) [] 53 (block None [] [] (term.Ret None)) [] ∷ [])
      ≡ []
  -- `declare void @f(i8 %x, i8 %x, i8 %7)`
  pub params_of_declarations :
      faults
      (declare (result [] None) (named 13 f)
      (param (i8 16) [] (Some (named 19 x)) ∷ param (i8 23) [] (Some (named 26 x)) ∷ param (i8 30) [] (Some (named 33 (Number 7))) ∷ [])
      false no_more ∷ [])
      ≡ []
