-- What is at fault in types.
use Rattle.ir_core.specs.declared.operands.Pred.TheVariants.{Eq}
use Rattle.ir_types.specs.declared.names.Name.TheVariants.{Number}
use Rattle.module_grammar.specs.AtPlaces.{debug_at}
use Rattle.module_grammar.specs.declared.constants.ConstText as const
use Rattle.module_grammar.specs.declared.constants.GlobalNameText.TheVariants as global_name
use Rattle.module_grammar.specs.declared.constants.InitText as init
use Rattle.module_grammar.specs.declared.constants.ValueText.TheVariants as text
use Rattle.module_grammar.specs.declared.flow.BranchText.TheVariants as branch
use Rattle.module_grammar.specs.declared.flow.TermText.TheVariants as term
use Rattle.module_grammar.specs.declared.functions.DeclaredNameText.TheVariants as declared_name
use Rattle.module_grammar.specs.declared.items.ItemText.TheVariants as item
use Rattle.module_grammar.specs.declared.items.TypeBodyText.TheVariants as type_body
use Rattle.module_grammar.specs.declared.lines.CallBodyText.TheVariants as body
use Rattle.module_grammar.specs.declared.lines.CastWord.TheVariants as conversion
use Rattle.name_claims.specs.declared.claims.Reason.TheVariants.{Unknown, WrongType}
use Rattle.module_texts.specs.NamedModuleLaws.Words.{b, f, g, x, y, z, named, positive, negative, plus, yes, i1, i8, integer, of_name, pointer, array, struct, number, operand, setting, bare, sum, compare, cast, select, element, alloca, load, store, call, argument, arguments, entry, phi, case, block, result, param, no_more, declare, define, of_blocks, of_lines, global, external, faults_declaring, faults, fault}
use Rattle.std.specs.Prelude.{◌≡◌, true, false, [], ◌∷◌, None, Some}

-- What is at fault in types.
pub record TypesAreTested : Type 0 where
  -- `%x = type { i8, %y* }`
  pub unknown :
      faults (item.Type (named 0 x) (type_body.Struct 10 (i8 12 ∷ pointer 18 (of_name (named 16 y)) ∷ [])) ∷ [])
      ≡ fault 16 18 Unknown ∷ []
  -- `%x = type { %y*, %x* } %y = type opaque`
  pub known :
      faults
      (item.Type (named 0 x) (type_body.Struct 10 (pointer 14 (of_name (named 12 y)) ∷ pointer 19 (of_name (named 17 x)) ∷ []))
      ∷ item.Type (named 23 y) type_body.Opaque ∷ [])
      ≡ []
  -- `%x = type { [-1 x i8] }`
  pub negative_count :
      faults (item.Type (named 0 x) (type_body.Struct 10 (array 12 (negative 1 13 15) (i8 18) ∷ [])) ∷ [])
      ≡ fault 13 15 WrongType ∷ []
  -- `@x = external global [18446744073709551616 x i8]`
  pub too_large : faults (external 0 x (array 21 (positive 18446744073709551616 22 42) (i8 45)) ∷ []) ≡ fault 22 42 WrongType ∷ []
  -- `@x = external global [18446744073709551615 x i8]`
  pub largest : faults (external 0 x (array 21 (positive 18446744073709551615 22 42) (i8 45)) ∷ []) ≡ []
  -- `@x = external global [-2 x i8]*`
  pub inner_count : faults (external 0 x (pointer 30 (array 21 (negative 2 22 24) (i8 27))) ∷ []) ≡ fault 22 24 WrongType ∷ []
  -- `@x = external global [-0 x i8]`
  pub zero_count : faults (external 0 x (array 21 (negative 0 22 24) (i8 27)) ∷ []) ≡ []
  -- `declare void @f([2 x i8])`
  pub array_param :
      faults (declare (result [] None) (named 13 f) (param (array 16 (positive 2 17 18) (i8 21)) [] None ∷ []) false no_more ∷ [])
      ≡ fault 16 17 WrongType ∷ []
  -- `define void @f({ i8 } %x) { ret void }`
  pub struct_param :
      faults (of_blocks 12 (param (struct 15 (i8 17 ∷ [])) [] (Some (named 22 x)) ∷ []) 26 (block None [] [] (term.Ret None)) [] ∷ [])
      ≡ fault 15 16 WrongType ∷ []
  -- `%x = type { i8 } declare void @f(%x)`
  pub named_param :
      faults
      (item.Type (named 0 x) (type_body.Struct 10 (i8 12 ∷ []))
      ∷ declare (result [] None) (named 30 f) (param (of_name (named 33 x)) [] None ∷ []) false no_more ∷ [])
      ≡ fault 33 34 WrongType ∷ []
  -- `declare { i8 } @f()`
  pub struct_result :
      faults (declare (result [] (Some (struct 8 (i8 10 ∷ [])))) (named 15 f) [] false no_more ∷ [])
      ≡ fault 8 9 WrongType ∷ []
  -- `define [2 x i8] @f() { unreachable }`
  pub array_result :
      faults
      (define (result [] (Some (array 7 (positive 2 8 9) (i8 12)))) (global_name.Plain (named 16 f)) [] 21
      (block None [] [] term.Unreachable) [] ∷ [])
      ≡ fault 7 8 WrongType ∷ []
  -- `define void @f(i8 %x, i8* %y) { %z = load [2 x i8], i8* %y ret void }`
  pub array_load :
      faults
      (of_lines
      (setting (named 32 z) (load (array 42 (positive 2 43 44) (i8 47)) (operand (pointer 54 (i8 52)) (text.Local (named 56 y))) None)
      ∷ []))
      ≡ fault 42 43 WrongType ∷ []
  -- `define void @f(i8 %x, i8* %y) { store [2 x i8] undef, i8* %y ret void }`
  pub array_store :
      faults
      (of_lines
      (bare
      (store (operand (array 38 (positive 2 39 40) (i8 43)) (text.Const const.Undef))
      (operand (pointer 56 (i8 54)) (text.Local (named 58 y))) None) ∷ []))
      ≡ fault 38 39 WrongType ∷ []
  -- `define void @f(i8 %x, i8* %y) { %z = add [2 x i8] undef, undef ret void }`
  pub once :
      faults
      (of_lines
      (setting (named 32 z) (sum (operand (array 41 (positive 2 42 43) (i8 46)) (text.Const const.Undef)) (text.Const const.Undef)) ∷ []))
      ≡ fault 41 42 WrongType ∷ []
  -- `define void @f(i8 %x, i8* %y) { %z = bitcast i8* %y to [2 x i8] ret void }`
  pub array_cast :
      faults
      (of_lines
      (setting (named 32 z)
      (cast (conversion.BitCast 37) (operand (pointer 47 (i8 45)) (text.Local (named 49 y))) (array 55 (positive 2 56 57) (i8 60))) ∷ []))
      ≡ fault 55 56 WrongType ∷ []
  -- `define void @f() { %x = phi [2 x i8] [ undef, %0 ] ret void }`
  pub array_phi :
      faults
      (of_blocks 12 [] 17
      (block None
      (phi (Some (named 19 x)) (array 28 (positive 2 29 30) (i8 33)) (entry 37 (text.Const const.Undef) (named 46 (Number 0))) [] ∷ [])
      [] (term.Ret None)) [] ∷ [])
      ≡ fault 28 29 WrongType ∷ []
  -- `declare i8 @g() define void @f() { %x = call [2 x i8] @g() ret void }`
  pub array_call :
      faults
      (declare (result [] (Some (i8 8))) (named 11 g) [] false no_more
      ∷ of_blocks 28 [] 33
      (block None []
      (setting (named 35 x)
      (call (body.Typed (array 45 (positive 2 46 47) (i8 50)) None (global_name.Plain (named 54 g)) (arguments []))) ∷ [])
      (term.Ret None)) [] ∷ [])
      ≡ fault 45 46 WrongType ∷ []
  -- `declare i8 @g(i8) define void @f() { %x = call i8 @g([2 x i8] undef) ret void }`
  pub array_argument :
      faults
      (declare (result [] (Some (i8 8))) (named 11 g) (param (i8 14) [] None ∷ []) false no_more
      ∷ of_blocks 30 [] 35
      (block None []
      (setting (named 37 x)
      (call
      (body.Typed (i8 47) None (global_name.Plain (named 50 g))
      (arguments (argument (array 53 (positive 2 54 55) (i8 58)) (text.Const const.Undef) ∷ [])))) ∷ []) (term.Ret None)) [] ∷ [])
      ≡ fault 53 54 WrongType ∷ []
  -- `define void @f(i8 %x, i8* %y) { %z = alloca [2 x i8] ret void }`
  pub any_alloca : faults (of_lines (setting (named 32 z) (alloca (array 44 (positive 2 45 46) (i8 49)) None None) ∷ [])) ≡ []
  -- `define void @f(i8 %x, i8* %y) { %z = getelementptr [2 x i8], [2 x i8]* null, i64 0 ret void }`
  pub any_first_type :
      faults
      (of_lines
      (setting (named 32 z)
      (element 37 false (array 51 (positive 2 52 53) (i8 56))
      (operand (pointer 69 (array 61 (positive 2 62 63) (i8 66))) (text.Const (const.Null 71)))
      (operand (integer 64 77) (text.Const (number 0 81 82)) ∷ [])) ∷ []))
      ≡ []
  -- `declare void @llvm.dbg.x([-1 x i8])`
  pub dropped :
      faults (item.Declaration (record { result = result [] None; declared = declared_name.Debug (debug_at 13 24) no_more }) ∷ [])
      ≡ []
  -- `declare %x @llvm.dbg.x()`
  pub dropped_result :
      faults
      (item.Declaration (record { result = result [] (Some (of_name (named 8 x))); declared = declared_name.Debug (debug_at 11 22) no_more })
      ∷ [])
      ≡ []
  -- `declare void @llvm.dbg.x([2 x i8]) unnamed_addr`
  pub kept_params :
      faults_declaring (record { params = param (array 25 (positive 2 26 27) (i8 30)) [] None ∷ []; is_open = false })
      (item.Declaration (record {
        result = result [] None;
        declared = declared_name.Debug (debug_at 13 24) (record { unnamed_addr = true; attributes = [] });
      }) ∷ [])
      ≡ fault 25 26 WrongType ∷ []
  -- `declare %x* @llvm.dbg.x() unnamed_addr`
  pub kept_result :
      faults
      (item.Declaration (record {
        result = result [] (Some (pointer 10 (of_name (named 8 x))));
        declared = declared_name.Debug (debug_at 12 23) (record { unnamed_addr = true; attributes = [] });
      }) ∷ [])
      ≡ fault 8 10 Unknown ∷ []

-- A type that is not there, wherever it stands.
pub record UnknownTypesAreTested : Type 0 where
  -- `@x = external global %b*`
  pub of_global : faults (external 0 x (pointer 23 (of_name (named 21 b))) ∷ []) ≡ fault 21 23 Unknown ∷ []
  -- `@x = external global { i8, %b }`
  pub of_field : faults (external 0 x (struct 21 (i8 23 ∷ of_name (named 27 b) ∷ [])) ∷ []) ≡ fault 27 29 Unknown ∷ []
  -- `@x = global %b* getelementptr (%b, %b* null)`
  pub of_addresses :
      faults
      (global 0 x (pointer 14 (of_name (named 12 b)))
      (init.Const (const.Element 16 false (of_name (named 31 b), pointer 37 (of_name (named 35 b)), const.Null 39, []))) ∷ [])
      ≡ fault 12 14 Unknown ∷ fault 31 33 Unknown ∷ fault 35 37 Unknown ∷ []
  -- `@x = global i8* getelementptr (i8, i8* null, %b* null)`
  pub of_index :
      faults
      (global 0 x (pointer 14 (i8 12))
      (init.Const
      (const.Element 16 false (i8 31, pointer 37 (i8 35), const.Null 39, (pointer 47 (of_name (named 45 b)), const.Null 49) ∷ []))) ∷ [])
      ≡ fault 45 47 Unknown ∷ []
  -- `@x = global %b* bitcast (%b* null to %b*)`
  pub of_recast :
      faults
      (global 0 x (pointer 14 (of_name (named 12 b)))
      (init.Const (const.Cast 16 (pointer 27 (of_name (named 25 b)), const.Null 29, pointer 39 (of_name (named 37 b))))) ∷ [])
      ≡ fault 12 14 Unknown ∷ fault 25 27 Unknown ∷ fault 37 39 Unknown ∷ []
  -- `@x = global [1 x i8] [%b zeroinitializer]`
  pub of_initial_element :
      faults (global 0 x (array 12 (positive 1 13 14) (i8 17)) (init.Array 21 ((of_name (named 22 b), init.Zero) ∷ [])) ∷ [])
      ≡ fault 22 24 Unknown ∷ fault 22 23 WrongType ∷ []
  -- `declare void @f(%b*)`
  pub of_declared_param :
      faults (declare (result [] None) (named 13 f) (param (pointer 18 (of_name (named 16 b))) [] None ∷ []) false no_more ∷ [])
      ≡ fault 16 18 Unknown ∷ []
  -- `define %b* @f(%b* %x) { unreachable }`
  pub of_param_and_result :
      faults
      (define (result [] (Some (pointer 9 (of_name (named 7 b))))) (global_name.Plain (named 11 f))
      (param (pointer 16 (of_name (named 14 b))) [] (Some (named 18 x)) ∷ []) 22 (block None [] [] term.Unreachable) [] ∷ [])
      ≡ fault 7 9 Unknown ∷ fault 14 16 Unknown ∷ []
  -- `define void @f(i8 %x, i8* %y) { %z = icmp eq %b* null, null ret void }`
  pub of_operand :
      faults
      (of_lines
      (setting (named 32 z)
      (compare Eq (operand (pointer 47 (of_name (named 45 b))) (text.Const (const.Null 49))) (text.Const (const.Null 55))) ∷ []))
      ≡ fault 45 47 Unknown ∷ []
  -- `define void @f(i8 %x, i8* %y) { %z = bitcast %b* null to %b* ret void }`
  pub of_conversion :
      faults
      (of_lines
      (setting (named 32 z)
      (cast (conversion.BitCast 37) (operand (pointer 47 (of_name (named 45 b))) (text.Const (const.Null 49)))
      (pointer 59 (of_name (named 57 b)))) ∷ []))
      ≡ fault 45 47 Unknown ∷ fault 57 59 Unknown ∷ []
  -- `define void @f(i8 %x, i8* %y) { %z = select i1 true, %b* null, %b* null ret void }`
  pub of_arms :
      faults
      (of_lines
      (setting (named 32 z)
      (select (operand (i1 44) (text.Const (const.Int (yes 47))))
      (operand (pointer 55 (of_name (named 53 b))) (text.Const (const.Null 57)))
      (operand (pointer 65 (of_name (named 63 b))) (text.Const (const.Null 67)))) ∷ []))
      ≡ fault 53 55 Unknown ∷ fault 63 65 Unknown ∷ []
  -- `define void @f(i8 %x, i8* %y) { %z = getelementptr %b, %b* null, %b* null ret void }`
  pub of_element :
      faults
      (of_lines
      (setting (named 32 z)
      (element 37 false (of_name (named 51 b)) (operand (pointer 57 (of_name (named 55 b))) (text.Const (const.Null 59)))
      (operand (pointer 67 (of_name (named 65 b))) (text.Const (const.Null 69)) ∷ [])) ∷ []))
      ≡ fault 51 53 Unknown ∷ fault 55 57 Unknown ∷ fault 65 67 Unknown ∷ []
  -- `define void @f(i8 %x, i8* %y) { %z = alloca %b ret void }`
  pub of_alloca : faults (of_lines (setting (named 32 z) (alloca (of_name (named 44 b)) None None) ∷ [])) ≡ fault 44 46 Unknown ∷ []
  -- `define void @f(i8 %x, i8* %y) { %z = alloca i8, %b* 7 ret void }`
  pub of_count :
      faults
      (of_lines
      (setting (named 32 z) (alloca (i8 44) (Some (record { ty = pointer 50 (of_name (named 48 b)); number = plus 7 52 53 })) None) ∷ []))
      ≡ fault 48 50 Unknown ∷ fault 52 53 WrongType ∷ []
  -- `define void @f(i8 %x, i8* %y) { %z = load %b*, %b* null ret void }`
  pub of_load :
      faults
      (of_lines
      (setting (named 32 z)
      (load (pointer 44 (of_name (named 42 b))) (operand (pointer 49 (of_name (named 47 b))) (text.Const (const.Null 51))) None) ∷ []))
      ≡ fault 42 44 Unknown ∷ fault 47 49 Unknown ∷ []
  -- `define void @f(i8 %x, i8* %y) { store %b* null, %b* null ret void }`
  pub of_store :
      faults
      (of_lines
      (bare
      (store (operand (pointer 40 (of_name (named 38 b))) (text.Const (const.Null 42)))
      (operand (pointer 50 (of_name (named 48 b))) (text.Const (const.Null 52))) None) ∷ []))
      ≡ fault 38 40 Unknown ∷ fault 48 50 Unknown ∷ []
  -- `declare i8 @g() define void @f() { %x = call %b* @g(%b* null) ret void }`
  pub of_call :
      faults
      (declare (result [] (Some (i8 8))) (named 11 g) [] false no_more
      ∷ of_blocks 28 [] 33
      (block None []
      (setting (named 35 x)
      (call
      (body.Typed (pointer 47 (of_name (named 45 b))) None (global_name.Plain (named 49 g))
      (arguments (argument (pointer 54 (of_name (named 52 b))) (text.Const (const.Null 56)) ∷ [])))) ∷ []) (term.Ret None)) [] ∷ [])
      ≡ fault 45 47 Unknown ∷ fault 52 54 Unknown ∷ []
  -- `define void @f() { %x = phi %b* [ null, %0 ] ret void }`
  pub of_phi :
      faults
      (of_blocks 12 [] 17
      (block None
      (phi (Some (named 19 x)) (pointer 30 (of_name (named 28 b))) (entry 32 (text.Const (const.Null 34)) (named 40 (Number 0))) [] ∷ [])
      [] (term.Ret None)) [] ∷ [])
      ≡ fault 28 30 Unknown ∷ []
  -- `define void @f() { br %b* null, label %0, label %0 }`
  pub of_condition :
      faults
      (of_blocks 12 [] 17
      (block None [] []
      (term.Br
      (branch.Condition (record {
        condition = operand (pointer 24 (of_name (named 22 b))) (text.Const (const.Null 26));
        on_true = named 38 (Number 0);
        on_false = named 48 (Number 0);
      })))) [] ∷ [])
      ≡ fault 22 24 Unknown ∷ []
  -- `define void @f() { switch %b* null, label %0 [ ] }`
  pub of_switch :
      faults
      (of_blocks 12 [] 17
      (block None [] []
      (term.Switch (record {
        value = operand (pointer 28 (of_name (named 26 b))) (text.Const (const.Null 30));
        default = named 42 (Number 0);
        at = 45;
        cases = [];
      }))) [] ∷ [])
      ≡ fault 26 28 Unknown ∷ []
  -- `define void @f(i8 %x) { switch i8 %x, label %0 [ %b* 7, label %0 ] }`
  pub of_case :
      faults
      (of_blocks 12 (param (i8 15) [] (Some (named 18 x)) ∷ []) 22
      (block None [] []
      (term.Switch (record {
        value = operand (i8 31) (text.Local (named 34 x));
        default = named 44 (Number 0);
        at = 47;
        cases = case (pointer 51 (of_name (named 49 b))) (plus 7 53 54) (named 62 (Number 0)) ∷ [];
      }))) [] ∷ [])
      ≡ fault 49 51 Unknown ∷ fault 53 54 WrongType ∷ []
  -- `define void @f() { ret %b* null }`
  pub of_returned :
      faults
      (of_blocks 12 [] 17
      (block None [] [] (term.Ret (Some (operand (pointer 25 (of_name (named 23 b))) (text.Const (const.Null 27)))))) [] ∷ [])
      ≡ fault 23 25 Unknown ∷ []
