-- What is at fault in calls.
use Rattle.module_grammar.specs.AtPlaces.{debug_at}
use Rattle.module_grammar.specs.declared.attributes.ParamAttributeText.TheVariants as attribute
use Rattle.module_grammar.specs.declared.constants.ConstText as const
use Rattle.module_grammar.specs.declared.constants.GlobalNameText.TheVariants as global_name
use Rattle.module_grammar.specs.declared.constants.InitText as init
use Rattle.module_grammar.specs.declared.constants.ValueText.TheVariants as text
use Rattle.module_grammar.specs.declared.flow.TermText.TheVariants as term
use Rattle.module_grammar.specs.declared.functions.DeclaredNameText.TheVariants as declared_name
use Rattle.module_grammar.specs.declared.items.ItemText.TheVariants as item
use Rattle.module_grammar.specs.declared.lines.CallBodyText.TheVariants as body
use Rattle.module_grammar.specs.declared.lines.VoidCallText.TheVariants as of_void
use Rattle.module_grammar.specs.declared.operators.ExtensionWord.TheVariants.{Signed}
use Rattle.name_claims.specs.declared.claims.Reason.TheVariants.{Unknown, WrongType}
use Rattle.module_texts.specs.NamedModuleLaws.Words.{f, g, x, z, named, positive, yes, i1, i8, of_name, pointer, number, setting, bare, call, argument, arguments, block, result, param, no_more, declare, of_blocks, global, faults_stating, faults, fault}
use Rattle.std.specs.Prelude.{◌≡◌, true, false, [], ◌∷◌, None, Some}

-- What may be called, and at which types of parameters.
pub record CallsAreTested : Type 0 where
  -- `@x = global i8 0 define void @f() { call void @x() ret void }`
  pub global_called :
      faults
      (global 0 x (i8 12) (init.Const (number 0 15 16))
      ∷ of_blocks 29 [] 34
      (block None [] (bare (call (body.Void (record { is_stated = false; call = of_void.Call (named 46 x) (arguments []) }))) ∷ [])
      (term.Ret None)) [] ∷ [])
      ≡ fault 46 48 WrongType ∷ []
  -- `define void @f() { call void @g() ret void }`
  pub unknown :
      faults
      (of_blocks 12 [] 17
      (block None [] (bare (call (body.Void (record { is_stated = false; call = of_void.Call (named 29 g) (arguments []) }))) ∷ [])
      (term.Ret None)) [] ∷ [])
      ≡ fault 29 31 Unknown ∷ []
  -- `define void @f() { call ccc void @llvm.dbg.x() ret void }`
  pub debugging_by_convention :
      faults
      (of_blocks 12 [] 17
      (block None []
      (bare
      (call (body.Convention [] (record { result = None; called = None; name = global_name.Debug (debug_at 33 44) }) (arguments [])))
      ∷ []) (term.Ret None)) [] ∷ [])
      ≡ fault 33 44 Unknown ∷ []
  -- `define void @f() { call void @f() ret void }`
  pub itself :
      faults
      (of_blocks 12 [] 17
      (block None [] (bare (call (body.Void (record { is_stated = false; call = of_void.Call (named 29 f) (arguments []) }))) ∷ [])
      (term.Ret None)) [] ∷ [])
      ≡ []
  -- `declare void @llvm.dbg.x() define void @f() { call void @llvm.dbg.x() ret void }`
  pub dropped :
      faults
      (item.Declaration (record { result = result [] None; declared = declared_name.Debug (debug_at 13 24) no_more })
      ∷ of_blocks 39 [] 44
      (block None [] (bare (call (body.Void (record { is_stated = false; call = of_void.Debug (debug_at 56 67) [] }))) ∷ [])
      (term.Ret None)) [] ∷ [])
      ≡ []
  -- `define void @f() { %x = call i8 @llvm.dbg.x() ret void }`
  pub debugging_of_no_void :
      faults
      (of_blocks 12 [] 17
      (block None [] (setting (named 19 x) (call (body.Typed (i8 29) None (global_name.Debug (debug_at 32 43)) (arguments []))) ∷ [])
      (term.Ret None)) [] ∷ [])
      ≡ fault 32 43 Unknown ∷ []
  -- `declare i8 @g(i8, ...) define void @f() { %x = call i8 @g(i8 1) ret void }`
  pub unstated :
      faults
      (declare (result [] (Some (i8 8))) (named 11 g) (param (i8 14) [] None ∷ []) true no_more
      ∷ of_blocks 35 [] 40
      (block None []
      (setting (named 42 x)
      (call (body.Typed (i8 52) None (global_name.Plain (named 55 g)) (arguments (argument (i8 58) (text.Const (number 1 61 62)) ∷ []))))
      ∷ []) (term.Ret None)) [] ∷ [])
      ≡ fault 55 57 WrongType ∷ []
  -- `declare i8 @g(i8, ...) define void @f() { %x = call i8 (i8, ...) @g(i8 1, i1 true) ret void }`
  pub stated :
      faults
      (declare (result [] (Some (i8 8))) (named 11 g) (param (i8 14) [] None ∷ []) true no_more
      ∷ of_blocks 35 [] 40
      (block None []
      (setting (named 42 x)
      (call
      (body.Typed (i8 52) (Some (record { types = i8 56 ∷ []; is_open = true })) (global_name.Plain (named 65 g))
      (arguments (argument (i8 68) (text.Const (number 1 71 72)) ∷ argument (i1 74) (text.Const (const.Int (yes 77))) ∷ [])))) ∷ [])
      (term.Ret None)) [] ∷ [])
      ≡ []
  -- `declare i8 @g(i8, ...) define void @f() { %x = call i8 (i8) @g(i8 1) ret void }`
  pub stated_without_dots :
      faults
      (declare (result [] (Some (i8 8))) (named 11 g) (param (i8 14) [] None ∷ []) true no_more
      ∷ of_blocks 35 [] 40
      (block None []
      (setting (named 42 x)
      (call
      (body.Typed (i8 52) (Some (record { types = i8 56 ∷ []; is_open = false })) (global_name.Plain (named 60 g))
      (arguments (argument (i8 63) (text.Const (number 1 66 67)) ∷ [])))) ∷ []) (term.Ret None)) [] ∷ [])
      ≡ fault 60 62 WrongType ∷ []
  -- `declare i8 @g(i8, ...) define void @f() { %x = call i8 (...) @g(i8 1) ret void }`
  pub stated_too_few :
      faults
      (declare (result [] (Some (i8 8))) (named 11 g) (param (i8 14) [] None ∷ []) true no_more
      ∷ of_blocks 35 [] 40
      (block None []
      (setting (named 42 x)
      (call
      (body.Typed (i8 52) (Some (record { types = []; is_open = true })) (global_name.Plain (named 61 g))
      (arguments (argument (i8 64) (text.Const (number 1 67 68)) ∷ [])))) ∷ []) (term.Ret None)) [] ∷ [])
      ≡ fault 61 63 WrongType ∷ []
  -- `declare i8 @g(i8) define void @f() { %x = call i8 (i8, ...) @g(i8 1) ret void }`
  pub stated_with_dots :
      faults
      (declare (result [] (Some (i8 8))) (named 11 g) (param (i8 14) [] None ∷ []) false no_more
      ∷ of_blocks 30 [] 35
      (block None []
      (setting (named 37 x)
      (call
      (body.Typed (i8 47) (Some (record { types = i8 51 ∷ []; is_open = true })) (global_name.Plain (named 60 g))
      (arguments (argument (i8 63) (text.Const (number 1 66 67)) ∷ [])))) ∷ []) (term.Ret None)) [] ∷ [])
      ≡ fault 60 62 WrongType ∷ []
  -- `declare i8 @g(i8) define void @f() { %x = call i8 (i1) @g(i8 1) ret void }`
  pub stated_another :
      faults
      (declare (result [] (Some (i8 8))) (named 11 g) (param (i8 14) [] None ∷ []) false no_more
      ∷ of_blocks 30 [] 35
      (block None []
      (setting (named 37 x)
      (call
      (body.Typed (i8 47) (Some (record { types = i1 51 ∷ []; is_open = false })) (global_name.Plain (named 55 g))
      (arguments (argument (i8 58) (text.Const (number 1 61 62)) ∷ [])))) ∷ []) (term.Ret None)) [] ∷ [])
      ≡ fault 55 57 WrongType ∷ []
  -- `declare i8 @g() define void @f() { %x = call i8 () @g() ret void }`
  pub stated_empty :
      faults
      (declare (result [] (Some (i8 8))) (named 11 g) [] false no_more
      ∷ of_blocks 28 [] 33
      (block None []
      (setting (named 35 x)
      (call (body.Typed (i8 45) (Some (record { types = []; is_open = false })) (global_name.Plain (named 51 g)) (arguments []))) ∷ [])
      (term.Ret None)) [] ∷ [])
      ≡ []
  -- `declare i8 @g(i8) define void @f() { %x = call i8 (i8) @g(i8 1) ret void }`
  pub stated_needlessly :
      faults
      (declare (result [] (Some (i8 8))) (named 11 g) (param (i8 14) [] None ∷ []) false no_more
      ∷ of_blocks 30 [] 35
      (block None []
      (setting (named 37 x)
      (call
      (body.Typed (i8 47) (Some (record { types = i8 51 ∷ []; is_open = false })) (global_name.Plain (named 55 g))
      (arguments (argument (i8 58) (text.Const (number 1 61 62)) ∷ [])))) ∷ []) (term.Ret None)) [] ∷ [])
      ≡ []
  -- `declare i8 @g(i8*) define void @f() { %x = call i8 (%z*) @g(i8* null) ret void }`
  pub unknown_stated :
      faults
      (declare (result [] (Some (i8 8))) (named 11 g) (param (pointer 16 (i8 14)) [] None ∷ []) false no_more
      ∷ of_blocks 31 [] 36
      (block None []
      (setting (named 38 x)
      (call
      (body.Typed (i8 48) (Some (record { types = pointer 54 (of_name (named 52 z)) ∷ []; is_open = false }))
      (global_name.Plain (named 57 g)) (arguments (argument (pointer 62 (i8 60)) (text.Const (const.Null 64)) ∷ [])))) ∷ [])
      (term.Ret None)) [] ∷ [])
      ≡ fault 52 54 Unknown ∷ fault 57 59 WrongType ∷ []
  -- `declare void @g(i8, ...) define void @f() { call void (i8, ...) @g(i8 1) ret void }`
  pub void_stated :
      faults_stating (record { types = i8 53 ∷ []; is_open = true })
      (declare (result [] None) (named 13 g) (param (i8 16) [] None ∷ []) true no_more
      ∷ of_blocks 37 [] 42
      (block None []
      (bare
      (call
      (body.Void (record { is_stated = true; call = of_void.Call (named 64 g) (arguments (argument (i8 67) (text.Const (number 1 70 71)) ∷ [])) })))
      ∷ []) (term.Ret None)) [] ∷ [])
      ≡ []
  -- `declare void @g(i8, ...) define void @f() { call void (i1, ...) @g(i8 1) ret void }`
  pub void_stated_another :
      faults_stating (record { types = i1 53 ∷ []; is_open = true })
      (declare (result [] None) (named 13 g) (param (i8 16) [] None ∷ []) true no_more
      ∷ of_blocks 37 [] 42
      (block None []
      (bare
      (call
      (body.Void (record { is_stated = true; call = of_void.Call (named 64 g) (arguments (argument (i8 67) (text.Const (number 1 70 71)) ∷ [])) })))
      ∷ []) (term.Ret None)) [] ∷ [])
      ≡ fault 64 66 WrongType ∷ []
  -- `declare void @g(i8, ...) define void @f() { call void @g(i8 1) ret void }`
  pub void_unstated :
      faults_stating (record { types = i8 53 ∷ []; is_open = true })
      (declare (result [] None) (named 13 g) (param (i8 16) [] None ∷ []) true no_more
      ∷ of_blocks 37 [] 42
      (block None []
      (bare
      (call
      (body.Void (record { is_stated = false; call = of_void.Call (named 54 g) (arguments (argument (i8 57) (text.Const (number 1 60 61)) ∷ [])) })))
      ∷ []) (term.Ret None)) [] ∷ [])
      ≡ fault 54 56 WrongType ∷ []
  -- `declare i8 @g(i8) define void @f() { %x = call i1 @g(i1 true, i8 1) ret void }`
  pub other_arguments :
      faults
      (declare (result [] (Some (i8 8))) (named 11 g) (param (i8 14) [] None ∷ []) false no_more
      ∷ of_blocks 30 [] 35
      (block None []
      (setting (named 37 x)
      (call
      (body.Typed (i1 47) None (global_name.Plain (named 50 g))
      (arguments (argument (i1 53) (text.Const (const.Int (yes 56))) ∷ argument (i8 62) (text.Const (number 1 65 66)) ∷ [])))) ∷ [])
      (term.Ret None)) [] ∷ [])
      ≡ []
  -- `declare i8 @g(i8) define void @f() { %x = call i8 @g(i8 256) ret void }`
  pub an_argument :
      faults
      (declare (result [] (Some (i8 8))) (named 11 g) (param (i8 14) [] None ∷ []) false no_more
      ∷ of_blocks 30 [] 35
      (block None []
      (setting (named 37 x)
      (call
      (body.Typed (i8 47) None (global_name.Plain (named 50 g)) (arguments (argument (i8 53) (text.Const (number 256 56 59)) ∷ []))))
      ∷ []) (term.Ret None)) [] ∷ [])
      ≡ fault 56 59 WrongType ∷ []
  -- `declare i8 @g(i8*) define void @f() { %x = call i8 @g(i8* align 3 null) ret void }`
  pub dropped_align :
      faults
      (declare (result [] (Some (i8 8))) (named 11 g) (param (pointer 16 (i8 14)) [] None ∷ []) false no_more
      ∷ of_blocks 31 [] 36
      (block None []
      (setting (named 38 x)
      (call
      (body.Typed (i8 48) None (global_name.Plain (named 51 g))
      (arguments
      (record { ty = pointer 56 (i8 54); attributes = attribute.Align (positive 3 64 65) ∷ []; value = text.Const (const.Null 66) } ∷ []))))
      ∷ []) (term.Ret None)) [] ∷ [])
      ≡ []
  -- `declare i8 @g() define void @f() { %x = call signext i1 @x() ret void }`
  pub attributes :
      faults
      (declare (result [] (Some (i8 8))) (named 11 g) [] false no_more
      ∷ of_blocks 28 [] 33
      (block None []
      (setting (named 35 x)
      (call
      (body.Attributes (attribute.Extension Signed) [] (record { result = Some (i1 53); called = None; name = global_name.Plain (named 56 x) })
      (arguments []))) ∷ []) (term.Ret None)) [] ∷ [])
      ≡ fault 56 58 Unknown ∷ []
  -- `declare i8 @g(i8, ...) define void @f() { %x = call ccc i8 @g(i8 1) ret void }`
  pub convention :
      faults
      (declare (result [] (Some (i8 8))) (named 11 g) (param (i8 14) [] None ∷ []) true no_more
      ∷ of_blocks 35 [] 40
      (block None []
      (setting (named 42 x)
      (call
      (body.Convention [] (record { result = Some (i8 56); called = None; name = global_name.Plain (named 59 g) })
      (arguments (argument (i8 62) (text.Const (number 1 65 66)) ∷ [])))) ∷ []) (term.Ret None)) [] ∷ [])
      ≡ fault 59 61 WrongType ∷ []
