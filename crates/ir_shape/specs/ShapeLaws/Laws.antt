-- What it says of a module to have no fault, and what its first fault is, by examples.
use Rattle.std.specs.Prelude.{◌≡◌, false, [], ◌∷◌, map, Option, None, Some}
use Rattle.ir_core.specs.declared.expressions.Expr.TheVariants.{Plain}
use Rattle.ir_core.specs.declared.functions.Function.{Function}
use Rattle.ir_core.specs.declared.modules.Module.{Module}
use Rattle.ir_core.specs.declared.functions.Term.TheVariants.{Ret, RetVoid}
use Rattle.ir_types.specs.declared.names.Name.TheVariants.{Number}
use Rattle.ir_types.specs.declared.names.Sigil.TheVariants.{Global}
use Rattle.ir_core.specs.declared.operands.Atom.TheVariants.{Register}
use Rattle.ir_core.specs.declared.operands.CastOp.TheVariants.{ZExt, SExt, Trunc, BitCast}
use Rattle.ir_types.specs.declared.ty.Ty.{Int, Ptr, Array, Struct, Named, Void}
use Rattle.ir_core.specs.WellFormed.{HasFunctionShape, HasShape}
use Rattle.ir_typing.specs.declared.shape_kinds.kind.ShapeKind.TheVariants as kind
use Rattle.ir_core.specs.declared.modules.Init as init
use Rattle.ir_core.specs.declared.operands.Const as constant
use Rattle.ir_core.specs.Order.{AreNew}
use Rattle.ir_core.specs.Typing.{Signature, signatures_of}
use Rattle.ir_types.specs.declared.names.Name.{Name}
use Rattle.ir_shape.specs.ShapeLaws.Examples.{add, alloca, alone, block, branching, call, calling, cast, cast_of, debug, declared, declaring, element, entering, entry, f, fitting, function, held, icmp, icmp_of, in_f, in_header, in_named, in_y, index, jumping, last, leading_nowhere, load, naming, null_to_x, number_of, of_blocks, of_globals, of_lines, of_memory, params, phi, phi_to_x, returning, returning_recast, select, setting, store, struct, switching, to_x, used, beside_types, given, x, y}
use Rattle.ir_shape.specs.declared.fault.ShapeEnd.{ShapeEnd}
use Rattle.ir_shape.specs.declared.fault.ShapeEnd.TheVariants as end
use Rattle.ir_shape.specs.declared.fault.ShapeFault.{ShapeFault}
use Rattle.ir_shape.specs.Shape.{IsEndOf, IsEndOfFunction, first_fault, first_of, in_function}
use Rattle.ir_core.specs.Modules.{plain_function, plain_module, plain_param}

-- A module has no fault exactly where it has shape.
abbrev pub FaultlessModulesHaveShape : Type 0
FaultlessModulesHaveShape = (m : Module) → first_fault m ≡ None → HasShape m

abbrev pub ShapelyModulesAreFaultless : Type 0
ShapelyModulesAreFaultless = (m : Module) → HasShape m → first_fault m ≡ None

-- a function of a name that no other has, beside a module whose functions have different names, alike
abbrev pub FaultlessFunctionsHaveShape : Type 0
FaultlessFunctionsHaveShape = (m : Module) (f : Function) → in_function m false f ≡ [] → HasFunctionShape m f

abbrev pub ShapelyFunctionsAreFaultless : Type 0
ShapelyFunctionsAreFaultless =
    (m : Module) → AreNew [] (map (λ (s : Name × Signature). s.0) (signatures_of m)) → (f : Function) → HasFunctionShape m f → in_function m false f ≡ []

-- an end that tells of a module, as all do but want of memory
abbrev pub IsOfModule : ShapeEnd → Type 0
IsOfModule (end.Fault f) = Unit {0}
IsOfModule (end.Limit l) = Unit {0}
IsOfModule end.Memory = ⊥

-- One such end at most is a module's: a limit that is passed, or the first fault where none is. So it is of a function beside a module.
abbrev pub EndsAreOne : Type 0
EndsAreOne = (m : Module) (a b : ShapeEnd) → IsOfModule a → IsOfModule b → IsEndOf m a → IsEndOf m b → a ≡ b

abbrev pub EndsOfFunctionsAreOne : Type 0
EndsOfFunctionsAreOne =
    (m : Module) (f : Function) (a b : ShapeEnd) → IsOfModule a → IsOfModule b → IsEndOfFunction m f a → IsEndOfFunction m f b → a ≡ b

-- ---- examples

-- each line fits its types, and so does the terminator
abbrev pub FittingLinesHaveNone : Type 0
FittingLinesHaveNone =
    first_fault (of_lines (add 101 (Int 32) ∷ icmp 102 (Int 32) ∷ cast 103 ZExt (Int 32) (Int 64) ∷ cast 104 SExt (Int 1) (Int 32) ∷ cast 105 Trunc (Int 32) (Int 8)
    ∷ cast 106 BitCast (Int 32) (Int 32) ∷ select 107 (Int 1) (Int 8) (Int 8) ∷ []))
    ≡ None

-- the line has the fault, where it stands alone
abbrev pub OperandsOfNoInteger : Type 0
OperandsOfNoInteger =
    (first_fault (of_lines (add 101 Void ∷ [])) ≡ Some (in_f 0 kind.OperandType))
    × (first_fault (of_lines (icmp 101 Void ∷ [])) ≡ Some (in_f 0 kind.OperandType))
    × (first_fault (of_lines (icmp 101 (Ptr (Int 8)) ∷ [])) ≡ Some (in_f 0 kind.OperandType))
    × (first_fault (of_lines (select 101 (Int 1) (Struct []) (Struct []) ∷ [])) ≡ Some (in_f 0 kind.OperandType))
    × (first_fault (of_lines (setting 101 (Plain (given (Int 32))) ∷ [])) ≡ Some (in_f 0 kind.OperandType))

abbrev pub ConditionsAndArms : Type 0
ConditionsAndArms =
    (first_fault (of_lines (select 101 (Int 8) (Int 32) (Int 32) ∷ [])) ≡ Some (in_f 0 kind.OperandType))
    × (first_fault (of_lines (select 101 (Int 1) (Int 32) (Int 8) ∷ [])) ≡ Some (in_f 0 kind.OperandType))

abbrev pub Conversions : Type 0
Conversions =
    (first_fault (of_lines (cast 101 ZExt (Int 32) (Int 8) ∷ [])) ≡ Some (in_f 0 kind.CastWidth))
    × (first_fault (of_lines (cast 101 SExt (Int 32) (Int 32) ∷ [])) ≡ Some (in_f 0 kind.CastWidth))
    × (first_fault (of_lines (cast 101 Trunc (Int 8) (Int 32) ∷ [])) ≡ Some (in_f 0 kind.CastWidth))
    × (first_fault (of_lines (cast 101 BitCast (Int 32) (Int 64) ∷ [])) ≡ Some (in_f 0 kind.CastWidth))

-- `ret void` and `ret i8` in a function of i32, the former behind a line
abbrev pub Results : Type 0
Results =
    (first_fault (alone (function f [] (add 101 (Int 32) ∷ []) RetVoid)) ≡ Some (in_f 1 kind.ReturnType))
    × (first_fault (alone (function f [] [] (Ret (given (Int 8))))) ≡ Some (in_f 0 kind.ReturnType))

-- A phi without entries; one with an entry for an edge that isn't there, behind one that fits; a phi without an entry for one of two
-- edges of one block, and one with two entries that differ; and one that fits.
abbrev pub Phis : Type 0
Phis =
    (first_fault (alone (function f (phi 101 [] ∷ []) [] returning)) ≡ Some (in_f 0 kind.PhiEntries))
    × (first_fault (entering (fitting ∷ phi 102 (entry 1 x ∷ entry 1 x ∷ entry 1 y ∷ []) ∷ [])) ≡ Some (in_y 1 kind.PhiEntries))
    × (first_fault (entering (phi 101 (entry 1 x ∷ []) ∷ [])) ≡ Some (in_y 0 kind.PhiEntries))
    × (first_fault (entering (phi 101 (entry 1 x ∷ entry 2 x ∷ []) ∷ [])) ≡ Some (in_y 0 kind.PhiEntries))
    × (first_fault (entering (fitting ∷ [])) ≡ None)

-- a branch to the entry, whatever it is on
abbrev pub EnteredEntries : Type 0
EnteredEntries =
    (first_fault (alone (function f [] [] (jumping (Number 0)))) ≡ Some (in_f 0 kind.EntryEntered))
    × (first_fault (alone (function f [] [] (branching (Int 8) y (Number 0)))) ≡ Some (in_f 0 kind.EntryEntered))

-- A condition of i8, a switch over nothing; cases of another type, of one number, and of numbers that are one modulo 2 to the 8th.
abbrev pub Branches : Type 0
Branches =
    (first_fault (alone (function f [] [] (branching (Int 8) y y))) ≡ Some (in_f 0 kind.OperandType))
    × (first_fault (alone (function f [] [] (switching Void (Int 8) 1 2))) ≡ Some (in_f 0 kind.OperandType))
    × (first_fault (alone (function f [] [] (branching (Int 1) y y))) ≡ None)

abbrev pub Cases : Type 0
Cases =
    (first_fault (alone (function f [] [] (switching (Int 8) (Int 16) 1 2))) ≡ Some (in_f 0 kind.CaseTwice))
    × (first_fault (alone (function f [] [] (switching (Int 8) (Int 8) 255 255))) ≡ Some (in_f 0 kind.CaseTwice))
    × (first_fault (alone (function f [] [] (switching (Int 8) (Int 8) 255 511))) ≡ Some (in_f 0 kind.CaseTwice))
    × (first_fault (alone (function f [] [] (switching (Int 8) (Int 8) 1 2))) ≡ None)

-- A function of a name of debugging, two of one name, and one with two parameters of one name; a register that is set twice, one with a
-- block's name, one that nothing sets, and a block with a parameter's name.
abbrev pub Names : Type 0
Names =
    (first_fault (alone (function debug [] [] returning)) ≡ Some (in_header debug kind.Name))
    × (first_fault (plain_module [] (function f [] [] returning ∷ function f [] [] returning ∷ [])) ≡ Some (in_header f kind.Name))
    × (first_fault (alone (plain_function (Int 32) f (plain_param (Int 1) x ∷ plain_param (Int 8) x ∷ []) (last ∷ [])))
    ≡ Some (in_header f kind.Name))
    × (first_fault (of_lines (add 101 (Int 32) ∷ add 101 (Int 32) ∷ [])) ≡ Some (in_f 1 kind.Name))
    × (first_fault (of_lines (add 0 (Int 32) ∷ [])) ≡ Some (in_f 0 kind.Name))
    × (first_fault (of_lines (cast_of 101 ZExt (record { ty = Int 32; atom = Register x }) (Int 64) ∷ [])) ≡ Some (in_f 0 kind.Name))
    × (first_fault (alone (of_blocks f (block (Number 0) [] [] returning ∷ block (Number 8) [] [] returning ∷ [])))
    ≡ Some (record { sigil = Global; function = f; place = Some (record { block = Number 8; line = 0 }); kind = kind.Name }))

-- Two types of one name, the second one of which is told; one that names a type, behind a pointer, that isn't there, behind an opaque one;
-- the first of two such; and types that hold one another and themselves, which is no fault.
abbrev pub NamedTypes : Type 0
NamedTypes =
    (first_fault (naming (struct x (Int 32 ∷ []) ∷ struct y [] ∷ struct x [] ∷ [])) ≡ Some (in_named x kind.Name))
    × (first_fault (naming (record { name = x; fields = None } ∷ struct y (Int 32 ∷ Struct (Ptr (Named f) ∷ []) ∷ []) ∷ [])) ≡ Some (in_named y kind.Name))
    × (first_fault (naming (struct y (Named f ∷ []) ∷ struct x (Named f ∷ []) ∷ [])) ≡ Some (in_named y kind.Name))
    × (first_fault (naming (struct x (Ptr (Named y) ∷ []) ∷ struct y (Named x ∷ Array 2 (Named y) ∷ []) ∷ [])) ≡ None)

-- the module has that fault, and beside `%x` and `%y` this one, if any
abbrev pub IsToldWithout : Module → ShapeFault → Option ShapeFault → Type 0
IsToldWithout m without beside = (first_fault m ≡ Some without) × (first_fault (beside_types m) ≡ beside)

-- A type that isn't there, behind a pointer, is told where it is stated: in an alloca, a conversion, a comparison, an argument of a call, a
-- phi, in a constant that is returned, and in a case of a switch. If it is there all of these fit but the last, which is of another type than
-- what is switched over.
abbrev pub StatedTypes : Type 0
StatedTypes =
    IsToldWithout (of_lines (alloca 101 to_x None ∷ [])) (in_f 0 kind.Name) None
    × IsToldWithout (of_lines (cast_of 101 BitCast (record null_to_x { ty = Ptr (Int 8) }) to_x ∷ [])) (in_f 0 kind.Name) None
    × IsToldWithout (of_lines (icmp_of 101 null_to_x ∷ [])) (in_f 0 kind.Name) None
    × IsToldWithout (calling (given (Int 32) ∷ null_to_x ∷ [])) (in_f 0 kind.Name) None
    × IsToldWithout (entering (phi_to_x ∷ [])) (in_y 0 kind.Name) None
    × IsToldWithout returning_recast (in_f 0 kind.Name) None
    × IsToldWithout (alone (function f [] [] (switching (Int 8) to_x 1 2))) (in_f 0 kind.Name) (Some (in_f 0 kind.CaseTwice))

-- A branch to no block, a phi with an entry of none, a block with an earlier one's name, and a function of no blocks.
abbrev pub Labels : Type 0
Labels =
    (first_fault (alone (function f [] [] (jumping x))) ≡ Some (in_f 0 kind.Label))
    × (first_fault (entering (phi 101 (entry 1 x ∷ entry 1 x ∷ entry 1 f ∷ []) ∷ [])) ≡ Some (in_y 0 kind.Label))
    × (first_fault (alone (of_blocks f (block (Number 0) [] [] returning ∷ last ∷ last ∷ []))) ≡ Some (in_y 0 kind.Label))
    × (first_fault (alone (of_blocks f [])) ≡ Some (in_header f kind.Label))

-- an i8 that is an i32, and one that is returned
abbrev pub Operands : Type 0
Operands =
    (first_fault (of_lines (cast_of 101 ZExt (record { ty = Int 8; atom = Register (Number 32) }) (Int 64) ∷ [])) ≡ Some (in_f 0 kind.OperandType))
    × (first_fault (alone (function f [] [] (Ret (record { ty = Int 32; atom = Register (Number 8) })))) ≡ Some (in_f 0 kind.OperandType))

-- `%101 = bitcast void %101 to void`, a parameter of type void, or of `[4 x i8]`, and one of `i8*`, which is none
abbrev pub Registers : Type 0
Registers =
    (first_fault (of_lines (cast_of 101 BitCast (record { ty = Void; atom = Register (Number 101) }) Void ∷ [])) ≡ Some (in_f 0 kind.OperandType))
    × (first_fault (alone (plain_function (Int 32) f (plain_param Void x ∷ params) (last ∷ [])))
    ≡ Some (in_header f kind.OperandType))
    × (first_fault (alone (plain_function (Int 32) f (plain_param (Array 4 (Int 8)) x ∷ params) (last ∷ [])))
    ≡ Some (in_header f kind.OperandType))
    × (first_fault (alone (plain_function (Int 32) f (plain_param (Ptr (Int 8)) x ∷ params) (last ∷ []))) ≡ None)

-- the first place decides: a line before a terminator, a name before the lines, a function before the next one's name
abbrev pub LinesComeBeforeEnds : Type 0
LinesComeBeforeEnds =
    first_fault (alone (function f [] (add 101 (Int 32) ∷ cast 102 ZExt (Int 32) (Int 8) ∷ add 103 Void ∷ []) RetVoid)) ≡ Some (in_f 1 kind.CastWidth)

abbrev pub NamesComeBeforeLines : Type 0
NamesComeBeforeLines = first_fault (alone (function debug [] (add 101 Void ∷ []) RetVoid)) ≡ Some (in_header debug kind.Name)

-- ---- globals and declarations

-- Of a global: a named type that isn't there, behind a pointer; what it holds is of another type; an opaque type; and an unknown name in what
-- it holds, which is told before the type of that. None of `@x = global i32* @y` beside `@y`.
abbrev pub Globals : Type 0
Globals =
    (first_fault (of_globals (held x (Ptr (Named f)) None ∷ [])) ≡ Some (in_header x kind.Name))
    × (first_fault (of_globals (held x (Int 8) (Some (init.Const constant.Null)) ∷ [])) ≡ Some (in_header x kind.OperandType))
    × (first_fault (of_globals (held x (Named y) (Some init.Zero) ∷ [])) ≡ Some (in_header x kind.Unsized))
    × (first_fault (of_globals (held x (Int 8) (Some (init.Const (constant.Global f))) ∷ [])) ≡ Some (in_header x kind.Name))
    × (first_fault (of_globals (held x (Ptr (Int 32)) (Some (init.Const (constant.Global y))) ∷ held y (Int 32) None ∷ [])) ≡ None)

-- Of a declaration: a name for debug information, a parameter of type void, a named type that isn't there, and a name that a global has.
abbrev pub Declarations : Type 0
Declarations =
    (first_fault (declaring (declared 0 (Int 32) debug (Int 32) ∷ []) []) ≡ Some (in_header debug kind.Name))
    × (first_fault (declaring (declared 0 (Int 32) x Void ∷ []) []) ≡ Some (in_header x kind.OperandType))
    × (first_fault (declaring (declared 0 (Ptr (Named f)) x (Int 32) ∷ []) []) ≡ Some (in_header x kind.Name))
    × (first_fault (declaring (declared 0 Void x (Ptr (Int 8)) ∷ []) []) ≡ None)
    × (first_fault (record { types = []; globals = held x (Int 8) None ∷ []; functions = []; declarations = declared 0 Void x (Int 8) ∷ [] })
    ≡ Some (in_header x kind.Name))

-- Globals come before functions, and a declaration stands where the file has it: between two definitions it is told before the second one.
abbrev pub DeclarationsComeInOrder : Type 0
DeclarationsComeInOrder =
    (first_fault (declaring (declared 1 (Int 32) debug (Int 32) ∷ []) (function f [] [] returning ∷ function y [] [] RetVoid ∷ []))
    ≡ Some (in_header debug kind.Name))
    × (first_fault (declaring (declared 1 Void x Void ∷ []) (function f [] [] RetVoid ∷ [])) ≡ Some (in_f 0 kind.ReturnType))
    × (first_fault (declaring (declared 1 Void x Void ∷ []) (function f [] [] returning ∷ function y [] [] RetVoid ∷ [])) ≡ Some (in_header x kind.OperandType))
    × (first_fault (record { types = []; globals = held x (Named f) None ∷ []; functions = function debug [] [] returning ∷ []; declarations = [] })
    ≡ Some (in_header x kind.Name))

-- ---- lines of memory and calls, in a function whose parameter `%32` is an `i32` and `%64` a pointer to `%x = type { i32, [4 x i8] }`

-- An alloca of an opaque type, or with a pointer for its count; what is loaded is no value, or of another type than what is pointed to; a store
-- through a pointer to another type; and those that fit.
abbrev pub Accesses : Type 0
Accesses =
    (first_fault (of_memory (alloca 101 (Named y) None ∷ [])) ≡ Some (in_f 0 kind.Unsized))
    × (first_fault (of_memory (alloca 101 (Int 8) (Some (Ptr (Int 8), 2)) ∷ [])) ≡ Some (in_f 0 kind.OperandType))
    × (first_fault (of_memory (load 101 (Named x) ∷ [])) ≡ Some (in_f 0 kind.OperandType))
    × (first_fault (of_memory (load 101 (Int 32) ∷ [])) ≡ Some (in_f 0 kind.OperandType))
    × (first_fault (of_memory (store (Int 32) ∷ [])) ≡ Some (in_f 0 kind.OperandType))
    × (first_fault (of_memory (alloca 101 (Named x) (Some (Int 64, 2)) ∷ [])) ≡ None)

-- Of a getelementptr of `%x`: an index of `i64` into its fields, one past them, one behind an `i32`; another first type than what is pointed
-- to; an opaque one; and one that fits.
abbrev pub Addresses : Type 0
Addresses =
    (first_fault (of_memory (element 101 (Named x) (index 64 0 ∷ index 64 1 ∷ []) (Ptr (Int 32)) ∷ [])) ≡ Some (in_f 0 kind.GepIndex))
    × (first_fault (of_memory (element 101 (Named x) (index 64 0 ∷ index 32 2 ∷ []) (Ptr (Int 32)) ∷ [])) ≡ Some (in_f 0 kind.GepIndex))
    × (first_fault (of_memory (element 101 (Named x) (index 64 0 ∷ index 32 0 ∷ index 32 0 ∷ []) (Ptr (Int 32)) ∷ [])) ≡ Some (in_f 0 kind.GepIndex))
    × (first_fault (of_memory (element 101 (Int 8) (index 64 0 ∷ []) (Ptr (Int 8)) ∷ [])) ≡ Some (in_f 0 kind.OperandType))
    × (first_fault (of_memory (element 101 (Named x) (index 64 0 ∷ index 32 1 ∷ index 64 2 ∷ []) (Ptr (Int 8)) ∷ [])) ≡ None)

-- A register that is used at an `i8` before it is set: by a getelementptr that leads to a pointer, or nowhere, which has no type that the use
-- could differ from. Where two lines set it the first one decides: a sum of `i32`, or the getelementptr that leads nowhere.
abbrev pub UsesOfAddresses : Type 0
UsesOfAddresses =
    (first_fault (of_memory (icmp_of 102 used ∷ element 101 (Named x) (index 64 0 ∷ index 32 0 ∷ []) (Ptr (Int 32)) ∷ [])) ≡ Some (in_f 0 kind.OperandType))
    × (first_fault (of_memory (icmp_of 102 used ∷ leading_nowhere ∷ [])) ≡ Some (in_f 1 kind.GepIndex))
    × (first_fault (of_memory (icmp_of 102 used ∷ add 101 (Int 32) ∷ leading_nowhere ∷ [])) ≡ Some (in_f 0 kind.OperandType))
    × (first_fault (of_memory (icmp_of 102 used ∷ leading_nowhere ∷ add 101 (Int 32) ∷ [])) ≡ Some (in_f 1 kind.GepIndex))

-- A call of what isn't there; with an argument that is missing; with one that is of another type than its register, which is told before its
-- being of another type than the parameter; and one that fits. It calls `declare i32 @y(i32)`.
abbrev pub Calls : Type 0
Calls =
    (first_fault (of_memory (call 101 x (given (Int 32) ∷ []) ∷ [])) ≡ Some (in_f 0 kind.Name))
    × (first_fault (of_memory (call 101 y [] ∷ [])) ≡ Some (in_f 0 kind.CallType))
    × (first_fault (of_memory (call 101 y (record { ty = Int 8; atom = Register (Number 32) } ∷ []) ∷ [])) ≡ Some (in_f 0 kind.OperandType))
    × (first_fault (of_memory (call 101 y (given (Int 32) ∷ []) ∷ [])) ≡ None)

-- A call of a function of the name that is judged goes by what the module has of the name: here the module's takes an `i32`, this one nothing.
abbrev pub RecursiveCalls : Type 0
RecursiveCalls =
    (in_function (alone (plain_function (Int 32) f (plain_param (Int 32) (Number 32) ∷ []) (last ∷ []))) false
    (plain_function (Int 32) f [] (block (Number 0) [] (call 101 f (number_of 32 0 ∷ []) ∷ []) (Ret (record { ty = Int 32; atom = Register (Number 101) })) ∷ []))
    ≡ [])
    × (first_of
    (in_function (alone (plain_function (Int 32) f (plain_param (Int 32) (Number 32) ∷ []) (last ∷ []))) false
    (plain_function (Int 32) f [] (block (Number 0) [] (call 101 f [] ∷ []) (Ret (record { ty = Int 32; atom = Register (Number 101) })) ∷ [])))
    ≡ Some (in_f 0 kind.CallType))

-- a named type before a function
abbrev pub TypesComeFirst : Type 0
TypesComeFirst =
    first_fault (plain_module (struct x (Named y ∷ []) ∷ []) (function debug [] [] returning ∷ [])) ≡ Some (in_named x kind.Name)

abbrev pub FunctionsComeInOrder : Type 0
FunctionsComeInOrder =
    first_fault (plain_module [] (function f [] [] RetVoid ∷ function debug [] [] returning ∷ [])) ≡ Some (in_f 0 kind.ReturnType)

-- At one place the first kind counts: of a line that converts an unknown register, or the i8 of an i32, to too few bits; and of a block
-- with an earlier one's name, the first line of which uses an unknown register.
abbrev pub KindsComeInOrder : Type 0
KindsComeInOrder =
    (first_fault (of_lines (cast_of 101 ZExt (record { ty = Int 32; atom = Register x }) (Int 8) ∷ [])) ≡ Some (in_f 0 kind.Name))
    × (first_fault (of_lines (cast_of 101 ZExt (record { ty = Int 8; atom = Register (Number 32) }) (Int 8) ∷ [])) ≡ Some (in_f 0 kind.OperandType))
    × (first_fault (alone (of_blocks f (block (Number 0) [] [] returning ∷ last ∷ block y [] (cast_of 101 ZExt (record { ty = Int 32; atom = Register x }) (Int 64) ∷ []) returning ∷ [])))
    ≡ Some (in_y 0 kind.Name))
