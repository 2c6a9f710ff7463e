-- What is in range, and what is just outside of it.
use Rattle.std.specs.Prelude.{ℕ, List, [], ◌∷◌, true, false, Option, None, Some}
use Rattle.ir_core.specs.declared.expressions.Expr.TheVariants as expr
use Rattle.ir_core.specs.declared.functions.Call.{Call}
use Rattle.ir_core.specs.declared.functions.Instr.{Instr}
use Rattle.ir_core.specs.declared.functions.Instr.TheVariants as line
use Rattle.ir_core.specs.declared.modules.Declaration.{Declaration}
use Rattle.ir_core.specs.declared.modules.GlobalVar.{GlobalVar}
use Rattle.ir_core.specs.declared.modules.Init.{Init, Bytes, Zero}
use Rattle.ir_core.specs.declared.modules.Init as init
use Rattle.ir_core.specs.declared.modules.Linkage.{Linkage}
use Rattle.ir_core.specs.declared.modules.Linkage.TheVariants.{External, Internal}
use Rattle.ir_types.specs.declared.names.Name.{Name}
use Rattle.ir_types.specs.declared.names.Name.TheVariants.{Text}
use Rattle.ir_core.specs.declared.operands.Atom.TheVariants.{Constant}
use Rattle.ir_core.specs.declared.operands.Const.{Const, Number, Undef, Null, Global}
use Rattle.ir_core.specs.declared.operands.Const as constant
use Rattle.ir_types.specs.declared.ty.Ty.{Ty, Int, Ptr, Array, Struct, Named, Void}
use Rattle.ir_core.specs.Examples.{f, held, x, y}
use Rattle.ir_core.specs.MemoryLaws.{unchanged}
use Rattle.ir_core.specs.Ranges.{IsAlignInRange, IsAtomInRange, IsCountInRange, IsDeclarationInRange, IsGlobalInRange, IsLineInRange, IsResultInRange, IsTypeInRange, StandBehind}

-- An integer has 64 bits at most, also behind a pointer, and an array fewer than 2^64 elements. `void` is a result's type alone.
pub record TypesHaveRanges : Type 0 where
  pub widest : IsTypeInRange (Int 64)
  pub too_wide : IsTypeInRange (Int 65) → ⊥
  pub pointer : IsTypeInRange (Ptr (Ptr (Int 64)))
  pub wide_pointer : IsTypeInRange (Ptr (Int 65)) → ⊥
  pub to_void : IsTypeInRange (Ptr Void) → ⊥
  pub array : IsTypeInRange (Array 18446744073709551615 (Int 8))
  pub large_array : IsTypeInRange (Array 18446744073709551616 (Int 8)) → ⊥
  pub wide_element : IsTypeInRange (Array 2 (Int 0)) → ⊥
  pub empty : IsTypeInRange (Struct [])
  pub struct : IsTypeInRange (Struct (Int 1 ∷ Ptr (Named x) ∷ []))
  pub void_field : IsTypeInRange (Struct (Int 1 ∷ Void ∷ [])) → ⊥
  pub void : IsTypeInRange Void → ⊥
  pub void_result : IsResultInRange Void

-- No alignment, or a power of two up to 2^29. A count is a number of an integer type, and not 1.
pub record AlignmentsAndCountsHaveRanges : Type 0 where
  pub none : IsAlignInRange None
  pub one : IsAlignInRange (Some 1)
  pub greatest : IsAlignInRange (Some 536870912)
  pub zero : IsAlignInRange (Some 0) → ⊥
  pub greater : IsAlignInRange (Some 1073741824) → ⊥
  pub no_count : IsCountInRange None
  pub count : IsCountInRange (Some (Int 8, 255))
  pub wide_count : IsCountInRange (Some (Int 8, 256)) → ⊥
  pub one_count : IsCountInRange (Some (Int 8, 1)) → ⊥
  pub pointer_count : IsCountInRange (Some (Ptr (Int 8), 2)) → ⊥

-- getelementptr (i8, i8* @x, i8 number)
abbrev pub address : ℕ → Const
address n = constant.Element (false, Int 8, (Ptr (Int 8), Global x) ∷ (Int 8, Number n) ∷ [])

-- bitcast (ty @x to i8*)
abbrev pub recast : Ty → Const
recast ty = constant.Cast (Ptr (Int 8), (ty, Global x) ∷ [])

abbrev pub IsConstantInRange : Const → Type 0
IsConstantInRange c = IsAtomInRange {R = Name} (Ptr (Int 8)) (Constant c)

-- a number inside of a constant has no more bits than its type, and a type that stands there is in range
pub record ConstantsHaveRanges : Type 0 where
  pub null : IsConstantInRange Null
  pub undef : IsConstantInRange Undef
  pub of_global : IsConstantInRange (Global x)
  pub number : IsConstantInRange (Number 0) → ⊥
  pub index : IsConstantInRange (address 255)
  pub wide_index : IsConstantInRange (address 256) → ⊥
  pub of_pointer : IsConstantInRange (recast (Ptr (Int 64)))
  pub of_wide_pointer : IsConstantInRange (recast (Ptr (Int 65))) → ⊥

-- @x = linkage global ty init
abbrev pub global : Linkage → Ty → Option Init → GlobalVar
global linkage ty init = record { name = x; linkage = linkage; constant = false; ty = ty; init = init; align = None }

abbrev pub elements : ℕ → Init
elements n = init.Array ((Int 8, init.Const (Number 0)) ∷ (Int 8, init.Const (Number n)) ∷ [])

-- @x = i8 zeroinitializer, align align
abbrev pub aligned : Option ℕ → GlobalVar
aligned align = record { name = x; linkage = External; constant = false; ty = Int 8; init = Some Zero; align = align }

-- A global without initialiser is `external`. An initialiser has bytes, and numbers of their types. An alignment is one that text can say.
pub record GlobalsHaveRanges : Type 0 where
  pub external : IsGlobalInRange (global External (Int 8) None)
  pub nothing_held : IsGlobalInRange (global Internal (Int 8) None) → ⊥
  pub zero : IsGlobalInRange (global External (Array 2 (Int 8)) (Some Zero))
  pub bytes : IsGlobalInRange (global Internal (Array 2 (Int 8)) (Some (Bytes (0 ∷ 255 ∷ []))))
  pub no_byte : IsGlobalInRange (global Internal (Array 1 (Int 8)) (Some (Bytes (256 ∷ [])))) → ⊥
  pub array : IsGlobalInRange (global Internal (Array 2 (Int 8)) (Some (elements 255)))
  pub wide : IsGlobalInRange (global Internal (Array 2 (Int 8)) (Some (elements 256))) → ⊥
  pub at_greatest : IsGlobalInRange (aligned (Some 536870912))
  pub at_greater : IsGlobalInRange (aligned (Some 1073741824)) → ⊥
  pub at_zero : IsGlobalInRange (aligned (Some 0)) → ⊥

-- declare void @f(), behind so many definitions
abbrev pub declared_behind : ℕ → Declaration
declared_behind before = record { result_extensions = unchanged; result = Void; name = f; params = []; variadic = false; before = before }

-- declare result @name(i1, ty)
abbrev pub declaring : Name → Ty → Ty → Declaration
declaring name result ty = record {
  result_extensions = unchanged;
  result = result;
  name = name;
  params = record { ty = Int 1; extensions = unchanged } ∷ record { ty = ty; extensions = unchanged } ∷ [];
  variadic = false;
  before = 0;
}

-- A declaration has a name, and types in range. `void` is its result's alone.
pub record DeclarationsHaveRanges : Type 0 where
  pub plain : IsDeclarationInRange (declaring f (Int 64) (Int 64))
  pub no_params : IsDeclarationInRange (declared_behind 0)
  pub void_result : IsDeclarationInRange (declaring f Void (Ptr (Int 8)))
  pub void_param : IsDeclarationInRange (declaring f (Int 64) Void) → ⊥
  pub wide_param : IsDeclarationInRange (declaring f (Int 64) (Int 65)) → ⊥
  pub wide_result : IsDeclarationInRange (declaring f (Int 65) (Int 64)) → ⊥
  pub no_name : IsDeclarationInRange (declaring (Text []) (Int 64) (Int 64)) → ⊥

-- of two definitions: declarations before both and behind both, behind a third, and the later before the earlier
pub record DeclarationsStandInOrder : Type 0 where
  pub order : StandBehind 0 2 (declared_behind 0 ∷ declared_behind 2 ∷ declared_behind 2 ∷ [])
  pub too_many : StandBehind 0 2 (declared_behind 3 ∷ []) → ⊥
  pub disorder : StandBehind 0 2 (declared_behind 1 ∷ declared_behind 0 ∷ []) → ⊥

-- %x = alloca ty, count, align align
abbrev pub allocating : Ty → Option (Ty × ℕ) → Option ℕ → Instr
allocating ty count align = line.Alloca (record { name = x; of = ty; to = Ptr ty; count = count; align = align })

-- %x = load i8, i8* %y, align align
abbrev pub loading : Option ℕ → Instr
loading align = line.Calm (record { name = x; right = expr.Load (record { of = Int 8; pointer = held (Ptr (Int 8)) y; align = align }) })

-- store i8 %x, i8* %y, align align
abbrev pub storing : Option ℕ → Instr
storing align = line.Store (record { value = held (Int 8) x; pointer = held (Ptr (Int 8)) y; align = align })

-- %x = getelementptr ty, i8* %y
abbrev pub stepping : Ty → Instr
stepping ty = line.Calm (record { name = x; right = expr.Element (record { inbounds = true; of = ty; base = held (Ptr (Int 8)) y; indices = []; to = Ptr ty }) })

-- call ty @f()
abbrev pub calling : Ty → Instr
calling ty = line.Call (record { name = None; result = ty; result_extensions = unchanged; callee = f; arguments = [] })

-- each type, count and alignment that a line states is in range
pub record LinesHaveRanges : Type 0 where
  pub alloca : IsLineInRange (allocating (Array 4 (Int 8)) None None)
  pub wide_alloca : IsLineInRange (allocating (Array 4 (Int 65)) None None) → ⊥
  pub counted : IsLineInRange (allocating (Int 8) (Some (Int 8, 255)) None)
  pub counted_wide : IsLineInRange (allocating (Int 8) (Some (Int 8, 256)) None) → ⊥
  pub counted_one : IsLineInRange (allocating (Int 8) (Some (Int 8, 1)) None) → ⊥
  pub counted_by_pointers : IsLineInRange (allocating (Int 8) (Some (Ptr (Int 8), 2)) None) → ⊥
  pub allocated_at_greatest : IsLineInRange (allocating (Int 8) (Some (Int 8, 2)) (Some 536870912))
  pub allocated_at_greater : IsLineInRange (allocating (Int 8) None (Some 1073741824)) → ⊥
  pub allocated_at_zero : IsLineInRange (allocating (Int 8) None (Some 0)) → ⊥
  pub load : IsLineInRange (loading (Some 4))
  pub loaded_at_zero : IsLineInRange (loading (Some 0)) → ⊥
  pub store : IsLineInRange (storing None)
  pub stored_at_zero : IsLineInRange (storing (Some 0)) → ⊥
  pub element : IsLineInRange (stepping (Int 8))
  pub wide_element : IsLineInRange (stepping (Int 65)) → ⊥
  pub call : IsLineInRange (calling Void)
  pub wide_call : IsLineInRange (calling (Ptr (Int 65))) → ⊥
