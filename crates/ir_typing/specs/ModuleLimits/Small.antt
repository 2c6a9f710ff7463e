-- Words of private functions: whether what is wanted at once makes blocks.
use Rattle.std.specs.Prelude.{◌≡◌, ℕ, Bool, false, true, List, [], ◌∷◌, ◌++◌, map, Option, None, Some, Result, Ok, Err}
use Rattle.std.specs.List.{AllByRecursion, list_all}
use Rattle.ir_types.specs.declared.named.NamedTy.{NamedTy}
use Rattle.ir_types.specs.declared.sizes.SizeFault.{SizeFault}
use Rattle.ir_types.specs.declared.sizes.SizeFault.TheVariants.{TooLarge, Unsized}
use Rattle.ir_types.specs.declared.ty.Ty.{Ty, Struct}
use Rattle.ir_types.specs.Held.{Holds}
use Rattle.ir_types.specs.Named.{block_of}
use Rattle.ir_core.specs.declared.expressions.Element.{Element}
use Rattle.ir_core.specs.declared.expressions.Expr.{Expr}
use Rattle.ir_core.specs.declared.functions.Phi.{Phi}
use Rattle.ir_core.specs.declared.modules.Init.{Init, fold-Init}
use Rattle.ir_core.specs.declared.operands.Const.{Const}
use Rattle.ir_core.specs.Expressions.{operands_in}
use Rattle.ir_core.specs.Functions.{operands_of_phi}
use Rattle.ir_core.specs.Sizes.{Blocks, entered_along, one_of_each, stepped, wanted_apart, wanted_by_constant, wanted_by_init_at, wanted_by_operands}
use Rattle.ir_core.specs.Typing.{Index, index_of}
use Rattle.ir_typing.specs.OperandTests.Addresses.{index_told}

-- it makes a block, or has no size
abbrev pub is_none_larger : Result ℕ SizeFault → Bool
is_none_larger (Ok size) = true
is_none_larger (Err Unsized) = true
is_none_larger (Err TooLarge) = false

-- so many of a type
abbrev pub is_small : List NamedTy → Ty × ℕ → Bool
is_small types b = is_none_larger (block_of types b.0 b.1)

abbrev pub are_small : List NamedTy → Blocks → Bool
are_small types = list_all (is_small types)

-- ---- types that are judged once

-- The type makes a block or has no size, and so does each that it holds, but for those that stand behind names.
abbrev pub IsClear : List NamedTy → Ty → Type 0
IsClear types t = (is_small types (t, 1) ≡ true) × ((u : Ty) → Holds [] t u → is_small types (u, 1) ≡ true)

-- so are the fields of a named type, and their struct makes a block or has no size
abbrev pub IsNamedClear : List NamedTy → Option (List Ty) → Type 0
IsNamedClear types None = Unit {0}
IsNamedClear types (Some fields) = AllByRecursion (IsClear types) fields × (is_small types (Struct fields, 1) ≡ true)

-- each of these named types is so
abbrev pub AreClear : List NamedTy → List NamedTy → Type 0
AreClear types = AllByRecursion (λ (n : NamedTy). IsNamedClear types n.fields)

-- ---- indices

-- the types that indices enter from this one on
abbrev pub entered_small : List NamedTy → Ty → List Index → Bool
entered_small types t indices = are_small types (one_of_each (entered_along types t indices))

-- this one, and those that the indices behind the first enter
abbrev pub stepped_small : List NamedTy → Ty → List Index → Bool
stepped_small types of indices = are_small types (one_of_each (stepped types of indices))

-- the indices behind the base
abbrev pub told_behind : List (Ty × Const) → List Index
told_behind [] = []
told_behind (base ∷ indices) = map index_told indices

-- ---- constants and initialisers

abbrev pub constant_small : List NamedTy → Const → Bool
constant_small types c = are_small types (wanted_by_constant types c)

-- behind their types
abbrev pub constants_small : List NamedTy → List (Ty × Const) → Bool
constants_small types = list_all (λ c. constant_small types c.1)

abbrev pub init_small : List NamedTy → Init → Bool
init_small types i = are_small types (fold-Init Blocks (wanted_by_init_at types) i)

abbrev pub inits_small : List NamedTy → List (Ty × Init) → Bool
inits_small types = list_all (λ i. init_small types i.1)

-- ---- lines

abbrev pub wanted_at_element : {R : Type 0} → List NamedTy → Element R → Blocks
wanted_at_element types e = one_of_each (stepped types e.of (map index_of e.indices)) ++ wanted_by_operands types (e.base ∷ e.indices)

abbrev pub wanted_at_right : {R : Type 0} → List NamedTy → Expr R → Blocks
wanted_at_right types e = wanted_apart types e ++ wanted_by_operands types (operands_in e)

abbrev pub wanted_by_phi : List NamedTy → Phi → Blocks
wanted_by_phi types p = wanted_by_operands types (operands_of_phi p)
