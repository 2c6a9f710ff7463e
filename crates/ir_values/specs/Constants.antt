-- What constants are worth beside the types and globals of a module (LangRef 3.7, Constants, Constant Expressions).
use Rattle.std.specs.Prelude.{ℕ, suc, pos, Bool, cond, List, [], ◌∷◌, map, slice_get, Option, None, Some}
use Rattle.ir_types.specs.declared.named.NamedTy.{NamedTy}
use Rattle.ir_types.specs.declared.names.Name.{Name}
use Rattle.ir_types.specs.declared.ty.Ty.{Ty}
use Rattle.ir_types.specs.declared.ty.Ty.TheVariants as ty
use Rattle.ir_types.specs.Named.{size_of}
use Rattle.ir_types.specs.Same.{same_name}
use Rattle.ir_core.specs.declared.modules.GlobalVar.{GlobalVar}
use Rattle.ir_core.specs.declared.modules.Module.{Module}
use Rattle.ir_core.specs.declared.operands.Const.{Const, fold-Const}
use Rattle.ir_core.specs.declared.operands.Const.TheOpen.{Const-F}
use Rattle.ir_core.specs.declared.operands.Const.TheOpen as part
use Rattle.ir_core.specs.declared.values.Value.{Value}
use Rattle.ir_core.specs.declared.values.Value.TheVariants.{Num, Ptr, Bare, Undef, Poison}
use Rattle.ir_core.specs.Types.{fits}
use Rattle.ir_core.specs.Typing.{Fitting, fitting_at_level}
use Rattle.ir_values.specs.Addresses.{GivenIndex, gep_value, is_small}

-- the types that a module names, and its globals
pub record Scope : Type 0 where
  pub types : List NamedTy
  pub globals : List GlobalVar

-- of a whole module
abbrev pub scope_of : Module → Scope
scope_of m = record { types = m.types; globals = m.globals }

-- the constant is one of the type
abbrev pub is_of_type : Scope → Ty → Const → Bool
is_of_type scope t c = (fold-Const Fitting (fitting_at_level scope.types scope.globals) c).is_of t

-- ---- of its type

-- a number that isn't of its type is poison
abbrev pub number_value : ℕ → Ty → Value
number_value n (ty.Int width) = cond (fits n width) (Num n) Poison
number_value n t = Poison

-- a global's block is its place among the globals
abbrev pub global_at : ℕ → List GlobalVar → Name → Value
global_at place [] x = Poison
global_at place (g ∷ gs) x = cond (same_name g.name x) (Ptr place (pos 0)) (global_at (suc place) gs x)

-- of a type that isn't small it counts as empty; a module that is read has none
abbrev pub size_of_global : List NamedTy → Option GlobalVar → ℕ
size_of_global types None = 0
size_of_global types (Some g) = cond (is_small types g.ty) (size_of types g.ty) 0

-- the size of the global in which an address lies
abbrev pub size_behind : Scope → Value → ℕ
size_behind scope (Ptr b o) = size_of_global scope.types (slice_get scope.globals b)
size_behind scope (Num n) = 0
size_behind scope (Bare a) = 0
size_behind scope Undef = 0
size_behind scope Poison = 0

abbrev pub width_of : Ty → ℕ
width_of (ty.Int width) = width
width_of t = 0

-- a constant in another, with the type that is stated for it: what it is worth there
abbrev pub Part : Type 0
Part = Ty × (Ty → Value)

abbrev pub part_value : Part → Value
part_value p = p.1 p.0

abbrev pub index_in : Part → GivenIndex
index_in p = (width_of p.0, part_value p)

abbrev pub address_of_part : Scope → Bool → Ty → List Part → Value
address_of_part scope inbounds of [] = Poison
address_of_part scope inbounds of (base ∷ indices) =
    gep_value inbounds scope.types of (part_value base) (size_behind scope (part_value base)) (map index_in indices)

-- `bitcast` keeps what it is given
abbrev pub recast_part : List Part → Value
recast_part (p ∷ []) = part_value p
recast_part parts = Poison

abbrev pub worth_at_level : Scope → Const-F (Ty → Value) → Ty → Value
worth_at_level scope (part.Number n) t = number_value n t
worth_at_level scope part.Undef t = Undef
worth_at_level scope part.Null t = Bare 0
worth_at_level scope (part.Global x) t = global_at 0 scope.globals x
worth_at_level scope (part.Element e) t = address_of_part scope e.0 e.1 e.2
worth_at_level scope (part.Cast c) t = recast_part c.1

abbrev pub worth : Scope → Const → Ty → Value
worth scope c = fold-Const (Ty → Value) (worth_at_level scope) c

-- ---- at a stated type

-- What isn't of its stated type is poison: `@g` of an i32 at `i8*`, or a number at a pointer type.
abbrev pub constant_value : Scope → Ty → Const → Value
constant_value scope t c = cond (is_of_type scope t c) (worth scope c t) Poison
