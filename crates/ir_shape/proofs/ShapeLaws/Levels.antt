-- What is told of each kind of constant and of each kind of initialiser, and the types that they state.
use Rattle.std.proofs.Common.{◌≡◌, ℕ, Bool, List, [], ◌∷◌, ◌++◌, length, Option, None, Some, ap}
use Rattle.ir_core.specs.declared.modules.Init.{Init}
use Rattle.ir_core.specs.declared.modules.Init as init
use Rattle.ir_core.specs.declared.modules.Module.{Module}
use Rattle.ir_core.specs.declared.operands.Const.{Const, Number, Undef, Null, Global, fold-Const}
use Rattle.ir_core.specs.declared.operands.Const as constant
use Rattle.ir_types.specs.declared.names.Name.{Name}
use Rattle.ir_types.specs.declared.ty.Ty.{Ty, out-Ty}
use Rattle.ir_types.specs.Same.{same_ty}
use Rattle.ir_core.specs.StatedTypes.{behind_each, stated_at_level, stated_at_start, stated_by_init, stated_in}
use Rattle.ir_core.specs.Types.{is_first_class, is_integer, is_pointer}
use Rattle.ir_core.specs.Typing.{is_bytes, parts_of_array, parts_of_struct}
use Rattle.ir_core.proofs.Constants as constants
use Rattle.ir_core.proofs.Inits as inits
use Rattle.ir_typing.specs.declared.shape_kinds.kind.ShapeKind.{ShapeKind}
use Rattle.ir_typing.specs.declared.shape_kinds.kind.ShapeKind.TheVariants as kind
use Rattle.ir_typing.specs.ShapeKinds.Kinds.{fault_unless, least}
use Rattle.ir_typing.specs.OperandTests.Constants.{Judged, address_of_parts, constant_kind, global_kind, judged_at_level, parts_kind, recast_kind}
use Rattle.ir_typing.specs.OperandTests.Inits.{Part, init_kind, init_kind_at, list_kind, start_kind}

module _ (m : Module) where
  -- ---- constants

  abbrev pub judged : Const → Judged
  judged = fold-Const Judged (judged_at_level m)

  -- the constants, each with what is told of it
  abbrev pub judged_parts : List (Ty × Const) → List (Ty × Judged)
  judged_parts = constants.folded_parts Judged (judged_at_level m)

  module _ (t : Ty) where
    pub of_number : (n : ℕ) → constant_kind m t (Number n) ≡ fault_unless (is_integer t) kind.OperandType
    of_number n = ap (λ (j : Judged). j.kind_at t) (constants.at_number Judged (judged_at_level m) n)

    pub of_undef : constant_kind m t Undef ≡ fault_unless (is_first_class t) kind.OperandType
    of_undef = ap (λ (j : Judged). j.kind_at t) (constants.at_undef Judged (judged_at_level m))

    pub of_null : constant_kind m t Null ≡ fault_unless (is_pointer t) kind.OperandType
    of_null = ap (λ (j : Judged). j.kind_at t) (constants.at_null Judged (judged_at_level m))

    pub of_global : (x : Name) → constant_kind m t (Global x) ≡ global_kind m x t
    of_global x = ap (λ (j : Judged). j.kind_at t) (constants.at_global Judged (judged_at_level m) x)

    pub of_element : (inbounds : Bool) (of : Ty) (cs : List (Ty × Const))
        → constant_kind m t (constant.Element (inbounds, of, cs)) ≡ least (parts_kind (judged_parts cs)) (address_of_parts m.types of (judged_parts cs) t)
    of_element inbounds of cs = ap (λ (j : Judged). j.kind_at t) (constants.at_element Judged (judged_at_level m) inbounds of cs)

    pub of_cast : (to : Ty) (cs : List (Ty × Const))
        → constant_kind m t (constant.Cast (to, cs)) ≡ least (parts_kind (judged_parts cs)) (least (fault_unless (same_ty to t) kind.OperandType) (recast_kind to (judged_parts cs)))
    of_cast to cs = ap (λ (j : Judged). j.kind_at t) (constants.at_cast Judged (judged_at_level m) to cs)

  -- the number of a constant that is one
  pub number_of : (n : ℕ) → (judged (Number n)).number ≡ Some n
  number_of n = ap (λ (j : Judged). j.number) (constants.at_number Judged (judged_at_level m) n)

  -- ---- initialisers

  -- the parts, each with what is told of it at each type
  abbrev pub told_parts : List (Ty × Init) → List Part
  told_parts = inits.folded_parts (Ty → Option ShapeKind) (init_kind_at m)

  module _ (t : Ty) where
    pub of_const : (c : Const) → init_kind m t (init.Const c) ≡ start_kind m t c
    of_const c = ap (λ (told : Ty → Option ShapeKind). told t) (inits.at_const (Ty → Option ShapeKind) (init_kind_at m) c)

    pub of_zero : init_kind m t init.Zero ≡ None
    of_zero = ap (λ (told : Ty → Option ShapeKind). told t) (inits.at_zero (Ty → Option ShapeKind) (init_kind_at m))

    pub of_bytes : (bytes : List ℕ) → init_kind m t (init.Bytes bytes) ≡ fault_unless (is_bytes (length bytes) (out-Ty t)) kind.OperandType
    of_bytes bytes = ap (λ (told : Ty → Option ShapeKind). told t) (inits.at_bytes (Ty → Option ShapeKind) (init_kind_at m) bytes)

    pub of_array : (parts : List (Ty × Init)) → init_kind m t (init.Array parts) ≡ list_kind (parts_of_array m.types (out-Ty t) (length (told_parts parts))) (told_parts parts)
    of_array parts = ap (λ (told : Ty → Option ShapeKind). told t) (inits.at_array (Ty → Option ShapeKind) (init_kind_at m) parts)

    pub of_struct : (parts : List (Ty × Init)) → init_kind m t (init.Struct parts) ≡ list_kind (parts_of_struct m.types (out-Ty t)) (told_parts parts)
    of_struct parts = ap (λ (told : Ty → Option ShapeKind). told t) (inits.at_struct (Ty → Option ShapeKind) (init_kind_at m) parts)

-- ---- the types that are stated

pub start_of_const : (c : Const) → stated_at_start (Some (init.Const c)) ≡ stated_in c
start_of_const = inits.at_const (List Ty) stated_by_init

pub start_of_zero : stated_at_start (Some init.Zero) ≡ []
start_of_zero = inits.at_zero (List Ty) stated_by_init

pub in_null : stated_in Null ≡ []
in_null = constants.at_null (List Ty) stated_at_level

pub in_global : (x : Name) → stated_in (Global x) ≡ []
in_global = constants.at_global (List Ty) stated_at_level

pub in_cast : (to : Ty) (cs : List (Ty × Const)) → stated_in (constant.Cast (to, cs)) ≡ behind_each (constants.folded_parts (List Ty) stated_at_level cs) ++ to ∷ []
in_cast to cs = constants.at_cast (List Ty) stated_at_level to cs
