-- How much memory is wanted at once, and where in a module constants want some, by examples.
use Rattle.std.specs.Prelude.{◌≡◌, ℕ, false, List, [], ◌∷◌, None, Some}
use Rattle.ir_types.specs.declared.named.NamedTy.{NamedTy}
use Rattle.ir_types.specs.declared.names.Name.{Name}
use Rattle.ir_types.specs.declared.ty.Ty.{Ty, Int, Ptr, Array, Named}
use Rattle.ir_core.specs.declared.expressions.Expr.TheVariants as expr
use Rattle.ir_core.specs.declared.functions.Instr.{Instr}
use Rattle.ir_core.specs.declared.functions.Instr.TheVariants as line
use Rattle.ir_core.specs.declared.functions.Term.TheVariants as end
use Rattle.ir_core.specs.declared.limits.Limit.TheVariants as limit
use Rattle.ir_core.specs.declared.modules.Init.{Init}
use Rattle.ir_core.specs.declared.modules.Init as init
use Rattle.ir_core.specs.declared.modules.Module.{Module}
use Rattle.ir_core.specs.declared.operands.Const.{Const, Number, Undef, Global}
use Rattle.ir_core.specs.declared.operands.Const as constant
use Rattle.ir_core.specs.declared.operands.Operand.{Operand}
use Rattle.ir_core.specs.Examples.{f, held, typed, x, y}
use Rattle.ir_core.specs.Sizes.{AreSmall, IsSmall, wanted_by_line, wanted_in}
use Rattle.ir_core.specs.TypingLaws.{starting}
use Rattle.ir_typing.specs.ModuleLimits.Passed.{IsPassed}
use Rattle.ir_typing.specs.OperandLaws.Depths.{branching, byte, calling, converting, indexing, loading, merging, of_end, pointers, storing, switching}

-- ---- blocks

-- @x = external global ty, beside named types
abbrev pub holding : List NamedTy → Ty → Module
holding types ty = record { types = types; globals = starting x ty None ∷ []; functions = []; declarations = [] }

-- %y = type opaque
abbrev pub opaque : List NamedTy
opaque = record { name = y; fields = None } ∷ []

-- %x = alloca of, ty count
abbrev pub allocating : Ty → Ty → ℕ → Instr
allocating of ty count = line.Alloca (record { name = x; of = of; to = Ptr of; count = Some (ty, count); align = None })

-- %x = alloca of
abbrev pub allocating_alone : Ty → Instr
allocating_alone of = line.Alloca (record { name = x; of = of; to = Ptr of; count = None; align = None })

-- [4294967296 x i8], and none of them
abbrev pub large : Ty
large = Array 4294967296 (Int 8)

abbrev pub no_large : Ty
no_large = Array 0 large

-- %x = getelementptr [0 x [4294967296 x i8]], [0 x [4294967296 x i8]]* %f, indices
abbrev pub stepping : List (Operand Name) → Instr
stepping indices = line.Calm (record {
  name = x;
  right = expr.Element (record { inbounds = false; of = no_large; base = held (Ptr no_large) f; indices = indices; to = Ptr large });
})

-- getelementptr ([0 x [4294967296 x i8]], [0 x [4294967296 x i8]]* @f, indices)
abbrev pub address : List (Ty × Const) → Const
address indices = constant.Element (false, no_large, (Ptr no_large, Global f) ∷ indices)

-- @x = global i8* init
abbrev pub starting_with : Init → Module
starting_with init = record { types = []; globals = starting x (Ptr (Int 8)) (Some init) ∷ []; functions = []; declarations = [] }

-- @x = global i8* address
abbrev pub starting_at : Const → Module
starting_at at = starting_with (init.Const at)

-- What is wanted at once has 2^31 bytes at most: a global, an alloca with its count, and each type that an index enters, also in a constant.
-- Nothing is wanted where a count is no integer, and a type without size passes no limit.
pub record BlocksAreCounted : Type 0 where
  pub exactly : IsSmall (holding [] (Array 2147483648 (Int 8)))
  pub one_more : IsSmall (holding [] (Array 2147483649 (Int 8))) → ⊥
  pub huge : IsSmall (holding [] (Array 4294967296 large)) → ⊥
  pub unsized : IsSmall (holding opaque (Named y))
  pub allocated : AreSmall [] (wanted_by_line [] (allocating (Int 32) (Int 32) 536870912))
  pub one_more_allocated : AreSmall [] (wanted_by_line [] (allocating (Int 32) (Int 32) 536870913)) → ⊥
  pub allocated_alone : AreSmall [] (wanted_by_line [] (allocating_alone (Array 2147483648 (Int 8))))
  pub one_more_alone : AreSmall [] (wanted_by_line [] (allocating_alone (Array 2147483649 (Int 8)))) → ⊥
  pub other_count : (count : ℕ) → wanted_by_line [] (allocating (Int 32) (Ptr (Int 8)) count) ≡ []
  pub none : IsSmall (holding [] no_large)
  pub stepped : AreSmall [] (wanted_by_line [] (stepping (typed (Int 64) 1 ∷ [])))
  pub entered : AreSmall [] (wanted_by_line [] (stepping (typed (Int 64) 0 ∷ typed (Int 64) 0 ∷ []))) → ⊥
  pub constant_stepped : IsSmall (starting_at (address ((Int 64, Number 1) ∷ [])))
  pub constant_entered : IsSmall (starting_at (address ((Int 64, Number 0) ∷ (Int 64, Number 0) ∷ []))) → ⊥

-- ---- where constants want memory

-- getelementptr ([0 x [size x i8]], [0 x [size x i8]]* @f, i64 0, i64 0)
abbrev pub entering : ℕ → Const
entering size =
    let of = Array 0 (Array size (Int 8)) in
    constant.Element (false, of, (Ptr of, Global f) ∷ (Int 64, Number 0) ∷ (Int 64, Number 0) ∷ [])

-- an address in this place of a module may enter a type of as many bytes as the limit, and none of more
pub record CountsBlock (at : Const → Module) : Type 0 where
  pub at_limit : IsSmall (at (entering 2147483648))
  pub beyond : IsSmall (at (entering 2147483649)) → ⊥

-- All operands of lines count, those of phis, and what is returned or decides.
pub record OperandsWant : Type 0 where
  pub start : CountsBlock (λ c. starting_at c)
  pub converted : CountsBlock (λ c. converting (byte c) (Int 8))
  pub base : CountsBlock (λ c. indexing (Int 8) (byte c) (typed (Int 64) 1))
  pub index : CountsBlock (λ c. indexing (Int 8) (held (Ptr (Int 8)) x) (byte c))
  pub loaded_from : CountsBlock (λ c. loading (Int 8) (byte c))
  pub stored : CountsBlock (λ c. storing (byte c) (held (Ptr (Int 8)) x))
  pub stored_to : CountsBlock (λ c. storing (held (Int 8) y) (byte c))
  pub argument : CountsBlock (λ c. calling (Int 8) (byte c))
  pub entry : CountsBlock (λ c. merging (Int 8) c)
  pub returned : CountsBlock (λ c. of_end (end.Ret (byte c)))
  pub condition : CountsBlock (λ c. branching (byte c))
  pub switched : CountsBlock (λ c. switching (byte c) (Int 8))

-- So do those inside other constants, and inside initialisers.
pub record PartsWant : Type 0 where
  pub recast : CountsBlock (λ c. starting_at (constant.Cast (Ptr (Int 8), (Ptr (Int 8), c) ∷ [])))
  pub base : CountsBlock (λ c. starting_at (constant.Element (false, Int 8, (Ptr (Int 8), c) ∷ [])))
  pub element : CountsBlock (λ c. starting_with (init.Array ((Ptr (Int 8), init.Const c) ∷ [])))
  pub field : CountsBlock (λ c. starting_with (init.Struct ((Ptr (Int 8), init.Const c) ∷ [])))

-- The types of operands, of what is loaded and of results want nothing.
pub record TypesWantNothing : Type 0 where
  pub converted : wanted_in (converting (held large x) large) ≡ []
  pub loaded : wanted_in (loading large (held (Ptr large) x)) ≡ []
  pub stored : wanted_in (storing (held large y) (held (Ptr large) x)) ≡ []
  pub called : wanted_in (calling large (held large y)) ≡ []
  pub phi : wanted_in (merging large Undef) ≡ []
  pub returned : wanted_in (of_end (end.Ret (held large x))) ≡ []

-- ---- which is first

-- @x = external global [2147483649 x ty]
abbrev pub too_many : Ty → Module
too_many ty = holding [] (Array 2147483649 ty)

-- Where depths and blocks both pass their limits, depths are told.
pub record DepthsComeFirst : Type 0 where
  pub both : IsPassed (too_many (pointers 63)) limit.Depth
  pub not_blocks : IsPassed (too_many (pointers 63)) limit.Block → ⊥
  pub blocks : IsPassed (too_many (pointers 62)) limit.Block
  pub not_depths : IsPassed (too_many (pointers 62)) limit.Depth → ⊥
